-- A row is a column of the term at the negated base.
use Rattle.std.proofs.Common.{◌∙◌}
use Rattle.std.proofs.lemmas.Result.{on_ok_weaker}
use Rattle.sfm_kind.specs.Kinds.{kind_value, kind-family, kind-submodular}
use Rattle.sfm_kind.proofs.Passed.{factor_kept}
use Rattle.sfm_flip.proofs.Bases.{base_of}
use Rattle.sfm_flip.proofs.KnownRows.{reach_is}
use Rattle.sfm_flip.proofs.flip.FlipTerm.reach_by.Goals as goal

pub tell_column-requires-clause-based : goal.tell_column-requires-clause-based
tell_column-requires-clause-based c =
    let s = c.args.self.now in
    let at = c.args.at.now in
    let r = c.requires in
    rw (factor_kept _ r.based.factor, r.noted.0, c.self.view_is) (base_of s at.q at.x.now r.based)

pub returns-clause-reached : goal.returns-clause-reached
returns-clause-reached c =
    let s = c.args.self.now in
    let at = c.args.at.now in
    let r = c.requires in
    let column = rw (factor_kept _ r.based.factor, r.noted.0, c.self.view_is) at
    c.tell_column.ensures.column in
    on_ok_weaker c.tell_column.result
    (reach_is _ (kind_value s) (kind-family s) (kind-submodular s) at.q r.based.factor.low
    at.x.now c.args.lead.now.from c.tell_column.new.to r.based.entries r.from
    (c.tell_column.ensures.places ∙ r.room_for_answer)) column
