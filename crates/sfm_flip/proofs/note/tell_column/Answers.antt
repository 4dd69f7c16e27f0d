-- The rows that lack the place are claims, which lack nothing; those that have it are true ones.
use Rattle.sfm_spec.specs.Terms.{times}
use Rattle.sfm_kind.specs.Kinds.{kind_places, kind_value}
use Rattle.sfm_kind.proofs.Passed.{factor_kept}
use Rattle.sfm_flip.proofs.KnownRows.{column_is, noted_settled}
use Rattle.sfm_flip.proofs.note.tell_column.Goals as goal

pub returns-clause-column : goal.returns-clause-column
returns-clause-column c =
    let kind = c.args.term.now in
    let b = c.requires.based in
    let s = c.in_ok-settle.ensures in
    let a = rw (factor_kept _ b.based.factor, c.elements-places.ensures, s.base) at
    c.in_ok-ask_claims.ensures in
    let claims = rw a.base at a.settled.claims in
    let column = rw (c.elements-places.ensures, c.as_slice.ensures) at
    c.put_column.ensures.column in
    column_is (kind_places kind) (times c.args.q (kind_value kind)) c.args.note.now.base
    c.ask_claims.new.note.claimed c.ask_claims.new.note.rows c.args.u c.put_column.new.to
    b.placed.distinct b.based.entries claims a.told c.requires.from column

pub returns-clause-noted : goal.returns-clause-noted
returns-clause-noted c = noted_settled c.args.term.now c.args.q c.ask_claims.new.note
    (rw (factor_kept _ c.requires.based.based.factor) at c.in_ok-ask_claims.ensures.settled)
