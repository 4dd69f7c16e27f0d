-- Each row is asked at the negated base, and none is only claimed.
use Rattle.std.proofs.Common.{◌∙◌}
use Rattle.sfm_spec.specs.Terms.{times}
use Rattle.sfm_kind.specs.Kinds.{kind_places, kind_value}
use Rattle.sfm_kind.proofs.Passed.{factor_kept}
use Rattle.sfm_exchange.proofs.Claiming.{rows_claimed}
use Rattle.sfm_flip.proofs.note.note_at.Goals as goal

pub returns-clause-noted : goal.returns-clause-noted
returns-clause-noted c =
    let kind = c.args.term.now in
    let told = rw (factor_kept _ c.requires.based.factor, c.as_slice-x.ensures) at
    c.in_ok-ask.ensures in
    record {
      inner = told.noted;
      count = told.rows ∙ (c.in_ok-rows.ensures ∙ (c.len.ensures ∙ c.requires.based.entries));
      rows = rows_claimed (kind_places kind) (times c.args.q (kind_value kind)) c.args.base
          c.no_bits.result c.ask.new.rows (λ u lu e. told.asked u e lu);
    }
