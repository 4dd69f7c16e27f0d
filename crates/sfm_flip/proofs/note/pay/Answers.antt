-- The rows are brought up to the base to which the exchange that is owed has led.
use Rattle.std.proofs.Common.{refl, ◌∙◌}
use Rattle.sfm_kind.proofs.Passed.{factor_kept}
use Rattle.sfm_flip.proofs.KnownRows.{owed_noted}
use Rattle.sfm_flip.proofs.note.pay.Goals as goal

pub renew_rows-requires-clause-before : goal.renew_rows-requires-clause-before
renew_rows-requires-clause-before c =
    rw (factor_kept _ c.requires.based.based.factor, c.as_slice-x.ensures)
    (owed_noted c.args.term.now c.args.q c.args.note.now c.args.owed c.requires.noted
    c.requires.owed)

pub returns-clause-settled : goal.returns-clause-settled
returns-clause-settled c =
    let e = rw (factor_kept _ c.requires.based.based.factor, c.as_slice-x.ensures) at
    c.in_ok-renew_rows.ensures in
    record {
      inner = e.noted;
      count = e.rows ∙ c.requires.noted.count;
      claims = e.raised.claims;
      nothing = refl;
    }
