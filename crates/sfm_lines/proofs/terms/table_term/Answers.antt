use Rattle.std.proofs.Common.{length, ap, Err}
use Rattle.sfm_lines.proofs.Breaches.{first-zero, no-breach}
use Rattle.sfm_lines.proofs.terms.table_term.Goals as goal

pub returns-in-Err-NotZero : goal.returns-in-Err-NotZero
returns-in-Err-NotZero c = λ h. (c.in-Err-NotZero.ensures.zero).0
    (ap (λ e. Err e) c.in-Err-NotZero.field-0-is)
    (first-zero (length c.args.places.now) c.args.values.now h)

pub returns-in-Err-LawBroken : goal.returns-in-Err-LawBroken
returns-in-Err-LawBroken c = λ h.
    let arm = c.in-Err-LawBroken in
    let first = (arm.ensures.broken arm.field-0-0 arm.field-0-1 arm.field-0-2).0
    (ap (λ e. Err e) arm.field-0-is) in
    no-breach (length c.args.places.now) c.args.values.now arm.field-0-0 arm.field-0-1 arm.field-0-2
    first.1.breaks h

pub returns-in-Ok : goal.returns-in-Ok
returns-in-Ok c = (
  λ parts. record { same_places = c.in-Ok.ensures.places; made = c.in-Ok.ensures.values },
  c.in-Ok.ensures.lawful,
)
