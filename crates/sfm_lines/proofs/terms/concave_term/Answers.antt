use Rattle.std.proofs.Common.{ap, Err}
use Rattle.sfm_lines.proofs.terms.concave_term.Goals as goal

pub returns-in-Err-Rises : goal.returns-in-Err-Rises
returns-in-Err-Rises c =
    let arm = c.in-Err-Rises in
    let first = (arm.ensures.rises arm.field-0-0).0 (ap (λ e. Err e) arm.field-0-is) in
    (arm.field-0-0, first.rises)

pub returns-in-Ok : goal.returns-in-Ok
returns-in-Ok c = (
  λ parts. record {
    same_places = c.in-Ok.ensures.places;
    made = c.in-Ok.ensures.values;
  },
  λ (at, rises). c.in-Ok.ensures.falling at rises,
)
