use Rattle.std.proofs.Common.{refl, subst}
use Rattle.std.proofs.lemmas.Bool.{false≢true}
use Rattle.sfm_assign.specs.Splits.{CanBeMet, Demands}
use Rattle.sfm_matroid.proofs.splits.can_bring.Goals as goal

pub returns-in-Ok-clause-told : goal.returns-in-Ok-clause-told
returns-in-Ok-clause-told c = (
  (λ t. subst (λ (d : Demands). CanBeMet d.demands d.lists d.capacities) c.in-Ok.ensures.brought
      c.are_met.ensures),
  (λ h. refl),
)

pub returns-in-Ok-clause-brought : goal.returns-in-Ok-clause-brought
returns-in-Ok-clause-brought c = λ t. c.in-Ok.ensures.brought

pub returns-in-Err-Shortage-clause-told : goal.returns-in-Err-Shortage-clause-told
returns-in-Err-Shortage-clause-told c =
    let end = rw c.in-Err-Shortage.field-0-is at c.in-Err-Shortage.ensures.brought in
    ((λ t. absurd (false≢true t)), (λ h. absurd (end.1 h)))

pub returns-in-Err-Shortage-clause-brought : goal.returns-in-Err-Shortage-clause-brought
returns-in-Err-Shortage-clause-brought c = λ t. absurd (false≢true t)
