use Rattle.std.proofs.Common.{refl, ap, Err}
use Rattle.std.proofs.lemmas.Result.{IfOk-from_err}
use Rattle.sfm_base.proofs.Elements.{placed_few}
use Rattle.sfm_law.specs.Values.{greatest}
use Rattle.sfm_law.proofs.Entries.{told_of_kept}
use Rattle.sfm_concave.specs.declared.concave.ConcaveEnd.TheVariants.{Rises}
use Rattle.sfm_concave.proofs.Ends.{memory_apart, ok_apart, same_rise, memory_told, first_once}
use Rattle.sfm_concave.proofs.concave.Concave.new.Goals as goal

pub returns-in-Some-clause-rises : goal.returns-in-Some-clause-rises
returns-in-Some-clause-rises c = λ at. (
  (λ e. rw (← (same_rise _ _ _ _ refl e)) c.in-Some.ensures),
  (λ x. ap (λ z. Err (Rises z)) (first_once c.args.values.now c.in-Some.at at c.in-Some.ensures x)),
)

pub returns-in_err-places-clause-rises : goal.returns-in_err-places-clause-rises
returns-in_err-places-clause-rises c =
    λ at. (
      (λ e. absurd (memory_apart _ _ at (memory_told _ _ c.from_residual.ensures.1) e)),
      (λ x. absurd (c.in_default.ensures at x.rises)),
    )

pub returns-in_err-places-clause-falling : goal.returns-in_err-places-clause-falling
returns-in_err-places-clause-falling c = IfOk-from_err _ _ c.from_residual.ensures.0

pub returns-in_err-values-clause-rises : goal.returns-in_err-values-clause-rises
returns-in_err-values-clause-rises c = λ at. (
  (λ e. absurd (memory_apart _ _ at (memory_told _ _ c.from_residual-in_err-values.ensures.1) e)),
  (λ x. absurd (c.in_default.ensures at x.rises)),
)

pub returns-in_err-values-clause-falling : goal.returns-in_err-values-clause-falling
returns-in_err-values-clause-falling c = IfOk-from_err _ _ c.from_residual-in_err-values.ensures.0

pub returns-clause-rises : goal.returns-clause-rises
returns-clause-rises c = λ at.
    ((λ e. absurd (ok_apart _ _ _ at refl e)), (λ x. absurd (c.in_default.ensures at x.rises)))

pub returns-clause-falling : goal.returns-clause-falling
returns-clause-falling c = c.in_default.ensures

pub invariant_of-result-clause-few : goal.invariant_of-result-clause-few
invariant_of-result-clause-few c =
    rw c.in_ok-places.ensures (placed_few 256 c.args.elements.now c.requires.elements.placed)

pub invariant_of-result-clause-given : goal.invariant_of-result-clause-given
invariant_of-result-clause-given c = rw c.in_ok-values.ensures c.requires.given

pub invariant_of-result-clause-falling : goal.invariant_of-result-clause-falling
invariant_of-result-clause-falling c = rw c.in_ok-values.ensures c.in_default.ensures

pub invariant_of-result-clause-topped : goal.invariant_of-result-clause-topped
invariant_of-result-clause-topped c = told_of_kept greatest c.greatest_magnitude-most.result _ _
    (record { sfits = c.greatest_magnitude-most.type_inv }) c.greatest_magnitude-most.ensures
    c.in_ok-values.ensures
