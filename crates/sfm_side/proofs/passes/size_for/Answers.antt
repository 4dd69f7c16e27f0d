-- A size is a number of at most 10^30, so it is read, and then kept.
use Rattle.std.proofs.Common.{◌≡◌, ℕ, List, ℤ, to_z, of_z, subst, refl, arith}
use Rattle.std.specs.Int.{w128}
use Rattle.std.proofs.lemmas.Int.{ints}
use Rattle.std.proofs.lemmas.Option.{none-some, same_Some}
use Rattle.sfm_spec.specs.Bounds.{IsEntry}
use Rattle.sfm_lines.proofs.Numbers.{kept-entry}
use Rattle.sfm_side.specs.Sizes.{IsSize}
use Rattle.sfm_side.proofs.passes.size_for.Goals as goal
use Rattle.sfm_side.proofs.passes.size_for.Goals.{else-value-ge1-via-then-value-ge1+else-value-le-MOST_ELEMENT_SIZE, else-value-ge1-via-else-value-ge1}

entry : (text : List ℕ) (v : ℤ) → IsSize text v → IsEntry v
entry text v h = record { low = omega (arith, ints, h.1); high = omega (arith, ints, h.2) }

pub returns-in_default : goal.returns-in_default
returns-in_default c = λ w. (
  λ e. absurd (none-some w e),
  λ h. (c.in_default.ensures w).1 (h.0, entry c.args.text.now w h),
)

pub returns-then-value-le-MOST_ELEMENT_SIZE : goal.returns-then-value-le-MOST_ELEMENT_SIZE
returns-then-value-le-MOST_ELEMENT_SIZE c =
    let v = c.in-Some.value in
    let read = (c.in-Some.ensures v).0 refl in
    let e : to_z w128 (of_z w128 v) ≡ v = kept-entry v read.1 in
    let is : IsSize c.args.text.now
    v = (
      read.0,
      omega (arith, ints, e, c.if-value-ge1.true),
      omega (arith, ints, e, c.if-value-le-MOST_ELEMENT_SIZE.true),
    ) in
    rw e (λ w. (
      λ s. subst (λ (z : ℤ). IsSize c.args.text.now z) (same_Some v w s) is,
      λ h. (c.in-Some.ensures w).1 (h.0, entry c.args.text.now w h),
    ))

pub returns-else-value-ge1 : goal.returns-else-value-ge1
returns-else-value-ge1 c = λ w. (
  λ e. absurd (none-some w e),
  λ h.
      let v = c.in-Some.value in
      let read = (c.in-Some.ensures v).0 refl in
      let e : to_z w128 (of_z w128 v) ≡ v = kept-entry v read.1 in
      let s : v ≡ w = same_Some v w ((c.in-Some.ensures w).1 (h.0, entry c.args.text.now w h)) in
      absurd (elim c.else-value-ge1.branch [
        | else-value-ge1-via-then-value-ge1+else-value-le-MOST_ELEMENT_SIZE b ↦
            omega (arith, ints, e, s, h.2)
        | else-value-ge1-via-else-value-ge1 b ↦
            omega (arith, ints, e, s, h.1)
      ]),
)
