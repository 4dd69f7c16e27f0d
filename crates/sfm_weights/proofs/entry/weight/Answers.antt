use Rattle.std.proofs.Common.{◌≡◌, ℤ, Some, to_z, of_z, subst, refl, arith}
use Rattle.std.specs.Int.{w128}
use Rattle.std.proofs.lemmas.Int.{ints}
use Rattle.std.proofs.lemmas.Option.{none-some, same_Some}
use Rattle.sfm_lines.specs.Weights.{IsWeightText}
use Rattle.sfm_lines.proofs.Numbers.{kept-entry}
use Rattle.sfm_weights.proofs.Texts.{entry-weight}
use Rattle.sfm_weights.proofs.entry.weight.Goals as goal
use Rattle.sfm_weights.proofs.entry.weight.Goals.{else-value-ge1-via-then-value-ge1+else-value-le-MOST_WEIGHT, else-value-ge1-via-else-value-ge1}

pub returns-in_default : goal.returns-in_default
returns-in_default c = λ w. (
  λ e. absurd (none-some w e),
  λ h. (c.in_default.ensures w).1 (h.0, entry-weight w h.1 h.2),
)

pub returns-then-value-le-MOST_WEIGHT : goal.returns-then-value-le-MOST_WEIGHT
returns-then-value-le-MOST_WEIGHT c =
    let v = c.in-Some.value in
    let read = (c.in-Some.ensures v).0 refl in
    let e : to_z w128 (of_z w128 v) ≡ v = kept-entry v read.1 in
    let is : IsWeightText (Some c.args.text.now)
    v = (
      read.0,
      omega (arith, ints, e, c.if-value-ge1.true),
      omega (arith, ints, e, c.if-value-le-MOST_WEIGHT.true),
    ) in
    rw e (λ w. (
      λ s. subst (λ (z : ℤ). IsWeightText (Some c.args.text.now) z) (same_Some v w s) is,
      λ h. (c.in-Some.ensures w).1 (h.0, entry-weight w h.1 h.2),
    ))

pub returns-else-value-ge1 : goal.returns-else-value-ge1
returns-else-value-ge1 c = λ w. (
  λ e. absurd (none-some w e),
  λ h.
      let v = c.in-Some.value in
      let read = (c.in-Some.ensures v).0 refl in
      let e : to_z w128 (of_z w128 v) ≡ v = kept-entry v read.1 in
      let s : v ≡ w = same_Some v w ((c.in-Some.ensures w).1 (h.0, entry-weight w h.1 h.2)) in
      absurd (elim c.else-value-ge1.branch [
        | else-value-ge1-via-then-value-ge1+else-value-le-MOST_WEIGHT b ↦
            omega (arith, ints, e, s, h.2, b.if-value-le-MOST_WEIGHT.false)
        | else-value-ge1-via-else-value-ge1 b ↦ omega (arith, ints, e, s, h.1, b.if-value-ge1.false)
      ]),
)
