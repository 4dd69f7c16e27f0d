use Rattle.std.proofs.Common.{◌≡◌, ◌+◌, ◌++◌, ◌^◌, [], ◌∷◌, length, get_or, map, take, ℤ, pos, ◌*ℤ◌, sym, ap, ◌∙◌, subst, arith, FitsSigned}
use Rattle.std.specs.List.{All}
use Rattle.std.proofs.lemmas.Int.{ints, fits_signed_mul, to_z-of_z}
use Rattle.std.proofs.lemmas.List.{length-map, map_more, take_all}
use Rattle.std.proofs.lemmas.List.Elements.{All-get_or}
use mir.Syntax.{w128}
use Rattle.sfm_spec.specs.Bounds.{IsAtMost}
use Rattle.sfm_base.specs.Rows.{rows_from}
use Rattle.sfm_base.proofs.Rowing.{all_numbers, rows-map}
use Rattle.sfm_base.proofs.rows.Rows.times.Goals as goal
use Rattle.sfm_base.proofs.rows.Rows.times.Goals.{After-deref, In-loop-a}

-- the next number is small
small : (c : In-loop-a) → IsAtMost (10 ^ 21)
    (get_or c.deref-a-items.result.now c.loop-a.a-index (pos 0))
small c =
    let ends = c.self.inside.ends.items in
    let xs = c.self.inside.numbers.items in
    let P : ℤ → Type 0 = IsAtMost (10 ^ 21) in
    let rows : All (λ x. All P x) (rows_from 0 ends xs) = subst (λ r. All (λ x. All P x) r)
    (sym c.self.view_is) c.requires.small in
    let all : All P xs = all_numbers P 0 ends xs c.self.invariant rows in
    rw c.deref-a-items.ensures.value
    (All-get_or P xs c.loop-a.a-index (pos 0)
    (rw c.deref-a-items.ensures.value at c.loop-a-test.true) all)

product : (c : In-loop-a) → FitsSigned w128
    (c.args.q *ℤ get_or c.deref-a-items.result.now c.loop-a.a-index (pos 0))
product c =
    let q = c.args.q in
    let a = get_or c.deref-a-items.result.now c.loop-a.a-index (pos 0) in
    let f = c.requires.factor in
    let h = small c in
    fits_signed_mul w128 q a (10 ^ 6) (10 ^ 21) (omega (arith, ints, f.low, f.high))
    (omega (arith, ints, h.low, h.high)) (omega arith)

pub overflow_mul-q : goal.overflow_mul-q
overflow_mul-q c =
    let at = (goal.at.overflow_mul-q c).In-loop-a in
    let fq : FitsSigned w128 c.args.q = c.ranges.q in
    let h = small at in
    let fa : FitsSigned w128 (get_or c.deref-a-items.result.now c.loop-a.a-index
    (pos 0)) = omega (arith, ints, h.low, h.high) in
    simp to_z-of_z (product at)

pub loop-a-preserved : goal.loop-a-preserved
loop-a-preserved c =
    let at = (goal.at.loop-a-preserved c).In-loop-a in
    let fq : FitsSigned w128 c.args.q = c.ranges.q in
    let h = small at in
    let fa : FitsSigned w128 (get_or c.deref-a-items.result.now c.loop-a.a-index
    (pos 0)) = omega (arith, ints, h.low, h.high) in
    let fp : FitsSigned w128 (c.args.q *ℤ get_or c.deref-a-items.result.now c.loop-a.a-index
    (pos 0)) = product at in
    let more = map_more (λ a. c.args.q *ℤ a) c.deref-a-items.result.now c.loop-a.a-index (pos 0)
    c.loop-a-test.true in
    let a = get_or c.deref-a-items.result.now c.loop-a.a-index (pos 0) in
    let q = c.args.q in
    let pushed : c.push.new.self.items ≡ c.loop-a.numbers.items ++ (q *ℤ a) ∷ [] = simp to_z-of_z at
    c.in_ok-push.ensures.items in
    let so_far : c.loop-a.numbers.items ≡ map (λ b. q *ℤ b)
    (take c.loop-a.a-index c.deref-a-items.result.now) = simp to_z-of_z at c.loop-a.invariant in
    simp to_z-of_z (pushed ∙ (ap (λ n. n ++ (q *ℤ a) ∷ []) so_far ∙ sym more))

-- the numbers are q times those of the rows
numbers : (c : After-deref) → c.loop-a.numbers.items ≡ map (λ a. c.args.q *ℤ a)
    c.self.inside.numbers.items
numbers c =
    let end = c.loop-a-test.false in
    let all = take_all c.loop-a.a-index c.deref-a-items.result.now (omega (arith, end)) in
    let fq : FitsSigned w128 c.args.q = c.ranges.q in
    rw (all, c.deref-a-items.ensures.value) at (simp to_z-of_z at c.loop-a.invariant)

pub returns : goal.returns
returns c =
    let q = c.args.q in
    rw (c.in_ok-ends.ensures.items, c.deref.ensures.value, numbers (goal.at.returns c).After-deref)
    (rows-map (λ a. q *ℤ a) 0 c.self.inside.ends.items c.self.inside.numbers.items
    ∙ ap (map (map (λ a. q *ℤ a))) c.self.view_is)

pub invariant_of-result : goal.invariant_of-result
invariant_of-result c =
    rw (
      c.in_ok-ends.ensures.items,
      c.deref.ensures.value,
      numbers (goal.at.invariant_of-result c).After-deref,
      length-map c.self.inside.numbers.items (λ a. c.args.q *ℤ a),
    ) c.self.invariant
