use Rattle.std.proofs.Common.{◌≡◌, ◌^◌, [], ◌∷◌, ◌++◌, get_or, map, take, pos, ◌*ℤ◌, sym, ap, ◌∙◌, arith, rules, FitsSigned}
use Rattle.std.proofs.lemmas.Int.{ints, to_z-of_z}
use Rattle.std.proofs.lemmas.List.{map_more, take_all}
use Rattle.std.proofs.lemmas.List.Elements.{All-get_or}
use mir.Syntax.{w128}
use Rattle.sfm_spec.specs.Bounds.{IsAtMost}
use Rattle.sfm_exchange.proofs.sums.multiply.Goals as goal
use Rattle.sfm_exchange.proofs.sums.multiply.Goals.{In-loop-a}

-- the next product is small
product : (c : In-loop-a) → FitsSigned w128
    (c.args.m *ℤ get_or c.args.sums.now c.loop-a.a-index (pos 0))
product c =
    let h : IsAtMost (10 ^ 35) (c.args.m *ℤ get_or c.args.sums.now c.loop-a.a-index
    (pos 0)) = All-get_or (λ a. IsAtMost (10 ^ 35) (c.args.m *ℤ a)) c.args.sums.now
    c.loop-a.a-index (pos 0) c.loop-a-test.true c.requires.small in
    omega (arith, ints, h.low, h.high)

pub overflow_mul-m : goal.overflow_mul-m
overflow_mul-m c =
    let fm : FitsSigned w128 c.args.m = c.ranges.m in
    let fa : FitsSigned w128 (get_or c.args.sums.now c.loop-a.a-index (pos 0)) = search rules in
    simp to_z-of_z (product (goal.at.overflow_mul-m c).In-loop-a)

pub loop-a-preserved : goal.loop-a-preserved
loop-a-preserved c =
    let m = c.args.m in
    let xs = c.args.sums.now in
    let i = c.loop-a.a-index in
    let fm : FitsSigned w128 m = c.ranges.m in
    let fa : FitsSigned w128 (get_or xs i (pos 0)) = search rules in
    let fp = product (goal.at.loop-a-preserved c).In-loop-a in
    let pushed : c.push.new.self.items ≡ c.loop-a.all.items ++ (m *ℤ get_or xs i (pos 0))
    ∷ [] = simp to_z-of_z at c.in_ok-push.ensures.items in
    let so_far : c.loop-a.all.items ≡ map (λ b. m *ℤ b) (take i xs) = simp to_z-of_z at
    c.loop-a.invariant in
    simp to_z-of_z
    (pushed ∙ (ap (λ n. n ++ (m *ℤ get_or xs i (pos 0)) ∷ []) so_far
    ∙ sym (map_more (λ b. m *ℤ b) xs i (pos 0) c.loop-a-test.true)))

pub returns : goal.returns
returns c =
    let fm : FitsSigned w128 c.args.m = c.ranges.m in
    let end = c.loop-a-test.false in
    let all = take_all c.loop-a.a-index c.args.sums.now (omega (arith, end)) in
    rw all at (simp to_z-of_z at c.loop-a.invariant)
