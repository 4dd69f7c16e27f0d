use Rattle.std.proofs.Common.{◌≡◌, ◌+◌, ◌<◌, length, set, get_or, map, pos, ◌*ℤ◌, refl, sym, ap, ◌∙◌, add-one, rules, arith, FitsSigned}
use Rattle.std.proofs.lemmas.Int.{ints, to_z-of_z}
use Rattle.std.proofs.lemmas.List.{get_or-map, length-map}
use Rattle.std.proofs.lemmas.List.Elements.{All-get_or}
use mir.Syntax.{w128}
use Rattle.sfm_cells.specs.Splits.{amount_at, IsAmount}
use Rattle.sfm_cells.specs.Left.{turned}
use Rattle.sfm_cells.proofs.Written.{AreTurned, are_turned}
use Rattle.sfm_cells.proofs.multiples.scale.Goals.{At-loop-i}
use Rattle.sfm_cells.proofs.multiples.scale.Goals as goal

-- the numbers so far
so_far : (c : At-loop-i) → let xs = c.args.numbers.now in let all = map (λ a. c.args.m *ℤ a)
    xs in (c.loop-i.numbers ≡ turned c.loop-i.i all xs) × AreTurned c.loop-i.i all xs
so_far c =
    let m = c.args.m in
    let fm : FitsSigned w128 m = c.ranges.m in
    let xs = c.args.numbers.now in (
      simp to_z-of_z at c.loop-i.invariant,
      are_turned c.loop-i.i (map (λ a. m *ℤ a) xs) xs (sym (length-map xs (λ a. m *ℤ a))),
    )

-- the next number, and m times it, which is an amount
next : (c : At-loop-i) → c.loop-i.i < length c.args.numbers.now
    → let x = get_or c.loop-i.numbers c.loop-i.i
    (pos 0) in ((c.args.m *ℤ x) ≡ amount_at (map (λ a. c.args.m *ℤ a) c.args.numbers.now)
    c.loop-i.i) × FitsSigned w128 (c.args.m *ℤ x)
next c lt =
    let m = c.args.m in
    let xs = c.args.numbers.now in
    let i = c.loop-i.i in
    let (is, t) = so_far c in
    let all = map (λ a. m *ℤ a) xs in
    let x = ap (λ l. amount_at l i) is ∙ t.next in
    let q = get_or-map (λ a. m *ℤ a) xs i (pos 0) (pos 0) lt in
    let h : IsAmount (amount_at all i) = All-get_or IsAmount all i (pos 0)
    (rw (length-map xs (λ a. m *ℤ a)) lt) c.requires in
    let same = ap (λ a. m *ℤ a) x ∙ sym q in
    (same, rw same (omega (arith, ints, h.low, h.high)))

pub overflow_mul-numbers : goal.overflow_mul-numbers
overflow_mul-numbers c =
    let fm : FitsSigned w128 c.args.m = c.ranges.m in
    let fx : FitsSigned w128 (get_or c.loop-i.numbers c.loop-i.i (pos 0)) = search rules in
    simp to_z-of_z (next (goal.at.overflow_mul-numbers c).At-loop-i (omega arith)).1

pub loop-i-init : goal.loop-i-init
loop-i-init c = refl

pub loop-i-preserved : goal.loop-i-preserved
loop-i-preserved c =
    let here = (goal.at.loop-i-preserved c).At-loop-i in
    let m = c.args.m in
    let i = c.loop-i.i in
    let x = get_or c.loop-i.numbers i (pos 0) in
    let fm : FitsSigned w128 m = c.ranges.m in
    let fx : FitsSigned w128 x = search rules in
    let (same, fp) = next here (omega arith) in
    let (is, t) = so_far here in
    let all = map (λ a. m *ℤ a) c.args.numbers.now in
    let done : set c.loop-i.numbers i (m *ℤ x) ≡ turned (i + 1) all
    c.args.numbers.now = rw (same, is, add-one) t.more in
    simp to_z-of_z done

pub returns : goal.returns
returns c =
    let (is, t) = so_far (goal.at.returns c).At-loop-i in
    let past = c.loop-i-test.false in
    is ∙ t.all (rw (length-map c.args.numbers.now (λ a. c.args.m *ℤ a)) past)
