use Rattle.std.proofs.Common.{◌≡◌, ℤ, get_or, pos, ◌+ℤ◌, ◌-ℤ◌, sym, ◌∙◌, arith, rules, FitsSigned}
use Rattle.std.proofs.lemmas.Int.{ints, to_z-of_z}
use Rattle.std.proofs.lemmas.List.Elements.{All-get_or}
use mir.Syntax.{w128}
use Rattle.sfm_assign.specs.Splits.{IsAmount}
use Rattle.sfm_matroid.proofs.Fits.{amount_fits}
use Rattle.sfm_matroid.proofs.room.raise.Goals.{After-demands}
use Rattle.sfm_matroid.proofs.room.raise.Goals as goal

-- what v has
abbrev has : (c : After-demands) → ℤ
has c = get_or c.args.kept.now.demand.demands c.args.pull.now.v (pos 0)

amount : (c : After-demands) → IsAmount (has c)
amount c =
    All-get_or IsAmount c.args.kept.now.demand.demands c.args.pull.now.v (pos 0)
    c.requires.raise.onto c.demands.ensures.sound.amounts

fits : (c : After-demands) → FitsSigned w128 (pos 0 -ℤ has c)
fits c = let a = amount c in let l = a.low in let h = a.high in omega (arith, ints, l, h)

nothing : (a : ℤ) → (a +ℤ (pos 0 -ℤ a)) ≡ pos 0
nothing a = omega (arith, ints)

pub grow_from-requires : goal.grow_from-requires
grow_from-requires c =
    let path = (goal.at.grow_from-requires c).After-demands in
    let r = c.requires in
    let b : ℤ = has path in
    let fb : FitsSigned w128 b = amount_fits b (amount path) in
    let fn : FitsSigned w128 (pos 0 -ℤ b) = fits path in
    let fl : FitsSigned w128 c.args.pull.now.limit = search rules in
    rw c.demands.ensures.value (simp to_z-of_z (rw (nothing b) (record {
      lists = r.beside.lists;
      slots = r.held.slots ∙ sym r.beside.slots;
      other_slots = r.held.slots;
      changes = (
        r.raise.onto,
        record { low = omega (arith, ints); high = omega (arith, ints) },
        tt,
      );
      bounded = r.held.bounded;
      met = r.held.met;
      place = r.raise.from;
      low = r.raise.low;
      small = r.raise.small;
    })))

pub returns-clause-most : goal.returns-clause-most
returns-clause-most c =
    let path = (goal.at.returns-clause-most c).After-demands in
    let b : ℤ = has path in
    let fb : FitsSigned w128 b = amount_fits b (amount path) in
    let fn : FitsSigned w128 (pos 0 -ℤ b) = fits path in
    let fl : FitsSigned w128 c.args.pull.now.limit = search rules in
    let fm : FitsSigned w128 c.in_ok-most.most = search rules in
    simp to_z-of_z (rw (nothing b) at
    (simp to_z-of_z at (rw c.demands.ensures.value at c.in_ok-most.ensures.most)))

pub returns-clause-grown : goal.returns-clause-grown
returns-clause-grown c =
    let path = (goal.at.returns-clause-grown c).After-demands in
    let b : ℤ = has path in
    let fb : FitsSigned w128 b = amount_fits b (amount path) in
    let fn : FitsSigned w128 (pos 0 -ℤ b) = fits path in
    let fm : FitsSigned w128 c.in_ok-most.most = search rules in
    simp to_z-of_z (rw (nothing b) at
    (simp to_z-of_z at (rw c.demands.ensures.value at c.in_ok-most.ensures.grown)))
