use Rattle.std.proofs.Common.{◌≡◌, ℤ, length, sym, ap, ◌∙◌, rules, FitsSigned, length-set}
use Rattle.std.proofs.lemmas.Int.{to_z-of_z}
use Rattle.std.proofs.lemmas.Bool.{both_ways}
use mir.Syntax.{w128}
use Rattle.sfm_cells.specs.Splits.{Demands}
use Rattle.sfm_assign.proofs.Spreads.{answers_anew}
use Rattle.sfm_assign.proofs.kept.Kept.grow.Goals as goal

pub find_more-requires : goal.find_more-requires
find_more-requires c =
    let fq : FitsSigned w128 c.args.limit = c.ranges.limit in
    let k = c.args.self.now in
    let r = c.requires in
    record {
      met = k.met;
      left = rw c.deref.ensures.value k.left;
      place = r.place;
      low = simp to_z-of_z r.low;
      small = simp to_z-of_z r.small;
    }

pub raise-requires : goal.raise-requires
raise-requires c =
    let more : ℤ = c.in_ok-more.more in
    let fm : FitsSigned w128 more = search rules in
    record { place = c.requires.place; amount = simp to_z-of_z c.in_ok-more.ensures.amount }

pub invariant_of-self : goal.invariant_of-self
invariant_of-self c = let k = c.args.self.now in record {
  met = k.met;
  left = k.left;
  few = k.few;
  each = k.each;
  asked = k.asked;
  known = k.known;
}

pub invariant_of-self-2 : goal.invariant_of-self-2
invariant_of-self-2 c =
    let k = c.args.self.now in
    let cells = k.shares.cells in
    let more : ℤ = c.in_ok-more.more in
    let fm : FitsSigned w128 more = search rules in
    let done = c.in_ok-more.ensures in
    let put = c.put.ensures in
    let told = simp to_z-of_z at c.raise.ensures in
    let long : length c.raise.new.self.demands ≡ length
    k.demand.demands = ap (λ (d : Demands). length d.demands) c.raise.ensures
    ∙ length-set k.demand.demands c.args.u _ in
    let (few, known) = answers_anew (length c.raise.new.self.demands) cells.whos.items
    cells.slots.items c.put.new.y.items c.put.new.rooms.items k.beside.answers
    c.put.new.self.answers (length k.demand.demands) k.few long put.same put.none in
    record {
      met = rw (told, put.amounts) done.met;
      left = rw (told, put.amounts, put.rooms) done.left;
      few = few;
      each = ap length put.asking
          ∙ (k.each ∙ sym long);
      asked = λ h. absurd (both_ways _ put.counted h);
      known = known;
    }

pub returns-clause-grown : goal.returns-clause-grown
returns-clause-grown c = c.raise.ensures

pub returns-clause-most : goal.returns-clause-most
returns-clause-most c =
    let more : ℤ = c.in_ok-more.more in
    let fm : FitsSigned w128 more = search rules in
    let fl : FitsSigned w128 c.args.limit = c.ranges.limit in
    let most = simp to_z-of_z at c.in_ok-more.ensures.most in
    simp to_z-of_z most

pub returns-clause-unchanged : goal.returns-clause-unchanged
returns-clause-unchanged c = tt
