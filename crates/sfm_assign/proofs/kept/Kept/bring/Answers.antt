use Rattle.std.proofs.Common.{◌≡◌, length, sym, ap, ◌∙◌}
use Rattle.std.proofs.lemmas.Bool.{both_ways}
use Rattle.sfm_cells.specs.Splits.{Demands}
use Rattle.sfm_cells.proofs.Outcomes.{other_demands}
use Rattle.sfm_assign.proofs.Spreads.{answers_anew}
use Rattle.sfm_assign.proofs.kept.Kept.bring.Goals as goal

pub find_amounts-requires : goal.find_amounts-requires
find_amounts-requires c =
    let r = c.requires in
    let k = c.args.self.now in
    record {
      sized = r.sized;
      slots = r.slots;
      sound = other_demands k.demand c.demands-sound.ensures.sound c.args.demands.now
          c.args.capacities.now r.sized r.slots r.amounts r.bounded;
      met = k.met;
      left = rw c.deref.ensures.value k.left;
    }

pub copy_from-requires : goal.copy_from-requires
copy_from-requires c = let r = c.requires in record {
  places = r.sized;
  slots = r.slots;
  amounts = r.amounts;
  bounded = r.bounded;
}

pub invariant_of-self : goal.invariant_of-self
invariant_of-self c = let k = c.args.self.now in record {
  met = k.met;
  left = k.left;
  few = k.few;
  each = k.each;
  asked = k.asked;
  known = k.known;
}

pub invariant_of-self-2 : goal.invariant_of-self-2
invariant_of-self-2 c =
    let found = c.in_ok-find_amounts.ensures in
    let put = c.put.ensures in
    let k = c.args.self.now in
    let cells = k.shares.cells in
    let told = c.copy_from.ensures in
    let long : length c.copy_from.new.self.demands ≡ length
    k.demand.demands = ap (λ (d : Demands). length d.demands) told ∙ c.requires.sized in
    let (few, known) = answers_anew (length c.copy_from.new.self.demands) cells.whos.items
    cells.slots.items c.put.new.y.items c.put.new.rooms.items k.beside.answers
    c.put.new.self.answers (length k.demand.demands) k.few long put.same put.none in
    record {
      met = rw (told, put.amounts) found.met;
      left = rw (told, put.amounts, put.rooms) found.rooms_are;
      few = few;
      each = ap length put.asking
          ∙ (k.each ∙ sym long);
      asked = λ h. absurd (both_ways _ put.counted h);
      known = known;
    }

pub returns-clause-brought : goal.returns-clause-brought
returns-clause-brought c = c.copy_from.ensures

pub returns-clause-unchanged : goal.returns-clause-unchanged
returns-clause-unchanged c = tt
