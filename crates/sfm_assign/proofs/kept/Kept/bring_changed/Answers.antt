use Rattle.std.proofs.Common.{◌≡◌, length, refl, sym, ap, ◌∙◌}
use Rattle.std.proofs.lemmas.Bool.{both_ways}
use Rattle.sfm_cells.specs.Splits.{Demands}
use Rattle.sfm_split.proofs.Changes.{length-changed}
use Rattle.sfm_assign.proofs.Spreads.{answers_anew}
use Rattle.sfm_assign.proofs.kept.Kept.bring_changed.Goals as goal

pub find_changed-requires : goal.find_changed-requires
find_changed-requires c =
    let k = c.args.self.now in
    rw c.capacities.ensures (record {
      changes = c.requires;
      slots = refl;
      bounded = c.demands-sound.ensures.sound.bounded;
      met = k.met;
      left = rw c.deref.ensures.value k.left;
    })

pub invariant_of-self : goal.invariant_of-self
invariant_of-self c = let k = c.args.self.now in record {
  met = k.met;
  left = k.left;
  few = k.few;
  each = k.each;
  asked = k.asked;
  known = k.known;
}

pub invariant_of-self-2 : goal.invariant_of-self-2
invariant_of-self-2 c =
    let found = rw c.capacities.ensures at c.in_ok-find_changed.ensures in
    let put = c.put.ensures in
    let k = c.args.self.now in
    let cells = k.shares.cells in
    let told = c.change_all.ensures in
    let long : length c.change_all.new.demand.demands ≡ length
    k.demand.demands = ap (λ (d : Demands). length d.demands) told
    ∙ length-changed c.args.changes.now k.demand.demands in
    let (few, known) = answers_anew (length c.change_all.new.demand.demands) cells.whos.items
    cells.slots.items c.put.new.y.items c.put.new.rooms.items k.beside.answers
    c.put.new.self.answers (length k.demand.demands) k.few long put.same put.none in
    record {
      met = rw (told, put.amounts) found.met;
      left = rw (told, put.amounts, put.rooms) found.rooms_are;
      few = few;
      each = ap length put.asking ∙ (k.each ∙ sym long);
      asked = λ h. absurd (both_ways _ put.counted h);
      known = known;
    }

pub returns-clause-brought : goal.returns-clause-brought
returns-clause-brought c = c.change_all.ensures

pub returns-clause-unchanged : goal.returns-clause-unchanged
returns-clause-unchanged c = tt
