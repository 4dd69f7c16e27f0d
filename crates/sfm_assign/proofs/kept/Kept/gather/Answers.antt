use Rattle.std.proofs.Common.{◌∙◌, sym, arith}
use Rattle.sfm_cells.proofs.Outcomes.{cells_for}
use Rattle.sfm_assign.proofs.kept.Kept.gather.Goals as goal

pub gather-requires-clause-told : goal.gather-requires-clause-told
gather-requires-clause-told c =
    let k = c.args.self.now in
    record {
      cells = rw (
        c.requires.places,
        c.deref.ensures.value,
        k.left.places,
        k.met.in_order,
        k.met.in_lists,
      ) (cells_for k.demand c.demands-sound.ensures.sound);
      same = k.met.part.cells;
      known = rw (c.requires.places, c.deref.ensures.value) k.known;
    }

pub gather-requires-clause-place : goal.gather-requires-clause-place
gather-requires-clause-place c =
    let lt = c.requires.place in let l = c.requires.places in omega (arith, lt, l)

pub gather-requires-clause-places : goal.gather-requires-clause-places
gather-requires-clause-places c = c.requires.room_for_answer ∙ sym c.requires.places

pub invariant_of-self-clause-known : goal.invariant_of-self-clause-known
invariant_of-self-clause-known c =
    rw (c.gather.ensures.same ∙ c.requires.places, c.deref.ensures.value) at
    c.gather.ensures.told.known

pub invariant_of-self-clause-few : goal.invariant_of-self-clause-few
invariant_of-self-clause-few c =
    let l = c.requires.places in
    let same = c.gather.ensures.same in
    omega (arith, same, l)
