use Rattle.sfm_assign.proofs.kept.Kept.find_met.Goals as goal

pub find_changed-requires : goal.find_changed-requires
find_changed-requires c =
    let r = c.requires in
    let k = c.args.self.now in
    record {
      changes = r.changes;
      slots = r.slots;
      bounded = r.bounded;
      met = k.met;
      left = rw c.deref.ensures.value k.left;
    }
