use Rattle.std.proofs.Common.{refl}
use Rattle.std.proofs.lemmas.Bool.{false≢true}
use Rattle.sfm_cells.specs.Splits.{Demands, AreDemands}
use Rattle.sfm_cells.specs.Cells.{cut}
use Rattle.sfm_cells.proofs.Outcomes.{other_demands, split_from}
use Rattle.sfm_assign.proofs.Remembered.{over_lists}
use Rattle.sfm_assign.proofs.kept.Kept.can_meet.Goals.{After-demands-sound}
use Rattle.sfm_assign.proofs.kept.Kept.can_meet.Goals as goal

-- the other demands over the same lists
abbrev wanted : After-demands-sound → Demands
wanted c = record {
  demands = c.args.aim.now.demands.now;
  lists = c.args.self.now.demand.lists;
  capacities = c.args.aim.now.capacities.now;
}

sound : (c : After-demands-sound) → AreDemands (wanted c)
sound c =
    let r = c.requires in
    other_demands c.args.self.now.demand c.demands-sound.ensures.sound c.args.aim.now.demands.now
    c.args.aim.now.capacities.now r.sized r.slots r.amounts r.bounded

pub find_amounts-requires : goal.find_amounts-requires
find_amounts-requires c =
    let r = c.requires in
    let k = c.args.self.now in
    record {
      sized = r.sized;
      slots = r.slots;
      sound = sound (goal.at.find_amounts-requires c).After-demands-sound;
      met = k.met;
      left = rw c.deref.ensures.value k.left;
    }

pub returns-in-Ok : goal.returns-in-Ok
returns-in-Ok c =
    let d = wanted (goal.at.returns-in-Ok c).After-demands-sound in
    let y = c.find_amounts.new.work.y.items in
    let (part, met, left) = over_lists d _ _ y _ c.in-Ok.ensures.met c.in-Ok.ensures.rooms_are in (
      (λ t. (
        cut d.lists y,
        split_from d y (sound (goal.at.returns-in-Ok c).After-demands-sound) part
            met,
      )),
      (λ h. refl),
    )

pub returns-in-Err-Shortage : goal.returns-in-Err-Shortage
returns-in-Err-Shortage c =
    let end = rw c.in-Err-Shortage.field-0-is at c.in-Err-Shortage.ensures in
    ((λ t. absurd (false≢true t)), (λ h. absurd (end.1 h)))
