use Rattle.std.proofs.Common.{◌≡◌, take, length}
use Rattle.sfm_ask.specs.Shifts.{shift_of_pins}
use Rattle.sfm_ask.proofs.shift.write_shift.Given as goal

-- the elements so far have their shifts
abbrev pub invariant-loop-e : goal.invariant-loop-e
invariant-loop-e l = record {
  places : length l.shift ≡ length l.pins.inside;
  so_far : take l.e l.shift ≡ take l.e (shift_of_pins l.penalty l.pins.inside l.pins.outside);
}
