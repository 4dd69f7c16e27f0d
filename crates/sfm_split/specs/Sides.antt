-- The two sides of an assignment: the demands with what they ask for, and the slots with their
-- capacities. What is done for one side is done for the other in the same way.
use Rattle.sfm_split.specs.declared.lower.Side.{Side}
use Rattle.sfm_split.specs.declared.lower.Side.TheVariants.{Demands, Slots}

-- of something of the demands and the same of the slots, that of a side
abbrev pub of_side : {A : Type 0} → Side → A → A → A
of_side Demands of_demands of_slots = of_demands
of_side Slots of_demands of_slots = of_slots
