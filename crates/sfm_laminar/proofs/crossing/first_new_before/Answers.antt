use Rattle.sfm_laminar.proofs.Repeats.{repeated_crosses_none}
use Rattle.sfm_laminar.proofs.crossing.first_new_before.Goals as goal

pub returns-then-is_repeated : goal.returns-then-is_repeated
returns-then-is_repeated c = repeated_crosses_none _ _ c.requires.place c.requires.none
    (c.is_repeated.ensures.0 c.if-is_repeated.true)
