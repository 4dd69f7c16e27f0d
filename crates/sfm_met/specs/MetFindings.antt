-- What the steps of a judgement find of what a text says.
use Rattle.std.specs.Prelude.{◌≡◌, length, pos}
use Rattle.sfm_spec.specs.Families.{AreBases}
use Rattle.sfm_check.specs.declared.verdicts.Wrong.TheVariants.{Long, Grammar, Base, Unproved, Answer}
use Rattle.sfm_check.specs.declared.verdicts.Verdict.{Verdict}
use Rattle.sfm_check.specs.declared.verdicts.Verdict.TheVariants.{Valid, Invalid}
use Rattle.sfm_meet.specs.Common.{IsLeastSplit}
use Rattle.sfm_meet.specs.Met.{MetAnswer, IsProvedMet}
use Rattle.sfm_check.specs.Truth.{Question}
use Rattle.sfm_met.specs.MetVerdict.{IsFirstNoMetBase, IsFirstWrongMet}

-- in the order of the reasons; a text that is too long or is not read says nothing
abbrev pub IsFoundMet : Question → Question → MetAnswer → Verdict → Type 0
IsFoundMet left right a Valid = IsProvedMet left.meant right.meant (length left.instance.names) a
    × IsLeastSplit left.meant right.meant (length left.instance.names) a.value a.members
IsFoundMet left right a (Invalid line Long) = ⊥
IsFoundMet left right a (Invalid line Grammar) = ⊥
IsFoundMet left right a (Invalid line Base) = IsFirstNoMetBase left right a line
IsFoundMet left right a (Invalid line Unproved) = (line ≡ 4) × AreBases (pos 1) left.meant a.left
    × AreBases (pos 1) right.meant a.right
    × (IsProvedMet left.meant right.meant (length left.instance.names) a → ⊥)
IsFoundMet left right a (Invalid line Answer) =
    IsProvedMet left.meant right.meant (length left.instance.names) a
    × IsFirstWrongMet left right a line
