-- The meanings that the terms of an instance tell of themselves, and the question that they make,
-- of which the contracts of the program's parts speak.
use Rattle.std.specs.Prelude.{List}
use Rattle.sfm_spec.specs.Families.{Meaning, meanings}
use Rattle.sfm_kind.specs.Meanings.{kind_places}
use Rattle.sfm_kind.specs.Kinds.{kind_value}
use Rattle.sfm_kind.specs.declared.kind.Kind.{Kind}
use Rattle.sfm_kind.specs.Instance.{InstanceData}
use Rattle.sfm_due.specs.Due.{Question}

abbrev pub meanings_of : List Kind → List Meaning
meanings_of terms = meanings kind_places kind_value terms

-- an instance, with what its terms tell of themselves
abbrev pub question_of : InstanceData → Question
question_of instance = record { instance = instance; meant = meanings_of instance.terms }
