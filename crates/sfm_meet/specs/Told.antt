-- What the program keeps of what it tells of two sums.
use Rattle.std.specs.Prelude.{List, map}
use Rattle.sfm_spec.specs.Families.{Meaning, meanings}
use Rattle.sfm_kind.specs.declared.kind.Kind.{Kind}
use Rattle.sfm_kind.specs.Kinds.{kind_places, kind_value}
use Rattle.sfm_meet.specs.declared.told.Met.{Met}
use Rattle.sfm_meet.specs.Met.{MetAnswer}

-- what it says
abbrev pub met_of : Met → MetAnswer
met_of m = record {
  value = m.value;
  members = m.members;
  common = m.common;
  left = m.bases.left;
  right = m.bases.right;
}

-- what the terms of a side mean
abbrev pub side_terms : List Kind → List Meaning
side_terms terms = meanings kind_places kind_value terms
