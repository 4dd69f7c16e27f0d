-- The terms of two sums as those of one: the left ones as they are, and the right ones turned
-- round.
use Rattle.std.specs.Prelude.{◌++◌, List, map}
use Rattle.sfm_spec.specs.Families.{Meaning}
use Rattle.sfm_kind.specs.declared.kind.Kind.{Kind}
use Rattle.sfm_flip.specs.Flipped.{flipped_term}
use Rattle.sfm_meet.specs.Told.{side_terms}

-- what the terms of both sums mean, those of the right turned round
abbrev pub both_terms : List Kind → List Kind → List Meaning
both_terms left right = side_terms left ++ map flipped_term (side_terms right)
