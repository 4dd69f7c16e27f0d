-- When two terms, however each is kept, are one.
use Rattle.std.specs.Prelude.{◌≡◌, ◌↔◌, Bool, List, length, ℤ}
use Rattle.sfm_spec.specs.Families.{Meaning}
use Rattle.sfm_kind.specs.Meanings.{kind_places, IsMeaningOf}
use Rattle.sfm_kind.specs.Kinds.{kind_value, kind_size, kind_start}
use Rattle.sfm_kind.specs.declared.kind.Kind.{Kind}

-- the two have the same places, the same value on each part of as many, the same size and the same
-- first base at each factor; and each meaning of the one is one of the other
pub record AreOneTerm (s t : Kind) : Type 0 where
  pub places : kind_places s ≡ kind_places t
  pub values : (part : List Bool) → length part ≡ length (kind_places s)
      → kind_value s part ≡ kind_value t part
  pub size : kind_size s ≡ kind_size t
  pub starts : (q : ℤ) → kind_start s q ≡ kind_start t q
  pub meanings : (meant : Meaning) → IsMeaningOf s meant ↔ IsMeaningOf t meant
