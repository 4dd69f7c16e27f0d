-- The limits within which an instance is kept: what each call over its terms asks of them, when one
-- more term fits, and what the running totals are.
use Rattle.std.specs.Prelude.{◌≡◌, ℕ, ◌+◌, ◌<◌, ◌≤◌, ◌^◌, List, length, map, ℤ, pos, ◌+ℤ◌, ◌≤ℤ◌}
use Rattle.sfm_spec.specs.Bounds.{AreBounded, total_of}
use Rattle.sfm_kind.specs.Names.{AreElementNames}
use Rattle.sfm_kind.specs.Meanings.{kind_places}
use Rattle.sfm_kind.specs.Kinds.{kind_size}
use Rattle.sfm_kind.specs.Instance.{support_of, terms_in}
use Rattle.sfm_kind.specs.declared.kind.Kind.{Kind}

-- what each call over the terms asks of them, over a ground of n elements
abbrev pub AreInBounds : ℕ → List Kind → Type 0
AreInBounds n terms = AreBounded n (map kind_places terms) (map kind_size terms)

-- the sizes of all terms, added
abbrev pub total_size_of : List Kind → ℤ
total_size_of terms = total_of (map kind_size terms)

-- one more term of so many places and of that size keeps the totals within their bounds
pub record HasRoomFor (terms : List Kind) (places : ℕ) (size : ℤ) : Type 0 where
  pub few_terms : length terms < 16384
  pub few_places : support_of terms + places ≤ 16384
  pub small : (total_size_of terms +ℤ size) ≤ℤ pos (10 ^ 18)

-- what every instance keeps of its names, its terms, its lines and its running totals
pub record IsKept (names : List (List ℕ)) (terms : List Kind) (lines : List ℕ) (support : ℕ)
    (total : ℤ) : Type 0 where
  pub named : AreElementNames names
  pub bounded : AreInBounds (length names) terms
  pub lined : terms_in lines ≡ length terms
  pub supported : support ≡ support_of terms
  pub totalled : total ≡ total_size_of terms
