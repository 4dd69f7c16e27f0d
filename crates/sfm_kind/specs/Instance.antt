-- What contracts see of an instance, and how many terms and places its lines have.
use Rattle.std.specs.Prelude.{ℕ, List, length, map, nat_eq, sum, if◌then◌else◌}
use Rattle.sfm_kind.specs.Meanings.{kind_places}
use Rattle.sfm_kind.specs.declared.kind.Kind.{Kind}
use Rattle.sfm_kind.specs.declared.version.Version.{Version}

-- the version of the text, the names of the elements in the order of the ground, the terms in the order in which they came, and for
-- each term line the number of its layers, 0 where it has one term and no layers
pub record InstanceData : Type 0 where
  pub version : Version
  pub names : List (List ℕ)
  pub terms : List Kind
  pub lines : List ℕ

-- the places of all terms, added
abbrev pub support_of : List Kind → ℕ
support_of terms = sum (map length (map kind_places terms))

-- how many terms a line of so many layers has
abbrev pub width_of : ℕ → ℕ
width_of layers = if nat_eq layers 0 then 1 else layers

-- how many terms some lines have
abbrev pub terms_in : List ℕ → ℕ
terms_in lines = sum (map width_of lines)
