-- What the versions of the instance text differ in, but for the weights of elements.
use Rattle.std.specs.Prelude.{ℕ, ◌^◌, List, [], ◌∷◌, codes, ℤ, pos}
use Rattle.sfm_kind.specs.declared.version.Version.{Version}
use Rattle.sfm_kind.specs.declared.version.Version.TheVariants.{First, Second}

-- the tokens of the header
abbrev pub header_tokens : Version → List (List ℕ)
header_tokens First = codes "sfm" ∷ codes "1" ∷ []
header_tokens Second = codes "sfm" ∷ codes "2" ∷ []

-- the greatest number that may be written
abbrev pub most_written : Version → ℤ
most_written First = pos (10 ^ 12)
most_written Second = pos (10 ^ 15)

-- the most that sizes may add to
abbrev pub most_size : Version → ℤ
most_size First = pos (10 ^ 15)
most_size Second = pos (10 ^ 18)
