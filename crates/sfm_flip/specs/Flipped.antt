-- A set function turned round: what a set is worth there is what its rest is worth, less the whole.
-- Textbook: Fujishige, Submodular Functions and Optimization, section 2.3 (dual supermodular and
-- submodular functions).
use Rattle.std.specs.Prelude.{List, length, map, ℕ, ℤ, pos, neg_ℤ, ◌-ℤ◌, unwrap_or}
use Rattle.std.specs.Option.{option_map}
use Rattle.sfm_spec.specs.Sets.{complement, whole_set}
use Rattle.sfm_spec.specs.Terms.{SetFunction}
use Rattle.sfm_spec.specs.Families.{Meaning}

-- the value of the rest less that of the whole, of k places; allowed where the rest is
abbrev pub flipped : ℕ → SetFunction → SetFunction
flipped k f s = option_map (λ a. a -ℤ unwrap_or (f (whole_set k)) (pos 0)) (f (complement s))

-- each entry with its sign turned
abbrev pub negated : List ℤ → List ℤ
negated x = map neg_ℤ x

-- a term turned round
abbrev pub flipped_term : Meaning → Meaning
flipped_term term = record { places = term.places; value = flipped (length term.places) term.value }
