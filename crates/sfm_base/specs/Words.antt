-- A set of places as words of 64 bits each: bit t of word k tells of the place 64·k + t; and what
-- becomes of it with another set.
use Rattle.std.specs.Prelude.{◌≡◌, ◌==◌, ℕ, ◌-◌, ◌<◌, ◌≤◌, ◌/◌, ◌%◌, ◌^◌, Bool, List, length, map, max, min, slice_index_or}
use Rattle.std.specs.Int.{bit_at, div_ceil}
use Rattle.std.specs.List.{range_with_len}
use Rattle.sfm_spec.specs.Sets.{union, intersection, complement}
use Rattle.sfm_base.specs.declared.words.Joining.{Joining}
use Rattle.sfm_base.specs.declared.words.Joining.TheVariants.{Union, Intersection, Difference}

-- 1 where the words have the place e, and 0 where they have not
abbrev pub bit_of : List ℕ → ℕ → ℕ
bit_of words e = bit_at (slice_index_or words (e / 64) 0) (e % 64)

-- of the places 0 to n-1, which ones the words have
unfoldable pub members : ℕ → List ℕ → List Bool
members n words = map (λ e. bit_of words e == 1) (range_with_len 0 n)

-- n is a number of the machine, there are just as many words as n places take, and they have no
-- place past those
pub record AreWords (n : ℕ) (words : List ℕ) : Type 0 where
  pub fits : n < 2 ^ 64
  pub counted : length words ≡ div_ceil n 64
  pub clean : (e : ℕ) → n ≤ e → bit_of words e ≡ 0

-- what becomes of a set with another one, as lists
abbrev pub joined : Joining → List Bool → List Bool → List Bool
joined Union s t = union s t
joined Intersection s t = intersection s t
joined Difference s t = intersection s (complement t)

-- and of a place, told by 1 and 0
abbrev pub joint : Joining → ℕ → ℕ → ℕ
joint Union x y = max x y
joint Intersection x y = min x y
joint Difference x y = x - y
