-- A set of places below 256 as four words of 64 bits.
use Rattle.std.specs.Prelude.{◌≡◌, ◌≢◌, ◌↔◌, ◌⊎◌, ℕ, suc, ◌<◌, ◌/◌, ◌%◌, Bool, List, [], ◌∷◌, ◌++◌, drop, replicate, slice_index_or}
use Rattle.std.specs.Int.{bit_at}
use Rattle.sfm_spec.specs.Sets.{Has}
use Rattle.sfm_reach.specs.declared.bits.Bits.{Bits}

-- 1 where the place e is in the set, and 0 where it is not
unfoldable pub bit_in : Bits → ℕ → ℕ
bit_in s e = bit_at (slice_index_or s.words (e / 64) 0) (e % 64)

abbrev pub blank_bits : Bits
blank_bits = record { words = [] }

-- set k of a list
abbrev pub set_at : List Bits → ℕ → Bits
set_at sets k = slice_index_or sets k blank_bits

-- s has the ground places of the first k places of a part
abbrev pub HasPlaces : List ℕ → List Bool → ℕ → Bits → Type 0
HasPlaces places part k s = (e : ℕ) → (bit_in s e ≡ 1)
    ↔ ((v : ℕ) × (v < k) × Has part v × (slice_index_or places v 0 ≡ e))

-- joined has what either set has, but not the place out
abbrev pub IsUnionBut : Bits → Bits → ℕ → Bits → Type 0
IsUnionBut s more out joined = (e : ℕ) → (bit_in joined e ≡ 1)
    ↔ ((e ≢ out) × ((bit_in s e ≡ 1) ⊎ (bit_in more e ≡ 1)))

-- a place is taken out of a set
pub record IsTaken (before : Bits) (e : ℕ) (after : Bits) : Type 0 where
  pub below : e < 256
  pub had : bit_in before e ≡ 1
  pub out : bit_in after e ≡ 0
  pub others : (k : ℕ) → k ≢ e → bit_in after k ≡ bit_in before k

-- what is left of a set from word k on, where that is left of word k
unfoldable pub left_of : Bits → ℕ → ℕ → Bits
left_of s k word = record { words = replicate k 0 ++ (word ∷ drop (suc k) s.words) }
