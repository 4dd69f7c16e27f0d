-- The rows of one term after an exchange.
use Rattle.std.specs.Prelude.{◌≡◌, ◌≢◌, ◌↔◌, ◌⊎◌, ℕ, ◌<◌, ◌≤◌, List, length, slice_index_or, slice_set, ℤ, pos, ◌≤ℤ◌}
use Rattle.sfm_spec.specs.Terms.{SetFunction, IsBase, exchanged}
use Rattle.sfm_reach.specs.declared.bits.Bits.{Bits}
use Rattle.sfm_exchange.specs.declared.renewing.Changes.{Changes}
use Rattle.sfm_exchange.specs.declared.renewing.Raised.{Raised}
use Rattle.sfm_law.specs.Based.{IsPair}
use Rattle.sfm_reach.specs.Bits.{bit_in, set_at}
use Rattle.sfm_exchange.specs.Claimed.{AreClaims}
use Rattle.sfm_reach.specs.Reach.{IsRow}

-- a base from which another vector comes by raising s and lowering t
pub record IsExchanged (f : SetFunction) (before after : List ℤ) (s t : ℕ) : Type 0 where
  pub base : IsBase f before
  pub amount : ℤ
  pub some : pos 1 ≤ℤ amount
  pub is : after ≡ exchanged before s t amount

-- x has come by raising s and lowering t from a base at which the rows are claims
pub record AreClaimsBefore (places : List ℕ) (f : SetFunction) (x : List ℤ) (s t : ℕ)
    (claimed : Bits) (rows : List Bits) : Type 0 where
  pub pair : IsPair s t x
  pub before : List ℤ
  pub came : IsExchanged f before x s t
  pub claims : AreClaims places f before claimed rows

-- a place of the term with its ground place and its row at the base x
pub record IsRaised (places : List ℕ) (f : SetFunction) (x : List ℤ) (raised : Raised) : Type
    0 where
  pub within : raised.local < length places
  pub place_is : slice_index_or places raised.local 0 ≡ raised.place
  pub row_is : IsRow places f x raised.local raised.row

-- found has the ground places of t and of those of the first k places whose rows have that of t
abbrev pub AreDepending : List ℕ → List Bits → ℕ → ℕ → Bits → Type 0
AreDepending places rows t k found = (e : ℕ) → (bit_in found e ≡ 1)
    ↔ ((u : ℕ) × (u < k) × (slice_index_or places u 0 ≡ e)
    × ((u ≡ t) ⊎ (bit_in (set_at rows u) (slice_index_or places t 0) ≡ 1)))

-- joined has what either row has and the place to, but not the place out
abbrev pub IsJoined : Bits → Bits → ℕ → ℕ → Bits → Type 0
IsJoined row more to out joined = (e : ℕ) → (bit_in joined e ≡ 1)
    ↔ ((e ≢ out) × ((bit_in row e ≡ 1) ⊎ (bit_in more e ≡ 1) ⊎ (e ≡ to)))

-- of the first k rows those whose ground places are in the set are joined with one row and with the
-- place to; all others stay
pub record AreJoined (places : List ℕ) (changed : Bits) (more : Bits) (to k : ℕ)
    (before after : List Bits) : Type 0 where
  pub count : length after ≡ length before
  pub joined : (u : ℕ) → u < k → bit_in changed (slice_index_or places u 0) ≡ 1
      → IsJoined (set_at before u) more to (slice_index_or places u 0) (set_at after u)
  pub others : (u : ℕ) → u < length places → bit_in changed (slice_index_or places u 0) ≢ 1
      → set_at after u ≡ set_at before u
  pub ahead : (u : ℕ) → k ≤ u → set_at after u ≡ set_at before u

-- of the first k rows those whose ground places are in the set are those of the base x; those that
-- are not told stay, and none is told whose ground place is not in the set
pub record AreAsked (places : List ℕ) (f : SetFunction) (x : List ℤ) (changed told : Bits) (k : ℕ)
    (before after : List Bits) : Type 0 where
  pub count : length after ≡ length before
  pub asked : (u : ℕ) → u < k → bit_in changed (slice_index_or places u 0) ≡ 1
      → IsRow places f x u (set_at after u)
  pub inside : (e : ℕ) → bit_in told e ≡ 1 → bit_in changed e ≡ 1
  pub others : (u : ℕ) → u < length places → bit_in told (slice_index_or places u 0) ≢ 1
      → set_at after u ≡ set_at before u

-- the rows of some places have taken in one row and the place that was raised, and then the row of
-- that is put in
pub record AreTakenIn (places : List ℕ) (changed more : Bits) (raised : Raised)
    (before after : List Bits) : Type 0 where
  pub mid : List Bits
  pub joined : AreJoined places changed more raised.place (length places) before mid
  pub put : after ≡ slice_set mid raised.local raised.row

-- which rows of a term have changed, by their ground places: those of the one set have what they
-- had, those of the other may be any, and all others stay
pub record AreChanges (places : List ℕ) (changes : Changes) (before after : List Bits) : Type
    0 where
  pub inside : (e : ℕ) → (bit_in changes.grown e ≡ 1) ⊎ (bit_in changes.anew e ≡ 1) → (u : ℕ)
      × (u < length places) × (slice_index_or places u 0 ≡ e)
  pub grown : (u t : ℕ) → u < length places → bit_in changes.grown (slice_index_or places u 0) ≡ 1
      → bit_in (set_at before u) t ≡ 1 → bit_in (set_at after u) t ≡ 1
  pub others : (u : ℕ) → u < length places → bit_in changes.grown (slice_index_or places u 0) ≢ 1
      → bit_in changes.anew (slice_index_or places u 0) ≢ 1 → set_at after u ≡ set_at before u

-- of the first k rows those whose ground places are in the set are that of the place that was
-- raised, with this place in place of their own; all others stay
pub record AreShared (places : List ℕ) (shared : Bits) (raised : Raised) (k : ℕ)
    (before after : List Bits) : Type 0 where
  pub count : length after ≡ length before
  pub shared_is : (u : ℕ) → u < k → bit_in shared (slice_index_or places u 0) ≡ 1
      → IsJoined raised.row raised.row raised.place (slice_index_or places u 0) (set_at after u)
  pub others : (u : ℕ) → u < length places → bit_in shared (slice_index_or places u 0) ≢ 1
      → set_at after u ≡ set_at before u

-- the rows of a term at the base that came by an exchange: claims, which are true where their
-- places are not among the claimed ones, and the changes tell which of them are others than before
pub record AreRenewed (places : List ℕ) (f : SetFunction) (x : List ℤ) (claimed : Bits)
    (told : Changes) (before after : List Bits) : Type 0 where
  pub claims : AreClaims places f x claimed after
  pub changes : AreChanges places told before after
