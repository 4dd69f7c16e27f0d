-- Which places come along with which, as the rows of a table, and the blocks that are read off from
-- it.
use Rattle.std.specs.Prelude.{◌≡◌, ◌≢◌, ◌↔◌, ◌⊎◌, ℕ, zero, suc, ◌<◌, Bool, false, not, ◌&&◌, List, [], ◌∷◌, ◌++◌, length, slice_index, slice_index_or, nat_eq, if◌then◌else◌}
use Rattle.sfm_spec.specs.Sets.{Has, size}
use Rattle.sfm_spec.specs.Blocks.{Block, block_at}
use Rattle.sfm_reach.specs.declared.bits.Bits.{Bits}
use Rattle.sfm_exchange.specs.Bits.{bit_in}
use Rattle.sfm_exchange.specs.Reached.{AreReached, IsSetOf}

-- the places not outside that links lead to from e, and none where e is outside
pub record IsPullRow (unions : List Bits) (outside : Bits) (e : ℕ) (row : Bits) : Type 0 where
  pub firsts : Bits
  pub found : Bits
  pub firsts_are : (d : ℕ) → (bit_in firsts d ≡ 1) ↔ ((d ≡ e) × (bit_in outside d ≢ 1))
  pub reached : AreReached unions firsts found
  pub exact : (d : ℕ) → (bit_in row d ≡ 1) ↔ ((bit_in found d ≡ 1) × (bit_in outside d ≢ 1))

-- the same as a set
pub record IsPullSet (unions : List Bits) (outside : Bits) (e : ℕ) (row : List Bool) : Type 0 where
  pub bits : Bits
  pub is_row : IsPullRow unions outside e bits
  pub same : IsSetOf bits (length unions) row

abbrev pub row_of : List (List Bool) → ℕ → List Bool
row_of rows e = slice_index_or rows e []

-- the row of each place
pub record ArePullRows (unions : List Bits) (outside : Bits) (rows : List (List Bool)) : Type
    0 where
  pub count : length rows ≡ length unions
  pub each : (e : ℕ) → e < length unions → IsPullSet unions outside e (row_of rows e)

-- as many places in each row as there are rows
abbrev pub AreSquare : List (List Bool) → Type 0
AreSquare rows = (e : ℕ) → e < length rows → length (row_of rows e) ≡ length rows

-- d comes along with e
abbrev pub Pulls : List (List Bool) → ℕ → ℕ → Type 0
Pulls rows e d = Has (row_of rows e) d

-- how many places come along with e
abbrev pub pulled : List (List Bool) → ℕ → ℕ
pulled rows e = size (row_of rows e)

-- e comes along with itself, and no place before it comes along with it both ways
pub record IsFirstPlace (rows : List (List Bool)) (e : ℕ) : Type 0 where
  pub here : Pulls rows e e
  pub least : (d : ℕ) → d < e → Pulls rows e d → Pulls rows d e → ⊥

-- the place d with its count c stands before the place e with the count w
abbrev pub Before : ℕ → ℕ → ℕ → ℕ → Type 0
Before c d w e = (c < w) ⊎ ((c ≡ w) × (d < e))

-- in order, all first places that stand before the place e with the count w
pub record AreFirstsTo (rows : List (List Bool)) (w e : ℕ) (firsts : List ℕ) : Type 0 where
  pub inside : (i : ℕ) → i < length firsts → slice_index firsts i < length rows
  pub first : (i : ℕ) → i < length firsts → IsFirstPlace rows (slice_index firsts i)
  pub below : (i : ℕ) → i < length firsts
      → Before (pulled rows (slice_index firsts i)) (slice_index firsts i) w e
  pub complete : (d : ℕ) → d < length rows → IsFirstPlace rows d → Before (pulled rows d) d w e
      → (i : ℕ) × (i < length firsts) × (slice_index firsts i ≡ d)
  pub ordered : (i j : ℕ) → i < j → j < length firsts
      → Before (pulled rows (slice_index firsts i)) (slice_index firsts i)
      (pulled rows (slice_index firsts j)) (slice_index firsts j)

-- the first places before e, ascending, with their counts, which are all below a number
pub record AreListed (rows : List (List Bool)) (e : ℕ) (places counts : List ℕ) (above : ℕ) : Type
    0 where
  pub same : length counts ≡ length places
  pub inside : (i : ℕ) → i < length places → slice_index places i < e
  pub first : (i : ℕ) → i < length places → IsFirstPlace rows (slice_index places i)
  pub counted : (i : ℕ) → i < length places
      → slice_index counts i ≡ pulled rows (slice_index places i)
  pub below : (i : ℕ) → i < length places → slice_index counts i < above
  pub complete : (d : ℕ) → d < e → IsFirstPlace rows d → (i : ℕ) × (i < length places)
      × (slice_index places i ≡ d)
  pub ordered : (i j : ℕ) → i < j → j < length places → slice_index places i < slice_index places j

-- in order, all first places
pub record AreFirsts (rows : List (List Bool)) (firsts : List ℕ) : Type 0 where
  pub inside : (i : ℕ) → i < length firsts → slice_index firsts i < length rows
  pub first : (i : ℕ) → i < length firsts → IsFirstPlace rows (slice_index firsts i)
  pub complete : (d : ℕ) → d < length rows → IsFirstPlace rows d → (i : ℕ) × (i < length firsts)
      × (slice_index firsts i ≡ d)
  pub ordered : (i j : ℕ) → i < j → j < length firsts
      → Before (pulled rows (slice_index firsts i)) (slice_index firsts i)
      (pulled rows (slice_index firsts j)) (slice_index firsts j)

-- the places that come along with e and that it comes along with
pub record IsMembers (rows : List (List Bool)) (e : ℕ) (members : List Bool) : Type 0 where
  pub places : length members ≡ length rows
  pub exact : (d : ℕ) → d < length rows → Has members d ↔ (Pulls rows e d × Pulls rows d e)

-- of the first k first places, the numbers from 1 of those other than the i-th that come along with
-- the i-th
abbrev pub needs_upto : List (List Bool) → List ℕ → ℕ → ℕ → List ℕ
needs_upto rows firsts i zero = []
needs_upto rows firsts i (suc k) =
    if (not (nat_eq k i) && slice_index_or (row_of rows (slice_index firsts i))
    (slice_index firsts k) false) then needs_upto rows firsts i k ++ suc k ∷ [] else needs_upto rows
    firsts i k

-- the block of each first place
pub record AreGrouped (rows : List (List Bool)) (firsts : List ℕ) (blocks : List Block) : Type
    0 where
  pub count : length blocks ≡ length firsts
  pub members : (i : ℕ) → i < length blocks
      → IsMembers rows (slice_index firsts i) (block_at blocks i).members
  pub needs : (i : ℕ) → i < length blocks
      → (block_at blocks i).needs ≡ needs_upto rows firsts i (length firsts)

-- the blocks of the places that are not outside
pub record AreBlocksBy (unions : List Bits) (outside : Bits) (blocks : List Block) : Type 0 where
  pub rows : List (List Bool)
  pub firsts : List ℕ
  pub pulls : ArePullRows unions outside rows
  pub are_firsts : AreFirsts rows firsts
  pub grouped : AreGrouped rows firsts blocks
