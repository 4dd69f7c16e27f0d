-- What all terms tell at bases of theirs.
use Rattle.std.specs.Prelude.{◌≡◌, ℕ, ◌<◌, List, length, map, ℤ, Option}
use Rattle.sfm_law.specs.declared.term.Term.{Ghosts}
use Rattle.sfm_spec.specs.Families.{meanings}
use Rattle.sfm_reach.specs.declared.bits.Bits.{Bits}
use Rattle.sfm_reach.specs.Reach.{AreNotes, AreSized, IsTable, kept_fits, table_at}

-- for each term the note that is kept, if one is, fits its base, and for each place of each term a
-- row, which tells the steps by the term
pub record AreAllAsked {X N : Type 0} (T : Ghosts X N) (terms : List X) (q : ℤ)
    (bases : List (List ℤ)) (notes : List (Option N)) (rows : List (List Bits)) : Type 0 where
  pub count : length notes ≡ length terms
  pub noted : AreNotes (kept_fits T.fits) q terms notes bases
  pub sized : AreSized (map T.places terms) rows
  pub tables : (i : ℕ) → i < length terms → IsTable (meanings T.places T.value_of terms) q bases i
      (table_at rows i)
