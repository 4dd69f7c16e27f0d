-- What a note of a term that is turned round tells: what the term's own note tells of the negated
-- base, and the rows of the term there, or at the base before it, by the exchange that is owed.
use Rattle.std.specs.Prelude.{◌≡◌, ◌≢◌, ◌↔◌, ℕ, ◌<◌, Bool, List, length, ℤ, Option, Some, None}
use Rattle.sfm_spec.specs.Sets.{Has}
use Rattle.sfm_spec.specs.Terms.{SetFunction, times, HasRoom}
use Rattle.sfm_reach.specs.declared.bits.Bits.{Bits}
use Rattle.sfm_reach.specs.Based.{IsPlacedBase}
use Rattle.sfm_reach.specs.Bits.{bit_in, set_at}
use Rattle.sfm_reach.specs.Reach.{IsRow}
use Rattle.sfm_exchange.specs.Claimed.{AreClaims}
use Rattle.sfm_exchange.specs.Renewed.{AreClaimsBefore}
use Rattle.sfm_kind.specs.Meanings.{kind_places}
use Rattle.sfm_kind.specs.Kinds.{kind_value, kind_size, kind_fits}
use Rattle.sfm_kind.specs.declared.kind.Kind.{Kind}
use Rattle.sfm_flip.specs.declared.note.FlipNote.{FlipNote}
use Rattle.sfm_flip.specs.declared.note.Owed.{Owed}

-- x is a base of q times the term, within the bounds of the calls of a term
abbrev pub IsBaseOf : Kind → ℤ → List ℤ → Type 0
IsBaseOf kind q x = IsPlacedBase kind_places kind_value kind_size kind q x

-- the rows are those of the term at the base, some of them only claimed; where an exchange is owed,
-- at the base before that
abbrev pub AreKept : List ℕ → SetFunction → List ℤ → Bits → List Bits → Option Owed → Type 0
AreKept places f x claimed rows None = AreClaims places f x claimed rows
AreKept places f x claimed rows (Some owed) =
    AreClaimsBefore places f x owed.raised owed.lowered claimed rows

-- what is kept beside the base of q times the term that the note keeps is true there
pub record IsNoted (kind : Kind) (q : ℤ) (note : FlipNote) : Type 0 where
  pub inner : kind_fits kind note.inner q note.base
  pub count : length note.rows ≡ length (kind_places kind)
  pub rows : AreKept (kind_places kind) (times q (kind_value kind)) note.base note.claimed note.rows
      note.owed

-- the same, where no exchange is owed
pub record IsSettled (kind : Kind) (q : ℤ) (note : FlipNote) : Type 0 where
  pub inner : kind_fits kind note.inner q note.base
  pub count : length note.rows ≡ length (kind_places kind)
  pub claims : AreClaims (kind_places kind) (times q (kind_value kind)) note.base note.claimed
      note.rows
  pub nothing : note.owed ≡ None

-- of the first k rows those that have a ground place are true ones
abbrev pub AreTrueAt : List ℕ → SetFunction → List ℤ → List Bits → ℕ → ℕ → Type 0
AreTrueAt places f x rows place k = (v : ℕ) → v < k → bit_in (set_at rows v) place ≡ 1
    → IsRow places f x v (set_at rows v)

-- s has the places other than u that have room to u
abbrev pub IsColumn : SetFunction → List ℤ → ℕ → List Bool → Type 0
IsColumn f x u s = (v : ℕ) → v < length x → Has s v ↔ ((v ≢ u) × HasRoom f x v u)
