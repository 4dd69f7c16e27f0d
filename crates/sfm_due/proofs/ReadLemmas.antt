-- How the faults and the bytes of opening and of reading a file join to what is known of the file.
use Rattle.std.proofs.Common.{◌≡◌, ℕ, suc, ◌+◌, ◌<◌, ◌≤◌, true, List, length, Option, Some, None, Result, Ok, Err, refl, arith, inl, inr, replicate}
use Rattle.std.proofs.lemmas.Bool.{false≢true}
use Rattle.std.proofs.lemmas.List.{length-replicate, drop_all}
use Rattle.sfm_io.specs.Faults.{Rose}
use Rattle.sfm_io.specs.Shelf.{ShelfState, Texts, Opens}
use Rattle.sfm_io.specs.Transfer.{IsRest, IsLong, IsFault}
use Rattle.std.specs.Prelude.{Vec}
use Rattle.std.specs.Global.{Global}
use Rattle.sfm_due.specs.declared.status.Status.{Status}
use Rattle.sfm_due.specs.Files.{IsNamed, MissesText, ReadsOpen, ReadsText, WasRead}

pub rose_later : (a b c : ℕ) → a ≤ b → Rose b c → Rose a c
rose_later a b c h (inl less) = inl (omega (arith, h, less))
rose_later a b c h (inr last) = inr last

-- a file that could not be opened
pub fails_to_open : {T E : Type 0} (before after : ShelfState) (name : List ℕ) (e : E)
    → Opens {T = T} {E = E} before name (Err e) after → MissesText name before after
fails_to_open before after name e opens = record {
  rose = opens.rose;
  unsure = λ (sound, texts, are, held). absurd (false≢true (opens.held sound texts are held));
}

-- a file that was opened and could not be read
pub fails_behind : {T E : Type 0} (before mid after : ShelfState) (name : List ℕ) (t : T)
    → Opens {T = T} {E = E} before name (Ok t) mid → IsFault mid after
    → MissesText name before after
fails_behind before mid after name t opens fault = record {
  rose = rose_later before.faults mid.faults after.faults opens.kept.faults fault.rose;
  unsure = λ (sound, texts, are, held). fault.unsound (opens.kept.sound sound);
}

-- the bytes of a file that was opened and read
pub reads_whole : {T E : Type 0} (limit : ℕ) (before mid after : ShelfState) (name bytes : List ℕ)
    (t : T) → Opens {T = T} {E = E} before name (Ok t) mid → length bytes ≤ limit
    → IsRest mid bytes after
    → IsNamed before name bytes × WasRead before after limit bytes
reads_whole limit before mid after name bytes t opens short rest = (text, ended) where
  text : IsNamed before name bytes
  text texts are = let (whole, held, begun) = opens.opened texts are in rw (rest.whole whole begun)
      held

  ended : WasRead before after limit bytes
  ended texts are = let (whole, held, begun) = opens.opened texts
      are in rw (drop_all (limit + 1) bytes (omega (arith, short))) (rest.ended whole begun)

-- some text is longer
longer_text : (n : ℕ) → (text : List ℕ) × (n < length text)
longer_text n = (replicate (suc n) 0, omega (arith, length-replicate {A = ℕ} (suc n) 0))

-- a file that is longer than the limit
pub reads_long : {T E : Type 0} (limit : ℕ) (before mid after : ShelfState) (name : List ℕ) (t : T)
    → Opens {T = T} {E = E} before name (Ok t) mid → IsLong mid limit after
    → (text : List ℕ) × (limit < length text) × IsNamed before name text
    × WasRead before after limit text
reads_long limit before mid after name t opens long = at before.texts refl where
  at : (o : Option Texts) → before.texts ≡ o → (text : List ℕ) × (limit < length text)
      × IsNamed before name text × WasRead before after limit text
  at None e = let (text, more) = longer_text
      limit in (text, more, (λ texts are. cc), (λ texts are. cc))
  at (Some m) e =
      let (text, held, begun) = opens.opened m e in (
        text,
        long.longer text begun,
        (λ texts are. let same : texts ≡ m = cc in rw same held),
        (λ texts are. long.left text begun),
      )

-- what is known of a file that was opened and then read
pub reads_text : {T E : Type 0} (limit : ℕ) (before mid after : ShelfState) (name : List ℕ) (t : T)
    (result : Result (Option (Vec ℕ Global)) Status) → Opens {T = T} {E = E} before name (Ok t) mid
    → ReadsOpen limit mid after result
    → ReadsText limit name before after result
reads_text limit before mid after name t (Ok (Some bytes)) opens read =
    let (text, ended) = reads_whole limit before mid after name bytes.items t opens read.0
    read.1 in (bytes.items, (refl, read.0), text, ended)
reads_text limit before mid after name t (Ok None) opens read =
    let (text, more, is, ended) = reads_long limit before mid after name t opens
    read in (text, more, is, ended)
reads_text limit before mid after name t (Err status) opens (inl (fault, why)) =
    inl (fault, fails_behind before mid after name t opens why)
reads_text limit before mid after name t (Err status) opens (inr memory) = inr memory
