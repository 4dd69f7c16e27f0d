-- Lemmas on shelves: one read after another.
use Rattle.std.proofs.Common.{◌≡◌, ℕ, ◌+◌, ◌<◌, List, [], ◌++◌, length, drop, Option, Some, None, Ok, Err, refl, sym, ◌∙◌, ap, arith, append_assoc}
use Rattle.std.specs.Prelude.{IsSome}
use Rattle.std.proofs.lemmas.List.{append-nil, drop_at, length-append, nil_from_length}
use Rattle.std.proofs.KnownBytes.{Consumes-nil, Consumes-trans}
use Rattle.std.specs.Io.KnownBytes.{Consumes, IsAtEnd}
use Rattle.sfm_io.specs.Shelf.{ShelfState, KeepsShelf}
use Rattle.sfm_io.specs.Transfer.{ReadsOn, IsRest, IsLong, IsCause}
use Rattle.sfm_io.specs.declared.transfer.ReadEnd.{ReadEnd}
use Rattle.sfm_io.specs.declared.transfer.ReadEnd.TheVariants.{Fault, Long, Memory}
use Rattle.sfm_io.proofs.FaultLemmas.{Rose_later}

pub KeepsShelf-refl : (s : ShelfState) → KeepsShelf [] s s
KeepsShelf-refl s = record {
  texts = refl;
  faults = omega arith;
  sound = λ h. h;
  asked = sym (append-nil s.asked);
}

pub KeepsShelf-trans : {a b c : ShelfState} (xs ys : List (List ℕ)) → KeepsShelf xs a b
    → KeepsShelf ys b c → KeepsShelf (xs ++ ys) a c
KeepsShelf-trans {a = a} xs ys h k = record {
  texts = k.texts ∙ h.texts;
  faults = omega (arith, h.faults, k.faults);
  sound = λ s. k.sound (h.sound s);
  asked = k.asked ∙ ap (λ ns. ns ++ ys) h.asked ∙ append_assoc a.asked xs ys;
}

-- a shelf gave these bytes since it was `before`
pub record HasRead (before : ShelfState) (bytes : List ℕ) (after : ShelfState) : Type 0 where
  pub kept : KeepsShelf [] before after
  pub taken : Consumes before.rest after.rest bytes

pub HasRead-none : (s : ShelfState) → HasRead s [] s
HasRead-none s = record { kept = KeepsShelf-refl s; taken = Consumes-nil s.rest }

-- what one more read adds
pub HasRead-more : {before middle after : ShelfState} {had has : List ℕ} {most k : ℕ}
    → HasRead before had middle → ReadsOn middle had most (Ok k) has after
    → HasRead before has after
HasRead-more {before = before} {middle = middle} {after = after} {had = had} h r =
    let (bytes, joined, taken) = r.taken in
    record {
      kept = KeepsShelf-trans [] [] h.kept r.kept;
      taken = rw joined (Consumes-trans before.rest middle.rest after.rest had bytes h.taken
          taken);
    }

-- bytes that are told are the front of what was told
pub Consumes-told : (a b : Option (List ℕ)) (bytes r : List ℕ) → Consumes a b bytes → a ≡ Some r
    → (left : List ℕ) × (r ≡ bytes ++ left) × (b ≡ Some left)
Consumes-told None b bytes r h e = cc
Consumes-told (Some xs) None bytes r h e = absurd h
Consumes-told (Some xs) (Some ys) bytes r h e = (ys, cc, refl)

pub IsAtEnd-told : (a : Option (List ℕ)) (r : List ℕ) → IsAtEnd a → a ≡ Some r → r ≡ []
IsAtEnd-told None r h e = cc
IsAtEnd-told (Some xs) r h e = cc

-- where a read gave nothing, the bytes are the whole
pub HasRead-whole : {before middle after : ShelfState} {had has : List ℕ} {most : ℕ}
    → HasRead before had middle → ReadsOn middle had most (Ok 0) has after → IsRest before has after
HasRead-whole {before = before} {middle = middle} {after = after} {had = had} {has = has} h r =
    record { whole = λ rest told. (ends rest told).0; ended = λ rest told. (ends rest told).1 }
  where
    ends : (rest : List ℕ) → before.rest ≡ Some rest → (has ≡ rest) × (after.rest ≡ Some [])
    ends rest told =
        let (left, parts, left_told) = Consumes-told before.rest middle.rest had rest h.taken
        told in
        let none : left ≡ [] = IsAtEnd-told middle.rest left (r.ends refl) left_told in
        let (bytes, joined, taken) = r.taken in
        let (last, last_parts, last_told) = Consumes-told middle.rest after.rest bytes left taken
        left_told in
        let lengths : length left ≡ length bytes + length last = simp length-append at
        (ap length last_parts) in
        let no_bytes : bytes ≡ [] = nil_from_length bytes (omega (arith, ap length none)) in
        let no_last : last ≡ [] = nil_from_length last (omega (arith, ap length none)) in (
          joined ∙ ap (λ l. had ++ l) no_bytes ∙ ap (λ l. had ++ l) (sym none) ∙ sym parts,
          last_told ∙ ap Some no_last,
        )

-- more bytes came than the limit: the text is longer, and what is left are the bytes behind them
pub HasRead-long : {before after : ShelfState} {bytes : List ℕ} {limit : ℕ}
    → HasRead before bytes after → length bytes ≡ limit + 1 → IsLong before limit after
HasRead-long {before = before} {after = after} {bytes = bytes} {limit = limit} h len =
    record { longer = λ r told. (ends r told).0; left = λ r told. (ends r told).1 }
  where
    ends : (r : List ℕ) → before.rest ≡ Some r → (limit < length r)
        × (after.rest ≡ Some (drop (limit + 1) r))
    ends r told =
        let (left, parts, left_told) = Consumes-told before.rest after.rest bytes r h.taken
        told in (
          omega (arith, len, simp length-append at (ap length parts)),
          left_told ∙ ap Some
              (sym (ap (drop (limit + 1)) parts ∙ drop_at bytes left (limit + 1) len)),
        )

-- one read that stopped is why all stopped
pub IsCause-from_stop : {before middle after : ShelfState} {had has : List ℕ} {most : ℕ} (limit : ℕ)
    (end : ReadEnd) → HasRead before had middle → ReadsOn middle had most (Err end) has after
    → IsCause before limit end after
IsCause-from_stop limit Fault h r =
    record {
      rose = Rose_later _ _ _ h.kept.faults r.stop.rose;
      unsound = λ sound. r.stop.unsound (h.kept.sound sound);
    }
IsCause-from_stop limit Long h r = absurd r.stop
IsCause-from_stop limit Memory h r = tt

-- what is told has a value
pub told_value : {X : Type 0} (o : Option X) → IsSome o → (x : X) × (o ≡ Some x)
told_value None some = cc some
told_value (Some x) some = (x, refl)
