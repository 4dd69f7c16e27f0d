-- Lemmas on sinks: one write after another.
use Rattle.std.proofs.Common.{◌≡◌, ℕ, ◌+◌, ◌<◌, ◌≤◌, List, [], ◌++◌, length, take, drop, Option, Some, None, Ok, Err, refl, sym, ◌∙◌, ap, arith, append_assoc}
use Rattle.std.proofs.lemmas.List.{append-nil, take_all, length-drop}
use Rattle.std.proofs.Math.Seq.{take-add}
use Rattle.std.specs.Io.KnownBytes.{append_known}
use Rattle.sfm_io.specs.Sink.{SinkState, Writes}
use Rattle.sfm_io.specs.Transfer.{WritesAll}
use Rattle.sfm_io.proofs.FaultLemmas.{Rose_later}

pub append_known-nil : (known : Option (List ℕ)) → append_known known [] ≡ known
append_known-nil None = refl
append_known-nil (Some xs) = ap Some (append-nil xs)

pub append_known-append : (known : Option (List ℕ)) (xs ys : List ℕ)
    → append_known (append_known known xs) ys ≡ append_known known (xs ++ ys)
append_known-append None xs ys = refl
append_known-append (Some zs) xs ys = ap Some (append_assoc zs xs ys)

-- a sink took the first n of these bytes since it was `before`
pub record HasTaken (before : SinkState) (bytes : List ℕ) (n : ℕ) (after : SinkState) : Type 0 where
  pub within : n ≤ length bytes
  pub grows : before.faults ≤ after.faults
  pub taken : after.written ≡ append_known before.written (take n bytes)
  pub empty : length bytes ≡ 0 → after ≡ before

pub HasTaken-none : (s : SinkState) (bytes : List ℕ) → HasTaken s bytes 0 s
HasTaken-none s bytes = record {
  within = omega arith;
  grows = omega arith;
  taken = sym (append_known-nil s.written);
  empty = λ _. refl;
}

-- what one more write takes, of the bytes that are left
pub HasTaken-more : {E : Type 0} {before middle after : SinkState} {bytes : List ℕ} {n k : ℕ}
    → HasTaken before bytes n middle → Writes {E = E} middle (drop n bytes) (Ok k) after
    → n < length bytes → HasTaken before bytes (n + k) after
HasTaken-more {before = before} {middle = middle} {bytes = bytes} {n = n} {k = k} h w lt =
    record {
      within = omega (arith, w.count, length-drop n bytes);
      grows = omega (arith, h.grows, w.grows);
      taken = w.taken ∙ ap (λ z. append_known z (take k (drop n bytes))) h.taken
          ∙ append_known-append before.written (take n bytes) (take k (drop n bytes))
          ∙ ap (append_known before.written) (sym (take-add n k bytes));
      empty = λ e. absurd (omega arith);
    }

-- all of the bytes were taken
pub WritesAll-done : {T E : Type 0} {before after : SinkState} {bytes : List ℕ} {n : ℕ} (x : T)
    → HasTaken before bytes n after → length bytes ≤ n → WritesAll {E = E} before bytes (Ok x) after
WritesAll-done {before = before} {bytes = bytes} {n = n} x h all =
    record {
      grows = h.grows;
      whole = h.taken ∙ ap (append_known before.written) (take_all n bytes all);
      front = tt;
      rose = tt;
      empty = λ e. h.empty (ap length e);
    }

-- a write failed
pub WritesAll-failed : {T E : Type 0} {before middle after : SinkState} {bytes piece : List ℕ}
    {n : ℕ} {e : E} → HasTaken before bytes n middle → Writes middle piece (Err e) after
    → n < length bytes → WritesAll {T = T} before bytes (Err e) after
WritesAll-failed {bytes = bytes} {n = n} h w lt =
    record {
      grows = omega (arith, h.grows, w.grows);
      whole = tt;
      front = (n, lt, w.untouched ∙ h.taken);
      rose = Rose_later _ _ _ h.grows w.rose;
      empty = λ e. absurd (omega (arith, ap length e));
    }
