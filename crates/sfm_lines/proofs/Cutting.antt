-- Cutting a token at its one byte of some kind.
use Rattle.std.proofs.Common.{◌≡◌, ◌≢◌, ℕ, ◌+◌, ◌<◌, ◌≤◌, List, [], ◌∷◌, ◌++◌, length, get_or, take, drop, refl, sym, ap, ◌∙◌, add-one, arith}
use Rattle.std.specs.Prelude.{◌==◌}
use Rattle.std.specs.List.{All, position_or_len}
use Rattle.std.proofs.lemmas.Bool.{true≢false, eq-eqb, eqb-true}
use Rattle.std.proofs.lemmas.List.{get_or-take, length-take}
use Rattle.std.proofs.lemmas.List.Sums.{fails_before_first, passes_at_first}
use Prim.Native.Nat.{zero, suc}
use Rattle.sfm_lines.specs.Parts.{IsCutAt}
use Rattle.sfm_lines.specs.CutParts.{IsFirstAt}

cut-suc : (b : ℕ) (xs : List ℕ) (place : ℕ) → place < length xs → get_or xs place 0 ≡ b
    → xs ≡ take place xs ++ b ∷ drop (suc place) xs
cut-suc b [] place lt e = absurd (omega arith)
cut-suc b (x ∷ xs) zero lt e = ap (λ (c : ℕ). c ∷ xs) e
cut-suc b (x ∷ xs) (suc place) lt e =
    ap (λ (l : List ℕ). x ∷ l) (cut-suc b xs place (omega arith) e)

-- a list is what stands before a place, what stands there, and what stands behind it
pub cut-at : (b : ℕ) (xs : List ℕ) (place : ℕ) → place < length xs → get_or xs place 0 ≡ b
    → xs ≡ take place xs ++ b ∷ drop (place + 1) xs
cut-at b xs place lt e = rw (add-one place) (cut-suc b xs place lt e)

pub tail-none : {X : Type 0} (b c : X) (xs : List X) → All (λ e. e ≢ b) (c ∷ xs)
    → All (λ e. e ≢ b) xs
tail-none b c xs h = λ k d lt. h (suc k) d (omega arith)

-- the place at which a search for the byte ends, where there is one, and where there is none
pub first-at : (b : ℕ) (text : List ℕ) (place : ℕ) → place ≡ position_or_len (λ c. c == b) text
    → place < length text → IsFirstAt b text place
first-at b text place is lt = record {
  within = lt;
  here = rw is (eqb-true _ b (passes_at_first (λ c. c == b) text 0 (omega (arith, is, lt))));
  none_before = λ k d m same.
      let below : k < position_or_len (λ c. c == b)
      text = omega (arith, is, m, length-take place text) in
      let no = fails_before_first (λ c. c == b) text k d below in
      true≢false (sym
      (eq-eqb _ b (sym (get_or-take place text k d (omega (arith, m, length-take place text)))
      ∙ same)) ∙ no);
}

pub none-at : (b : ℕ) (text : List ℕ) (place : ℕ) → place ≡ position_or_len (λ c. c == b) text
    → length text ≤ place → All (λ c. c ≢ b) text
none-at b text place is ge = λ k d lt same.
    true≢false (sym (eq-eqb _ b same)
    ∙ fails_before_first (λ c. c == b) text k d (omega (arith, is, ge, lt)))

-- two cuts at the first byte b are one
pub front-same : {X : Type 0} (b : X) (x y x' y' : List X) → All (λ c. c ≢ b) x
    → All (λ c. c ≢ b) x' → x ++ b ∷ y ≡ x' ++ b ∷ y' → (x ≡ x') × (y ≡ y')
front-same b [] y [] y' h h' e = (refl, cc)
front-same b [] y (c ∷ x') y' h h' e = let same : c ≡ b = cc in absurd (h' 0 b (omega arith) same)
front-same b (c ∷ x) y [] y' h h' e = let same : c ≡ b = cc in absurd (h 0 b (omega arith) same)
front-same b (c ∷ x) y (c' ∷ x') y' h h' e =
    let first : c ≡ c' = cc in
    let more : x ++ b ∷ y ≡ x' ++ b ∷ y' = cc in
    let (same, behind) = front-same b x y x' y' (tail-none b c x h) (tail-none b c' x' h') more in
    (cc, behind)

-- a text without the byte is not cut
pub uncut : (b : ℕ) (token before behind : List ℕ) → All (λ c. c ≢ b) token
    → IsCutAt b token before behind → ⊥
uncut b token before behind none h = none_in before behind (rw (h.cut) at none)
  where
    none_in : (before behind : List ℕ) → All (λ c. c ≢ b) (before ++ b ∷ behind) → ⊥
    none_in [] behind none = none 0 0 (omega arith) refl
    none_in (c ∷ before) behind none =
        none_in before behind (tail-none b c (before ++ b ∷ behind) none)

-- a text with the byte again behind the first is not cut
pub uncut-again : (b : ℕ) (token : List ℕ) (place again : ℕ) (before behind : List ℕ)
    → IsFirstAt b token place → IsFirstAt b (drop (place + 1) token) again
    → IsCutAt b token before behind → ⊥
uncut-again b token place again before behind first second h =
    let whole = cut-at b token place first.within first.here in
    let same = front-same b before behind (take place token) (drop (place + 1) token) h.none_before
    first.none_before (sym h.cut ∙ whole) in
    let none : All (λ c. c ≢ b) (drop (place + 1) token) = rw same.1 at h.none_behind in
    none again 0 second.within second.here

pub cut-first : (b : ℕ) (token : List ℕ) (place : ℕ) → IsFirstAt b token place
    → All (λ c. c ≢ b) (drop (place + 1) token)
    → IsCutAt b token (take place token) (drop (place + 1) token)
cut-first b token place first none = record {
  cut = cut-at b token place first.within first.here;
  none_before = first.none_before;
  none_behind = none;
}
