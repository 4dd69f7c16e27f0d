-- Lists in which something stands twice, or nothing.
use Rattle.std.proofs.Common.{◌≡◌, ◌≢◌, ℕ, suc, ◌+◌, ◌<◌, ◌≤◌, List, [], ◌∷◌, length, get_or, take, map, Contains, Some, Bor, Bool, true, false, not, nat_eq, refl, sym, ap, ◌∙◌, arith}
use Rattle.std.specs.Cmp.Lexicographic.{pointwise, same_text}
use Rattle.std.proofs.lemmas.Bool.{cases_lt}
use Rattle.std.proofs.lemmas.List.Folds.{Any-from_list_any}
use mathlib.Core.Logic.{⊎_elim}
use Rattle.std.specs.List.{All, list_any}
use Rattle.std.proofs.lemmas.Option.{slice_get-get_or, same_Some}
use Rattle.std.proofs.lemmas.List.{get_or-take, get_or_default, length-take, length-map, get_or-map, take-map, take_all, map_more}
use Rattle.std.proofs.lemmas.List.Elements.{All-get_or, All-push}
use Rattle.sfm_lines.specs.TermLines.{StandsTwice}

-- two places with one element
pub twice-at : {X : Type 0} (xs : List X) (i j : ℕ) (d : X) → i < j → j < length xs
    → get_or xs i d ≡ get_or xs j d → StandsTwice xs
twice-at xs i j d lt within e = (
  i,
  j,
  lt,
  within,
  slice_get-get_or xs i d (omega arith)
      ∙ (ap Some e ∙ sym (slice_get-get_or xs j d within)),
)

-- and the way back
pub twice-same : {X : Type 0} (xs : List X) (d : X) (h : StandsTwice xs)
    → get_or xs h.0 d ≡ get_or xs h.1 d
twice-same xs d h =
    let lt : h.0 < length xs = omega (arith, h.2, h.3) in
    same_Some (get_or xs h.0 d) (get_or xs h.1 d)
    (sym (slice_get-get_or xs h.0 d lt) ∙ (h.4 ∙ slice_get-get_or xs h.1 d h.3))

-- one more at the front
pub twice-more : {X : Type 0} (x : X) (xs : List X) → StandsTwice xs → StandsTwice (x ∷ xs)
twice-more x xs t = twice-at (x ∷ xs) (suc t.0) (suc t.1) x (omega (arith, t.2))
    (omega (arith, t.3)) (twice-same xs x t)

-- an element that stands before itself
pub twice-seen : {X : Type 0} (xs : List X) (i : ℕ) (d : X) → i < length xs
    → Contains (take i xs) (get_or xs i d) → StandsTwice xs
twice-seen xs i d lt seen =
    let k = seen.0 in
    let k_lt : k < i = omega (arith, seen.1, length-take i xs) in
    let n : k < length xs = omega arith in
    twice-at xs k i d k_lt lt (get_or_default xs k d (get_or xs i d) n
    ∙ (sym (get_or-take i xs k (get_or xs i d) k_lt) ∙ seen.2))

-- one more element that is new
pub once-more : {X : Type 0} (xs : List X) (i : ℕ) (d : X) → i < length xs
    → (StandsTwice (take i xs) → ⊥) → All (λ x. x ≢ get_or xs i d) (take i xs)
    → StandsTwice (take (i + 1) xs) → ⊥
once-more xs i d lt once new h =
    let len : length (take (i + 1) xs) ≡ i + 1 = omega (arith, length-take (i + 1) xs) in
    let short : length (take i xs) ≡ i = omega (arith, length-take i xs) in
    let k : ℕ = h.0 in
    let j : ℕ = h.1 in
    let order : h.0 < h.1 = h.2 in
    let most : h.1 < i + 1 = omega (arith, h.3, len) in
    let a : get_or (take (i + 1) xs) h.0 d ≡ get_or xs h.0 d = get_or-take (i + 1) xs h.0 d
    (omega (arith, order, most)) in
    let b : get_or (take (i + 1) xs) h.1 d ≡ get_or xs h.1 d = get_or-take (i + 1) xs h.1 d most in
    let same : get_or xs h.0 d ≡ get_or xs h.1 d = sym a ∙ (twice-same (take (i + 1) xs) d h ∙ b) in
    ⊎_elim
    (λ (inside : h.1 < i).
    once (twice-at (take i xs) h.0 h.1 d order (omega (arith, inside, short))
    (get_or-take i xs h.0 d (omega (arith, order, inside))
    ∙ (same ∙ sym (get_or-take i xs h.1 d inside)))))
    (λ (last : i ≤ h.1).
    let is : h.1 ≡ i = omega (arith, last, most) in
    new h.0 d (omega (arith, order, is, short))
    (get_or-take i xs h.0 d (omega (arith, order, is)) ∙ (same ∙ ap (λ n. get_or xs n d) is)))
    (cases_lt h.1 i)

-- whether a key was found, from whether it was added
pub true_from_not : (b r : Bool) → r ≡ not b → r ≡ false → b ≡ true
true_from_not true r e f = refl
true_from_not false r e f = cc

pub false_from_not : (b r : Bool) → r ≡ not b → r ≡ true → b ≡ false
false_from_not true r e f = cc
false_from_not false r e f = refl

-- texts: what stands at a place, and the first of them
pub text-at : (texts : List (Bor (List ℕ))) (i : ℕ) (d : Bor (List ℕ)) → i < length texts
    → get_or (map (λ t. t.now) texts) i [] ≡ (get_or texts i d).now
text-at texts i d lt = get_or-map (λ (t : Bor (List ℕ)). t.now) texts i d [] lt

-- one more text that is new
pub texts-once-more : (texts : List (Bor (List ℕ))) (i : ℕ) (d : Bor (List ℕ)) → i < length texts
    → (StandsTwice (map (λ t. t.now) (take i texts)) → ⊥)
    → All (λ x. x ≢ (get_or texts i d).now) (map (λ t. t.now) (take i texts))
    → StandsTwice (map (λ t. t.now) (take (i + 1) texts)) → ⊥
texts-once-more texts i d lt once new =
    let now : Bor (List ℕ) → List ℕ = λ t. t.now in
    let once' : StandsTwice (take i (map now texts)) → ⊥ = rw (take-map now i texts) once in
    let new' : All (λ x. x ≢ get_or (map now texts) i [])
    (take i (map now texts)) = rw (take-map now i texts, text-at texts i d lt) new in
    rw (sym (take-map now (i + 1) texts))
    (once-more (map now texts) i [] (omega (arith, lt, length-map texts now)) once' new')

-- a text that stands before itself
pub texts-twice : (texts : List (Bor (List ℕ))) (i : ℕ) (d : Bor (List ℕ)) → i < length texts
    → Contains (map (λ t. t.now) (take i texts)) (get_or texts i d).now
    → StandsTwice (map (λ t. t.now) texts)
texts-twice texts i d lt seen =
    let now : Bor (List ℕ) → List ℕ = λ t. t.now in
    let seen' : Contains (take i (map now texts))
    (get_or (map now texts) i []) = rw (take-map now i texts, text-at texts i d lt) seen in
    twice-seen (map now texts) i [] (omega (arith, lt, length-map texts now)) seen'

-- a key that a search finds is among the texts
pub found-among : (keys : List (Bor (List ℕ))) (name : List ℕ)
    → list_any (λ y. pointwise nat_eq name y.now) keys ≡ true
    → Contains (map (λ t. t.now) keys) name
found-among keys name h =
    let now : Bor (List ℕ) → List ℕ = λ t. t.now in
    let (k, x, lt, is, same) = Any-from_list_any (λ (y : Bor (List ℕ)). pointwise nat_eq name y.now)
    keys h in (
      k,
      omega (arith, lt, length-map keys now),
      get_or-map now keys k x name lt
          ∙ (ap now is ∙ sym (same_text _ _ (sym same))),
    )

-- what holds of all texts holds of the one at a place
pub All-text : (P : List ℕ → Type 0) (texts : List (Bor (List ℕ))) (i : ℕ) (d : Bor (List ℕ))
    → i < length texts → All P (map (λ t. t.now) texts) → P (get_or texts i d).now
All-text P texts i d lt all =
    let now : Bor (List ℕ) → List ℕ = λ t. t.now in
    let at = All-get_or P (map now texts) i [] (omega (arith, lt, length-map texts now)) all in
    rw (text-at texts i d lt) at at

-- one more text of which something holds
pub All-texts-more : (P : List ℕ → Type 0) (texts : List (Bor (List ℕ))) (i : ℕ) (d : Bor (List ℕ))
    → i < length texts → All P (map (λ t. t.now) (take i texts)) → P (get_or texts i d).now
    → All P (map (λ t. t.now) (take (i + 1) texts))
All-texts-more P texts i d lt all p =
    let now : Bor (List ℕ) → List ℕ = λ t. t.now in
    rw (map_more now texts i d lt)
    (All-push P (map now (take i texts)) (get_or texts i d).now all p)

-- and of all of them
pub All-texts-end : (P : List ℕ → Type 0) (texts : List (Bor (List ℕ))) (i : ℕ) → length texts ≤ i
    → All P (map (λ t. t.now) (take i texts)) → All P (map (λ t. t.now) texts)
All-texts-end P texts i ge all = rw (take_all i texts ge) at all
