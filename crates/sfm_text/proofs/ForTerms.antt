-- The numbers of the lines of terms: each number of a term line as often as its line has terms.
use Rattle.std.proofs.Common.{◌≡◌, ◌⊎◌, ⊎_elim, inl, inr, nat_eq, Bool, true, false, if◌then◌else◌, min, ℕ, zero, suc, ◌+◌, ◌<◌, ◌≤◌, max, List, [], ◌∷◌, ◌++◌, length, get_or, take, map, replicate, refl, sym, ap, ◌∙◌, append_assoc, add-one, arith, length-append}
use Rattle.std.proofs.lemmas.Bool.{cases_lt, eqb-true}
use Rattle.std.proofs.lemmas.List.{append-nil, length-replicate}
use Rattle.std.proofs.lemmas.List.Sums.{sum_by-cons}
use Rattle.sfm_kind.specs.Instance.{width_of, terms_in}
use Rattle.sfm_text.specs.Numbered.{for_terms}

-- a line has the terms of its layers, and at least one
pub width-is : (n m : ℕ) → m ≡ max n 1 → m ≡ width_of n
width-is zero m e = omega (arith, e)
width-is (suc n) m e = at (nat_eq (suc n) 0) refl
  where
    at : (b : Bool) → nat_eq (suc n) 0 ≡ b → m ≡ (if b then 1 else suc n)
    at true is = absurd (omega (arith, eqb-true (suc n) 0 is))
    at false is = omega (arith, e)

-- what is past the shorter of two is past one of them
pub past-min : (a b i : ℕ) → min a b ≤ i → (a ≤ i) ⊎ (b ≤ i)
past-min a b i le = ⊎_elim (λ (lt : i < a). inr (omega (arith, le, lt))) (λ (ge : a ≤ i). inl ge)
    (cases_lt i a)

next-line : (layers items : List ℕ) (i c d : ℕ) → i < length layers → i < length items
    → for_terms (take (suc i) layers) (take (suc i) items) ≡ for_terms (take i layers)
    (take i items) ++ replicate (width_of (get_or layers i c)) (get_or items i d)
next-line [] items i c d lt within = absurd (omega (arith, lt))
next-line (n ∷ layers) [] i c d lt within = absurd (omega (arith, within))
next-line (n ∷ layers) (item ∷ items) zero c d lt within = append-nil (replicate (width_of n) item)
next-line (n ∷ layers) (item ∷ items) (suc i) c d lt within =
    let rest = next-line layers items i c d (omega (arith, lt)) (omega (arith, within)) in
    ap (λ (l : List ℕ). replicate (width_of n) item ++ l) rest
    ∙ sym (append_assoc (replicate (width_of n) item) (for_terms (take i layers) (take i items))
    _)

-- one more line
pub for_terms-more : (layers items : List ℕ) (i c d : ℕ) → i < length layers → i < length items
    → for_terms (take (i + 1) layers) (take (i + 1) items) ≡ for_terms (take i layers)
    (take i items) ++ replicate (width_of (get_or layers i c)) (get_or items i d)
for_terms-more layers items i c d lt within =
    rw (add-one i) (next-line layers items i c d lt within)

-- and all of them
pub for_terms-all : (layers items : List ℕ) (i : ℕ) → (length layers ≤ i) ⊎ (length items ≤ i)
    → for_terms (take i layers) (take i items) ≡ for_terms layers items
for_terms-all [] items zero past = refl
for_terms-all [] items (suc i) past = refl
for_terms-all (n ∷ layers) [] zero past = refl
for_terms-all (n ∷ layers) [] (suc i) past = refl
for_terms-all (n ∷ layers) (item ∷ items) zero (inl past) = absurd (omega (arith, past))
for_terms-all (n ∷ layers) (item ∷ items) zero (inr past) = absurd (omega (arith, past))
for_terms-all (n ∷ layers) (item ∷ items) (suc i) (inl past) =
    ap (λ (l : List ℕ). replicate (width_of n) item ++ l)
    (for_terms-all layers items i (inl (omega (arith, past))))
for_terms-all (n ∷ layers) (item ∷ items) (suc i) (inr past) =
    ap (λ (l : List ℕ). replicate (width_of n) item ++ l)
    (for_terms-all layers items i (inr (omega (arith, past))))

-- there are as many as there are terms
pub length-for_terms : (layers items : List ℕ) → length items ≡ length layers
    → length (for_terms layers items) ≡ terms_in layers
length-for_terms [] [] e = refl
length-for_terms [] (item ∷ items) e = absurd (omega (arith, e))
length-for_terms (n ∷ layers) [] e = absurd (omega (arith, e))
length-for_terms (n ∷ layers) (item ∷ items) e =
    let rest = length-for_terms layers items (omega (arith, e)) in
    let one = length-replicate (width_of n) item in
    let both = length-append (replicate (width_of n) item) (for_terms layers items) in
    let all = sum_by-cons (λ (k : ℕ). k) (width_of n) (map width_of layers) in
    omega (arith, rest, one, both, all)
