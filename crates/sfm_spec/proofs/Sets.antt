-- Members of unions and intersections, and a search through all sets.
use Rattle.std.proofs.Common.{◌≡◌, ◌⊎◌, ℕ, zero, suc, ◌<◌, Bool, true, false, ◌&&◌, ◌||◌, List, [], ◌∷◌, length, get_or, refl, sym, ◌∙◌, arith, inl, inr}
use Rattle.std.proofs.lemmas.Bool.{or_cases, or_left, or_right, and_from, and_parts, cases_Bool}
use Rattle.std.proofs.lemmas.List.{ext_get_or, get_or-replicate}
use Rattle.sfm_spec.specs.Sets.{Has, whole_set, union, intersection}

-- a place of a union
pub get_or-union : (s t : List Bool) (e : ℕ) → length s ≡ length t
    → get_or (union s t) e false ≡ (get_or s e false || get_or t e false)
get_or-union [] [] e h = refl
get_or-union [] (b ∷ t) e h = absurd (omega arith)
get_or-union (a ∷ s) [] e h = absurd (omega arith)
get_or-union (a ∷ s) (b ∷ t) zero h = refl
get_or-union (a ∷ s) (b ∷ t) (suc e) h = get_or-union s t e (omega arith)

-- a place of an intersection
pub get_or-intersection : (s t : List Bool) (e : ℕ) → length s ≡ length t
    → get_or (intersection s t) e false ≡ (get_or s e false && get_or t e false)
get_or-intersection [] [] e h = refl
get_or-intersection [] (b ∷ t) e h = absurd (omega arith)
get_or-intersection (a ∷ s) [] e h = absurd (omega arith)
get_or-intersection (a ∷ s) (b ∷ t) zero h = refl
get_or-intersection (a ∷ s) (b ∷ t) (suc e) h = get_or-intersection s t e (omega arith)

-- what is in a union is in one of the sets
pub in_union : (s t : List Bool) (e : ℕ) → length s ≡ length t → Has (union s t) e → Has s e
    ⊎ Has t e
in_union s t e h k = or_cases (get_or s e false) (get_or t e false) (sym (get_or-union s t e h) ∙ k)

-- what is in the first set is in the union
pub union_left : (s t : List Bool) (e : ℕ) → length s ≡ length t → Has s e → Has (union s t) e
union_left s t e h k = get_or-union s t e h ∙ or_left (get_or s e false) (get_or t e false) k

-- what is in the second set is in the union
pub union_right : (s t : List Bool) (e : ℕ) → length s ≡ length t → Has t e → Has (union s t) e
union_right s t e h k = get_or-union s t e h ∙ or_right (get_or s e false) (get_or t e false) k

-- what is in both sets is in the intersection
pub in_both : (s t : List Bool) (e : ℕ) → length s ≡ length t → Has s e → Has t e
    → Has (intersection s t) e
in_both s t e h k l = get_or-intersection s t e h ∙ and_from (get_or s e false) (get_or t e false) k
    l

-- what is in the intersection is in the first set
pub in_first : (s t : List Bool) (e : ℕ) → length s ≡ length t → Has (intersection s t) e → Has s e
in_first s t e h k = (and_parts (get_or s e false) (get_or t e false)
    (sym (get_or-intersection s t e h) ∙ k)).0

-- what is in the intersection is in the second set
pub in_second : (s t : List Bool) (e : ℕ) → length s ≡ length t → Has (intersection s t) e → Has t e
in_second s t e h k = (and_parts (get_or s e false) (get_or t e false)
    (sym (get_or-intersection s t e h) ∙ k)).1

-- each place is in the whole set
pub Has-whole : (n e : ℕ) → e < n → Has (whole_set n) e
Has-whole n e h = get_or-replicate n e true false h

-- a place is in a set, or it is not
pub has_or_not : (s : List Bool) (e : ℕ) → Has s e ⊎ (get_or s e false ≡ false)
has_or_not s e = cases_Bool (get_or s e false)

-- two sets of the same places are equal
pub same_sets : (s t : List Bool) → length s ≡ length t
    → ((e : ℕ) → e < length s → Has s e → Has t e) → ((e : ℕ) → e < length s → Has t e → Has s e)
    → s ≡ t
same_sets s t h to from = ext_get_or false s t h
    (λ e k. same (get_or s e false) (get_or t e false) (to e k) (from e k)) where
      same : (a b : Bool) → (a ≡ true → b ≡ true) → (b ≡ true → a ≡ true) → a ≡ b
      same true b f g = sym (f refl)
      same false true f g = g refl
      same false false f g = refl

-- ---- a search through all sets of n places

-- a set of n places that has the test
abbrev pub FoundSet : ℕ → (List Bool → Bool) → Type 0
FoundSet n p = (s : List Bool) × (length s ≡ n) × (p s ≡ true)

-- some set of n places has the test, or none has it
pub find_set : (n : ℕ) (p : List Bool → Bool) → FoundSet n p
    ⊎ ((s : List Bool) → length s ≡ n → p s ≡ false)
find_set zero p = at_nil (p []) refl where
  none_here : p [] ≡ false → (s : List Bool) → length s ≡ zero → p s ≡ false
  none_here e [] h = e
  none_here e (a ∷ s) h = absurd (omega arith)

  at_nil : (b : Bool) → p [] ≡ b → FoundSet zero p
      ⊎ ((s : List Bool) → length s ≡ zero → p s ≡ false)
  at_nil true e = inl ([], refl, e)
  at_nil false e = inr (none_here e)
find_set (suc n) p = both (find_set n (λ s. p (true ∷ s))) (find_set n (λ s. p (false ∷ s))) where
  none_here : ((s : List Bool) → length s ≡ n → p (true ∷ s) ≡ false)
      → ((s : List Bool) → length s ≡ n → p (false ∷ s) ≡ false) → (s : List Bool)
      → length s ≡ suc n → p s ≡ false
  none_here f g [] h = absurd (omega arith)
  none_here f g (true ∷ s) h = f s (omega arith)
  none_here f g (false ∷ s) h = g s (omega arith)

  both : FoundSet n (λ s. p (true ∷ s)) ⊎ ((s : List Bool) → length s ≡ n → p (true ∷ s) ≡ false)
      → FoundSet n (λ s. p (false ∷ s)) ⊎ ((s : List Bool) → length s ≡ n → p (false ∷ s) ≡ false)
      → FoundSet (suc n) p ⊎ ((s : List Bool) → length s ≡ suc n → p s ≡ false)
  both (inl (s, h, e)) r = inl (true ∷ s, omega arith, e)
  both (inr f) (inl (s, h, e)) = inl (false ∷ s, omega arith, e)
  both (inr f) (inr g) = inr (none_here f g)
