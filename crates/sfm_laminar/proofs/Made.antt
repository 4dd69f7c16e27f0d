-- Lists that are made one item after another.
use Rattle.std.proofs.Common.{◌≡◌, ℕ, ◌+◌, ◌<◌, ◌≤◌, List, [], ◌∷◌, ◌++◌, length, get_or, ◌∙◌, arith, ⊎_elim}
use Rattle.std.proofs.lemmas.Bool.{cases_lt}
use Rattle.std.proofs.lemmas.List.{get_or_push, get_or_append_left, length_push}

-- the first n items
abbrev pub AreMade : (A : Type 0) → A → (ℕ → A) → ℕ → List A → Type 0
AreMade A d item n list = record {
  places : length list ≡ n;
  each : (p : ℕ) → p < n → get_or list p d ≡ item p;
}

pub made_more : (A : Type 0) (d : A) (item : ℕ → A) (n : ℕ) (list : List A) (a : A)
    → AreMade A d item n list → a ≡ item n → AreMade A d item (n + 1) (list ++ a ∷ [])
made_more A d item n list a made here = record {
  places = (let l = length_push list a in omega (arith, l, made.places));
  each = λ p lt. ⊎_elim
      (λ (l : p < n). get_or_append_left list (a ∷ []) d p (omega (arith, made.places, l))
      ∙ made.each p l)
      (λ (ge : n ≤ p). let at : p ≡ n = omega arith in rw at
      (get_or_push list a d n made.places ∙ here))
      (cases_lt p n);
}
