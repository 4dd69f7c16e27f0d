-- The list of the demands of which something is told, as an answer is told and as places are added.
use Rattle.std.proofs.Common.{◌≡◌, ℕ, ◌<◌, ◌≤◌, true, List, [], ◌∷◌, ◌++◌, ◌+◌, length, set, Option, Some, None, is_some, refl, sym, ◌∙◌, arith, ⊎_elim, length-set, get_or-set_other}
use Rattle.std.proofs.lemmas.Bool.{cases_eq, cases_lt, false≢true}
use Rattle.std.proofs.lemmas.List.{length_push, get_or_push, get_or_append_left}
use Rattle.sfm_assign.specs.Spread.{answer_at, AreListed}
use Rattle.sfm_assign.specs.declared.spread.Answer.{Answer}

pub some_of : (o : Option Answer) → is_some o ≡ true → (a : Answer) × (o ≡ Some a)
some_of None t = absurd (false≢true t)
some_of (Some a) t = (a, refl)

pub listed_told : (answers : List (Option Answer)) (list : List ℕ) (u : ℕ) (a : Answer)
    → u < length answers → AreListed answers list
    → AreListed (set answers u (Some a)) (list ++ u ∷ [])
listed_told answers list u a lu h = record {
  below = λ k lt. ⊎_elim
      (λ (l : k < length list). let q = get_or_append_left list (u ∷ []) 0 k l in let b = h.below k
      l in omega (arith, long, q, b))
      (λ ge. let q = get_or_push list u 0 k
      (omega (arith, ge, lt, more)) in omega (arith, long, q, lu))
      (cases_lt k (length list));
  all = λ v known. let (b, is) = known in ⊎_elim
      (λ (q : v ≡ u). (
        length list,
        omega (arith, more),
        get_or_push list u 0 (length list) refl
            ∙ sym q,
      ))
      (λ ne. let (k, lk, q) = h.all v
      (b, sym (get_or-set_other answers u v (Some a) None ne) ∙ is) in (
        k,
        omega (arith, more, lk),
        get_or_append_left list (u ∷ []) 0 k lk ∙ q,
      ))
      (cases_eq v u);
} where
  long : length (set answers u (Some a)) ≡ length answers
  long = length-set answers u (Some a)

  more : length (list ++ u ∷ []) ≡ length list + 1
  more = length_push list u

pub listed_wider : (before after : List (Option Answer)) (list : List ℕ)
    → length before ≤ length after → ((u : ℕ) → answer_at after u ≡ answer_at before u)
    → AreListed before list → AreListed after list
listed_wider before after list more same h = record {
  below = λ k lt. let b = h.below k lt in omega (arith, b, more);
  all = λ u known. let (a, is) = known in h.all u (a, sym (same u) ∙ is);
}

pub listed_nothing : (answers : List (Option Answer)) → ((u : ℕ) → answer_at answers u ≡ None)
    → AreListed answers []
listed_nothing answers none = record {
  below = λ k lt. absurd (omega (arith, lt));
  all = λ u known. let (a, is) = known in absurd (apart (sym (none u) ∙ is));
} where
  apart : {a : Answer} → None ≡ Some a → ⊥
  apart h = cc
