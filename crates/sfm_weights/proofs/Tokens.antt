-- The tokens of a line that is put together, and what each token of a line is.
use Rattle.std.proofs.Common.{◌≡◌, ℕ, ◌<◌, Bool, true, false, cond, List, [], ◌∷◌, ◌++◌, length, refl, sym, ap, subst, ◌∙◌, append_assoc, arith}
use Rattle.std.specs.Prelude.{Result, Ok, Err, OnOk, is_ok, if◌then◌else◌}
use Rattle.std.specs.List.{All, slice_split, onto_first, filter}
use Rattle.std.proofs.lemmas.List.Splits.{slice_split_none, length-slice_split}
use Rattle.std.proofs.lemmas.List.Elements.{All-nil, All-cons, All-head, All-tail}
use Rattle.sfm_lines.specs.Lines.{has_bytes, tokens_of}
use Rattle.sfm_lines.specs.Tokens.{is_blank}
use Rattle.sfm_weights.specs.Plain.{IsToken}

onto-append : (x : ℕ) (a b : List (List ℕ)) → 0 < length a
    → onto_first x (a ++ b) ≡ onto_first x a ++ b
onto-append x [] b some = absurd (omega (arith, some))
onto-append x (part ∷ a) b some = refl

-- a list is cut at what passes, into the pieces before it and those behind it
split-append : (p : ℕ → Bool) (xs : List ℕ) (y : ℕ) (ys : List ℕ) → p y ≡ true
    → slice_split p (xs ++ y ∷ ys) ≡ slice_split p xs ++ slice_split p ys
split-append p [] y ys is = rw is refl
split-append p (x ∷ xs) y ys is =
    let rest = split-append p xs y ys is in
    elim (p x) as (λ b. cond b ([] ∷ slice_split p (xs ++ y ∷ ys))
    (onto_first x (slice_split p (xs ++ y ∷ ys))) ≡ cond b ([] ∷ slice_split p xs)
    (onto_first x (slice_split p xs)) ++ slice_split p ys) [
      | true ↦ ap (λ (l : List (List ℕ)). [] ∷ l) rest
      | false ↦ ap (λ (l : List (List ℕ)). onto_first x l) rest
          ∙ onto-append x (slice_split p xs) (slice_split p ys)
          (omega (arith, length-slice_split p xs))
    ]

kept-append : (a b : List (List ℕ)) → filter has_bytes (a ++ b) ≡ filter has_bytes a ++ filter
    has_bytes b
kept-append [] b = refl
kept-append ([] ∷ a) b = kept-append a b
kept-append ((c ∷ t) ∷ a) b = ap (λ (l : List (List ℕ)). (c ∷ t) ∷ l) (kept-append a b)

-- the tokens of two lines with a space between them
pub tokens-append : (xs ys : List ℕ) → tokens_of (xs ++ 32 ∷ ys) ≡ tokens_of xs ++ tokens_of ys
tokens-append xs ys = ap (λ (l : List (List ℕ)). filter has_bytes l)
    (split-append is_blank xs 32 ys refl)
    ∙ kept-append (slice_split is_blank xs) (slice_split is_blank ys)

one-kept : (t : List ℕ) → 0 < length t → filter has_bytes (t ∷ []) ≡ t ∷ []
one-kept [] some = absurd (omega (arith, some))
one-kept (c ∷ t) some = refl

-- a token is cut into itself alone
pub token-one : (t : List ℕ) → IsToken t → tokens_of t ≡ t ∷ []
token-one t h = ap (λ (l : List (List ℕ)). filter has_bytes l) (slice_split_none is_blank t h.clean)
    ∙ one-kept t h.some

-- ---- what the tokens of a line are

abbrev IsClean : List ℕ → Type 0
IsClean piece = All (λ c. is_blank c ≡ false) piece

onto-clean : (x : ℕ) (pieces : List (List ℕ)) → is_blank x ≡ false → All IsClean pieces
    → All IsClean (onto_first x pieces)
onto-clean x [] is h = All-cons IsClean (x ∷ []) []
    (All-cons (λ c. is_blank c ≡ false) x [] is (All-nil (λ c. is_blank c ≡ false)))
    (All-nil IsClean)
onto-clean x (piece ∷ pieces) is h =
    All-cons IsClean (x ∷ piece) pieces
    (All-cons (λ c. is_blank c ≡ false) x piece is (All-head IsClean piece pieces h))
    (All-tail IsClean piece pieces h)

clean-more : (b : Bool) (x : ℕ) (pieces : List (List ℕ)) → is_blank x ≡ b → All IsClean pieces
    → All IsClean (cond b ([] ∷ pieces) (onto_first x pieces))
clean-more true x pieces is h = All-cons IsClean [] pieces (All-nil (λ c. is_blank c ≡ false)) h
clean-more false x pieces is h = onto-clean x pieces is h

clean-pieces : (xs : List ℕ) → All IsClean (slice_split is_blank xs)
clean-pieces [] = All-cons IsClean [] [] (All-nil (λ c. is_blank c ≡ false)) (All-nil IsClean)
clean-pieces (x ∷ xs) = clean-more (is_blank x) x (slice_split is_blank xs) refl (clean-pieces xs)

kept-tokens : (pieces : List (List ℕ)) → All IsClean pieces → All IsToken (filter has_bytes pieces)
kept-tokens [] h = All-nil IsToken
kept-tokens ([] ∷ pieces) h = kept-tokens pieces (All-tail IsClean [] pieces h)
kept-tokens ((c ∷ t) ∷ pieces) h =
    All-cons IsToken (c ∷ t) (filter has_bytes pieces)
    (record { some = omega arith; clean = All-head IsClean (c ∷ t) pieces h })
    (kept-tokens pieces (All-tail IsClean (c ∷ t) pieces h))

pub tokens-clean : (line : List ℕ) → All IsToken (tokens_of line)
tokens-clean line = kept-tokens (slice_split is_blank line) (clean-pieces line)

-- and the first of them
pub first-clean : (line t : List ℕ) (rest : List (List ℕ)) → tokens_of line ≡ t ∷ rest → IsToken t
first-clean line t rest e = All-head IsToken t rest
    (subst (λ (l : List (List ℕ)). All IsToken l) e (tokens-clean line))

-- ---- what is put behind a line

-- a space and more
pub put-as : {A E : Type 0} (result : Result A E) (old spaced new more : List ℕ)
    (tokens : List (List ℕ)) → spaced ≡ old ++ 32 ∷ []
    → new ≡ (if is_ok result then spaced ++ more else spaced) → tokens_of more ≡ tokens
    → OnOk result (tokens_of new ≡ tokens_of old ++ tokens)
put-as (Ok a) old spaced new more tokens is put are =
    let whole : new ≡ old ++ 32 ∷ more = put
    ∙ (ap (λ (l : List ℕ). l ++ more) is ∙ append_assoc old (32 ∷ []) more) in
    ap (λ (l : List ℕ). tokens_of l) whole
    ∙ (tokens-append old more ∙ ap (λ (l : List (List ℕ)). tokens_of old ++ l) are)
put-as (Err e) old spaced new more tokens is put are = tt

-- ---- tokens that have been passed

pub tokens-more : {X : Type 0} (done : List X) (x : X) (more left all : List X) → all ≡ done ++ left
    → left ≡ x ∷ more → all ≡ (done ++ x ∷ []) ++ more
tokens-more done x more left all e is =
    e ∙ (ap (λ l. done ++ l) is ∙ sym (append_assoc done (x ∷ []) more))
