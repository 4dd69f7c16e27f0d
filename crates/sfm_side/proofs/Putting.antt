-- Pairs that are put one after another: what the sizes that are known are behind them, and which
-- element stands twice.
use Rattle.std.proofs.Common.{◌≡◌, ◌≢◌, ◌⊎◌, inl, inr, ℕ, zero, suc, ◌<◌, ◌≤◌, List, [], ◌∷◌, length, get_or, map, set, slice_get, Option, Some, None, Contains, AllPairs, ℤ, refl, sym, ap, ◌∙◌, arith}
use Rattle.std.specs.Prelude.{fold, zip}
use Rattle.std.specs.List.{All, Any, AllZip}
use Rattle.std.proofs.lemmas.Bool.{cases_lt}
use Rattle.std.proofs.lemmas.Option.{slice_get-get_or, slice_get_within, same_Some}
use Rattle.std.proofs.lemmas.List.{get_or-set_same, get_or-set_other, length-set}
use Rattle.sfm_lines.specs.Parts.{IsPairToken}
use Rattle.sfm_lines.specs.TermLines.{StandsTwice}
use Rattle.sfm_lines.proofs.Repeats.{twice-at, twice-more}
use Rattle.sfm_lines.proofs.TermReasons.{place-same}
use Rattle.sfm_lines.proofs.WordLines.{pair-same}
use Rattle.sfm_side.specs.Sizes.{IsSize}
use Rattle.sfm_side.specs.SizeLines.{IsSizePair, Puts, PutsTwice}

-- what holds of all of a list, of its first item and of the others
pub all-first : {X : Type 0} (P : X → Type 0) (x : X) (xs all : List X) → all ≡ x ∷ xs → All P all
    → P x
all-first P x xs all e h = let whole : All P (x ∷ xs) = rw e at h in whole 0 x (omega arith)

pub all-rest : {X : Type 0} (P : X → Type 0) (x : X) (xs all : List X) → all ≡ x ∷ xs → All P all
    → All P xs
all-rest P x xs all e h = let whole : All P (x ∷ xs) = rw e at h in λ k d lt.
    whole (suc k) d (omega (arith, lt))

-- a list with one item changed: that one, and another
pub set-here : {X : Type 0} (xs : List X) (e : ℕ) (x y : X) → slice_get xs e ≡ Some y
    → slice_get (set xs e x) e ≡ Some x
set-here xs e x y there =
    let lt = slice_get_within xs e y there in
    slice_get-get_or (set xs e x) e x (omega (arith, lt, length-set xs e x))
    ∙ ap Some (get_or-set_same xs e x x lt)

pub set-other : {X : Type 0} (xs : List X) (e f : ℕ) (x y : X) → (f ≢ e) → slice_get xs f ≡ Some y
    → slice_get (set xs e x) f ≡ Some y
set-other xs e f x y other there =
    let lt = slice_get_within xs f y there in
    slice_get-get_or (set xs e x) f y (omega (arith, lt, length-set xs e x))
    ∙ (ap Some (get_or-set_other xs e f x y other) ∙ (sym (slice_get-get_or xs f y lt) ∙ there))

pub set-back : {X : Type 0} (xs : List X) (e f : ℕ) (x y : X) → (f ≢ e)
    → slice_get (set xs e x) f ≡ Some y → slice_get xs f ≡ Some y
set-back xs e f x y other there =
    let lt : f < length xs = omega (
      arith,
      slice_get_within (set xs e x) f y there,
      length-set xs e x,
    ) in
    slice_get-get_or xs f y lt ∙ (ap Some (sym (get_or-set_other xs e f x y other))
    ∙ (sym (slice_get-get_or (set xs e x) f y (slice_get_within (set xs e x) f y there))
    ∙ there))

pub same-or-other : (e f : ℕ) → (f ≡ e) ⊎ (f ≢ e)
same-or-other e f = at (cases_lt e f) (cases_lt f e)
  where
    at : (e < f) ⊎ (f ≤ e) → (f < e) ⊎ (e ≤ f) → (f ≡ e) ⊎ (f ≢ e)
    at (inl lt) more = inr (λ same. omega (arith, lt, same))
    at (inr le) (inl lt) = inr (λ same. omega (arith, lt, same))
    at (inr le) (inr ge) = inl (omega (arith, le, ge))

-- what stands twice in a list stands at its front and behind it, or twice behind it
pub twice-cons : {X : Type 0} (x : X) (xs : List X) → StandsTwice (x ∷ xs)
    → Contains xs x ⊎ StandsTwice xs
twice-cons x xs (zero, zero, lt, within, e) = absurd (omega (arith, lt))
twice-cons x xs (suc i, zero, lt, within, e) = absurd (omega (arith, lt))
twice-cons x xs (zero, suc k, lt, within, e) =
    let short : k < length xs = omega (arith, within) in
    inl (k, short, same_Some (get_or xs k x) x (sym (slice_get-get_or xs k x short) ∙ sym e))
twice-cons x xs (suc i, suc k, lt, within, e) =
    inr (i, k, omega (arith, lt), omega (arith, within), e)

-- a name among the texts is that of an element that has a size
abbrev pub IsSized : (names : List (List ℕ)) (given : List (Option ℤ)) (texts : List (List ℕ))
    → Type 0
IsSized names given texts = Any
    (λ text. (e : ℕ) × (size : ℤ) × (slice_get names e ≡ Some text)
    × (slice_get given e ≡ Some (Some size))) texts

-- the names and the numbers of pairs
abbrev pub names_in : List (List ℕ × List ℕ) → List (List ℕ)
names_in pairs = map (λ pair. pair.0) pairs

abbrev pub numbers_in : List (List ℕ × List ℕ) → List (List ℕ)
numbers_in pairs = map (λ pair. pair.1) pairs

module _ (names : List (List ℕ)) (distinct : AllPairs (λ a b. a ≢ b) names) where
  -- the element of a pair
  named : (token : List ℕ) (e : ℕ) (v : ℤ) (pair : List ℕ × List ℕ) → IsSizePair names token e v
      → IsPairToken token pair → slice_get names e ≡ Some pair.0
  named token e v pair is cut = is.element
      ∙ ap (λ (p : List ℕ × List ℕ). Some p.0) (pair-same token is.pair pair is.cut cut)

  sized : (token : List ℕ) (e : ℕ) (v : ℤ) (pair : List ℕ × List ℕ) → IsSizePair names token e v
      → IsPairToken token pair → IsSize pair.1 v
  sized token e v pair is cut = let same : is.pair ≡ pair = pair-same token is.pair pair is.cut
      cut in rw same at is.size

  -- the places and the sizes of pairs that are put, and what is known behind them
  pub puts-parts : (given : List
      (Option ℤ)) (tokens : List (List ℕ)) (after : List (Option ℤ))
      (pairs : List (List ℕ × List ℕ))
      → Puts names given tokens after → AllZip IsPairToken tokens pairs
      → (places : List ℕ) × (values : List ℤ)
      × AllZip (λ text e. slice_get names e ≡ Some text) (names_in pairs) places
      × AllZip IsSize (numbers_in pairs) values
      × (after ≡ fold (λ sizes (e, size). set sizes e (Some size)) given (zip places values))
  puts-parts given [] after [] puts each = ([], [], tt, tt, puts)
  puts-parts given [] after (pair ∷ pairs) puts each = absurd each
  puts-parts given (token ∷ tokens) after [] puts each = absurd each
  puts-parts given (token ∷ tokens) after (pair ∷ pairs) (e, v, is, new, more) (cut, each) =
      let (places, values, at, of, is_after) = puts-parts (set given e (Some v)) tokens after pairs
      more each in (
        e ∷ places,
        v ∷ values,
        (named token e v pair is cut, at),
        (sized token e v pair is cut, of),
        is_after,
      )

  -- no element of such pairs had a size
  pub puts-new : (given : List
      (Option ℤ)) (tokens : List (List ℕ)) (after : List (Option ℤ))
      (pairs : List (List ℕ × List ℕ))
      → Puts names given tokens after → AllZip IsPairToken tokens pairs
      → IsSized names given (names_in pairs) → ⊥
  puts-new given [] after [] puts each (k, text, lt, at, more) = omega (arith, lt)
  puts-new given [] after (pair ∷ pairs) puts each any = each
  puts-new given (token ∷ tokens) after [] puts each any = each
  puts-new given (token ∷ tokens) after (pair ∷ pairs) (e, v, is, new, more) (cut, each)
      (zero, text, lt, at, (f, size, of, got)) =
      let same : f ≡ e = place-same names distinct text f e of
      (named token e v pair is cut ∙ ap Some at) in
      let both : slice_get given f ≡ Some None = ap (λ i. slice_get given i) same ∙ new in
      absurd (cc)
  puts-new given (token ∷ tokens) after (pair ∷ pairs) (e, v, is, new, more) (cut, each)
      (suc k, text, lt, at, (f, size, of, got)) =
      puts-new (set given e (Some v)) tokens after pairs more each (behind (same-or-other e f))
    where
      behind : (f ≡ e) ⊎ (f ≢ e) → IsSized names (set given e (Some v)) (names_in pairs)
      behind (inl same) = (
        k,
        text,
        omega (arith, lt),
        at,
        (
          f,
          v,
          of,
          ap (λ i. slice_get (set given e (Some v)) i) same
              ∙ set-here given e (Some v) None new,
        ),
      )
      behind (inr other) = (
        k,
        text,
        omega (arith, lt),
        at,
        (f, size, of, set-other given e f (Some v) (Some size) other got),
      )

  -- and none stands twice
  pub puts-once : (given : List
      (Option ℤ)) (tokens : List (List ℕ)) (after : List (Option ℤ))
      (pairs : List (List ℕ × List ℕ))
      → Puts names given tokens after → AllZip IsPairToken tokens pairs
      → StandsTwice (names_in pairs) → ⊥
  puts-once given [] after [] puts each (i, j, lt, within, same) = omega (arith, within)
  puts-once given [] after (pair ∷ pairs) puts each twice = each
  puts-once given (token ∷ tokens) after [] puts each twice = each
  puts-once given (token ∷ tokens) after (pair ∷ pairs) (e, v, is, new, more) (cut, each) twice =
      at (puts-once (set given e (Some v)) tokens after pairs more each)
      (twice-cons pair.0 (names_in pairs) twice)
    where
      at : (StandsTwice (names_in pairs) → ⊥)
          → Contains (names_in pairs) pair.0 ⊎ StandsTwice (names_in pairs) → ⊥
      at once (inl (k, lt, here)) = puts-new (set given e (Some v)) tokens after pairs more each (
        k,
        pair.0,
        lt,
        here,
        (
          e,
          v,
          named token e v pair is cut,
          set-here given e (Some v) None new,
        ),
      )
      at once (inr again) = once again

  -- pairs of which one is of an element that has a size: it had one, or its name stands twice
  pub twice-parts : (given : List
      (Option ℤ)) (tokens : List (List ℕ)) (pairs : List (List ℕ × List ℕ))
      → PutsTwice names given tokens → AllZip IsPairToken tokens pairs
      → StandsTwice (names_in pairs) ⊎ IsSized names given (names_in pairs)
  twice-parts given [] pairs puts each = absurd puts
  twice-parts given (token ∷ tokens) [] puts each = absurd each
  twice-parts given (token ∷ tokens) (pair ∷ pairs) (e, v, is, inl (size, got)) (cut, each) =
      inr (zero, pair.0, omega arith, refl, (e, size, named token e v pair is cut, got))
  twice-parts given (token ∷ tokens) (pair ∷ pairs) (e, v, is, inr (new, more)) (cut, each) =
      at (twice-parts (set given e (Some v)) tokens pairs more each)
    where
      at : StandsTwice (names_in pairs) ⊎ IsSized names (set given e (Some v)) (names_in pairs)
          → StandsTwice (pair.0 ∷ names_in pairs) ⊎ IsSized names given (pair.0 ∷ names_in pairs)
      at (inl twice) = inl (twice-more pair.0 (names_in pairs) twice)
      at (inr (k, text, lt, here, (f, size, of, got))) = place (same-or-other e f)
        where
          place : (f ≡ e) ⊎ (f ≢ e) → StandsTwice
              (pair.0 ∷ names_in pairs) ⊎ IsSized names given (pair.0 ∷ names_in pairs)
          place (inl same) =
              let one : text ≡ pair.0 = same_Some text pair.0
              (sym of ∙ (ap (λ i. slice_get names i) same ∙ named token e v pair is cut)) in
              inl (twice-at (pair.0 ∷ names_in pairs) zero (suc k) text (omega arith)
              (omega (arith, lt)) (sym one ∙ sym here))
          place (inr other) = inr (
            suc k,
            text,
            omega (arith, lt),
            here,
            (f, size, of, set-back given e f (Some v) (Some size) other got),
          )
