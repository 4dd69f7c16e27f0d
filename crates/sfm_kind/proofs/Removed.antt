-- The bounds and the running totals of an instance as terms are taken out.
use Rattle.std.proofs.Common.{◌≡◌, ℕ, zero, suc, ◌+◌, ◌-◌, ◌<◌, ◌≤◌, ◌^◌, List, [], ◌∷◌, ◌++◌, length, get_or, take, drop, map, ℤ, pos, ◌+ℤ◌, ◌-ℤ◌, ◌≤ℤ◌, to_z, of_z, FitsSigned, refl, sym, ap, ◌∙◌, arith}
use Rattle.std.specs.List.{All, remove, sum_by}
use Rattle.std.proofs.lemmas.Int.{ints}
use Rattle.std.proofs.lemmas.List.{map-append, take-map, drop-map, length-map, get_or-map, length-append, length-drop, length-take-le, take_at, drop_at, drop-drop, take-append-drop}
use Rattle.std.proofs.lemmas.List.Edits.{length-remove}
use Rattle.std.proofs.lemmas.List.Elements.{All-append, All-take, All-drop}
use Rattle.std.proofs.lemmas.List.Sums.{sum-map, sum_by-remove}
use mir.Syntax.{w128}
use Rattle.sfm_spec.specs.Sets.{IsPlaced}
use Rattle.sfm_kind.specs.declared.kind.Kind.{Kind}
use Rattle.sfm_kind.specs.Kinds.{kind_places, kind_size}
use Rattle.sfm_kind.specs.Instance.{support_of}
use Rattle.sfm_kind.specs.Limits.{AreInBounds, total_size_of}
use Rattle.sfm_kind.proofs.Bounds.{kind_size-low, total_size-low}

-- taking one out commutes with a map
pub map-remove : {X Y : Type 0} (f : X → Y) (xs : List X) (i : ℕ)
    → map f (remove xs i) ≡ remove (map f xs) i
map-remove f xs i =
    map-append f (take i xs) (drop (suc i) xs)
    ∙ (ap (λ l. l ++ map f (drop (suc i) xs)) (sym (take-map f i xs))
    ∙ ap (λ l. take i (map f xs) ++ l) (sym (drop-map f (suc i) xs)))

-- what holds of all holds of all but one
pub all-remove : {X : Type 0} (P : X → Type 0) (xs : List X) (i : ℕ) → All P xs
    → All P (remove xs i)
all-remove P xs i h = All-append P (take i xs) (drop (suc i) xs) (All-take P i xs h)
    (All-drop P (suc i) xs h)

-- the places of all terms are those of the others and those of the one
pub support-remove : (terms : List Kind) (i : ℕ) (term : Kind) → i < length terms
    → term ≡ get_or terms i term
    → support_of (remove terms i) + length (kind_places term) ≡ support_of terms
support-remove terms i term lt is =
    let places = map kind_places terms in
    let within : i < length places = omega (arith, lt, length-map terms kind_places) in
    let one : get_or places i [] ≡ kind_places term = get_or-map kind_places terms i term [] lt
    ∙ ap kind_places (sym is) in
    let rest : support_of (remove terms i) ≡ sum_by length (remove places i) =
    sum-map length (map kind_places (remove terms i))
    ∙ ap (λ l. sum_by length l) (map-remove kind_places terms i) in
    omega (
      arith,
      sum_by-remove length places i [] within,
      rest,
      sum-map length places,
      ap length one,
    )

-- so are the sizes
pub total_size-remove : (terms : List Kind) (i : ℕ) (term : Kind) → i < length terms
    → term ≡ get_or terms i term
    → (total_size_of (remove terms i) +ℤ kind_size term) ≡ total_size_of terms
total_size-remove [] i term lt is = absurd (omega (arith, lt))
total_size-remove (t ∷ terms) zero term lt is = omega (arith, ints, ap kind_size is)
total_size-remove (t ∷ terms) (suc i) term lt is =
    omega (arith, ints, total_size-remove terms i term (omega (arith, lt)) is)

-- one term less
pub in_bounds-remove : (n : ℕ) (terms : List Kind) (i : ℕ) (term : Kind) → i < length terms
    → term ≡ get_or terms i term → AreInBounds n terms → AreInBounds n (remove terms i)
in_bounds-remove n terms i term lt is h = record {
  few = h.few;
  placed = rw (map-remove kind_places terms i)
      (all-remove (IsPlaced n) (map kind_places terms) i h.placed);
  few_terms = omega (
    arith,
    length-map (remove terms i) kind_places,
    length-map terms kind_places,
    length-remove terms i lt,
    h.few_terms,
  );
  few_places = omega (arith, support-remove terms i term lt is, h.few_places);
  small = omega (arith, ints, total_size-remove terms i term lt is, kind_size-low term, h.small);
}

-- the size of a term that is taken out of the running total, in 128 bits
pub record IsRest (support places : ℕ) (total size : ℤ) : Type 0 where
  pub places_fit : places ≤ support
  pub fits : FitsSigned w128 (total -ℤ size)
  pub is : (to_z w128 (of_z w128 total) -ℤ to_z w128 (of_z w128 size)) ≡ (total -ℤ size)

-- the totals of some terms without one of them
pub record AreRest (terms : List Kind) (i : ℕ) (support places : ℕ) (total size : ℤ) : Type 0 where
  pub rest : IsRest support places total size
  pub supported : support - places ≡ support_of (remove terms i)
  pub totalled : (total -ℤ size) ≡ total_size_of (remove terms i)
  pub smaller : (total -ℤ size) ≤ℤ total

pub removed-rest : (terms : List Kind) (i : ℕ) (term : Kind) (support : ℕ) (total : ℤ)
    → i < length terms → term ≡ get_or terms i term
    → support ≡ support_of terms → total ≡ total_size_of terms → total ≤ℤ pos (10 ^ 18)
    → AreRest terms i support (length (kind_places term)) total (kind_size term)
removed-rest terms i term support total lt is supported totalled small =
    let low = kind_size-low term in
    let rest = total_size-low (remove terms i) in
    let sum = total_size-remove terms i term lt is in
    let places = support-remove terms i term lt is in
    record {
      rest = record {
        places_fit = omega (arith, supported, places);
        fits = omega (arith, ints, totalled, low, rest, sum, small);
        is = omega (arith, ints, totalled, low, rest, sum, small);
      };
      supported = omega (arith, supported, places);
      totalled = omega (arith, ints, totalled, sum);
      smaller = omega (arith, ints, low);
    }

-- ---- some terms in a row

-- what is left of a list when so many items from a place on are taken out
abbrev pub cut_out : {X : Type 0} → List X → ℕ → ℕ → List X
cut_out xs first count = take first xs ++ drop (first + count) xs

-- one more is taken out at the same place
pub cut_out-more : {X : Type 0} (xs : List X) (first count : ℕ) → first + count < length xs
    → remove (cut_out xs first count) first ≡ cut_out xs first (count + 1)
cut_out-more xs first count lt =
    let front : length (take first xs) ≡ first = length-take-le first xs (omega (arith, lt)) in
    let left : take first (cut_out xs first count) ≡ take first xs = take_at (take first xs)
    (drop (first + count) xs) first front in
    let back : drop first (cut_out xs first count) ≡ drop (first + count) xs = drop_at
    (take first xs) (drop (first + count) xs) first front in
    let one : drop (first + 1) (cut_out xs first count) ≡ drop ((first + count) + 1) xs = sym
    (drop-drop 1 first (cut_out xs first count))
    ∙ (ap (λ l. drop 1 l) back ∙ drop-drop 1 (first + count) xs) in
    let at : suc first ≡ first + 1 = omega arith in
    let to : (first + count) + 1 ≡ first + (count + 1) = omega arith in
    ap (λ l. l ++ drop (suc first) (cut_out xs first count)) left
    ∙ (ap (λ n. take first xs ++ drop n (cut_out xs first count)) at
    ∙ (ap (λ l. take first xs ++ l) one
    ∙ ap (λ n. take first xs ++ drop n xs) to))

pub cut_out-none : {X : Type 0} (xs : List X) (first : ℕ) → cut_out xs first 0 ≡ xs
cut_out-none xs first = let z : first + 0
    ≡ first = omega arith in ap (λ n. take first xs ++ drop n xs) z ∙ take-append-drop first xs

-- the bounds hold for what is left
pub in_bounds-cut : (n : ℕ) (terms : List Kind) (first count : ℕ) → first + count ≤ length terms
    → AreInBounds n terms → AreInBounds n (cut_out terms first count)
in_bounds-cut n terms first zero le h = rw (cut_out-none terms first) h
in_bounds-cut n terms first (suc count) le h =
    let before = in_bounds-cut n terms first count (omega (arith, le)) h in
    let len : length (cut_out terms first count) ≡ length (take first terms) + length
    (drop (first + count) terms) =
    length-append (take first terms) (drop (first + count) terms) in
    let front = length-take-le first terms (omega (arith, le)) in
    let back = length-drop (first + count) terms in
    let lt : first < length (cut_out terms first count) = omega (arith, le, len, front, back) in
    let (term, is) = at (cut_out terms first count) first lt in
    let less = in_bounds-remove n (cut_out terms first count) first term lt is before in
    let same : remove (cut_out terms first count) first ≡ cut_out terms first
    (suc count) = cut_out-more terms first count (omega (arith, le))
    ∙ ap (λ c. cut_out terms first c) (omega arith) in
    rw same at less
  where
    at : (xs : List Kind) (i : ℕ) → i < length xs → (x : Kind) × (x ≡ get_or xs i x)
    at [] i lt = absurd (omega (arith, lt))
    at (x ∷ xs) zero lt = (x, refl)
    at (x ∷ xs) (suc i) lt = at xs i (omega (arith, lt))
