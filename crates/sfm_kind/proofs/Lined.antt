-- The lines of an instance: where the terms of each stand, and what is kept as a line is added or
-- taken out.
use Rattle.std.proofs.Common.{tests, nat_eq, false, ◌≡◌, ℕ, zero, suc, ◌+◌, ◌<◌, ◌≤◌, ◌^◌, List, [], ◌∷◌, ◌++◌, length, get_or, take, drop, map, remove, ℤ, pos, ◌+ℤ◌, ◌≤ℤ◌, refl, sym, ap, ◌∙◌, arith}
use Rattle.std.proofs.lemmas.Int.{ints}
use Rattle.std.proofs.lemmas.List.{map-append, length-append, length-drop, length-take-le, take_more}
use Rattle.std.proofs.lemmas.List.Sums.{sum-map, sum_by-append, sum_by-take-le, sum_by_more_le, sum_by-remove}
use Rattle.sfm_kind.specs.declared.kind.Kind.{Kind}
use Rattle.sfm_kind.specs.Kinds.{kind_places, kind_size}
use Rattle.sfm_kind.specs.Instance.{support_of, width_of, terms_in}
use Rattle.sfm_kind.specs.Limits.{AreInBounds, total_size_of, IsKept}
use Rattle.sfm_kind.proofs.Bounds.{kind_size-low, total_size-low, support-push, total_size-push, terms_in-push, kept-total, IsSum}
use Rattle.sfm_kind.proofs.Removed.{cut_out, in_bounds-cut}

-- ---- sums over two lists, and over the first of one

pub support-append : (terms more : List Kind)
    → support_of (terms ++ more) ≡ support_of terms + support_of more
support-append terms more =
    let a = sum-map length (map kind_places terms) in
    let b = sum-map length (map kind_places more) in
    let c = sum-map length (map kind_places terms ++ map kind_places more) in
    let d = sum_by-append length (map kind_places terms) (map kind_places more) in
    rw (map-append kind_places terms more) (omega (arith, a, b, c, d))

pub total_size-append : (terms more : List Kind)
    → total_size_of (terms ++ more) ≡ (total_size_of terms +ℤ total_size_of more)
total_size-append [] more = omega (arith, ints)
total_size-append (term ∷ terms) more = omega (arith, ints, total_size-append terms more)

-- one more of the first terms
pub support_more : (terms : List Kind) (i : ℕ) (term : Kind) → i < length terms
    → term ≡ get_or terms i term → support_of (take (i + 1) terms) ≡ support_of
    (take i terms) + length (kind_places term)
support_more terms i term lt is =
    ap support_of (take_more terms i term lt ∙ ap (λ t. take i terms ++ t ∷ []) (sym is))
    ∙ support-push (take i terms) term

pub total_size_more : (terms : List Kind) (i : ℕ) (term : Kind) → i < length terms
    → term ≡ get_or terms i term → total_size_of
    (take (i + 1) terms) ≡ (total_size_of (take i terms) +ℤ kind_size term)
total_size_more terms i term lt is =
    ap total_size_of (take_more terms i term lt ∙ ap (λ t. take i terms ++ t ∷ []) (sym is))
    ∙ total_size-push (take i terms) term

-- the first terms have no more than all
pub support-first : (terms : List Kind) (i : ℕ) → support_of (take i terms) ≤ support_of terms
support-first terms zero = omega arith
support-first [] (suc i) = omega arith
support-first (term ∷ terms) (suc i) =
    let r = support-first terms i in
    let a = support-append (term ∷ []) terms in
    let b = support-append (term ∷ []) (take i terms) in
    omega (arith, r, a, b)

pub total_size-first : (terms : List Kind) (i : ℕ)
    → total_size_of (take i terms) ≤ℤ total_size_of terms
total_size-first terms zero = total_size-low terms
total_size-first [] (suc i) = omega (arith, ints)
total_size-first (term ∷ terms) (suc i) = omega (arith, ints, total_size-first terms i)

-- ---- where the terms of a line stand

-- the terms of the first lines, and of one more
pub terms_in_more : (lines : List ℕ) (i layers : ℕ) → i < length lines
    → layers ≡ get_or lines i layers
    → terms_in (take (i + 1) lines) ≡ terms_in (take i lines) + width_of layers
terms_in_more lines i layers lt is =
    ap terms_in (take_more lines i layers lt ∙ ap (λ t. take i lines ++ t ∷ []) (sym is))
    ∙ terms_in-push (take i lines) layers

pub terms_in-first : (lines : List ℕ) (i : ℕ) → terms_in (take i lines) ≤ terms_in lines
terms_in-first lines i = omega (
  arith,
  sum-map width_of (take i lines),
  sum-map width_of lines,
  sum_by-take-le width_of lines i,
)

terms_in-remove : (lines : List ℕ) (i layers : ℕ) → i < length lines
    → layers ≡ get_or lines i layers → terms_in (remove lines i) + width_of layers ≡ terms_in lines
terms_in-remove lines i layers lt is =
    let a = sum-map width_of (remove lines i) in
    let b = sum-map width_of lines in
    let c = sum_by-remove width_of lines i layers lt in
    let d : width_of (get_or lines i layers) ≡ width_of layers = ap width_of (sym is) in
    omega (arith, a, b, c, d)

-- the terms of one more of the first lines are few enough too
pub before-fits : (lines : List ℕ) (i d before width : ℕ) → i < length lines
    → terms_in lines ≤ 16384 → before ≡ terms_in (take i lines)
    → width ≡ width_of (get_or lines i d) → before + width ≤ 16384
before-fits lines i d before width lt few is more =
    let a = sum-map width_of (take i lines) in
    let b = sum-map width_of lines in
    let c = sum_by_more_le width_of lines i d lt in
    omega (arith, a, b, c, few, is, more)

-- so are the places of one more of the first terms
pub places-fit : (terms : List Kind) (i : ℕ) (term : Kind) (before : ℕ) → i < length terms
    → term ≡ get_or terms i term → support_of terms ≤ 16384 → before ≡ support_of (take i terms)
    → before + length (kind_places term) ≤ 16384
places-fit terms i term before lt is few so_far =
    let e = support_more terms i term lt is in
    let m = support-first terms (i + 1) in
    omega (arith, e, m, few, so_far)

-- and their sizes are
pub record IsNextSize (terms : List Kind) (i : ℕ) (total size : ℤ) : Type 0 where
  pub low : pos 0 ≤ℤ total
  pub size_low : pos 0 ≤ℤ size
  pub small : (total +ℤ size) ≤ℤ pos (10 ^ 18)
  pub next : (total +ℤ size) ≡ total_size_of (take (i + 1) terms)

pub size-next : (terms : List Kind) (i : ℕ) (term : Kind) (total size : ℤ) → i < length terms
    → term ≡ get_or terms i term → total_size_of terms ≤ℤ pos (10 ^ 18)
    → total ≡ total_size_of (take i terms) → size ≡ kind_size term → IsNextSize terms i total size
size-next terms i term total size lt is few so_far more =
    let e = total_size_more terms i term lt is in
    let m = total_size-first terms (i + 1) in
    let low = total_size-low (take i terms) in
    let one = kind_size-low term in
    record {
      low = omega (arith, ints, low, so_far);
      size_low = omega (arith, ints, one, more);
      small = omega (arith, ints, e, m, few, so_far, more);
      next = omega (arith, ints, e, so_far, more);
    }

-- ---- what is kept

-- a layered line has as many terms as layers
width-layered : (layers : ℕ) → 0 < layers → width_of layers ≡ layers
width-layered zero lt = absurd (omega (arith, lt))
width-layered (suc n) lt = let no : nat_eq (suc n) 0 ≡ false = grind (arith, tests) in rw no refl

-- with the terms of one more line, which is layered
pub kept-layered : (names : List (List ℕ)) (terms more : List Kind) (lines : List ℕ) (support : ℕ)
    (total : ℤ) → IsKept names terms lines support total
    → AreInBounds (length names) (terms ++ more) → 0 < length more
    → IsKept names (terms ++ more) (lines ++ length more ∷ []) (support + support_of more)
    (total +ℤ total_size_of more)
kept-layered names terms more lines support total h bounded some = record {
  named = h.named;
  bounded = bounded;
  lined = omega (
    arith,
    terms_in-push lines (length more),
    width-layered (length more) some,
    h.lined,
    length-append terms more,
  );
  supported = omega (arith, h.supported, support-append terms more);
  totalled = omega (arith, ints, h.totalled, total_size-append terms more);
}

-- the running totals of the terms that are added, and with those that stand
pub record AreSums (support places : ℕ) (total size : ℤ) : Type 0 where
  pub few : support + places ≤ 16384
  pub places_few : places ≤ 16384
  pub small : size ≤ℤ pos (10 ^ 18)
  pub sum : IsSum total size

pub layered-sums : (names : List (List ℕ)) (terms more : List Kind) (lines : List ℕ) (support : ℕ)
    (total : ℤ) → IsKept names terms lines support total
    → AreInBounds (length names) (terms ++ more)
    → AreSums support (support_of more) total (total_size_of more)
layered-sums names terms more lines support total h bounded =
    let known = kept-total names terms lines support total h in
    let low = total_size-low more in
    let all = total_size-append terms more in
    let places = support-append terms more in
    let small = bounded.small in
    record {
      few = omega (arith, h.supported, places, bounded.few_places);
      places_few = omega (arith, places, bounded.few_places);
      small = omega (arith, ints, h.totalled, known.low, all, small);
      sum = record {
        fits = omega (arith, ints, known.low, low, h.totalled, all, small);
        is = omega (arith, ints, known.low, low, h.totalled, all, small);
      };
    }

-- the terms of line i are all there
pub line-within : (names : List (List ℕ)) (terms : List Kind) (lines : List ℕ) (support : ℕ)
    (total : ℤ) → IsKept names terms lines support total → (i layers : ℕ) → i < length lines
    → layers ≡ get_or lines i layers
    → (terms_in (take i lines) + width_of layers ≡ terms_in (take (suc i) lines))
    × (terms_in (take i lines) + width_of layers ≤ length terms)
line-within names terms lines support total h i layers lt is =
    let e = terms_in_more lines i layers lt is in
    let m = terms_in-first lines (i + 1) in
    let at : terms_in (take (suc i) lines) ≡ terms_in
    (take (i + 1) lines) =
    (let one : suc i ≡ i + 1 = omega arith in ap (λ n. terms_in (take n lines)) one) in
    (omega (arith, e, at), omega (arith, e, m, h.lined))

-- without line i and its terms
pub kept-dropped : (names : List (List ℕ)) (terms : List Kind) (lines : List ℕ) (support : ℕ)
    (total : ℤ) → IsKept names terms lines support total → (i layers : ℕ) → i < length lines
    → layers ≡ get_or lines i layers
    → (left : ℕ) (rest : ℤ) → left ≡ support_of
    (cut_out terms (terms_in (take i lines)) (width_of layers))
    → rest ≡ total_size_of (cut_out terms (terms_in (take i lines)) (width_of layers))
    → IsKept names (cut_out terms (terms_in (take i lines)) (width_of layers)) (remove lines i) left
    rest
kept-dropped names terms lines support total h i layers lt is left rest supported totalled =
    let first = terms_in (take i lines) in
    let count = width_of layers in
    let within = (line-within names terms lines support total h i layers lt is).1 in
    let front = length-take-le first terms (omega (arith, within)) in
    let back = length-drop (first + count) terms in
    let len = length-append (take first terms) (drop (first + count) terms) in
    let less = terms_in-remove lines i layers lt is in
    record {
      named = h.named;
      bounded = in_bounds-cut (length names) terms first count within h.bounded;
      lined = omega (arith, less, len, front, back, within, h.lined);
      supported = supported;
      totalled = totalled;
    }
