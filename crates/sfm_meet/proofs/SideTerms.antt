-- The terms of all sides: what they mean, that they are within the bounds of the calls of a list of
-- terms, and that they allow every set where none is a condition.
use Rattle.std.proofs.Common.{◌≡◌, ℕ, ◌+◌, ◌*◌, ◌≤◌, ◌^◌, Bool, false, List, [], ◌∷◌, ◌++◌, length, map, get_or, sum, ℤ, pos, ◌+ℤ◌, ◌*ℤ◌, ◌≤ℤ◌, IsSome, refl, sym, ap, ◌∙◌, arith}
use Rattle.std.specs.List.{All}
use Rattle.std.proofs.lemmas.Int.{ints}
use Rattle.std.proofs.lemmas.List.{map-append, length-append, length-map}
use Rattle.std.proofs.lemmas.List.Elements.{All-append, All-head, All-tail, All-nil, All-cons}
use Rattle.std.proofs.lemmas.List.Sums.{sum_by-append, sum_by-cons}
use Rattle.sfm_spec.specs.Sets.{IsPlaced, part}
use Rattle.sfm_spec.specs.Bounds.{AreBounded, total_of}
use Rattle.sfm_spec.specs.Families.{Meaning, AreTerms, IsTerm, meanings}
use Rattle.sfm_spec.proofs.Tight.{is_some_of}
use Rattle.sfm_spec.proofs.Ones.{ones-places}
use Rattle.sfm_kind.specs.Kinds.{kind_places, kind_value, kind_size, kind-family, kind-submodular}
use Rattle.sfm_kind.specs.Instance.{support_of}
use Rattle.sfm_kind.specs.Limits.{AreInBounds, total_size_of}
use Rattle.sfm_kind.specs.declared.kind.Kind.{Kind}
use Rattle.sfm_kind.specs.declared.kind.Kind.TheVariants.{Weight, Cut, Cover, Need, Table, Concave, Uniform, Laminar, Graphic, Transversal}
use Rattle.sfm_kind.proofs.Bounds.{kind_size-low, kind-elements, total_size-low}
use Rattle.sfm_kind.proofs.Meanings.{kind-means}
use Rattle.sfm_flip.specs.Flipped.{flipped_term}
use Rattle.sfm_sides.specs.Sides.{side_places, side_value, side_size}
use Rattle.sfm_sides.specs.declared.side.Side.{Side}
use Rattle.sfm_sides.specs.declared.side.Side.TheVariants.{Left, Right}
use Rattle.sfm_meet.specs.Meetable.{HasNoNeed, IsNeed}
use Rattle.sfm_meet.specs.Told.{side_terms}
use Rattle.sfm_meet.proofs.Meeting.{AllAllowed}

-- ---- what they mean

abbrev pub sides : List Kind → List Kind → List Side
sides left right = map Left left ++ map Right right

abbrev meaning_of : Kind → Meaning
meaning_of kind = record { places = kind_places kind; value = kind_value kind }

pub sides_mean : (left right : List Kind)
    → meanings side_places side_value
    (sides left right) ≡ (side_terms left ++ map flipped_term (side_terms right))
sides_mean [] [] = refl
sides_mean [] (kind ∷ right) = ap (λ ts. flipped_term (meaning_of kind) ∷ ts) (sides_mean [] right)
sides_mean (kind ∷ left) right = ap (λ ts. meaning_of kind ∷ ts) (sides_mean left right)

-- ---- bounds

places_of : (left right : List Kind)
    → map side_places (sides left right) ≡ (map kind_places left ++ map kind_places right)
places_of [] [] = refl
places_of [] (kind ∷ right) = ap (λ ps. kind_places kind ∷ ps) (places_of [] right)
places_of (kind ∷ left) right = ap (λ ps. kind_places kind ∷ ps) (places_of left right)

sizes_of : (left right : List Kind)
    → total_of (map side_size (sides left right))
    ≡ (total_size_of left +ℤ pos 2 *ℤ total_size_of right)
sizes_of [] [] = refl
sizes_of [] (kind ∷ right) = let r = sizes_of [] right in omega (arith, ints, r)
sizes_of (kind ∷ left) right = let r = sizes_of left right in omega (arith, ints, r)

-- each term has a place
count-le-support : (terms : List Kind) → length terms ≤ support_of terms
count-le-support [] = omega arith
count-le-support (kind ∷ terms) =
    let r = count-le-support terms in
    let some = (kind-elements kind).some in
    let all : support_of (kind ∷ terms) ≡ length (kind_places kind) + support_of terms
    = sum_by-cons (λ n. n) (length (kind_places kind)) (map length (map kind_places terms)) in
    omega (arith, r, some, all)

support-append : (left right : List Kind)
    → sum (map length (map kind_places left ++ map kind_places right)) ≡ support_of
    left + support_of right
support-append left right =
    ap sum (map-append length (map kind_places left) (map kind_places right))
    ∙ sum_by-append (λ n. n) (map length (map kind_places left))
    (map length (map kind_places right))

pub sides_bounded : (n : ℕ) (left right : List Kind) → AreInBounds n left → AreInBounds n right
    → support_of left + support_of right ≤ 16384
    → (total_size_of left +ℤ pos 2 *ℤ total_size_of right) ≤ℤ pos (10 ^ 18)
    → AreBounded n (map side_places (sides left right)) (map side_size (sides left right))
sides_bounded n left right hl hr few small = record {
  few = hl.few;
  placed = rw (places_of left right)
      (All-append (IsPlaced n) (map kind_places left) (map kind_places right) hl.placed hr.placed);
  few_terms =
      let a = length-map left kind_places in
      let b = length-map right kind_places in
      let c = length-append (map kind_places left) (map kind_places right) in
      let d = count-le-support left in
      let e = count-le-support right in
      rw (places_of left right) (omega (arith, a, b, c, d, e, few));
  few_places = let s = support-append left right in rw (places_of left right)
      (omega (arith, s, few));
  small = let s = sizes_of left right in omega (arith, ints, s, small);
}

-- no size of a term is more than all
sizes-each : (terms : List Kind) (m : ℤ) → total_size_of terms ≤ℤ m
    → All (λ term. kind_size term ≤ℤ m) terms
sizes-each [] m h = All-nil (λ term. kind_size term ≤ℤ m)
sizes-each (kind ∷ terms) m h =
    let k = kind_size-low kind in
    let t = total_size-low terms in
    All-cons (λ term. kind_size term ≤ℤ m) kind terms (omega (arith, ints, h, t))
    (sizes-each terms m (omega (arith, ints, h, k)))

pub right_sizes : (left right : List Kind)
    → (total_size_of left +ℤ pos 2 *ℤ total_size_of right) ≤ℤ pos (10 ^ 18)
    → All (λ term. kind_size term ≤ℤ pos (5 * 10 ^ 17)) right
right_sizes left right h =
    let l = total_size-low left in
    sizes-each right (pos (5 * 10 ^ 17)) (omega (arith, ints, h, l))

-- ---- they are terms

pub kinds_are_terms : (n : ℕ) (terms : List Kind) → All (IsPlaced n) (map kind_places terms)
    → AreTerms n (side_terms terms)
kinds_are_terms n [] h = tt
kinds_are_terms n (kind ∷ terms) h =
    let one : IsTerm n (meaning_of kind) = record {
      placed = All-head (IsPlaced n) (kind_places kind) (map kind_places terms) h;
      family = kind-family kind;
      submodular = kind-submodular kind;
    } in (
      one,
      kinds_are_terms n terms
          (All-tail (IsPlaced n) (kind_places kind) (map kind_places terms) h),
    )

-- ---- every set is allowed

-- a term that is no condition has a value on each part
valued : (kind : Kind) → (IsNeed kind → ⊥) → (s : List Bool) → length s ≡ length (kind_places kind)
    → IsSome (kind_value kind s)
valued (Weight term) free s h = refl
valued (Cut term) free s h = refl
valued (Cover term) free s h = refl
valued (Need term) free s h = absurd (free tt)
valued (Table term) free s h = refl
valued (Concave term) free s h = refl
valued (Uniform term) free s h = refl
valued (Laminar term) free s h =
    let (r, is, e) = (kind-means (Laminar term)).values s
    (h ∙ sym (ones-places (length term.places))) in is_some_of _ _ e
valued (Graphic term) free s h =
    let (r, is, e) = (kind-means (Graphic term)).values s
    (h ∙ sym (ones-places (length term.places))) in is_some_of _ _ e
valued (Transversal term) free s h = let (r, is, e) = (kind-means (Transversal term)).values s
    (h ∙ sym (ones-places (length term.places))) in is_some_of _ _ e

pub all_allowed : (n : ℕ) (terms : List Kind) → HasNoNeed terms → AllAllowed (side_terms terms) n
all_allowed n [] h s same = tt
all_allowed n (kind ∷ terms) h s same = (
  valued kind (All-head (λ term. IsNeed term → ⊥) kind terms h) (part (kind_places kind) s)
      (length-map (kind_places kind) (λ e. get_or s e false)),
  all_allowed n terms (All-tail (λ term. IsNeed term → ⊥) kind terms h) s same,
)
