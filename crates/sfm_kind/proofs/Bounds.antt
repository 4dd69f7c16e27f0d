-- The bounds of an instance as it grows: by a name, and by a term.
use Rattle.std.proofs.Common.{◌≡◌, ◌≢◌, ◌↔◌, ℕ, ◌+◌, ◌-◌, ◌-ℤ◌, IsTrue, ◌<◌, ◌≤◌, ◌^◌, List, [], ◌∷◌, ◌++◌, length, get_or, map, ℤ, pos, ◌+ℤ◌, ◌≤ℤ◌, to_z, of_z, FitsSigned, sym, ap, ◌∙◌, arith}
use Rattle.std.specs.List.{All}
use Rattle.std.proofs.lemmas.Grind.{get_or_default_zero}
use Rattle.std.proofs.lemmas.Int.{ints}
use Rattle.std.proofs.lemmas.List.{map-append, length-map, length-replicate, length_push, get_or_push}
use Rattle.std.proofs.lemmas.List.Elements.{All-weaker, All-push}
use Rattle.std.proofs.lemmas.List.Quantifiers.{all_pairs_push}
use Rattle.std.proofs.lemmas.List.Sums.{sum-map, sum_by_push}
use Rattle.sfm_spec.specs.Sets.{IsPlaced, empty_set}
use Rattle.sfm_spec.specs.Names.{IsName}
use Rattle.sfm_spec.specs.Bounds.{AreElements}
use Rattle.sfm_kind.specs.Kinds.{kind_places, kind_size, kind-submodular, kind-bounded}
use Rattle.sfm_kind.specs.Names.{IsNewName, AreElementNames}
use Rattle.sfm_kind.specs.Instance.{support_of, width_of, terms_in}
use Rattle.sfm_kind.specs.Limits.{AreInBounds, HasRoomFor, total_size_of, IsKept}
use lib.Signed.{le_z}
use mir.Syntax.{w128}
use borrow.Author.Differences.{le_out, true_is_le}
use Rattle.sfm_kind.specs.declared.kind.Kind.{Kind}
use Rattle.sfm_kind.specs.declared.kind.Kind.TheVariants.{Weight, Cut, Cover, Need, Table, Concave, Uniform, Laminar, Graphic, Transversal}

-- no size is negative: the empty part has the value 0
pub kind_size-low : (kind : Kind) → pos 0 ≤ℤ kind_size kind
kind_size-low kind =
    let k = length (kind_places kind) in
    (kind-bounded kind (empty_set k) (pos 0) (length-replicate k _)
    (kind-submodular kind).at_empty).1

-- the places of a kind are distinct
pub kind-elements : (kind : Kind) → AreElements (kind_places kind)
kind-elements (Weight term) = term.elements
kind-elements (Cut term) = term.elements
kind-elements (Cover term) = term.elements
kind-elements (Need term) = term.elements
kind-elements (Table term) = term.elements
kind-elements (Concave term) = term.elements
kind-elements (Uniform term) = term.elements
kind-elements (Laminar term) = term.elements
kind-elements (Graphic term) = term.elements
kind-elements (Transversal term) = term.elements

pub total_size-low : (terms : List Kind) → pos 0 ≤ℤ total_size_of terms
total_size-low [] = omega (arith, ints)
total_size-low (term ∷ terms) = omega (arith, ints, kind_size-low term, total_size-low terms)

pub total_size-push : (terms : List Kind) (term : Kind)
    → total_size_of (terms ++ term ∷ []) ≡ (total_size_of terms +ℤ kind_size term)
total_size-push [] term = omega (arith, ints)
total_size-push (t ∷ terms) term = omega (arith, ints, total_size-push terms term)

pub support-push : (terms : List Kind) (term : Kind)
    → support_of (terms ++ term ∷ []) ≡ support_of terms + length (kind_places term)
support-push terms term =
    let before = sum-map length (map kind_places terms) in
    let after = sum-map length (map kind_places terms ++ kind_places term ∷ []) in
    let more = sum_by_push length (map kind_places terms) (kind_places term) in
    rw (map-append kind_places terms (term ∷ []))
    (after ∙ (more ∙ ap (λ z. z + length (kind_places term)) (sym before)))

-- the terms of some lines are those of all of them
pub terms_in-push : (lines : List ℕ) (layers : ℕ)
    → terms_in (lines ++ layers ∷ []) ≡ terms_in lines + width_of layers
terms_in-push lines layers =
    let before = sum-map width_of lines in
    let after = sum-map width_of (lines ++ layers ∷ []) in
    let more = sum_by_push width_of lines layers in
    omega (arith, before, after, more)

-- places stay below a greater number of names
pub placed_more : (n m : ℕ) (places : List ℕ) → n ≤ m → IsPlaced n places → IsPlaced m places
placed_more n m places le h = record {
  below = λ j lt. omega (arith, h.below j lt);
  distinct = h.distinct;
}

-- one more name
pub named-push : (names : List (List ℕ)) (name : List ℕ) → AreElementNames names → IsName name
    → IsNewName names name → length names < 256 → AreElementNames (names ++ name ∷ [])
named-push names name h form fresh few = record {
  few = omega (arith, length_push names name);
  forms = All-push IsName names name h.forms form;
  distinct = all_pairs_push (λ a b. a ≢ b) names name h.distinct (λ k d lt. fresh k d lt);
}

pub in_bounds-named : (n : ℕ) (terms : List Kind) → n + 1 ≤ 256 → AreInBounds n terms
    → AreInBounds (n + 1) terms
in_bounds-named n terms few h = record {
  few = few;
  placed = All-weaker (IsPlaced n) (IsPlaced (n + 1))
      (λ places. placed_more n (n + 1) places (omega arith)) (map kind_places terms) h.placed;
  few_terms = h.few_terms;
  few_places = h.few_places;
  small = h.small;
}

-- one more term
pub in_bounds-push : (n : ℕ) (terms : List Kind) (term : Kind) → AreInBounds n terms
    → IsPlaced n (kind_places term) → HasRoomFor terms (length (kind_places term)) (kind_size term)
    → AreInBounds n (terms ++ term ∷ [])
in_bounds-push n terms term h placed room = record {
  few = h.few;
  placed = rw (map-append kind_places terms (term ∷ []))
      (All-push (IsPlaced n) (map kind_places terms) (kind_places term) h.placed placed);
  few_terms = omega (
    arith,
    length-map (terms ++ term ∷ []) kind_places,
    length_push terms term,
    room.few_terms,
  );
  few_places = omega (arith, support-push terms term, room.few_places);
  small = omega (arith, ints, total_size-push terms term, room.small);
}

-- what the bounds say of the last term
pub in_bounds-last : (n : ℕ) (terms : List Kind) (term : Kind) → AreInBounds n (terms ++ term ∷ [])
    → IsPlaced n (kind_places term) × HasRoomFor terms (length (kind_places term)) (kind_size term)
in_bounds-last n terms term h =
    let listed : map kind_places (terms ++ term ∷ []) ≡ map kind_places terms ++ kind_places
    term ∷ [] = map-append kind_places terms (term ∷ []) in
    let count : length (map kind_places (terms ++ term ∷ [])) ≡ length terms + 1 = length-map
    (terms ++ term ∷ []) kind_places ∙ length_push terms term in
    let all : All (IsPlaced n) (map kind_places terms ++ kind_places term ∷ []) = rw listed at
    h.placed in
    let at : get_or (map kind_places terms ++ kind_places term ∷ []) (length terms) [] ≡ kind_places
    term = get_or_push (map kind_places terms) (kind_places term) [] (length terms)
    (length-map terms kind_places) in
    let last : IsPlaced n (get_or (map kind_places terms ++ kind_places term ∷ []) (length terms)
    []) = all (length terms) [] (omega (arith, ap length listed, count)) in (
      rw at at last,
      record {
        few_terms = omega (arith, count, h.few_terms);
        few_places = omega (arith, support-push terms term, h.few_places);
        small = omega (arith, ints, total_size-push terms term, h.small);
      },
    )

-- what an instance keeps, with one more name
pub kept-named : (names : List (List ℕ)) (name : List ℕ) (terms : List Kind) (lines : List ℕ)
    (support : ℕ) (total : ℤ) → IsKept names terms lines support total → IsName name
    → IsNewName names name → length names < 256
    → IsKept (names ++ name ∷ []) terms lines support total
kept-named names name terms lines support total h form fresh few = record {
  named = named-push names name h.named form fresh few;
  bounded = rw (length_push names name)
      (in_bounds-named (length names) terms (omega arith) h.bounded);
  lined = h.lined;
  supported = h.supported;
  totalled = h.totalled;
}

-- and with one more term, which is a line of its own
pub kept-added : (names : List (List ℕ)) (terms : List Kind) (lines : List ℕ) (term : Kind)
    (support : ℕ) (total : ℤ) → IsKept names terms lines support total
    → AreInBounds (length names) (terms ++ term ∷ [])
    → IsKept names (terms ++ term ∷ []) (lines ++ 0 ∷ []) (support + length (kind_places term))
    (total +ℤ kind_size term)
kept-added names terms lines term support total h bounded = record {
  named = h.named;
  bounded = bounded;
  lined = omega (arith, terms_in-push lines 0, h.lined, length_push terms term);
  supported = omega (arith, h.supported, support-push terms term);
  totalled = omega (arith, ints, h.totalled, total_size-push terms term);
}

-- the running total of an instance is no negative number and at most 10^18
pub record IsTotal (total : ℤ) : Type 0 where
  pub low : pos 0 ≤ℤ total
  pub high : total ≤ℤ pos (10 ^ 18)

pub kept-total : (names : List (List ℕ)) (terms : List Kind) (lines : List ℕ) (support : ℕ)
    (total : ℤ) → IsKept names terms lines support total → IsTotal total
kept-total names terms lines support total h = record {
  low = omega (arith, ints, h.totalled, total_size-low terms);
  high = omega (arith, ints, h.totalled, h.bounded.small);
}

-- the running total and the size of a term that fits, added in 128 bits
pub record IsSum (total size : ℤ) : Type 0 where
  pub fits : FitsSigned w128 (total +ℤ size)
  pub is : (to_z w128 (of_z w128 total) +ℤ to_z w128 (of_z w128 size)) ≡ (total +ℤ size)

pub added-total : (names : List (List ℕ)) (terms : List Kind) (lines : List ℕ) (term : Kind)
    (support : ℕ) (total : ℤ) → IsKept names terms lines support total
    → AreInBounds (length names) (terms ++ term ∷ []) → IsSum total (kind_size term)
added-total names terms lines term support total h bounded =
    let known = kept-total names terms lines support total h in
    let low = kind_size-low term in
    let room = (in_bounds-last (length names) terms term bounded).1 in
    let small : (total +ℤ kind_size term) ≤ℤ pos
    (10 ^ 18) = omega (arith, ints, h.totalled, room.small) in
    record {
      fits = omega (arith, ints, known.low, low, small);
      is = omega (arith, ints, known.low, low, small);
    }

-- with few enough terms and places, the size decides
pub room_exact : (names : List (List ℕ)) (terms : List Kind) (lines : List ℕ) (support : ℕ)
    (total : ℤ) (places : ℕ) (size : ℤ) → IsKept names terms lines support total
    → length terms < 16384 → places ≤ 16384 - support
    → IsTrue (le_z size (pos (10 ^ 18) -ℤ total)) ↔ HasRoomFor terms places size
room_exact names terms lines support total places size h few_terms few_places = (
  λ t. record {
    few_terms = few_terms;
    few_places = omega (arith, few_places, h.supported, h.bounded.few_places);
    small = omega (arith, ints, t, h.totalled);
  },
  λ room.
      let at_most : size ≤ℤ (pos (10 ^ 18) -ℤ total) = omega (
        arith,
        ints,
        room.small,
        h.totalled,
      ) in
      sym (true_is_le size (pos (10 ^ 18) -ℤ total) (le_out size (pos (10 ^ 18) -ℤ total) at_most)),
)

-- a term fits where there is room for it and its places are below the number of names
pub fits_where_below : (n : ℕ) (terms : List Kind) (term : Kind) → AreInBounds n terms
    → All (λ e. e < n) (kind_places term)
    → HasRoomFor terms (length (kind_places term)) (kind_size term)
    → AreInBounds n (terms ++ term ∷ [])
fits_where_below n terms term h below room =
    in_bounds-push n terms term h (record {
      below = λ j lt. below j 0 lt;
      distinct = (kind-elements term).placed.distinct;
    }) room

-- and its places are below that number where it fits
pub below_where_fits : (n : ℕ) (terms : List Kind) (term : Kind)
    → AreInBounds n (terms ++ term ∷ []) → All (λ e. e < n) (kind_places term)
below_where_fits n terms term h k d lt =
    omega (
      arith,
      (in_bounds-last n terms term h).0.below k lt,
      get_or_default_zero (kind_places term) k d lt,
    )
