-- Labels are short, there is one for each term, and a walk over the lines meets each in its turn.
use Rattle.std.proofs.Common.{tests, nat_eq, false, ◌≡◌, ℕ, zero, suc, ◌+◌, ◌-◌, ◌<◌, ◌≤◌, List, [], ◌∷◌, ◌++◌, length, map, drop, get_or, refl, sym, ap, ◌∙◌, arith, append_assoc}
use Rattle.std.specs.Prelude.{codes, decimal}
use Rattle.std.specs.List.{All, range_with_len}
use Rattle.std.proofs.lemmas.Fmt.{length-decimal-le_wide}
use Rattle.std.proofs.lemmas.List.{drop_more, get_or-drop, length-append}
use Rattle.std.proofs.lemmas.List.Elements.{All-nil, All-cons, All-head, All-tail, All-append}
use Rattle.std.proofs.lemmas.List.FromFn.{length-map-range_with_len}
use Rattle.std.proofs.lemmas.List.Sums.{sum-map, sum_by-cons}
use Rattle.sfm_kind.specs.Instance.{width_of, terms_in}
use Rattle.sfm_cert.specs.Labels.{labels_in, labels_of, label_in}
use Rattle.sfm_cert.specs.Spots.{label_text, spot_label, labels_from, labels_left, StandsAt}
use Rattle.sfm_cert.specs.declared.spot.Spot.{Spot}

-- what holds for each item and for the one that stands for want of one
pub item_holds : {X : Type 0} (P : X → Type 0) (xs : List X) (i : ℕ) (d : X) → All P xs → P d
    → P (get_or xs i d)
item_holds P [] i d h p = p
item_holds P (x ∷ xs) zero d h p = All-head P x xs h
item_holds P (x ∷ xs) (suc i) d h p = item_holds P xs i d (All-tail P x xs h) p

-- ---- labels are short

-- few lines, each of few layers
pub record AreFewLines (lines : List ℕ) : Type 0 where
  pub count : length lines ≤ 16384
  pub layers : All (λ n. n ≤ 16384) lines

abbrev IsShort : List ℕ → Type 0
IsShort label = length label ≤ 11

pub count_short : (n : ℕ) → n ≤ 16384 → length (decimal n) ≤ 5
count_short n l = length-decimal-le_wide 5 n (omega arith) (omega (arith, l)) (omega (arith, l))

layers_short : (line a n : ℕ) → line ≤ 16384 → a + n ≤ 16385
    → All IsShort (map (λ j. decimal line ++ codes "." ++ decimal j) (range_with_len a n))
layers_short line a zero few l = All-nil IsShort
layers_short line a (suc n) few l =
    let first = count_short line few in
    let second = count_short a (omega (arith, l)) in
    All-cons IsShort (decimal line ++ codes "." ++ decimal a)
    (map (λ j. decimal line ++ codes "." ++ decimal j) (range_with_len (a + 1) n))
    (omega (
      arith,
      first,
      second,
      length-append (decimal line) (codes "."),
      length-append (decimal line ++ codes ".") (decimal a),
    ))
    (layers_short line (a + 1) n few (omega (arith, l)))

in_short : (line n : ℕ) → line ≤ 16384 → n ≤ 16384 → All IsShort (labels_in line n)
in_short line zero few l = All-cons IsShort (decimal line) []
    (let c = count_short line few in omega (arith, c)) (All-nil IsShort)
in_short line (suc n) few l = layers_short line 1 (suc n) few (omega (arith, l))

from_short : (k : ℕ) (lines : List ℕ) → k + length lines ≤ 16385 → All (λ n. n ≤ 16384) lines
    → All IsShort (labels_from k lines)
from_short k [] few h = All-nil IsShort
from_short k (n ∷ lines) few h =
    All-append IsShort (labels_in k n) (labels_from (k + 1) lines)
    (in_short k n (omega (arith, few)) (All-head (λ n. n ≤ 16384) n lines h))
    (from_short (k + 1) lines (omega (arith, few)) (All-tail (λ n. n ≤ 16384) n lines h))

pub label_short : (lines : List ℕ) (i : ℕ) → AreFewLines lines → length (label_in lines i) ≤ 11
label_short lines i few =
    item_holds IsShort ([] ∷ labels_of lines) i []
    (All-cons IsShort [] (labels_of lines) (omega arith)
    (from_short 1 lines (let c = few.count in omega (arith, c)) few.layers)) (omega arith)

-- ---- there is a label for each term

width_layers : (n : ℕ) → width_of (suc n) ≡ suc n
width_layers n = let no : nat_eq (suc n) 0 ≡ false = grind (arith, tests) in rw no refl

length-in : (line n : ℕ) → length (labels_in line n) ≡ width_of n
length-in line zero = refl
length-in line (suc n) = length-map-range_with_len (λ j. decimal line ++ codes "." ++ decimal j) 1
    (suc n) ∙ sym (width_layers n)

-- the terms of a line and those of the lines behind it
terms-cons : (n : ℕ) (lines : List ℕ) → terms_in (n ∷ lines) ≡ width_of n + terms_in lines
terms-cons n lines =
    let all = sum-map width_of (n ∷ lines) in
    let rest = sum-map width_of lines in
    let parts = sum_by-cons width_of n lines in
    omega (arith, all, rest, parts)

length-from : (k : ℕ) (lines : List ℕ) → length (labels_from k lines) ≡ terms_in lines
length-from k [] = refl
length-from k (n ∷ lines) = length-append (labels_in k n) (labels_from (k + 1) lines)
    ∙ ap (λ m. m + length (labels_from (k + 1) lines)) (length-in k n)
    ∙ ap (λ m. width_of n + m) (length-from (k + 1) lines) ∙ sym (terms-cons n lines)

pub length-labels : (lines : List ℕ) → length (labels_of lines) ≡ terms_in lines
length-labels lines = length-from 1 lines

width_some : (n : ℕ) → (1 ≤ width_of n) × (n ≤ width_of n)
width_some zero = (omega arith, omega arith)
width_some (suc n) = let e = width_layers n in (omega (arith, e), omega (arith, e))

-- no more lines than terms
lines_few : (lines : List ℕ) → length lines ≤ terms_in lines
lines_few [] = omega arith
lines_few (n ∷ lines) =
    let more = lines_few lines in
    let one = (width_some n).0 in
    omega (arith, more, one, terms-cons n lines)

layers_few : (m : ℕ) (lines : List ℕ) → terms_in lines ≤ m → All (λ n. n ≤ m) lines
layers_few m [] l = All-nil (λ n. n ≤ m)
layers_few m (n ∷ lines) l =
    let one = (width_some n).1 in
    let all = terms-cons n lines in
    All-cons (λ n. n ≤ m) n lines (omega (arith, l, one, all))
    (layers_few m lines (omega (arith, l, all)))

pub few_lines : (lines : List ℕ) → terms_in lines ≤ 16384 → AreFewLines lines
few_lines lines l = record {
  count = let c = lines_few lines in omega (arith, c, l);
  layers = layers_few 16384 lines l;
}

-- ---- the label of a layer

layer_text : (line layer : ℕ) → 1 ≤ layer
    → label_text line layer ≡ decimal line ++ codes "." ++ decimal layer
layer_text line zero l = absurd (omega (arith, l))
layer_text line (suc j) l = refl

pub label_cut : (line layer : ℕ) (behind : List ℕ) → 1 ≤ layer
    → label_text line layer ++ behind ≡ decimal line ++ (codes "." ++ (decimal layer ++ behind))
label_cut line zero behind l = absurd (omega (arith, l))
label_cut line (suc j) behind l = append_assoc (decimal line ++ codes ".") (decimal (suc j)) behind
    ∙ append_assoc (decimal line) (codes ".") (decimal (suc j) ++ behind)

same_layers : (line a n : ℕ) → 1 ≤ a
    → map (λ j. decimal line ++ codes "." ++ decimal j) (range_with_len a n) ≡ map (label_text line)
    (range_with_len a n)
same_layers line a zero l = refl
same_layers line a (suc n) l =
    ap (λ x. x ∷ map (λ j. decimal line ++ codes "." ++ decimal j) (range_with_len (a + 1) n))
    (sym (layer_text line a l))
    ∙ ap (λ (xs : List (List ℕ)). label_text line a ∷ xs)
    (same_layers line (a + 1) n (omega (arith, l)))

-- ---- the first layer of a line

-- the layer is the first one of a line with so many
pub record IsFirstLayer (n layer : ℕ) : Type 0 where
  pub plain : n ≡ 0 → layer ≡ 0
  pub layered : 0 < n → layer ≡ 1

first_within : (n layer : ℕ) → IsFirstLayer n layer → layer ≤ n
first_within zero layer h = let e = h.plain refl in omega (arith, e)
first_within (suc n) layer h = let e = h.layered (omega arith) in omega (arith, e)

one_off : (n : ℕ) → suc n ≡ suc n + 1 - 1
one_off n = omega arith

first_labels : (line n layer : ℕ) → IsFirstLayer n layer
    → labels_in line n ≡ map (label_text line) (range_with_len layer (n + 1 - layer))
first_labels line zero layer h =
    sym (ap (λ j. map (label_text line) (range_with_len j (0 + 1 - j))) (h.plain refl))
first_labels line (suc n) layer h =
    same_layers line 1 (suc n) (omega arith) ∙ ap (λ m. map (label_text line) (range_with_len 1 m))
    (one_off n)
    ∙ sym (ap (λ j. map (label_text line) (range_with_len j (suc n + 1 - j)))
    (h.layered (omega arith)))

left_first : (line layer : ℕ) (lines : List ℕ) → IsFirstLayer (get_or lines 0 0) layer
    → labels_left line layer lines ≡ labels_from line lines
left_first line layer [] h = refl
left_first line layer (n ∷ lines) h =
    ap (λ x. x ++ labels_from (line + 1) lines) (sym (first_labels line n layer h))

no_more : (k : ℕ) → k + 0 ≡ k
no_more k = omega arith

-- the labels from the first layer of a line on
behind_first : (lines : List ℕ) (before layer : ℕ) → IsFirstLayer (get_or lines before 0) layer
    → labels_left (before + 1) layer (drop before lines) ≡ labels_from (before + 1)
    (drop before lines)
behind_first lines before layer h =
    left_first (before + 1) layer (drop before lines) (record {
      plain = λ e. h.plain (sym same ∙ e);
      layered = λ l. h.layered (omega (arith, l, same));
    }) where
      same : get_or (drop before lines) 0 0 ≡ get_or lines before 0
      same = get_or-drop before lines 0 0 ∙ ap (λ k. get_or lines k 0) (no_more before)

-- the walk begins with the first layer of the first line
pub first_stands : (lines : List ℕ) (spot : Spot) → spot.before ≡ 0
    → IsFirstLayer (get_or lines 0 0) spot.layer → StandsAt lines 0 spot
first_stands lines spot e h = record {
  within = λ l. rw e (first_within (get_or lines 0 0) spot.layer h);
  left = rw e (left_first 1 spot.layer lines h);
}

-- ---- a step of the walk

-- some label is left only where a line is
some_line : (a b before : ℕ) (lines : List ℕ) (x : List ℕ) (xs : List (List ℕ))
    → labels_left a b (drop before lines) ≡ x ∷ xs → before < length lines
some_line a b zero [] x xs e = absurd (cc)
some_line a b (suc k) [] x xs e = absurd (cc)
some_line a b zero (n ∷ lines) x xs e = omega arith
some_line a b (suc k) (n ∷ lines) x xs e = let l = some_line a b k lines x xs e in omega (arith, l)

left_step : (line layer n : ℕ) (lines : List ℕ) → layer ≤ n
    → labels_left line layer (n ∷ lines) ≡ label_text line
    layer ∷ (map (label_text line) (range_with_len (layer + 1) (n - layer)) ++ labels_from
    (line + 1) lines)
left_step line layer n lines l =
    ap (λ m. map (label_text line) (range_with_len layer m) ++ labels_from (line + 1) lines)
    more where
      more : n + 1 - layer ≡ suc (n - layer)
      more = omega (arith, l)

cons_head : {a b : List ℕ} {x y : List (List ℕ)} → a ∷ x ≡ b ∷ y → a ≡ b
cons_head e = cc

cons_tail : {a b : List ℕ} {x y : List (List ℕ)} → a ∷ x ≡ b ∷ y → x ≡ y
cons_tail e = cc

module _ (lines : List ℕ) (i : ℕ) (spot : Spot) (h : StandsAt lines i spot)
    (l : i < length (labels_of lines)) where
  labels_are : labels_left (spot.before + 1) spot.layer (drop spot.before lines) ≡ get_or
      (labels_of lines) i [] ∷ drop (i + 1) (labels_of lines)
  labels_are = h.left ∙ drop_more (labels_of lines) i [] l

  -- a line is left
  pub stands_before : spot.before < length lines
  stands_before = some_line (spot.before + 1) spot.layer spot.before lines
      (get_or (labels_of lines) i []) (drop (i + 1) (labels_of lines)) labels_are

  abbrev layers : ℕ
  layers = get_or lines spot.before 0

  abbrev rest : List ℕ
  rest = drop (spot.before + 1) lines

  parts : label_text (spot.before + 1)
      spot.layer ∷ (map (label_text (spot.before + 1))
      (range_with_len (spot.layer + 1) (layers - spot.layer)) ++ labels_from (spot.before + 1 + 1)
      rest)
      ≡ get_or (labels_of lines) i [] ∷ drop (i + 1) (labels_of lines)
  parts =
      sym (left_step (spot.before + 1) spot.layer layers rest (h.within stands_before))
      ∙ sym (ap (labels_left (spot.before + 1) spot.layer)
      (drop_more lines spot.before 0 stands_before)) ∙ labels_are

  -- its label is that of the term
  pub stands_label : label_in lines (i + 1) ≡ spot_label spot
  stands_label = ap (λ n. get_or ([] ∷ labels_of lines) n []) next ∙ sym (cons_head parts) where
    next : i + 1 ≡ suc i
    next = omega arith

  -- the next layer of the line
  pub next_layer : spot.layer < layers
      → StandsAt lines (i + 1) (record { before = spot.before; layer = spot.layer + 1 })
  next_layer less = record {
    within = λ b. omega (arith, less);
    left =
        ap (labels_left (spot.before + 1) (spot.layer + 1))
        (drop_more lines spot.before 0 stands_before)
        ∙ ap (λ m. map (label_text (spot.before + 1)) (range_with_len (spot.layer + 1) m)
        ++ labels_from (spot.before + 1 + 1) rest) count ∙ cons_tail parts;
  } where
    count : layers + 1 - (spot.layer + 1) ≡ layers - spot.layer
    count = omega arith

  -- or the first layer of the next line
  pub next_line : layers ≤ spot.layer → (next : Spot) → next.before ≡ spot.before + 1
      → IsFirstLayer (get_or lines (spot.before + 1) 0) next.layer → StandsAt lines (i + 1) next
  next_line all next e first = record {
    within = λ b. rw e (first_within (get_or lines (spot.before + 1) 0) next.layer first);
    left = rw e (behind_first lines (spot.before + 1) next.layer first
        ∙ sym (ap (λ m. map (label_text (spot.before + 1)) (range_with_len (spot.layer + 1) m)
        ++ labels_from (spot.before + 1 + 1) rest) none) ∙ cons_tail parts);
  } where
    none : layers - spot.layer ≡ 0
    none = omega (arith, all)
