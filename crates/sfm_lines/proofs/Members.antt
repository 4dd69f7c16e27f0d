-- The members of a group, as a pass over the elements of its line finds them.
use Rattle.std.proofs.Common.{◌≡◌, ◌≢◌, ℕ, zero, suc, ◌+◌, ◌<◌, Bool, true, false, List, [], ◌∷◌, ◌++◌, ◌||◌, ◌^◌, length, get_or, map, Bor, Contains, ℤ, pos, ◌≤ℤ◌, refl, sym, ap, ◌∙◌, add-one, arith}
use Rattle.std.specs.Prelude.{bytes_eq}
use Rattle.std.specs.List.{All, filter, range_with_len}
use Rattle.std.proofs.lemmas.Bool.{true≢false}
use Rattle.std.proofs.lemmas.Int.{ints}
use Rattle.std.proofs.lemmas.List.{get_or_default}
use Rattle.std.proofs.lemmas.Slice.Eq.{bytes_eq-Decides}
use Rattle.std.proofs.lemmas.List.Elements.{All-filter, filter-append}
use Rattle.std.proofs.lemmas.List.Kept.{IsStrictlyIncreasing-filter, AllPairs-from_increasing}
use Rattle.std.proofs.lemmas.List.Folds.{Any-from_list_any}
use Rattle.std.proofs.lemmas.List.FromFn.{length-range_with_len, get_or-range_with_len, length-map-range_with_len, get_or-map-range_with_len, map-range_with_len_more}
use Rattle.sfm_spec.specs.Kinds.{Group}
use Rattle.sfm_spec.specs.Bounds.{IsAtMost}
use Rattle.sfm_laminar.specs.Groups.{IsGroup, IsBelow, IsAscending}
use Rattle.sfm_lines.specs.Parts.{LineParts}
use Rattle.sfm_lines.specs.RankLines.{is_among, members_of, group_of, groups_of}
use Rattle.sfm_lines.specs.LeastGroups.{with_group, least_groups}
use Rattle.sfm_lines.proofs.LeastGroups.{with-more}
use Rattle.sfm_lines.proofs.Repeats.{text-at}

either : (b : Bool) → (b || true) ≡ true
either true = refl
either false = refl

-- a text that a pass over texts finds, and one that it does not find
pub among-here : (texts : List (Bor (List ℕ))) (text : List ℕ) (i : ℕ) (d : Bor (List ℕ))
    → i < length texts → bytes_eq (get_or texts i d).now text ≡ true
    → is_among (map (λ t. t.now) texts) text ≡ true
among-here [] text i d lt is = absurd (omega (arith, lt))
among-here (t ∷ texts) text zero d lt is = rw is refl
among-here (t ∷ texts) text (suc i) d lt is =
    rw (among-here texts text i d (omega (arith, lt)) is) (either (bytes_eq t.now text))

pub among-none : (texts : List (Bor (List ℕ))) (text : List ℕ)
    → All (λ other. bytes_eq other text ≡ false) (map (λ t. t.now) texts)
    → is_among (map (λ t. t.now) texts) text ≡ false
among-none [] text none = refl
among-none (t ∷ texts) text none =
    let no : bytes_eq t.now text ≡ false = none 0 t.now (omega arith) in
    rw (no, among-none texts text (λ k d lt. none (suc k) d (omega (arith, lt)))) refl

pub among-contains : (texts : List (List ℕ)) (text : List ℕ) → is_among texts text ≡ true
    → Contains texts text
among-contains texts text h =
    let (k, other, lt, is, same) = Any-from_list_any (λ (o : List ℕ). bytes_eq o text) texts h in
    let e : other ≡ text = (bytes_eq-Decides other text).0 same in
    (k, lt, at texts k other text lt is e)
  where
    at : (xs : List (List ℕ)) (k : ℕ) (x y : List ℕ) → k < length xs → get_or xs k x ≡ x → x ≡ y
        → get_or xs k y ≡ y
    at [] k x y lt e f = absurd (omega arith)
    at (z ∷ xs) zero x y lt e f = e ∙ f
    at (z ∷ xs) (suc k) x y lt e f = at xs k x y (omega arith) e f

pub contains-among : (texts : List (List ℕ)) (text : List ℕ) → Contains texts text
    → is_among texts text ≡ true
contains-among [] text (k, lt, e) = absurd (omega arith)
contains-among (t ∷ texts) text (zero, lt, e) = rw ((bytes_eq-Decides t text).1 e) refl
contains-among (t ∷ texts) text (suc k, lt, e) =
    rw (contains-among texts text (k, omega arith, e)) (either (bytes_eq t text))

pub among-out : (texts : List (List ℕ)) (text : List ℕ) → is_among texts text ≡ false
    → All (λ other. other ≢ text) texts
among-out texts text e = λ k d lt same.
    true≢false (sym (contains-among texts text (k, lt, get_or_default texts k text d lt ∙ same))
    ∙ e)

-- ---- one more element
range-suc : (a n : ℕ) → range_with_len a (suc n) ≡ range_with_len a n ++ (a + n) ∷ []
range-suc a zero = let e : a ≡ a + 0 = omega arith in ap (λ (x : ℕ). x ∷ []) e
range-suc a (suc n) =
    let e : a + 1 + n ≡ a + suc n = omega arith in
    ap (λ (l : List ℕ). a ∷ l) (range-suc (a + 1) n
    ∙ ap (λ (x : ℕ). range_with_len (a + 1) n ++ x ∷ []) e)

range-more : (i : ℕ) → range_with_len 0 (i + 1) ≡ range_with_len 0 i ++ i ∷ []
range-more i =
    let e : 0 + i ≡ i = omega arith in
    ap (λ (n : ℕ). range_with_len 0 n) (add-one i)
    ∙ (range-suc 0 i ∙ ap (λ (x : ℕ). range_with_len 0 i ++ x ∷ []) e)

filter-suc : (p : ℕ → Bool) (i : ℕ)
    → filter p (range_with_len 0 (i + 1)) ≡ filter p (range_with_len 0 i) ++ filter p (i ∷ [])
filter-suc p i = ap (λ (l : List ℕ). filter p l) (range-more i)
    ∙ filter-append p (range_with_len 0 i) (i ∷ [])

append-none : (xs : List ℕ) → xs ++ [] ≡ xs
append-none [] = refl
append-none (x ∷ xs) = ap (λ (l : List ℕ). x ∷ l) (append-none xs)

module _ (elements names : List (Bor (List ℕ))) (e : ℕ) (d : Bor (List ℕ)) (old : List ℕ)
    (lt : e < length elements)
    (before : old ≡ filter (λ i. is_among (map (λ t. t.now) names)
    (get_or (map (λ t. t.now) elements) i [])) (range_with_len 0 e)) where
  test : ℕ → Bool
  test i = is_among (map (λ t. t.now) names) (get_or (map (λ t. t.now) elements) i [])

  here : test e ≡ is_among (map (λ t. t.now) names) (get_or elements e d).now
  unfolding test
  here = ap (λ (text : List ℕ). is_among (map (λ t. t.now) names) text) (text-at elements e d lt)

  pub member-in : (new : List ℕ)
      → true ≡ is_among (map (λ t. t.now) names) (get_or elements e d).now → new ≡ old ++ e ∷ []
      → new ≡ filter (λ i. is_among (map (λ t. t.now) names)
      (get_or (map (λ t. t.now) elements) i [])) (range_with_len 0 (e + 1))
  unfolding test
  member-in new is more =
      let yes : test e ≡ true = here ∙ sym is in
      let one : filter test (e ∷ []) ≡ e ∷ [] = rw yes refl in
      more ∙ (rw (before, filter-suc test e, one) refl)

  pub member-out : false ≡ is_among (map (λ t. t.now) names) (get_or elements e d).now
      → old ≡ filter (λ i. is_among (map (λ t. t.now) names)
      (get_or (map (λ t. t.now) elements) i [])) (range_with_len 0 (e + 1))
  unfolding test
  member-out is =
      let no : test e ≡ false = here ∙ sym is in
      let one : filter test (e ∷ []) ≡ [] = rw no refl in
      rw (before, filter-suc test e, one) (sym (append-none (filter test (range_with_len 0 e))))

-- one more group
pub group-in : (values : List ℤ) (parts : LineParts) (i : ℕ) (old new : List Group) (most : ℤ)
    (members : List ℕ) → old ≡ least_groups
    (map (λ j. group_of values parts j) (range_with_len 0 i)) → most ≡ get_or values (i + 1) (pos 0)
    → members ≡ members_of parts.elements (get_or parts.groups i [])
    → new ≡ with_group old (record { cap = most; members = members })
    → new ≡ least_groups (map (λ j. group_of values parts j) (range_with_len 0 (i + 1)))
group-in values parts i old new most members before is_cap is_members more =
    let all = map-range_with_len_more (λ (j : ℕ). group_of values parts j) 0 i i (omega arith) in
    more ∙ (rw (before, is_cap, is_members)
    (sym (ap least_groups all ∙ with-more []
    (map (λ j. group_of values parts j) (range_with_len 0 i)) (group_of values parts i))))

-- the members ascend, and are places of the line
range-up : (a n : ℕ) → IsAscending (range_with_len a n)
range-up a n i j lt within =
    let len = length-range_with_len a n in
    let x = get_or-range_with_len a n i 0 (omega (arith, lt, within, len)) in
    let y = get_or-range_with_len a n j 0 (omega (arith, within, len)) in
    omega (arith, x, y, lt)

pub members-ascend : (elements names : List (List ℕ)) → IsAscending (members_of elements names)
members-ascend elements names =
    let p : ℕ → Bool = λ e. is_among names (get_or elements e []) in
    let n = length elements in
    let up = IsStrictlyIncreasing-filter p (range_with_len 0 n)
    (λ k lt. range-up 0 n k (k + 1) (omega arith) lt) in
    λ i j lt within. AllPairs-from_increasing (members_of elements names) up i j 0 lt within

pub members-below : (elements names : List (List ℕ))
    → All (λ e. e < length elements) (members_of elements names)
members-below elements names =
    let n = length elements in
    All-filter (λ e. is_among names (get_or elements e [])) (λ e. e < n) (range_with_len 0 n)
    (λ k d lt. let len = length-range_with_len 0 n in let x = get_or-range_with_len 0 n k d
    (omega (arith, lt, len)) in omega (arith, x, lt, len))

pub groups-below : (values : List ℤ) (parts : LineParts) (k : ℕ) → k ≡ length parts.elements
    → All (IsBelow k) (groups_of values parts)
groups-below values parts k same i d lt =
    let m = length parts.groups in
    let f = λ (j : ℕ). group_of values parts j in
    let within : i < m = omega (arith, lt, length-map-range_with_len f 0 m) in
    let is = get_or-map-range_with_len f 0 m i i d within (omega arith) in
    rw (is, same) (members-below parts.elements (get_or parts.groups i []))

-- and the groups are as a term takes them
pub groups-sound : (values : List ℤ) (parts : LineParts) → length values ≡ length parts.groups + 1
    → All (λ value. pos 0 ≤ℤ value) values → All (IsAtMost (10 ^ 15)) values
    → All IsGroup (groups_of values parts)
groups-sound values parts each low small i d lt =
    let m = length parts.groups in
    let f = λ (j : ℕ). group_of values parts j in
    let within : i < m = omega (arith, lt, length-map-range_with_len f 0 m) in
    let is = get_or-map-range_with_len f 0 m i i d within (omega arith) in
    let at : i + 1 < length values = omega (arith, within, each) in
    let least = low (i + 1) (pos 0) at in
    let most = small (i + 1) (pos 0) at in
    rw is (record {
      low = least;
      given = record {
        low = omega (arith, ints, most.low);
        high = omega (arith, ints, most.high);
      };
      ascending = members-ascend parts.elements (get_or parts.groups i []);
    })
