-- The blocks of the minimisers are one list: each is determined by the minimisers, and so is their
-- order. A block stands behind all that it needs. For the places in a block and all that it needs
-- are those that come along with any of its places, whose number is the weight of the block.
use Rattle.std.proofs.Common.{◌≡◌, ◌≢◌, ⊎_elim, ℕ, zero, suc, ◌+◌, ◌-◌, ◌<◌, ◌≤◌, Bool, true, false, List, [], ◌∷◌, length, get_or, ℤ, refl, sym, ap, ◌∙◌, arith, sum_by, subst}
use Rattle.std.specs.Prelude.{Contains}
use Rattle.std.proofs.lemmas.Bool.{cases_lt, cases_eq}
use Rattle.std.proofs.lemmas.List.{length-replicate}
use Rattle.std.proofs.lemmas.List.Elements.{All-from_get_or, Contains-get_or}
use Rattle.std.proofs.lemmas.List.Sums.{sum_by-cons}
use Rattle.sfm_spec.specs.Sets.{Has, IsWithin, size, union, empty_set}
use Rattle.sfm_spec.specs.Families.{Meaning}
use Rattle.sfm_spec.specs.Blocks.{AreBlocks, Block, IsFree, IsFirst, PullsAlong, block_at, size_with_needs}
use Rattle.sfm_spec.proofs.Sets.{same_sets, in_union, union_left, union_right, in_first, in_second}
use Rattle.sfm_spec.proofs.Sums.{length-union}
use Rattle.sfm_spec.proofs.Sizes.{size-empty, size-modular, size_grows, size_below_length}
use Rattle.sfm_spec.proofs.Lattice.{none_in_empty}
use Rattle.sfm_spec.proofs.Walks.{has_below}
use Rattle.sfm_spec.proofs.Where.{size-cons}
use Rattle.sfm_cert.specs.Form.{IsFormedBlock}
use Rattle.sfm_check.proofs.Differing.{Differ, cons_cases, cons_first, cons_rest, increasing_differ, none_in_nil, sum_by-same}

-- ---- sets

-- a set with a place has a first one
pub first_place : (s : List Bool) → ((e : ℕ) × Has s e) → (f : ℕ) × IsFirst s f
first_place [] (e, h) = absurd (none e h) where
  none : (e : ℕ) → Has [] e → ⊥
  none e h = cc
first_place (true ∷ s) (e, h) = (0, record { is_in = refl; least = λ d k. omega arith })
first_place (false ∷ s) (zero, h) = absurd (none h) where
  none : false ≡ true → ⊥
  none h = cc
first_place (false ∷ s) (suc e, h) = at (first_place s (e, h)) where
  least : (f : ℕ) → IsFirst s f → (d : ℕ) → Has (false ∷ s) d → suc f ≤ d
  least f i zero k = absurd (none k) where
    none : false ≡ true → ⊥
    none h = cc
  least f i (suc d) k = let l = i.least d k in omega (arith, l)

  at : (f : ℕ) × IsFirst s f → (f : ℕ) × IsFirst (false ∷ s) f
  at (f, i) = (suc f, record { is_in = i.is_in; least = least f i })

size-none : (s : List Bool) → ((e : ℕ) → Has s e → ⊥) → size s ≡ 0
size-none s none =
    ap size (same_sets s (empty_set (length s)) (sym (length-replicate (length s) false))
    (λ e l h. absurd (none e h)) (λ e l h. absurd (none_in_empty (length s) e h)))
    ∙ size-empty (length s)

size-apart : (s t : List Bool) → length s ≡ length t → ((e : ℕ) → Has s e → Has t e → ⊥)
    → size (union s t) ≡ size s + size t
size-apart s t same apart =
    let m = size-modular s t same in
    let z = size-none _ (λ e h. apart e (in_first s t e same h) (in_second s t e same h)) in
    omega (arith, m, z)

module _ (terms : List Meaning) (n : ℕ) (q : ℤ) (shift : List ℤ) (blocks : List Block)
    (h : AreBlocks terms n q shift blocks) where
  unfoldable pub class : ℕ → List Bool
  class k = (block_at blocks k).members

  -- the numbers of a block and of those that it needs
  numbers : ℕ → List ℕ
  numbers i = (i + 1) ∷ (block_at blocks i).needs

  size_of : ℕ → ℕ
  size_of j = size (block_at blocks (j - 1)).members

  weight_sum : (i : ℕ) → size_with_needs blocks i ≡ sum_by size_of (numbers i)
  unfolding size_of numbers
  weight_sum i =
      let a = sum_by-cons size_of (i + 1) (block_at blocks i).needs in
      let back : i + 1 - 1 ≡ i = omega arith in
      let b = ap (λ j. size (block_at blocks j).members) back in
      omega (arith, a, b)

  -- a number of them is that of a block
  number_back : (i j : ℕ) → i < length blocks → Contains (numbers i) j → (k : ℕ)
      × (k < length blocks) × (j ≡ k + 1)
  unfolding numbers
  number_back i j l c = ⊎_elim
      (λ e. (i, l, sym e))
      (λ r. let m = h.numbered i j l
      r in let low = m.0 in let high = m.1 in (j - 1, omega arith, omega arith))
      (cons_cases (i + 1) (block_at blocks i).needs j c)

  numbers_differ : (i : ℕ) → i < length blocks → Differ (numbers i)
  unfolding numbers
  numbers_differ i l = (
    (λ c. (h.numbered i (i + 1) l c).2 refl),
    increasing_differ (block_at blocks i).needs (h.ascending i l),
  )

  pulled : (i k d e : ℕ) → i < length blocks → k < length blocks → Has (class i) d → Has (class k) e
      → Contains (numbers i) (k + 1) → PullsAlong terms n q shift d e
  unfolding class numbers
  pulled i k d e li lk hd he c = ⊎_elim
      (λ same. let is : k
      ≡ i = omega arith in ((h.shared i d e li (below i d li hd) (below k e lk he) hd).0
      (subst (λ m. Has (block_at blocks m).members e) is he)).0)
      (λ r. let ne : i ≢ k = (λ is. (h.numbered i (k + 1) li r).2
      (ap (λ m. m + 1) (sym is))) in (h.needed i k d e li lk ne hd he).0 r)
      (cons_cases (i + 1) (block_at blocks i).needs (k + 1) c) where
        below : (m x : ℕ) → m < length blocks → Has (block_at blocks m).members x → x < n
        below m x l has = rw (← h.places m l) (has_below (block_at blocks m).members x has)

  pub below : (m x : ℕ) → m < length blocks → Has (class m) x → x < n
  unfolding class
  below m x l has = rw (← h.places m l) (has_below (block_at blocks m).members x has)

  to_number : (i k d e : ℕ) → i < length blocks → k < length blocks → Has (class i) d
      → Has (class k) e → PullsAlong terms n q shift d e → Contains (numbers i) (k + 1)
  unfolding class numbers
  to_number i k d e li lk hd he p = ⊎_elim
      (λ is. subst (λ m. Contains ((i + 1) ∷ (block_at blocks i).needs) (m + 1)) is
      (cons_first (i + 1) (block_at blocks i).needs))
      (λ ne. cons_rest (i + 1) (block_at blocks i).needs (k + 1)
      ((h.needed i k d e li lk ne hd he).1 p))
      (cases_eq i k)

  -- places of one block pull each other along, and only they do
  pub together : (i d e : ℕ) → i < length blocks → Has (class i) d → Has (class i) e
      → PullsAlong terms n q shift d e
  unfolding class
  together i d e l hd he = ((h.shared i d e l (below i d l hd) (below i e l he) hd).0 he).0

  pub joins : (i d e : ℕ) → i < length blocks → e < n → Has (class i) d
      → PullsAlong terms n q shift d e → PullsAlong terms n q shift e d → Has (class i) e
  unfolding class
  joins i d e l le hd p r = (h.shared i d e l (below i d l hd) le hd).1 (p, r)

  -- ---- no two blocks have a place in common

  same_numbers : (i k d : ℕ) → i < length blocks → k < length blocks → Has (class i) d
      → Has (class k) d → (x : ℕ) → Contains (numbers i) x → Contains (numbers k) x
  unfolding class
  same_numbers i k d li lk hi hk x c =
      let (m, lm, is) = number_back i x li c in
      let (e, he) = h.some m lm in
      let c' : Contains (numbers i) (m + 1) = subst (Contains (numbers i)) is c in
      subst (Contains (numbers k)) (sym is)
      (to_number k m d e lk lm hk he (pulled i m d e li lm hi he c'))

  same_members : (i k d : ℕ) → i < length blocks → k < length blocks → Has (class i) d
      → Has (class k) d → (e : ℕ) → Has (class i) e → Has (class k) e
  same_members i k d li lk hi hk e he =
      joins k d e lk (below i e li he) hk (together i d e li hi he) (together i e d li he hi)

  apart_in_order : (i k d : ℕ) → i < k → k < length blocks → Has (class i) d → Has (class k) d → ⊥
  unfolding class
  apart_in_order i k d l lk hi hk =
      let li : i < length blocks = omega arith in
      let same = sum_by-same size_of (numbers i) (numbers k) (numbers_differ i li)
      (numbers_differ k lk) (same_numbers i k d li lk hi hk) (same_numbers k i d lk li hk hi) in
      let wi = weight_sum i in
      let wk = weight_sum k in
      let (f, first) = first_place (class i) (d, hi) in
      let first' : IsFirst (class k) f = record {
        is_in = same_members i k d li lk hi hk f first.is_in;
        least = λ e he. first.least e (same_members k i d lk li hk hi e he);
      } in
      ⊎_elim (λ less. omega (arith, same, wi, wk, less))
      (λ (eq, order). let l = order f f first first' in omega (arith, l)) (h.ordered i k l lk)

  pub apart : (i k d : ℕ) → i ≢ k → i < length blocks → k < length blocks → Has (class i) d
      → Has (class k) d → ⊥
  apart i k d ne li lk hi hk = ⊎_elim (λ l. apart_in_order i k d l lk hi hk)
      (λ ge. ⊎_elim (λ l. apart_in_order k i d l li hk hi) (λ le. ne (omega arith)) (cases_lt k i))
      (cases_lt i k)

  -- ---- a block with all that it needs

  gathered : List ℕ → List Bool
  gathered [] = empty_set n
  gathered (j ∷ js) = union (class (j - 1)) (gathered js)

  AreNumbers : List ℕ → Type 0
  AreNumbers js = (x : ℕ) → Contains js x → (k : ℕ) × (k < length blocks) × (x ≡ k + 1)

  first_number : (j : ℕ) (js : List ℕ) → AreNumbers (j ∷ js) → j - 1 < length blocks
  unfolding AreNumbers
  first_number j js all = let (k, l, e) = all j (cons_first j js) in omega (arith, e, l)

  rest_numbers : (j : ℕ) (js : List ℕ) → AreNumbers (j ∷ js) → AreNumbers js
  unfolding AreNumbers
  rest_numbers j js all x c = all x (cons_rest j js x c)

  length-gathered : (js : List ℕ) → AreNumbers js → length (gathered js) ≡ n
  unfolding gathered class
  length-gathered [] all = length-replicate n false
  length-gathered (j ∷ js) all =
      let rest = length-gathered js (rest_numbers j js all) in
      let one = h.places (j - 1) (first_number j js all) in
      length-union (class (j - 1)) (gathered js) (one ∙ sym rest) ∙ one

  same_length : (j : ℕ) (js : List ℕ) → AreNumbers (j ∷ js)
      → length (class (j - 1)) ≡ length (gathered js)
  unfolding class
  same_length j js all = h.places (j - 1) (first_number j js all)
      ∙ sym (length-gathered js (rest_numbers j js all))

  Where : List ℕ → ℕ → Type 0
  Where js e = (k : ℕ) × (k < length blocks) × Contains js (k + 1) × Has (class k) e

  gathered_to : (js : List ℕ) (e : ℕ) → AreNumbers js → Has (gathered js) e → Where js e
  unfolding gathered Where AreNumbers
  gathered_to [] e all has = absurd (none_in_empty n e has)
  gathered_to (j ∷ js) e all has = ⊎_elim
      (λ l. let (k, lk, is) = all j (cons_first j js) in let back : j - 1
      ≡ k = omega (arith, is) in (
        k,
        lk,
        subst (Contains (j ∷ js)) is (cons_first j js),
        subst (λ m. Has (class m) e) back l,
      ))
      (λ r. let (k, lk, c, he) = gathered_to js e (rest_numbers j js all)
      r in (k, lk, cons_rest j js (k + 1) c, he))
      (in_union (class (j - 1)) (gathered js) e (same_length j js all) has)

  gathered_from : (js : List ℕ) (e : ℕ) → AreNumbers js → Where js e → Has (gathered js) e
  unfolding gathered Where
  gathered_from [] e all (k, lk, c, he) = absurd (none_in_nil (k + 1) c)
  gathered_from (j ∷ js) e all (k, lk, c, he) = ⊎_elim
      (λ is. let back : k ≡ j - 1 = omega (arith, is) in union_left (class (j - 1)) (gathered js) e
      (same_length j js all) (subst (λ m. Has (class m) e) back he))
      (λ r. union_right (class (j - 1)) (gathered js) e (same_length j js all)
      (gathered_from js e (rest_numbers j js all) (k, lk, r, he)))
      (cons_cases j js (k + 1) c)

  size-gathered : (js : List ℕ) → AreNumbers js → Differ js → size (gathered js) ≡ sum_by size_of js
  unfolding gathered size_of class Where AreNumbers
  size-gathered [] all differ = size-empty n
  size-gathered (j ∷ js) all differ =
      let rest = size-gathered js (rest_numbers j js all) differ.1 in
      let one = size-apart (class (j - 1)) (gathered js) (same_length j js all)
      (clash j js all differ) in
      let sum = sum_by-cons size_of j js in
      omega (arith, rest, one, sum) where
        clash : (j : ℕ) (js : List ℕ) → AreNumbers (j ∷ js) → Differ (j ∷ js) → (e : ℕ)
            → Has (class (j - 1)) e → Has (gathered js) e → ⊥
        clash j js all differ e hc hg =
            let (k, lk, c, he) = gathered_to js e (rest_numbers j js all) hg in
            let (m, lm, is) = all j (cons_first j js) in
            ⊎_elim
            (λ same. differ.0 (subst (Contains js) (omega (arith, is, same)) c))
            (λ ne. apart (j - 1) k e ne (first_number j js all) lk hc he)
            (cases_eq (j - 1) k)

  -- the places in block i and all that it needs
  pub whole : ℕ → List Bool
  whole i = gathered (numbers i)

  whole_numbers : (i : ℕ) → i < length blocks → AreNumbers (numbers i)
  unfolding AreNumbers
  whole_numbers i l x c = number_back i x l c

  pub length-whole : (i : ℕ) → i < length blocks → length (whole i) ≡ n
  unfolding whole
  length-whole i l = length-gathered (numbers i) (whole_numbers i l)

  pub size-whole : (i : ℕ) → i < length blocks → size (whole i) ≡ size_with_needs blocks i
  unfolding whole
  size-whole i l = size-gathered (numbers i) (whole_numbers i l) (numbers_differ i l)
      ∙ sym (weight_sum i)

  pub whole_to : (i d e : ℕ) → i < length blocks → Has (class i) d → Has (whole i) e
      → IsFree terms n q shift e × PullsAlong terms n q shift d e
  unfolding whole Where class
  whole_to i d e l hd has =
      let (k, lk, c, he) = gathered_to (numbers i) e (whole_numbers i l) has in
      ((h.covers e (below k e lk he)).1 (k, lk, he), pulled i k d e l lk hd he c)

  pub whole_from : (i d e : ℕ) → i < length blocks → e < n → Has (class i) d
      → IsFree terms n q shift e → PullsAlong terms n q shift d e → Has (whole i) e
  unfolding whole Where class
  whole_from i d e l le hd free p =
      let (k, lk, he) = (h.covers e le).0 free in
      gathered_from (numbers i) e (whole_numbers i l) (k, lk, to_number i k d e l lk hd he p, he)

  -- ---- a block stands behind what it needs

  lighter : (i k : ℕ) → i < length blocks → k < length blocks → i ≢ k
      → Contains (block_at blocks i).needs (k + 1)
      → size_with_needs blocks k < size_with_needs blocks i
  unfolding class
  lighter i k li lk ne c =
      let (d, hd) = h.some i li in
      let (e, he) = h.some k lk in
      let p : PullsAlong terms n q shift d e = (h.needed i k d e li lk ne hd he).0 c in
      let back : PullsAlong terms n q shift e d
      → ⊥ = (λ r. apart i k e ne li lk (joins i d e li (below k e lk he) hd p r) he) in
      let here : Has (whole i) d = whole_from i d d li (below i d li hd) hd
      ((h.covers d (below i d li hd)).1 (i, li, hd)) (λ s m x. x) in
      let inside : IsWithin (whole k) (whole i) = (λ x hx.
      let t = whole_to k e x lk he hx in
      whole_from i d x li (rw (length-whole k lk) at (has_below (whole k) x hx)) hd t.0
      (λ s m y. t.1 s m (p s m y))) in
      let wi = size-whole i li in
      let wk = size-whole k lk in
      ⊎_elim
      (λ same. absurd (back (whole_to k e d lk he (subst (λ s. Has s d) (sym same) here)).1))
      (λ less. omega (arith, wi, wk, less))
      (size_grows (whole k) (whole i) (length-whole k lk ∙ sym (length-whole i li)) inside)

  not_behind : (i j : ℕ) → i < length blocks → Contains (block_at blocks i).needs j → (1 ≤ j)
      × (j ≤ i)
  not_behind i j l c =
      let m = h.numbered i j l c in
      let k = j - 1 in
      let low = m.0 in
      let high = m.1 in
      let lk : j - 1 < length blocks = omega arith in
      let is : j ≡ j - 1 + 1 = omega arith in
      let ne : i ≢ j - 1 = (λ e. m.2 (omega (arith, e, is))) in
      let light = lighter i (j - 1) l lk ne (subst (Contains (block_at blocks i).needs) is c) in
      ⊎_elim
      (λ less. absurd (⊎_elim (λ w. omega (arith, w, light))
      (λ (w, firsts). omega (arith, w, light)) (h.ordered i (j - 1) less lk)))
      (λ ge. (low, omega (arith, ge, ne)))
      (cases_lt i (j - 1))

  -- so each block has the form that its line asks for
  pub blocks_formed : (i : ℕ) → i < length blocks → IsFormedBlock n i (block_at blocks i)
  blocks_formed i l = record {
    members = record { places = h.places i l; some = h.some i l };
    ascending = h.ascending i l;
    before = All-from_get_or (λ j. (1 ≤ j) × (j ≤ i)) (block_at blocks i).needs 0
        (λ m lm. not_behind i (get_or (block_at blocks i).needs m 0) l
        (Contains-get_or (block_at blocks i).needs m 0 lm));
  }

  -- ---- there are at most as many blocks as places

  some_size : (s : List Bool) (e : ℕ) → Has s e → 1 ≤ size s
  some_size s e has = ⊎_elim (λ l. l) (λ z. absurd (none s e has (omega (arith, z))))
      (cases_lt 0 (size s)) where
        none : (s : List Bool) (e : ℕ) → Has s e → size s ≡ 0 → ⊥
        none [] e has z = cc
        none (true ∷ s) e has z = let c = size-cons true s in omega (arith, z, c)
        none (false ∷ s) zero has z = cc
        none (false ∷ s) (suc e) has z =
            let c = size-cons false s in none s e has (omega (arith, z, c))

  -- the numbers of the first k blocks, from the last one down
  down : ℕ → List ℕ
  down zero = []
  down (suc k) = suc k ∷ down k

  in_down : (k x : ℕ) → Contains (down k) x → (1 ≤ x) × (x ≤ k)
  unfolding down
  in_down zero x c = absurd (none_in_nil x c)
  in_down (suc k) x c = ⊎_elim
      (λ e. (omega (arith, e), omega (arith, e)))
      (λ r. let l = in_down k x r in let low = l.0 in let high = l.1 in (low, omega (arith, high)))
      (cons_cases (suc k) (down k) x c)

  down_numbers : (k : ℕ) → k ≤ length blocks → AreNumbers (down k)
  unfolding AreNumbers
  down_numbers k l x c = let r = in_down k x
      c in let low = r.0 in let high = r.1 in (
        x - 1,
        omega (arith, low, high, l),
        omega (arith, low),
      )

  down_differ : (k : ℕ) → Differ (down k)
  unfolding down
  down_differ zero = tt
  down_differ (suc k) =
      ((λ c. let r = in_down k (suc k) c in let high = r.1 in omega (arith, high)), down_differ k)

  down_sum : (k : ℕ) → k ≤ length blocks → k ≤ sum_by size_of (down k)
  unfolding down size_of
  down_sum zero l = omega arith
  down_sum (suc k) l =
      let rest = down_sum k (omega (arith, l)) in
      let lk : k < length blocks = omega (arith, l) in
      let (e, has) = h.some k lk in
      let one = some_size (block_at blocks k).members e has in
      let back : suc k - 1 ≡ k = omega arith in
      let here = ap (λ j. size (block_at blocks j).members) back in
      let sum = sum_by-cons size_of (suc k) (down k) in
      omega (arith, rest, one, sum, here)

  pub few_blocks : length blocks ≤ n
  few_blocks =
      let k = length blocks in
      let all = down_numbers (length blocks) (omega arith) in
      let sum = size-gathered (down (length blocks)) all (down_differ (length blocks)) in
      let low = down_sum (length blocks) (omega arith) in
      let places = length-gathered (down (length blocks)) all in
      let high = size_below_length (gathered (down (length blocks))) in
      omega (arith, sum, low, places, high)
