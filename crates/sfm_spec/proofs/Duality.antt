-- The value of each allowed set is at least the deficit, and which sets reach it.
use Rattle.std.proofs.Common.{◌≡◌, ◌↔◌, ℕ, ◌+◌, ◌<◌, Bool, List, [], ◌∷◌, ◌++◌, take, length, get_or, ℤ, pos, ◌+ℤ◌, ◌-ℤ◌, ◌*ℤ◌, ◌≤ℤ◌, Option, Some, None, IsSome, unwrap_or, refl, sym, ap, ◌∙◌, arith}
use Rattle.std.proofs.Math.IntN.{*ℤ-zero}
use Rattle.std.specs.Option.{option_map}
use Rattle.std.proofs.lemmas.Int.{ints}
use Rattle.std.proofs.lemmas.List.{length-map, take_more}
use Rattle.sfm_spec.specs.Sets.{part, sum_over}
use Rattle.sfm_spec.specs.Terms.{SetFunction, times, IsFamily, IsSubmodular, IsBase, IsTight}
use Rattle.sfm_spec.specs.Families.{Meaning, meanings, ArePlaced, AreTerms, AreBases, AreTight, IsAllowed, IsMinimiser, IsSigned, Prove, value_at, sum_at, shifted_at, entry_at, base_sum_at, rest_at, deficit}
use Rattle.sfm_spec.proofs.Scaled.{times-add}
use Rattle.sfm_spec.proofs.Where.{sum_where, sum_where-zero, sum_where-add, sum_where-less, sum_where-entries, deficit_below, deficit_at, signed_at}

-- what the rows give the parts of s, together
abbrev pub parts_sum : List Meaning → List (List ℤ) → List Bool → ℤ
parts_sum [] rows s = pos 0
parts_sum (term ∷ terms) [] s = pos 0
parts_sum (term ∷ terms) (x ∷ rows) s = sum_over (part term.places s) x +ℤ parts_sum terms rows s

-- the rows summed over a set are what they give its parts
pub sum_where-rows : (s : List Bool) (terms : List Meaning) (rows : List (List ℤ))
    → AreTerms (length s) terms → sum_where s (base_sum_at terms rows) ≡ parts_sum terms rows s
sum_where-rows s [] rows h = sum_where-zero s
sum_where-rows s (term ∷ terms) [] h = sum_where-zero s
sum_where-rows s (term ∷ terms) (x ∷ rows) h =
    let one = sum_where-entries s term.places x h.0.placed.below in
    let others = sum_where-rows s terms rows h.1 in
    sum_where-add s (entry_at term.places x) (base_sum_at terms rows)
    ∙ (ap (λ y. y +ℤ sum_where s (base_sum_at terms rows)) one
    ∙ ap (λ y. sum_over (part term.places s) x +ℤ y) others)

-- the value of one term's part bounds what its row gives it
one_below : (q : ℤ) (term : Meaning) (x : List ℤ) (s : List Bool) → length x ≡ length term.places
    → IsBase (times q term.value) x → IsSome (value_at term s)
    → (sum_over (part term.places s) x ≤ℤ (q *ℤ unwrap_or (value_at term s) (pos 0)))
one_below q term x s sized base allowed = at (value_at term s) refl allowed where
  at : (o : Option ℤ) → value_at term s ≡ o → IsSome o
      → sum_over (part term.places s) x ≤ℤ (q *ℤ unwrap_or (value_at term s) (pos 0))
  at None e a = cc
  at (Some c) e a = rw e (base.within (part term.places s) (q *ℤ c) (length-map s' _ ∙ sym sized)
      (rw e refl)) where
        s' : List ℕ
        s' = term.places

-- what the rows give the parts of an allowed set is at most q times its value
pub parts_below : (q : ℤ) (terms : List Meaning) (rows : List (List ℤ)) (s : List Bool)
    → AreBases q terms rows → IsAllowed terms s → parts_sum terms rows s ≤ℤ (q *ℤ sum_at terms s)
parts_below q [] [] s bases allowed = let z = *ℤ-zero q in omega (arith, ints, z)
parts_below q [] (x ∷ rows) s bases allowed = absurd bases
parts_below q (term ∷ terms) [] s bases allowed = absurd bases
parts_below q (term ∷ terms) (x ∷ rows) s bases allowed =
    let one = one_below q term x s bases.0 bases.1 allowed.0 in
    let others = parts_below q terms rows s bases.2 allowed.1 in
    let sum = times-add q (unwrap_or (value_at term s) (pos 0)) (sum_at terms s) in
    omega (arith, ints, one, others, sum)

-- ---- the sum over a set, less the shift of each element

rest_sum : (s : List Bool) (terms : List Meaning) (rows : List (List ℤ)) (shift : List ℤ)
    → AreTerms (length s) terms
    → sum_where s (rest_at terms rows shift) ≡ (parts_sum terms rows s -ℤ sum_over s shift)
rest_sum s terms rows shift h = sum_where-less s (base_sum_at terms rows) shift
    ∙ ap (λ y. y -ℤ sum_over s shift) (sum_where-rows s terms rows h)

-- the sum of min(z(e), 0) is at most the value of each allowed set
pub deficit_under : (terms : List Meaning) (rows : List (List ℤ)) (q : ℤ) (shift : List ℤ)
    (s : List Bool) → AreTerms (length s) terms → AreBases q terms rows → IsAllowed terms s
    → deficit (length s) (rest_at terms rows shift) ≤ℤ shifted_at terms q shift s
deficit_under terms rows q shift s fit bases allowed =
    let below = deficit_below s (rest_at terms rows shift) in
    let sum = rest_sum s terms rows shift fit in
    let parts = parts_below q terms rows s bases allowed in
    omega (arith, ints, below, sum, parts)

-- ---- tight parts

one_tight : (q : ℤ) (term : Meaning) (x : List ℤ) (s : List Bool)
    → IsTight (times q term.value) x (part term.places s)
    → IsSome (value_at term s)
    × (sum_over (part term.places s) x ≡ (q *ℤ unwrap_or (value_at term s) (pos 0)))
one_tight q term x s tight = at (value_at term s) tight where
  at : (o : Option ℤ) → option_map (λ a. q *ℤ a) o ≡ Some (sum_over (part term.places s) x)
      → IsSome o × (sum_over (part term.places s) x ≡ (q *ℤ unwrap_or o (pos 0)))
  at None e = cc
  at (Some c) e = let f : (q *ℤ c) ≡ sum_over (part term.places s) x = cc in (refl, sym f)

one_tight_back : (q : ℤ) (term : Meaning) (x : List ℤ) (s : List Bool) → IsSome (value_at term s)
    → sum_over (part term.places s) x ≡ (q *ℤ unwrap_or (value_at term s) (pos 0))
    → IsTight (times q term.value) x (part term.places s)
one_tight_back q term x s allowed same = at (value_at term s) allowed same where
  at : (o : Option ℤ) → IsSome o → sum_over (part term.places s) x ≡ (q *ℤ unwrap_or o (pos 0))
      → option_map (λ a. q *ℤ a) o ≡ Some (sum_over (part term.places s) x)
  at None a e = cc
  at (Some c) a e = ap Some (sym e)

-- tight parts get all of the value
pub tight_sum : (q : ℤ) (terms : List Meaning) (rows : List (List ℤ)) (s : List Bool)
    → AreTight q terms rows s
    → IsAllowed terms s × (parts_sum terms rows s ≡ (q *ℤ sum_at terms s))
tight_sum q [] rows s tight = (tt, sym (*ℤ-zero q))
tight_sum q (term ∷ terms) [] s tight = absurd tight
tight_sum q (term ∷ terms) (x ∷ rows) s tight =
    let one = one_tight q term x s tight.0 in
    let others = tight_sum q terms rows s tight.1 in
    let sum = times-add q (unwrap_or (value_at term s) (pos 0)) (sum_at terms s) in
    ((one.0, others.0), omega (arith, ints, one.1, others.1, sum))

-- parts that get all of the value are tight
pub sum_tight : (q : ℤ) (terms : List Meaning) (rows : List (List ℤ)) (s : List Bool)
    → AreBases q terms rows → IsAllowed terms s
    → parts_sum terms rows s ≡ (q *ℤ sum_at terms s) → AreTight q terms rows s
sum_tight q [] rows s bases allowed same = tt
sum_tight q (term ∷ terms) [] s bases allowed same = absurd bases
sum_tight q (term ∷ terms) (x ∷ rows) s bases allowed same =
    let one = one_below q term x s bases.0 bases.1 allowed.0 in
    let others = parts_below q terms rows s bases.2 allowed.1 in
    let sum = times-add q (unwrap_or (value_at term s) (pos 0)) (sum_at terms s) in
    let here : sum_over (part term.places s)
    x ≡ (q *ℤ unwrap_or (value_at term s) (pos 0)) =
    omega (arith, ints, one, others, sum, same) in
    let there : parts_sum terms rows
    s ≡ (q *ℤ sum_at terms s) = omega (arith, ints, one, others, sum, same) in
    (one_tight_back q term x s allowed.0 here, sum_tight q terms rows s bases.2 allowed.1 there)

-- ---- the sets that reach the deficit

module _ (terms : List Meaning) (rows : List (List ℤ)) (n : ℕ) (q : ℤ) (shift : List ℤ)
    (fit : AreTerms n terms) (bases : AreBases q terms rows) where
  -- a set with the signs of z and tight parts reaches the sum of min(z(e), 0)
  pub reached : (s : List Bool) → length s ≡ n → IsSigned n (rest_at terms rows shift) s
      → AreTight q terms rows s
      → IsAllowed terms s × (shifted_at terms q shift s ≡ deficit n (rest_at terms rows shift))
  reached s places signed tight =
      let f : AreTerms (length s) terms = rw places fit in
      let (allowed, same) = tight_sum q terms rows s tight in
      let at = deficit_at s (rest_at terms rows shift) (rw places signed) in
      let sum = rest_sum s terms rows shift f in
      let here : shifted_at terms q shift s ≡ deficit (length s)
      (rest_at terms rows shift) = omega (arith, ints, at, sum, same) in
      (allowed, here ∙ ap (λ k. deficit k (rest_at terms rows shift)) places)

  -- a set that reaches it has the signs of z and tight parts
  pub reached_back : (s : List Bool) → length s ≡ n → IsAllowed terms s
      → shifted_at terms q shift s ≡ deficit n (rest_at terms rows shift)
      → IsSigned n (rest_at terms rows shift) s × AreTight q terms rows s
  reached_back s places allowed same =
      let f : AreTerms (length s) terms = rw places fit in
      let below = deficit_below s (rest_at terms rows shift) in
      let sum = rest_sum s terms rows shift f in
      let parts = parts_below q terms rows s bases allowed in
      let here : shifted_at terms q shift s ≡ deficit (length s) (rest_at terms rows shift) = same
      ∙ ap (λ k. deficit k (rest_at terms rows shift)) (sym places) in
      let at : sum_where s (rest_at terms rows shift) ≡ deficit (length s)
      (rest_at terms rows shift) = omega (arith, ints, below, sum, parts, here) in
      let tight : parts_sum terms rows
      s ≡ (q *ℤ sum_at terms s) = omega (arith, ints, below, sum, parts, here) in (
        rw (← places) (signed_at s (rest_at terms rows shift) at),
        sum_tight q terms rows s bases allowed tight,
      )

  under : (t : List Bool) → length t ≡ n → IsAllowed terms t
      → deficit n (rest_at terms rows shift) ≤ℤ shifted_at terms q shift t
  under t places allowed = rw (← places)
      (deficit_under terms rows q shift t (rw places fit) bases allowed)

  -- such a set is a minimiser, and the bases prove
  pub proved_by : (s : List Bool) → length s ≡ n → IsSigned n (rest_at terms rows shift) s
      → AreTight q terms rows s → IsMinimiser terms n q shift s × Prove terms n q shift rows
  proved_by s places signed tight =
      let (allowed, same) = reached s places signed tight in
      let m : IsMinimiser terms n q shift
      s = record {
        places = places;
        allowed = allowed;
        least = λ t tp ta. rw same (under t tp ta);
      } in
      (m, (s, m, same))

  -- where the bases prove, the minimisers are these sets
  pub minimisers_are : Prove terms n q shift rows → (s : List Bool) → length s ≡ n
      → IsMinimiser terms n q shift s
      ↔ (IsSigned n (rest_at terms rows shift) s × AreTight q terms rows s)
  minimisers_are (r, m, same) s places =
      (to, λ (signed, tight). (proved_by s places signed tight).0) where
        to : IsMinimiser terms n q shift s → IsSigned n (rest_at terms rows shift) s
            × AreTight q terms rows s
        to h =
            let low = under s places h.allowed in
            let high = h.least r m.places m.allowed in
            reached_back s places h.allowed (omega (arith, ints, low, high, same))

-- the meanings of objects that keep the laws are terms
pub meanings-terms : {X : Type 0} (n : ℕ) (places : X → List ℕ) (value : X → SetFunction)
    → ((x : X) → IsFamily (length (places x)) (value x))
    → ((x : X) → IsSubmodular (length (places x)) (value x))
    → (xs : List X) → ArePlaced n (meanings places value xs) → AreTerms n (meanings places value xs)
meanings-terms n places value family law [] h = tt
meanings-terms n places value family law (x ∷ xs) h = (
  record { placed = h.0; family = family x; submodular = law x },
  meanings-terms n places value family law xs h.1,
)

-- ---- one more term with its row

-- one base more, for one term more
pub bases_push : (q : ℤ) (terms : List Meaning) (rows : List (List ℤ)) (term : Meaning) (x : List ℤ)
    → AreBases q terms rows → length x ≡ length term.places → IsBase (times q term.value) x
    → AreBases q (terms ++ term ∷ []) (rows ++ x ∷ [])
bases_push q [] [] term x h sized base = (sized, base, tt)
bases_push q [] (y ∷ rows) term x h sized base = absurd h
bases_push q (t ∷ terms) [] term x h sized base = absurd h
bases_push q (t ∷ terms) (y ∷ rows) term x h sized base =
    (h.0, h.1, bases_push q terms rows term x h.2 sized base)

-- the meanings of one object more
pub meanings_push : {X : Type 0} (places : X → List ℕ) (value : X → SetFunction) (xs : List X)
    (x : X)
    → meanings places value (xs ++ x ∷ []) ≡ meanings places value
    xs ++ record { places = places x; value = value x } ∷ []
meanings_push places value [] x = refl
meanings_push places value (y ∷ xs) x = ap (λ r. record { places = places y; value = value y } ∷ r)
    (meanings_push places value xs x)

-- the meanings of the first i + 1 objects
pub meanings_more : {X : Type 0} (places : X → List ℕ) (value : X → SetFunction) (xs : List X)
    (i : ℕ) (x : X) → i < length xs → x ≡ get_or xs i x
    → meanings places value (take (i + 1) xs) ≡ meanings places value
    (take i xs) ++ record { places = places x; value = value x } ∷ []
meanings_more places value xs i x lt read =
    ap (meanings places value) (take_more xs i x lt ∙ ap (λ y. take i xs ++ y ∷ []) (sym read))
    ∙ meanings_push places value (take i xs) x
