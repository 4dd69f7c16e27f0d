-- What is left by sets of places above a number is all that has to be tried: each set leaves at
-- least as much as one of them. For a set that leaves least, let w be the greatest place outside.
-- The last count that the set could gain adds at least x(w), and so does each count before; so
-- places with at most x(w) can be taken out, and no more is left.
use Rattle.std.proofs.Common.{◌≡◌, ◌≢◌, ◌⊎◌, ℕ, zero, suc, ◌<◌, ◌≤◌, Bool, true, false, not, ◌&&◌, List, [], ◌∷◌, length, get_or, set, nat_eq, ℤ, pos, ◌+ℤ◌, ◌≤ℤ◌, ◌<ℤ◌, refl, sym, ap, ◌∙◌, arith, inl, inr, ⊎_elim, length-set, get_or-set_other, get_or-set_same}
use Rattle.std.proofs.lemmas.Bool.{false≢true, cases_lt, cases_eq, both_ways, and_from, and_parts, not-true, eq-eqb, ne_eqb}
use Rattle.std.proofs.lemmas.Int.{ints}
use Rattle.std.proofs.lemmas.List.{length-replicate}
use Rattle.sfm_spec.specs.Sets.{Has, IsWithin, whole_set, size, sum_over}
use Rattle.sfm_spec.proofs.Where.{size-cons}
use Rattle.sfm_spec.proofs.Sets.{has_or_not, same_sets, Has-whole}
use Rattle.sfm_spec.proofs.Sizes.{size_below_length, size-whole}
use Rattle.sfm_spec.proofs.Lattice.{NoneOf, LeastOf, least_set}
use Rattle.sfm_spec.proofs.Walks.{has_below}
use Rattle.sfm_law.proofs.Monotone.{without}
use Rattle.sfm_concave.specs.Counts.{IsFalling, size-in, size-out, sum_over-in, sum_over-out}
use Rattle.sfm_concave.specs.Thresholds.{above, above_with, above_between, slack, Separates, Blocks}
use Rattle.sfm_concave.proofs.Above.{length-above, length-above_with, above_less, above_more, with_parts, out_with, between_parts, out_between, between_split, IsGreatestAt, greatest_at}

-- each of the first m counts adds at least t
abbrev RisesBy : ℕ → (ℕ → ℤ) → ℤ → Type 0
RisesBy m h t = (c : ℕ) → c < m → (h c +ℤ t) ≤ℤ h (suc c)

size-true : (s : List Bool) → size (true ∷ s) ≡ suc (size s)
size-true s = let c = size-cons true s in omega (arith, c)

size-false : (s : List Bool) → size (false ∷ s) ≡ size s
size-false s = let c = size-cons false s in omega (arith, c)

-- places with at most t taken out
shed : (s a : List Bool) (x : List ℤ) (h : ℕ → ℤ) (t : ℤ) → length s ≡ length x
    → length a ≡ length x → RisesBy (size s) h t
    → IsWithin a s → ((e : ℕ) → Has s e → get_or a e false ≡ false → get_or x e (pos 0) ≤ℤ t)
    → (sum_over s x +ℤ h (size a)) ≤ℤ (sum_over a x +ℤ h (size s))
shed [] [] x h t ks ka rises inside small = omega (arith, ints)
shed [] (c ∷ a) x h t ks ka rises inside small = absurd (omega arith)
shed (b ∷ s) [] x h t ks ka rises inside small = absurd (omega arith)
shed (b ∷ s) (c ∷ a) [] h t ks ka rises inside small = absurd (omega arith)
shed (true ∷ s) (true ∷ a) (y ∷ x) h t ks ka rises inside small =
    let ls = size-true s in
    let r = shed s a x (λ c. h (suc c)) t (omega arith) (omega arith)
    (λ c lt. rises (suc c) (omega (arith, ls))) (λ e. inside (suc e)) (λ e. small (suc e)) in
    let es = ap h ls in
    let ea = ap h (size-true a) in
    omega (arith, ints, r, es, ea)
shed (false ∷ s) (false ∷ a) (y ∷ x) h t ks ka rises inside small =
    let ls = size-false s in
    let r = shed s a x h t (omega arith) (omega arith) (λ c lt. rises c (omega (arith, ls)))
    (λ e. inside (suc e)) (λ e. small (suc e)) in
    let es = ap h ls in
    let ea = ap h (size-false a) in
    omega (arith, ints, r, es, ea)
shed (true ∷ s) (false ∷ a) (y ∷ x) h t ks ka rises inside small =
    let ls = size-true s in
    let r = shed s a x h t (omega arith) (omega arith) (λ c lt. rises c (omega (arith, ls)))
    (λ e. inside (suc e)) (λ e. small (suc e)) in
    let last = rises (size s) (omega (arith, ls)) in
    let less = small 0 refl refl in
    let es = ap h ls in
    let ea = ap h (size-false a) in
    omega (arith, ints, r, last, less, es, ea)
shed (false ∷ s) (true ∷ a) (y ∷ x) h t ks ka rises inside small =
    absurd (false≢true (inside 0 refl))

-- a count adds at least what a later one adds
rises_down : (k : ℕ) (h : ℕ → ℤ) (t : ℤ) → IsFalling k h → (m : ℕ) → suc m ≤ k
    → (h m +ℤ t) ≤ℤ h (suc m) → (c : ℕ) → c ≤ m → (h c +ℤ t) ≤ℤ h (suc c)
rises_down k h t falling m few up c le =
    ⊎_elim (λ lt. earlier m few up lt) (λ ge. same (omega arith)) (cases_lt c m) where
      same : c ≡ m → (h c +ℤ t) ≤ℤ h (suc c)
      same e = rw e up

      earlier : (m : ℕ) → suc m ≤ k → (h m +ℤ t) ≤ℤ h (suc m) → c < m → (h c +ℤ t) ≤ℤ h (suc c)
      earlier zero few up lt = absurd (omega arith)
      earlier (suc m) few up lt =
          let f = falling.falls m few in
          let here : (h m +ℤ t) ≤ℤ h (suc m) = omega (arith, ints, f, up) in
          ⊎_elim (λ lt. earlier m (omega arith) here lt)
          (λ ge. (let e : c ≡ m = omega arith in rw e here)) (cases_lt c m)

module _ (h : ℕ → ℤ) (x : List ℤ) (falling : IsFalling (length x) h) where
  -- what leaves no more with w put in leaves no less with places of at most x(w) taken out
  fewer : (s a : List Bool) (w : ℕ) → length s ≡ length x → length a ≡ length x → w < length x
      → get_or s w false ≡ false → slack h x s ≤ℤ slack h x (set s w true)
      → IsWithin a s → ((e : ℕ) → Has s e → get_or a e false ≡ false
      → get_or x e (pos 0) ≤ℤ get_or x w (pos 0)) → slack h x a ≤ℤ slack h x s
  fewer s a w ks ka kw out least inside small =
      let t : ℤ = get_or x w (pos 0) in
      let more : size (set s w true) ≡ suc (size s) = size-in s w (omega arith) out in
      let sum = sum_over-in s w x (omega arith) ks out in
      let e = ap h more in
      let few = size_below_length (set s w true) in
      let len = length-set s w true in
      let up : (h (size s) +ℤ t) ≤ℤ h (suc (size s)) = omega (arith, ints, least, sum, e) in
      let rises : RisesBy (size s) h t = λ c lt. rises_down (length x) h t falling (size s)
      (omega (arith, few, len, more)) up c (omega arith) in
      let r = shed s a x h t ks ka rises inside small in
      omega (arith, ints, r)

  -- a place outside a set
  outside : List Bool → ℕ → Bool
  outside s e = not (get_or s e false)

  -- what has more than the greatest place outside is inside
  inside_by : (s : List Bool) (w : ℕ) → IsGreatestAt x (outside s) w → (e : ℕ) → e < length x
      → get_or x w (pos 0) <ℤ get_or x e (pos 0) → Has s e
  unfolding outside
  inside_by s w g e lt more = ⊎_elim (λ has. has)
      (λ out. absurd (not_both (g.greatest e lt (ap not out)) more)) (has_or_not s e) where
        not_both : {a b : ℤ} → a ≤ℤ b → b <ℤ a → ⊥
        not_both h k = omega (arith, ints, h, k)

  -- every set leaves something, if those above each entry do and the whole gets exactly all
  pub none_short : (h (length x) ≡ sum_over (whole_set (length x)) x)
      → ((w : ℕ) → w < length x → pos 0 ≤ℤ slack h x (above (get_or x w (pos 0)) x))
      → (s : List Bool) → length s ≡ length x → pos 0 ≤ℤ slack h x s
  unfolding outside
  none_short total holds s ks = at (least_set (length x) (λ _. true) (slack h x)) where
    all_in : (m : List Bool) → length m ≡ length x → ((e : ℕ) → e < length x → outside m e ≡ false)
        → pos 0 ≤ℤ slack h x m
    all_in m km none =
        let same : m ≡ whole_set (length x) = same_sets m (whole_set (length x))
        (km ∙ sym (length-replicate (length x) true))
        (λ e lt has. Has-whole (length x) e (omega arith)) (λ e lt _. in_m e (omega arith)) in
        let size_is = ap h (size-whole (length x)) in
        rw same (omega (arith, ints, size_is, total)) where
          in_m : (e : ℕ) → e < length x → Has m e
          in_m e lt = ⊎_elim (λ has. has)
              (λ out. absurd (both_ways (outside m e) (none e lt) (ap not out))) (has_or_not m e)

    some_out : (m : List Bool) → length m ≡ length x
        → ((t : List Bool) → length t ≡ length x → slack h x m ≤ℤ slack h x t) → (w : ℕ)
        → IsGreatestAt x (outside m) w → pos 0 ≤ℤ slack h x m
    some_out m km least w g =
        let bar : ℤ = get_or x w (pos 0) in
        let r = fewer m (above bar x) w km (length-above bar x) g.in_range
        (not-true (get_or m w false) g.test) (least (set m w true) (length-set m w true ∙ km))
        (λ e has. inside_by m w g e (let p = has_below (above bar x) e
        has in omega (arith, p, length-above bar x)) (above_more bar x e has))
        (λ e has out. above_less bar x e (let p = has_below m e has in omega (arith, p, km)) out) in
        let z = holds w g.in_range in
        omega (arith, ints, r, z)

    at : NoneOf (length x) (λ _. true) ⊎ LeastOf (length x) (λ _. true) (slack h x)
        → pos 0 ≤ℤ slack h x s
    at (inl none) = absurd (false≢true (sym (none s ks)))
    at (inr (m, km, _, least)) =
        let low = least s ks refl in
        let z = ⊎_elim (λ (w, g). some_out m km (λ t kt. least t kt refl) w g)
        (λ none. all_in m km none) (greatest_at x (outside m)) in
        omega (arith, ints, low, z)

  -- ---- a set with u and not v

  -- the test of such sets
  splits : ℕ → ℕ → List Bool → Bool
  splits u v s = get_or s u false && not (get_or s v false)

  splits_by : (u v : ℕ) (s : List Bool) → Has s u → get_or s v false ≡ false → splits u v s ≡ true
  unfolding splits
  splits_by u v s hu nv = and_from (get_or s u false) (not (get_or s v false)) hu (ap not nv)

  splits_parts : (u v : ℕ) (s : List Bool) → splits u v s ≡ true → Has s u
      × (get_or s v false ≡ false)
  unfolding splits
  splits_parts u v s h = let (a, b) = and_parts (get_or s u false) (not (get_or s v false))
      h in (a, not-true (get_or s v false) b)

  -- a place outside a set, other than v
  free : ℕ → List Bool → ℕ → Bool
  free v s e = not (get_or s e false) && not (nat_eq e v)

  free_by : (v : ℕ) (s : List Bool) (e : ℕ) → get_or s e false ≡ false → e ≢ v → free v s e ≡ true
  unfolding free
  free_by v s e out ne = and_from (not (get_or s e false)) (not (nat_eq e v)) (ap not out)
      (ap not (ne_eqb e v ne))

  free_parts : (v : ℕ) (s : List Bool) (e : ℕ) → free v s e ≡ true → (get_or s e false ≡ false)
      × (e ≢ v)
  unfolding free
  free_parts v s e h =
      let (a, b) = and_parts (not (get_or s e false)) (not (nat_eq e v)) h in (
        not-true (get_or s e false) a,
        λ is. both_ways (nat_eq e v) (not-true (nat_eq e v) b) (eq-eqb e v is),
      )

  -- all such sets leave at least a, if all places but v do, and u with what is above each entry
  pub least_split : (u v : ℕ) (a : ℤ) → u < length x → v < length x → u ≢ v
      → a ≤ℤ slack h x (without (length x) v)
      → ((w : ℕ) → w < length x → a ≤ℤ slack h x (above_between (get_or x w (pos 0)) x u v))
      → (s : List Bool) → Separates x u v s → a ≤ℤ slack h x s
  least_split u v a ku kv ne rest holds s split =
      at (least_set (length x) (splits u v) (slack h x)) where
        all_in : (m : List Bool) → length m ≡ length x → Has m u → get_or m v false ≡ false
            → ((e : ℕ) → e < length x → free v m e ≡ false) → a ≤ℤ slack h x m
        all_in m km hu nv none =
            let same : m ≡ without (length x) v = same_sets m (without (length x) v) (km ∙ sym len)
            (λ e lt has. to e (omega (arith, km)) has)
            (λ e lt has. from e (omega (arith, km)) has) in
            rw same rest where
              len : length (without (length x) v) ≡ length x
              len = length-set (whole_set (length x)) v false ∙ length-replicate (length x) true

              other : (e : ℕ) → e ≢ v → get_or (without (length x) v) e false ≡ get_or
                  (whole_set (length x)) e false
              other e nev = get_or-set_other (whole_set (length x)) v e false false nev

              to : (e : ℕ) → e < length x → Has m e → Has (without (length x) v) e
              to e lt has = other e (λ is. both_ways (get_or m v false) nv (rw is at has))
                  ∙ Has-whole (length x) e lt

              from : (e : ℕ) → e < length x → Has (without (length x) v) e → Has m e
              from e lt has = ⊎_elim
                  (λ is. absurd (both_ways (get_or (without (length x) v) e false)
                  (rw is (get_or-set_same (whole_set (length x)) v false false
                  (omega (arith, length-replicate (length x) true)))) has))
                  (λ nev. ⊎_elim (λ in_m. in_m)
                  (λ out. absurd (both_ways (free v m e) (none e lt) (free_by v m e out nev)))
                  (has_or_not m e))
                  (cases_eq e v)

        some_out : (m : List Bool) → length m ≡ length x → Has m u → get_or m v false ≡ false
            → ((t : List Bool) → length t ≡ length x → splits u v t ≡ true
            → slack h x m ≤ℤ slack h x t)
            → (w : ℕ) → IsGreatestAt x (free v m) w → a ≤ℤ slack h x m
        some_out m km hu nv least w g =
            let bar : ℤ = get_or x w (pos 0) in
            let (out, nev) = free_parts v m w g.test in
            let grown = least (set m w true) (length-set m w true ∙ km)
            (splits_by u v (set m w true)
            (get_or-set_other m w u true false (λ e. both_ways (get_or m w false) out (rw (← e) hu))
            ∙ hu)
            (get_or-set_other m w v true false (λ e. nev (sym e)) ∙ nv)) in
            let r = fewer m (above_between bar x u v) w km (between_split bar x u v ku kv ne).places
            g.in_range out grown inside small in
            let z = holds w g.in_range in
            omega (arith, ints, r, z) where
              inside : IsWithin (above_between (get_or x w (pos 0)) x u v) m
              inside e has =
                  let (nev, with) = between_parts (get_or x w (pos 0)) x u v e kv has in
                  ⊎_elim
                  (λ is. rw is hu)
                  (λ up. ⊎_elim (λ in_m. in_m)
                  (λ out. absurd (not_both (g.greatest e (place e up) (free_by v m e out nev))
                  (above_more (get_or x w (pos 0)) x e up))) (has_or_not m e))
                  (with_parts (get_or x w (pos 0)) x u e with) where
                    not_both : {a b : ℤ} → a ≤ℤ b → b <ℤ a → ⊥
                    not_both h k = omega (arith, ints, h, k)

                    place : (e : ℕ) → Has (above (get_or x w (pos 0)) x) e → e < length x
                    place e up = let p = has_below (above (get_or x w (pos 0)) x) e
                        up in omega (arith, p, length-above (get_or x w (pos 0)) x)

              small : (e : ℕ) → Has m e → get_or (above_between (get_or x w (pos 0)) x u v) e
                  false ≡ false → get_or x e (pos 0) ≤ℤ get_or x w (pos 0)
              small e has out =
                  let p = has_below m e has in
                  let with = out_between (get_or x w (pos 0)) x u v e
                  (λ is. both_ways (get_or m v false) nv (rw is at has)) out in
                  above_less (get_or x w (pos 0)) x e (omega (arith, p, km))
                  (out_with (get_or x w (pos 0)) x u e ku with).1

        at : NoneOf (length x) (splits u v) ⊎ LeastOf (length x) (splits u v) (slack h x)
            → a ≤ℤ slack h x s
        at (inl none) = absurd (both_ways (splits u v s) (none s split.places)
            (splits_by u v s split.first_in split.second_out))
        at (inr (m, km, found, least)) =
            let (hu, nv) = splits_parts u v m found in
            let low = least s split.places (splits_by u v s split.first_in split.second_out) in
            let z = ⊎_elim (λ (w, g). some_out m km hu nv least w g)
            (λ none. all_in m km hu nv none)
            (greatest_at x (free v m)) in
            omega (arith, ints, low, z)

  -- ---- a set with u and not v that leaves nothing

  pub blocked : (u v : ℕ) → u < length x → v < length x
      → ((s : List Bool) → length s ≡ length x → pos 0 ≤ℤ slack h x s)
      → (s : List Bool) → Separates x u v s → slack h x s ≤ℤ pos 0 → (w : ℕ) × Blocks h x u w
      × (get_or x v (pos 0) ≤ℤ get_or x w (pos 0))
  unfolding outside
  blocked u v ku kv low s split tight =
      ⊎_elim found (λ none. absurd (both_ways (outside s v) (none v kv) (ap not split.second_out)))
      (greatest_at x (outside s)) where
        found : (w : ℕ) × IsGreatestAt x (outside s) w → (w : ℕ) × Blocks h x u w
            × (get_or x v (pos 0) ≤ℤ get_or x w (pos 0))
        found (w, g) =
            let bar : ℤ = get_or x w (pos 0) in
            let out : get_or s w false ≡ false = not-true (get_or s w false) g.test in
            let z = low (set s w true) (length-set s w true ∙ split.places) in
            let r = fewer s (above_with bar x u) w split.places (length-above_with bar x u)
            g.in_range
            out (omega (arith, ints, z, tight)) inside small in
            let zr = low (above_with bar x u) (length-above_with bar x u) in (
              w,
              record {
                in_range = g.in_range;
                below = swapped out;
                tight = omega (arith, ints, r, zr, tight);
              },
              g.greatest v kv (ap not split.second_out),
            ) where
              inside : IsWithin (above_with (get_or x w (pos 0)) x u) s
              inside e has = ⊎_elim
                  (λ is. rw is split.first_in)
                  (λ up. inside_by s w g e (let p = has_below (above (get_or x w (pos 0)) x) e
                  up in omega (arith, p, length-above (get_or x w (pos 0)) x))
                  (above_more (get_or x w (pos 0)) x e up))
                  (with_parts (get_or x w (pos 0)) x u e has)

              small : (e : ℕ) → Has s e → get_or (above_with (get_or x w (pos 0)) x u) e
                  false ≡ false
                  → get_or x e (pos 0) ≤ℤ get_or x w (pos 0)
              small e has out =
                  let p = has_below s e has in
                  above_less (get_or x w (pos 0)) x e (omega (arith, p, split.places))
                  (out_with (get_or x w (pos 0)) x u e ku out).1

              -- with w in place of u the set would leave less, were x(w) more than x(u)
              swapped : get_or s w false ≡ false → get_or x w (pos 0) ≤ℤ get_or x u (pos 0)
              swapped out =
                  let rest : List Bool = set s u false in
                  let len : length rest ≡ length x = length-set s u false ∙ split.places in
                  let out' : get_or rest w false ≡ false = get_or-set_other s u w false false
                  (λ e. both_ways (get_or s w false) out (rw e split.first_in)) ∙ out in
                  let z = low (set rest w true) (length-set rest w true ∙ len) in
                  let kw = g.in_range in
                  let places = split.places in
                  let s1 = size-in rest w (omega (arith, len, kw)) out' in
                  let s2 = size-out s u (omega (arith, places)) split.first_in in
                  let t1 = sum_over-in rest w x (omega (arith, len, kw)) len out' in
                  let t2 = sum_over-out s u x (omega (arith, places)) places split.first_in in
                  let e = ap h (s1 ∙ s2) in
                  omega (arith, ints, z, t1, t2, e, tight)
