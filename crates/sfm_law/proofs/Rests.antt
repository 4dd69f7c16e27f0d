-- z grows term by term and entry by entry, and its numbers stay small.
use Rattle.std.proofs.Common.{◌≡◌, ◌≢◌, ◌⊎◌, inl, inr, set, eq-eqb, length-set, get_or-set_same, get_or-set_other, ℕ, zero, suc, ◌+◌, ◌*◌, ◌^◌, ◌<◌, ◌≤◌, Bool, true, false, List, [], ◌∷◌, ◌++◌, length, map, get_or, replicate, take, nat_eq, nat_abs, ℤ, pos, negsuc, neg_ℤ, ◌+ℤ◌, ◌-ℤ◌, ◌≤ℤ◌, if◌then◌else◌, sum, refl, sym, ap, ◌∙◌, arith, add-one}
use Rattle.std.specs.List.{All}
use Rattle.std.proofs.lemmas.Int.{ints}
use Rattle.std.proofs.lemmas.Bool.{cases_eq, ne_eqb}
use Rattle.std.proofs.lemmas.List.{length-map, get_or-map, length-take-le, take-map}
use Rattle.std.proofs.lemmas.List.Sums.{sum_by-cons, sum_by-take-le}
use Rattle.std.proofs.lemmas.List.Elements.{All-from_get_or, All-get_or, All-head, All-tail}
use Rattle.sfm_spec.specs.Sets.{IsPlaced, magnitudes}
use Rattle.sfm_spec.specs.Terms.{SetFunction}
use Rattle.sfm_spec.specs.Bounds.{IsAtMost, IsEntry}
use Rattle.sfm_spec.specs.Families.{Meaning, meanings, entry_at, base_sum_at}
use Rattle.sfm_spec.specs.Walks.{base_at}
use Rattle.sfm_spec.proofs.Duality.{meanings_more}
use Rattle.sfm_law.specs.Rest.{IsRest}
use Rattle.sfm_law.proofs.Lists.{length-meanings}
use Rattle.std.proofs.Math.Nat.{mul-suc}

-- what the first j + 1 places of a row give e
pub entry_at-suc : (places : List ℕ) (x : List ℤ) (j e : ℕ) → j < length places
    → length x ≡ length places
    → entry_at (take (suc j) places) x
    e ≡ (entry_at (take j places) x
    e +ℤ (if nat_eq (get_or places j 0) e then get_or x j (pos 0) else pos 0))
entry_at-suc [] x j e l s = absurd (omega arith)
entry_at-suc (p ∷ places) [] j e l s = absurd (omega arith)
entry_at-suc (p ∷ places) (a ∷ x) zero e l s =
    let z = entry_at-none x e in omega (arith, ints, z) where
      entry_at-none : (x : List ℤ) (e : ℕ) → entry_at [] x e ≡ pos 0
      entry_at-none x e = refl
entry_at-suc (p ∷ places) (a ∷ x) (suc j) e l s =
    let r = entry_at-suc places x j e (omega arith) (omega arith) in omega (arith, ints, r)

pub entry_at-more : (places : List ℕ) (x : List ℤ) (j e : ℕ) → j < length places
    → length x ≡ length places
    → entry_at (take (j + 1) places) x
    e ≡ (entry_at (take j places) x
    e +ℤ (if nat_eq (get_or places j 0) e then get_or x j (pos 0) else pos 0))
entry_at-more places x j e l s = rw (add-one) (entry_at-suc places x j e l s)

-- the entry of one place, or nothing
one_bound : (b : Bool) (a : ℤ) → IsEntry a → IsAtMost (10 ^ 30) (if b then a else pos 0)
one_bound true a h = h
one_bound false a h = record { low = omega (arith, ints); high = omega (arith, ints) }

-- what a row gives e is at most one entry for each place
pub entry_at-bound : (places : List ℕ) (x : List ℤ) (e : ℕ) → All IsEntry x
    → IsAtMost (10 ^ 30 * length places) (entry_at places x e)
entry_at-bound [] x e h = record { low = omega (arith, ints); high = omega (arith, ints) }
entry_at-bound (p ∷ places) [] e h =
    record { low = omega (arith, ints); high = omega (arith, ints) }
entry_at-bound (p ∷ places) (a ∷ x) e h =
    let o = one_bound (nat_eq p e) a (All-head IsEntry a x h) in
    let r = entry_at-bound places x e (All-tail IsEntry a x h) in
    record { low = omega (arith, ints, o.low, r.low); high = omega (arith, ints, o.high, r.high) }

-- no row gives nothing more
nothing_more : (places : List ℕ) (e : ℕ) → (pos 0 +ℤ entry_at places [] e) ≡ pos 0
nothing_more [] e = refl
nothing_more (p ∷ places) e = refl

-- one term more, with its row
pub base_sum_at-push : (terms : List Meaning) (rows : List (List ℤ)) (t : Meaning) (e : ℕ)
    → base_sum_at (terms ++ t ∷ []) rows
    e ≡ (base_sum_at terms rows e +ℤ entry_at t.places (base_at rows (length terms)) e)
base_sum_at-push [] [] t e = sym (nothing_more t.places e)
base_sum_at-push [] (x ∷ rows) t e = omega (arith, ints)
base_sum_at-push (u ∷ terms) [] t e = sym (nothing_more t.places e)
base_sum_at-push (u ∷ terms) (x ∷ rows) t e =
    let r = base_sum_at-push terms rows t e in omega (arith, ints, r)

-- what all rows give e is at most one entry for each place of each term
pub base_sum_at-bound : {X : Type 0} (places : X → List ℕ) (value : X → SetFunction) (xs : List X)
    (rows : List (List ℤ)) (e : ℕ) → All (λ x. All IsEntry x) rows
    → IsAtMost (10 ^ 30 * sum (map length (map places xs)))
    (base_sum_at (meanings places value xs) rows e)
base_sum_at-bound places value [] rows e h =
    record { low = omega (arith, ints); high = omega (arith, ints) }
base_sum_at-bound places value (y ∷ xs) [] e h =
    record { low = omega (arith, ints); high = omega (arith, ints) }
base_sum_at-bound places value (y ∷ xs) (x ∷ rows) e h =
    let o = entry_at-bound (places y) x e (All-head (λ x. All IsEntry x) x rows h) in
    let r = base_sum_at-bound places value xs rows e (All-tail (λ x. All IsEntry x) x rows h) in
    let total : sum (map length (map places (y ∷ xs))) ≡ length (places y) + sum
    (map length (map places xs)) =
    sum_by-cons (λ n. n) (length (places y)) (map length (map places xs)) in
    record {
      low = omega (arith, ints, o.low, r.low, total);
      high = omega (arith, ints, o.high, r.high, total);
    }

-- a number is at most all magnitudes together
pub magnitudes-at : (x : List ℤ) (e : ℕ)
    → IsAtMost (nat_abs (get_or x e (pos 0))) (get_or x e (pos 0))
    × (pos (nat_abs (get_or x e (pos 0))) ≤ℤ magnitudes x)
magnitudes-at [] e = (
  record { low = omega (arith, ints); high = omega (arith, ints) },
  omega (arith, ints),
)
magnitudes-at (a ∷ x) zero = (by_sign a, let l = magnitudes-low x in omega (arith, ints, l)) where
  by_sign : (a : ℤ) → IsAtMost (nat_abs a) a
  by_sign (pos n) = record { low = omega (arith, ints); high = omega (arith, ints) }
  by_sign (negsuc n) = record { low = omega (arith, ints); high = omega (arith, ints) }

  magnitudes-low : (x : List ℤ) → pos 0 ≤ℤ magnitudes x
  magnitudes-low [] = omega (arith, ints)
  magnitudes-low (b ∷ x) = let r = magnitudes-low x in omega (arith, ints, r)
magnitudes-at (a ∷ x) (suc e) =
    let r = magnitudes-at x e in (r.0, let l = r.1 in omega (arith, ints, l))

-- what a place has with one entry more stays small
pub added-bound : (places : List ℕ) (x z0 z : List ℤ) (j : ℕ) → IsPlaced (length z0) places
    → length places ≤ 16384 → length x ≡ length places → All IsEntry x
    → All (IsAtMost (2 * 10 ^ 36)) z0 → length z ≡ length z0 → j < length places
    → ((e : ℕ) → e < length z → get_or z e
    (pos 0) ≡ (get_or z0 e (pos 0) +ℤ entry_at (take j places) x e))
    → IsAtMost (3 * 10 ^ 36) (get_or z (get_or places j 0) (pos 0) +ℤ get_or x j (pos 0))
added-bound places x z0 z j placed few same small room kept lj h =
    let p = get_or places j 0 in
    let lp : p < length z0 = placed.below j lj in
    let now = h p (omega (arith, lp, kept)) in
    let old : IsAtMost (2 * 10 ^ 36) (get_or z0 p (pos 0)) = All-get_or (IsAtMost (2 * 10 ^ 36)) z0
    p (pos 0) lp room in
    let some = entry_at-bound (take j places) x p small in
    let fewer : length (take j places) ≤ 16384 = rw (length-take-le j places (omega arith))
    (omega (arith, few, lj)) in
    let this : IsEntry (get_or x j (pos 0)) = All-get_or IsEntry x j (pos 0)
    (omega (arith, same, lj)) small in
    record {
      low = omega (arith, ints, now, old.low, some.low, fewer, this.low);
      high = omega (arith, ints, now, old.high, some.high, fewer, this.high);
    }

-- one entry added at its place
pub added_at : (places : List ℕ) (x z0 z : List ℤ) (j e : ℕ) → j < length places
    → length x ≡ length places → e < length
    (set z (get_or places j 0) (get_or z (get_or places j 0) (pos 0) +ℤ get_or x j (pos 0)))
    → ((e : ℕ) → e < length z → get_or z e
    (pos 0) ≡ (get_or z0 e (pos 0) +ℤ entry_at (take j places) x e))
    → get_or (set z (get_or places j 0)
    (get_or z (get_or places j 0) (pos 0) +ℤ get_or x j (pos 0))) e
    (pos 0) ≡ (get_or z0 e (pos 0) +ℤ entry_at (take (j + 1) places) x e)
added_at places x z0 z j e lj same l h = by (cases_eq e p) where
  p : ℕ
  p = get_or places j 0

  le : e < length z
  le = rw length-set at l

  by : (e ≡ p) ⊎ (e ≢ p) → get_or (set z p (get_or z p (pos 0) +ℤ get_or x j (pos 0))) e
      (pos 0) ≡ (get_or z0 e (pos 0) +ℤ entry_at (take (j + 1) places) x e)
  by (inl is) =
      let t : nat_eq p e ≡ true = eq-eqb p e (sym is) in
      let more : entry_at (take (j + 1) places) x
      e ≡ (entry_at (take j places) x e +ℤ get_or x j (pos 0)) =
      entry_at-more places x j e lj same
      ∙ ap (λ b. entry_at (take j places) x e +ℤ (if b then get_or x j (pos 0) else pos 0)) t in
      let lp : p < length z = rw (← is) le in
      let wrote : get_or (set z p (get_or z p (pos 0) +ℤ get_or x j (pos 0))) e
      (pos 0) ≡ (get_or z e (pos 0) +ℤ get_or x j (pos 0)) =
      rw is (get_or-set_same z p (get_or z p (pos 0) +ℤ get_or x j (pos 0)) (pos 0) lp) in
      let had = h e le in
      omega (arith, ints, more, wrote, had)
  by (inr ne) =
      let t : nat_eq p e ≡ false = ne_eqb p e (λ s. ne (sym s)) in
      let more : entry_at (take (j + 1) places) x
      e ≡ (entry_at (take j places) x e +ℤ pos 0) = entry_at-more places x j e lj same
      ∙ ap (λ b. entry_at (take j places) x e +ℤ (if b then get_or x j (pos 0) else pos 0)) t in
      let wrote = get_or-set_other z p e (get_or z p (pos 0) +ℤ get_or x j (pos 0)) (pos 0) ne in
      let had = h e le in
      omega (arith, ints, more, wrote, had)

-- z with the row of one more term added
pub rest-more : {X : Type 0} (places : X → List ℕ) (value : X → SetFunction) (xs : List X) (i : ℕ)
    (x : X) (shift : List ℤ) (rows : List (List ℤ)) (z z' : List ℤ) → i < length xs
    → x ≡ get_or xs i x
    → IsRest (meanings places value (take i xs)) shift rows z → length z' ≡ length z
    → ((e : ℕ) → e < length z → get_or z' e
    (pos 0) ≡ (get_or z e (pos 0) +ℤ entry_at (places x) (base_at rows i) e))
    → IsRest (meanings places value (take (i + 1) xs)) shift rows z'
rest-more places value xs i x shift rows z z' l read h same added = record {
  places = same ∙ h.places;
  exact = λ e le.
      let lz : e < length z = rw (← same) le in
      let a = added e lz in
      let b = h.exact e lz in
      let count : length (meanings places value (take i xs)) ≡ i = length-meanings places value
      (take i xs) ∙ length-take-le i xs (omega arith) in
      let r : base_sum_at (meanings places value (take (i + 1) xs)) rows
      e ≡ (base_sum_at (meanings places value (take i xs)) rows e +ℤ entry_at (places x)
      (base_at rows i) e) =
      ap (λ ts. base_sum_at ts rows e) (meanings_more places value xs i x l read)
      ∙ (base_sum_at-push (meanings places value (take i xs)) rows
      (record { places = places x; value = value x }) e
      ∙ ap (λ k. base_sum_at (meanings places value (take i xs)) rows e +ℤ entry_at (places x)
      (base_at rows k) e) count) in
      omega (arith, ints, a, b, r);
}

-- z before the first term
pub rest-none : (shift : List ℤ) (rows : List (List ℤ)) → IsRest [] shift rows (map neg_ℤ shift)
rest-none shift rows = record {
  places = length-map shift neg_ℤ;
  exact = λ e l. let ls : e < length shift = rw length-map at l in let m = get_or-map neg_ℤ shift e
      (pos 0) (pos 0) ls in omega (arith, ints, m);
}

-- the numbers of z, while entries are added
pub rest-small : {X : Type 0} (places : X → List ℕ) (value : X → SetFunction) (xs : List X)
    (shift : List ℤ) (rows : List (List ℤ)) (z : List ℤ)
    → IsRest (meanings places value xs) shift rows z → All (λ x. All IsEntry x) rows
    → sum (map length (map places xs)) ≤ 16384 → magnitudes shift ≤ℤ pos (10 ^ 36)
    → All (IsAtMost (2 * 10 ^ 36)) z
rest-small places value xs shift rows z h small few shifts =
    All-from_get_or (IsAtMost (2 * 10 ^ 36)) z (pos 0) (λ e l.
    let r = base_sum_at-bound places value xs rows e small in
    let (b, t) = magnitudes-at shift e in
    let x = h.exact e l in
    record {
      low = omega (arith, ints, r.low, r.high, b.low, b.high, t, x, few, shifts);
      high = omega (arith, ints, r.low, r.high, b.low, b.high, t, x, few, shifts);
    })

-- all magnitudes of z together
pub rest-magnitudes : (m : ℕ) (z shift : List ℤ) (f : ℕ → ℤ) → length z ≡ length shift
    → ((e : ℕ) → e < length z → get_or z e (pos 0) ≡ (f e -ℤ get_or shift e (pos 0)))
    → ((e : ℕ) → e < length z → IsAtMost m (f e))
    → magnitudes z ≤ℤ (pos (m * length z) +ℤ magnitudes shift)
rest-magnitudes m [] [] f same h b = omega (arith, ints)
rest-magnitudes m [] (c ∷ shift) f same h b = absurd (omega arith)
rest-magnitudes m (a ∷ z) [] f same h b = absurd (omega arith)
rest-magnitudes m (a ∷ z) (c ∷ shift) f same h b =
    let r = rest-magnitudes m z shift (λ e. f (suc e)) (omega arith)
    (λ e l. h (suc e) (omega arith)) (λ e l. b (suc e) (omega arith)) in
    let x = h 0 (omega arith) in
    let k = b 0 (omega arith) in
    let d = difference a (f 0) c m x k in
    let p = mul-suc m (length z) in
    omega (arith, ints, r, d, p) where
      difference : (a g c : ℤ) (m : ℕ) → a ≡ (g -ℤ c) → IsAtMost m g
          → pos (nat_abs a) ≤ℤ (pos m +ℤ pos (nat_abs c))
      difference (pos n) g (pos k) m e b = omega (arith, ints, e, b.low, b.high)
      difference (pos n) g (negsuc k) m e b = omega (arith, ints, e, b.low, b.high)
      difference (negsuc n) g (pos k) m e b = omega (arith, ints, e, b.low, b.high)
      difference (negsuc n) g (negsuc k) m e b = omega (arith, ints, e, b.low, b.high)

-- the places of one of some terms are few
pub places_few : {X : Type 0} (places : X → List ℕ) (xs : List X) (i : ℕ) (x : X) → i < length xs
    → x ≡ get_or xs i x → sum (map length (map places xs)) ≤ 16384 → length (places x) ≤ 16384
places_few places [] i x l e h = absurd (omega arith)
places_few places (y ∷ xs) zero x l e h =
    let total : sum (map length (map places (y ∷ xs))) ≡ length (places y) + sum
    (map length (map places xs)) =
    sum_by-cons (λ n. n) (length (places y)) (map length (map places xs)) in
    let same = ap (λ z. length (places z)) e in
    omega (arith, total, same, h)
places_few places (y ∷ xs) (suc i) x l e h =
    let total : sum (map length (map places (y ∷ xs))) ≡ length (places y) + sum
    (map length (map places xs)) =
    sum_by-cons (λ n. n) (length (places y)) (map length (map places xs)) in
    places_few places xs i x (omega arith) e (omega (arith, total, h))

-- the places of the first of some terms are no more
pub places_front : {X : Type 0} (places : X → List ℕ) (xs : List X) (i : ℕ)
    → sum (map length (map places xs)) ≤ 16384 → sum (map length (map places (take i xs))) ≤ 16384
places_front places xs i h =
    let a = take-map places i xs in
    let b = take-map length i (map places xs) in
    let e : sum (map length (map places (take i xs))) ≡ sum
    (take i (map length (map places xs))) = ap (λ ys. sum (map length ys)) (sym a)
    ∙ ap sum (sym b) in
    let l = sum_by-take-le (λ n. n) (map length (map places xs)) i in
    omega (arith, e, l, h)

-- all magnitudes of z together, under the bounds of what it is made of
pub rest-total : {X : Type 0} (places : X → List ℕ) (value : X → SetFunction) (xs : List X)
    (shift : List ℤ) (rows : List (List ℤ)) (z : List ℤ)
    → IsRest (meanings places value xs) shift rows z → All (λ x. All IsEntry x) rows
    → sum (map length (map places xs)) ≤ 16384 → length shift ≤ 256
    → magnitudes shift ≤ℤ pos (10 ^ 36) → magnitudes z ≤ℤ pos (10 ^ 37)
rest-total places value xs shift rows z h small few grounds shifts =
    let bound = rest-magnitudes (10 ^ 30 * 16384) z shift
    (base_sum_at (meanings places value xs) rows) h.places h.exact
    (λ e l. let r = base_sum_at-bound places value xs rows e
    small in record {
      low = omega (arith, ints, r.low, few);
      high = omega (arith, ints, r.high, few);
    }) in
    omega (arith, ints, bound, h.places, grounds, shifts)

-- all magnitudes of one number, taken n times
pub magnitudes-replicate : (n : ℕ) (p : ℤ) → IsEntry p
    → magnitudes (replicate n p) ≤ℤ pos (10 ^ 30 * n)
magnitudes-replicate zero p h = omega (arith, ints)
magnitudes-replicate (suc n) p h =
    let r = magnitudes-replicate n p h in
    let one = by_sign p h in
    omega (arith, ints, r, one) where
      by_sign : (p : ℤ) → IsEntry p → pos (nat_abs p) ≤ℤ pos (10 ^ 30)
      by_sign (pos k) g = omega (arith, ints, g.low, g.high)
      by_sign (negsuc k) g = omega (arith, ints, g.low, g.high)
