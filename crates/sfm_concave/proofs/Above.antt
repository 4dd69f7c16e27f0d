-- The places with more than a number, and the greatest place of those with a test.
use Rattle.std.proofs.Common.{◌≡◌, ◌≢◌, ◌⊎◌, ℕ, zero, suc, ◌<◌, Bool, true, false, List, [], ◌∷◌, length, get_or, set, ℤ, pos, ◌≤ℤ◌, ◌<ℤ◌, refl, sym, ◌∙◌, arith, inl, inr, ⊎_elim, length-set, get_or-set_other, get_or-set_same}
use Rattle.std.proofs.lemmas.Bool.{cases_Bool, cases_eq, both_ways}
use Rattle.std.proofs.lemmas.Int.{ints, by_lt_z}
use Rattle.std.proofs.lemmas.List.{length-map, length-replicate}
use Rattle.std.specs.Int.Signed.{lt_z}
use Rattle.sfm_spec.specs.Sets.{Has, whole_set}
use Rattle.sfm_spec.proofs.Sets.{Has-whole}
use Rattle.sfm_spec.proofs.Walks.{has_below}
use Rattle.sfm_concave.specs.Thresholds.{above, above_with, above_between, Separates}

pub length-above : (bar : ℤ) (x : List ℤ) → length (above bar x) ≡ length x
length-above bar x = length-map x (λ a. lt_z bar a)

pub get_or-above : (bar : ℤ) (x : List ℤ) (e : ℕ) → e < length x
    → get_or (above bar x) e false ≡ lt_z bar (get_or x e (pos 0))
get_or-above bar [] e h = absurd (omega arith)
get_or-above bar (y ∷ x) zero h = refl
get_or-above bar (y ∷ x) (suc e) h = get_or-above bar x e (omega arith)

pub above_more : (bar : ℤ) (x : List ℤ) (e : ℕ) → Has (above bar x) e → bar <ℤ get_or x e (pos 0)
above_more bar x e h =
    let p = has_below (above bar x) e h in
    let t : lt_z bar (get_or x e (pos 0)) ≡ true = sym
    (get_or-above bar x e (omega (arith, p, length-above bar x))) ∙ h in
    omega (arith, ints, t)

pub above_less : (bar : ℤ) (x : List ℤ) (e : ℕ) → e < length x
    → get_or (above bar x) e false ≡ false → get_or x e (pos 0) ≤ℤ bar
above_less bar x e lt h =
    let t : lt_z bar (get_or x e (pos 0)) ≡ false = sym (get_or-above bar x e lt) ∙ h in
    omega (arith, ints, t)

pub is_above : (bar : ℤ) (x : List ℤ) (e : ℕ) → e < length x → bar <ℤ get_or x e (pos 0)
    → Has (above bar x) e
is_above bar x e lt more = get_or-above bar x e lt
    ∙ ⊎_elim (λ t. t) (λ t. absurd (omega (arith, ints, t, more)))
    (cases_Bool (lt_z bar (get_or x e (pos 0))))

pub is_not_above : (bar : ℤ) (x : List ℤ) (e : ℕ) → e < length x → get_or x e (pos 0) ≤ℤ bar
    → get_or (above bar x) e false ≡ false
is_not_above bar x e lt less = get_or-above bar x e lt
    ∙ ⊎_elim (λ t. absurd (omega (arith, ints, t, less))) (λ t. t)
    (cases_Bool (lt_z bar (get_or x e (pos 0))))

-- ---- the greatest place with a test

pub record IsGreatestAt (x : List ℤ) (p : ℕ → Bool) (w : ℕ) : Type 0 where
  pub in_range : w < length x
  pub test : p w ≡ true
  pub greatest : (e : ℕ) → e < length x → p e ≡ true → get_or x e (pos 0) ≤ℤ get_or x w (pos 0)

-- of the places with a test one has the greatest entry, or none has the test
pub greatest_at : (x : List ℤ) (p : ℕ → Bool) → ((w : ℕ) × IsGreatestAt x p w)
    ⊎ ((e : ℕ) → e < length x → p e ≡ false)
greatest_at [] p = inr (λ e h. absurd (omega arith))
greatest_at (y ∷ x) p = at (cases_Bool (p 0)) (greatest_at x (λ e. p (suc e))) where
  only : p 0 ≡ true → ((e : ℕ) → e < length x → p (suc e) ≡ false) → (e : ℕ) → e < suc (length x)
      → p e ≡ true → get_or (y ∷ x) e (pos 0) ≤ℤ y
  only h none zero lt t = omega (arith, ints)
  only h none (suc e) lt t = absurd (both_ways (p (suc e)) (none e (omega arith)) t)

  none_of : p 0 ≡ false → ((e : ℕ) → e < length x → p (suc e) ≡ false) → (e : ℕ)
      → e < suc (length x) → p e ≡ false
  none_of h none zero lt = h
  none_of h none (suc e) lt = none e (omega arith)

  later : (w : ℕ) → IsGreatestAt x (λ e. p (suc e)) w → (p 0 ≡ true → y ≤ℤ get_or x w (pos 0))
      → (e : ℕ) → e < suc (length x) → p e ≡ true → get_or (y ∷ x) e (pos 0) ≤ℤ get_or x w (pos 0)
  later w g first zero lt t = first t
  later w g first (suc e) lt t = g.greatest e (omega arith) t

  first_one : (w : ℕ) → IsGreatestAt x (λ e. p (suc e)) w → get_or x w (pos 0) ≤ℤ y → (e : ℕ)
      → e < suc (length x) → p e ≡ true → get_or (y ∷ x) e (pos 0) ≤ℤ y
  first_one w g more zero lt t = omega (arith, ints)
  first_one w g more (suc e) lt t =
      let r = g.greatest e (omega arith) t in omega (arith, ints, r, more)

  at : (p 0 ≡ true) ⊎ (p 0 ≡ false) → ((w : ℕ) × IsGreatestAt x (λ e. p (suc e)) w)
      ⊎ ((e : ℕ) → e < length x → p (suc e) ≡ false)
      → ((w : ℕ) × IsGreatestAt (y ∷ x) p w) ⊎ ((e : ℕ) → e < suc (length x) → p e ≡ false)
  at (inl h) (inr none) = inl (
    0,
    record { in_range = omega arith; test = h; greatest = only h none },
  )
  at (inr h) (inr none) = inr (none_of h none)
  at (inr h) (inl (w, g)) = let r = g.in_range in inl (
    suc w,
    record {
      in_range = omega (arith, r);
      test = g.test;
      greatest = later w g (λ t. absurd (both_ways (p 0) h t));
    },
  )
  at (inl h) (inl (w, g)) = let r = g.in_range in by_lt_z y (get_or x w (pos 0))
      (λ less. inl (
        suc w,
        record {
          in_range = omega (arith, r);
          test = g.test;
          greatest = later w g (λ t. omega (arith, ints, less));
        },
      ))
      (λ more. inl (0, record { in_range = omega arith; test = h; greatest = first_one w g more }))

-- ---- with u, and without v

pub with_parts : (bar : ℤ) (x : List ℤ) (u e : ℕ) → Has (above_with bar x u) e → (e ≡ u)
    ⊎ Has (above bar x) e
with_parts bar x u e h = ⊎_elim (λ is. inl is)
    (λ ne. inr (sym (get_or-set_other (above bar x) u e true false ne) ∙ h)) (cases_eq e u)

pub has_with : (bar : ℤ) (x : List ℤ) (u : ℕ) → u < length x → Has (above_with bar x u) u
has_with bar x u lt = get_or-set_same (above bar x) u true false (omega (arith, length-above bar x))

-- any other place is as it was
pub same_with : (bar : ℤ) (x : List ℤ) (u v : ℕ) → u ≢ v
    → get_or (above_with bar x u) v false ≡ get_or (above bar x) v false
same_with bar x u v ne = get_or-set_other (above bar x) u v true false (λ e. ne (sym e))

pub out_with : (bar : ℤ) (x : List ℤ) (u e : ℕ) → u < length x
    → get_or (above_with bar x u) e false ≡ false → (e ≢ u) × (get_or (above bar x) e false ≡ false)
out_with bar x u e lt h = ⊎_elim
    (λ is. absurd (both_ways (get_or (above_with bar x u) e false) h (rw is (has_with bar x u lt))))
    (λ ne. (ne, sym (get_or-set_other (above bar x) u e true false ne) ∙ h))
    (cases_eq e u)

pub length-above_with : (bar : ℤ) (x : List ℤ) (u : ℕ) → length (above_with bar x u) ≡ length x
length-above_with bar x u = length-set (above bar x) u true ∙ length-above bar x

pub between_parts : (bar : ℤ) (x : List ℤ) (u v e : ℕ) → v < length x
    → Has (above_between bar x u v) e → (e ≢ v) × Has (above_with bar x u) e
between_parts bar x u v e lt h = ⊎_elim
    (λ is. absurd (both_ways (get_or (above_between bar x u v) e false)
    (rw is (get_or-set_same (above_with bar x u) v false false
    (omega (arith, length-above_with bar x u)))) h))
    (λ ne. (ne, sym (get_or-set_other (above_with bar x u) v e false false ne) ∙ h))
    (cases_eq e v)

pub out_between : (bar : ℤ) (x : List ℤ) (u v e : ℕ) → e ≢ v
    → get_or (above_between bar x u v) e false ≡ false → get_or (above_with bar x u) e false ≡ false
out_between bar x u v e ne h = sym (get_or-set_other (above_with bar x u) v e false false ne) ∙ h

pub between_split : (bar : ℤ) (x : List ℤ) (u v : ℕ) → u < length x → v < length x → u ≢ v
    → Separates x u v (above_between bar x u v)
between_split bar x u v ku kv ne = record {
  places = length-set (above_with bar x u) v false ∙ length-above_with bar x u;
  first_in = get_or-set_other (above_with bar x u) v u false false ne ∙ has_with bar x u ku;
  second_out = get_or-set_same (above_with bar x u) v false false
      (omega (arith, length-above_with bar x u));
}

-- the places with more than a number and u have no place other than u with at most that number
pub with_split : (bar : ℤ) (x : List ℤ) (u v : ℕ) → u < length x → v < length x → v ≢ u
    → get_or x v (pos 0) ≤ℤ bar → Separates x u v (above_with bar x u)
with_split bar x u v ku kv ne less = record {
  places = length-above_with bar x u;
  first_in = has_with bar x u ku;
  second_out = get_or-set_other (above bar x) u v true false ne ∙ is_not_above bar x v kv less;
}

pub without_split : (x : List ℤ) (u v : ℕ) → u < length x → v < length x → u ≢ v
    → Separates x u v (set (whole_set (length x)) v false)
without_split x u v ku kv ne = record {
  places = length-set (whole_set (length x)) v false ∙ length-replicate (length x) true;
  first_in = get_or-set_other (whole_set (length x)) v u false false ne ∙ Has-whole (length x) u ku;
  second_out = get_or-set_same (whole_set (length x)) v false false
      (omega (arith, length-replicate (length x) true));
}
