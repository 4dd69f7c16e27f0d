-- Bases that are told by a list of sets: what of the list splits u from v says how much u can be
-- raised and v lowered. Textbook: Fujishige, Submodular Functions and Optimization, section 4
-- (exchange capacities).
use Rattle.std.proofs.Common.{◌≡◌, ◌≢◌, ◌⊎◌, ℕ, ◌<◌, Bool, true, false, List, length, get_or, ℤ, pos, ◌+ℤ◌, ◌-ℤ◌, ◌≤ℤ◌, Some, sym, ap, ◌∙◌, arith, inl, inr}
use Rattle.std.proofs.lemmas.Bool.{cases_Bool}
use Rattle.std.proofs.lemmas.Int.{ints}
use Rattle.std.proofs.lemmas.List.{length-replicate}
use Rattle.sfm_spec.specs.Sets.{Has, whole_set, sum_over}
use Rattle.sfm_spec.specs.Terms.{SetFunction, IsBase, IsCapacity, IsUncapped, HasRoom, exchanged}
use Rattle.sfm_spec.proofs.Sums.{share, sum_over-exchanged, length-exchanged}
use Rattle.sfm_spec.proofs.Sets.{Has-whole}

-- over k places, x is a base exactly where its sum is t and no listed set gets more than the number
-- listed with it
pub record IsListing (f : SetFunction) (k : ℕ) (Lists : List Bool → ℤ → Type 0) (t : ℤ) : Type
    0 where
  pub places : (s : List Bool) (b : ℤ) → Lists s b → length s ≡ k
  pub meets : (x : List ℤ) → length x ≡ k → IsBase f x → (s : List Bool) (b : ℤ) → Lists s b
      → sum_over s x ≤ℤ b
  pub total : (x : List ℤ) → length x ≡ k → IsBase f x → sum_over (whole_set k) x ≡ t
  pub bases : (x : List ℤ) → length x ≡ k → sum_over (whole_set k) x ≡ t
      → ((s : List Bool) (b : ℤ) → Lists s b → sum_over s x ≤ℤ b) → IsBase f x

-- every function lists its bases by all its sets
pub own_listing : (f : SetFunction) (k : ℕ) (t : ℤ) → f (whole_set k) ≡ Some t
    → IsListing f k (λ s b. (length s ≡ k) × (f s ≡ Some b)) t
own_listing f k t whole = record {
  places = λ s b h. h.0;
  meets = λ x sized base s b h. base.within s b (h.0 ∙ sym sized) h.1;
  total = λ x sized base. let e = rw sized at base.total in let g : Some
      (sum_over (whole_set k) x) ≡ Some t = sym e ∙ whole in cc;
  bases = λ x sized sum meets. record {
    within = λ s b h e. meets s b (h ∙ sized, e);
    total = rw sized (whole ∙ ap Some (sym sum));
  };
}

module _ (f : SetFunction) (k : ℕ) (Lists : List Bool → ℤ → Type 0) (t : ℤ)
    (listing : IsListing f k Lists t) (x : List ℤ) (sized : length x ≡ k) (base : IsBase f x)
    (u v : ℕ) (ku : u < k) (kv : v < k) (ne : u ≢ v) where
  -- each listed set with u and not v leaves a
  abbrev pub Leaves : ℤ → Type 0
  Leaves a = (s : List Bool) (b : ℤ) → Lists s b → Has s u → get_or s v false ≡ false
      → (sum_over s x +ℤ a) ≤ℤ b

  pub base_from_leaves : (a : ℤ) → pos 0 ≤ℤ a → Leaves a → IsBase f (exchanged x u v a)
  base_from_leaves a low leaves =
      listing.bases (exchanged x u v a) (length-exchanged x u v a ∙ sized) total meets where
        hu : u < length x
        hu = rw sized ku

        hv : v < length x
        hv = rw sized kv

        total : sum_over (whole_set k) (exchanged x u v a) ≡ t
        total =
            let wu : Has (whole_set k) u = Has-whole k u ku in
            let wv : Has (whole_set k) v = Has-whole k v kv in
            let plain = rw (wu, wv) at (sum_over-exchanged (whole_set k) x u v a
            (length-replicate k true ∙ sym sized) hu hv ne) in
            let e = listing.total x sized base in
            omega (arith, ints, plain, e)

        meets : (s : List Bool) (b : ℤ) → Lists s b → sum_over s (exchanged x u v a) ≤ℤ b
        meets s b h =
            let w = listing.meets x sized base s b h in
            rw (sum_over-exchanged s x u v a (listing.places s b h ∙ sym sized) hu hv ne)
            (cases (cases_Bool (get_or s u false)) (cases_Bool (get_or s v false)) w) where
              cases : (get_or s u false ≡ true) ⊎ (get_or s u false ≡ false)
                  → (get_or s v false ≡ true)
                  ⊎ (get_or s v false ≡ false) → sum_over s x ≤ℤ b
                  → (sum_over s x +ℤ (share s u a -ℤ share s v a)) ≤ℤ b
              cases (inl su) (inl sv) w = rw (su, sv) (omega (arith, ints))
              cases (inl su) (inr sv) w =
                  let slack = leaves s b h su sv in rw (su, sv) (omega (arith, ints))
              cases (inr su) (inl sv) w = rw (su, sv) (omega (arith, ints))
              cases (inr su) (inr sv) w = rw (su, sv) (omega (arith, ints))

  pub leaves_from_base : (a : ℤ) → IsBase f (exchanged x u v a) → Leaves a
  leaves_from_base a moved s b h su sv =
      let hu : u < length x = rw sized ku in
      let hv : v < length x = rw sized kv in
      let w = listing.meets (exchanged x u v a) (length-exchanged x u v a ∙ sized) moved s b h in
      let plain = rw (su, sv) at (sum_over-exchanged s x u v a (listing.places s b h ∙ sym sized) hu
      hv ne) in
      omega (arith, ints, w, plain)

  -- the capacity is what a listed set with u and not v leaves, if each such set leaves as much
  pub listed_capacity : (a : ℤ) → pos 0 ≤ℤ a → Leaves a → (s : List Bool) (b : ℤ) → Lists s b
      → Has s u → get_or s v false ≡ false → (sum_over s x +ℤ a) ≡ b → IsCapacity f x u v a
  listed_capacity a low leaves s b h su sv tight = record {
    reached = base_from_leaves a low leaves;
    greatest = λ r moved. let w = leaves_from_base r moved s b h su
        sv in omega (arith, ints, w, tight);
  }

  -- where no listed set has u and not v, every number can be moved
  pub listed_uncapped : ((s : List Bool) (b : ℤ) → Lists s b → Has s u → get_or s v false ≡ false
      → ⊥) → IsUncapped f x u v
  listed_uncapped none a low = base_from_leaves a low (λ s b h su sv. absurd (none s b h su sv))

  -- there is room exactly where each listed set with u and not v leaves some
  pub listed_room : Leaves (pos 1) → HasRoom f x u v
  listed_room leaves = (
    pos 1,
    omega (arith, ints),
    base_from_leaves (pos 1) (omega (arith, ints)) leaves,
  )

  pub room_leaves : HasRoom f x u v → Leaves (pos 1)
  room_leaves (a, some, moved) s b h su sv =
      let w = leaves_from_base a moved s b h su sv in omega (arith, ints, w, some)
