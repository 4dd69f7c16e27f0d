-- When an exchange at a base leads to a base.
use Rattle.std.proofs.Common.{◌≡◌, ◌≢◌, ◌⊎◌, ℕ, ◌<◌, Bool, true, false, List, length, get_or, ℤ, pos, ◌+ℤ◌, ◌-ℤ◌, ◌≤ℤ◌, Some, sym, ap, ◌∙◌, arith, inl, inr}
use Rattle.std.proofs.lemmas.Bool.{cases_Bool}
use Rattle.std.proofs.lemmas.Int.{ints}
use Rattle.std.proofs.lemmas.List.{length-replicate}
use Rattle.sfm_spec.specs.Sets.{Has, whole_set, sum_over}
use Rattle.sfm_spec.specs.Terms.{SetFunction, IsBase, exchanged}
use Rattle.sfm_spec.proofs.Sums.{share, sum_over-exchanged, length-exchanged}
use Rattle.sfm_spec.proofs.Sets.{Has-whole}

-- what an allowed set with u and not v has left is at least a
abbrev pub LeavesRoom : SetFunction → List ℤ → ℕ → ℕ → ℤ → Type 0
LeavesRoom f x u v a = (s : List Bool) (c : ℤ) → length s ≡ length x → f s ≡ Some c → Has s u
    → get_or s v false ≡ false → (sum_over s x +ℤ a) ≤ℤ c

module _ {f : SetFunction} {x : List ℤ} (base : IsBase f x) {u v : ℕ} (ku : u < length x)
    (kv : v < length x) (ne : u ≢ v) where
  -- an exchange within the room leads to a base
  pub base_moved : (a : ℤ) → pos 0 ≤ℤ a → LeavesRoom f x u v a → IsBase f (exchanged x u v a)
  base_moved a low leaves = record { within = within; total = total } where
    within : (s : List Bool) (c : ℤ) → length s ≡ length (exchanged x u v a) → f s ≡ Some c
        → sum_over s (exchanged x u v a) ≤ℤ c
    within s c h e =
        let kx : length s ≡ length x = h ∙ length-exchanged x u v a in
        let w = base.within s c kx e in
        rw (sum_over-exchanged s x u v a kx ku kv ne)
        (cases kx (cases_Bool (get_or s u false)) (cases_Bool (get_or s v false)) w) where
          cases : length s ≡ length x → (get_or s u false ≡ true) ⊎ (get_or s u false ≡ false)
              → (get_or s v false ≡ true) ⊎ (get_or s v false ≡ false) → sum_over s x ≤ℤ c
              → (sum_over s x +ℤ (share s u a -ℤ share s v a)) ≤ℤ c
          cases kx (inl hu) (inl hv) w = rw (hu, hv) (omega (arith, ints))
          cases kx (inl hu) (inr hv) w =
              let slack = leaves s c kx e hu hv in rw (hu, hv) (omega (arith, ints))
          cases kx (inr hu) (inl hv) w = rw (hu, hv) (omega (arith, ints))
          cases kx (inr hu) (inr hv) w = rw (hu, hv) (omega (arith, ints))

    total : f (whole_set (length (exchanged x u v a))) ≡ Some
        (sum_over (whole_set (length (exchanged x u v a))) (exchanged x u v a))
    total =
        let hu : Has (whole_set (length x)) u = Has-whole (length x) u ku in
        let hv : Has (whole_set (length x)) v = Has-whole (length x) v kv in
        let plain = rw (hu, hv) at (sum_over-exchanged (whole_set (length x)) x u v a
        (length-replicate (length x) true) ku kv ne) in
        let same : sum_over (whole_set (length x)) (exchanged x u v a) ≡ sum_over
        (whole_set (length x)) x = omega (arith, ints, plain) in
        rw (length-exchanged x u v a) (base.total ∙ ap Some (sym same))

  -- an exchange that leads to a base is within the room
  pub leaves_room : (a : ℤ) → IsBase f (exchanged x u v a) → LeavesRoom f x u v a
  leaves_room a moved s c h e hu hv =
      let w = moved.within s c (h ∙ sym (length-exchanged x u v a)) e in
      let plain = rw (hu, hv) at (sum_over-exchanged s x u v a h ku kv ne) in
      omega (arith, ints, w, plain)

  -- between two bases on one line of exchanges every number gives a base
  pub base_between : (a b : ℤ) → pos 0 ≤ℤ a → a ≤ℤ b → IsBase f (exchanged x u v b)
      → IsBase f (exchanged x u v a)
  base_between a b low high moved =
      base_moved a low (λ s c h e hu hv. let w = leaves_room b moved s c h e hu
      hv in omega (arith, ints))
