-- The one base of a weight term has no room.
use Rattle.std.proofs.Common.{◌≡◌, ◌≢◌, ℕ, ◌<◌, false, List, length, get_or, set, ℤ, pos, ◌+ℤ◌, ◌-ℤ◌, sym, ap, ◌∙◌, arith, get_or-set_other, get_or-set_same}
use Rattle.std.proofs.lemmas.Bool.{both_ways}
use Rattle.std.proofs.lemmas.Int.{ints}
use Rattle.std.proofs.lemmas.List.{length-replicate, get_or-replicate}
use Rattle.sfm_spec.specs.Sets.{empty_set}
use Rattle.sfm_spec.specs.Terms.{times, IsBase, IsCapacity, HasRoom, exchanged}
use Rattle.sfm_spec.specs.Kinds.{weight_value}
use Rattle.sfm_spec.proofs.Sums.{length-exchanged}
use Rattle.sfm_spec.proofs.Exchange.{base_moved}
use Rattle.sfm_law.specs.Room.{IsReach}
use Rattle.sfm_simple.specs.WeightLaws.{scaled, base_is_scaled}

module _ (q : ℤ) (weights : List ℤ) {x : List ℤ} (sized : length x ≡ length weights)
    (base : IsBase (times q (weight_value weights)) x) {u v : ℕ} (ku : u < length x)
    (kv : v < length x) (ne : u ≢ v) where
  no_move : (b : ℤ) → IsBase (times q (weight_value weights)) (exchanged x u v b) → b ≡ pos 0
  no_move b moved =
      let here : x ≡ scaled q weights = base_is_scaled q weights x sized base in
      let there : exchanged x u v b ≡ scaled q weights = base_is_scaled q weights
      (exchanged x u v b) (length-exchanged x u v b ∙ sized) moved in
      let read : get_or (exchanged x u v b) u (pos 0) ≡ get_or x u
      (pos 0) = ap (λ y. get_or y u (pos 0)) (there ∙ sym here) in
      let other = get_or-set_other (set x u (get_or x u (pos 0) +ℤ b)) v u (get_or x v (pos 0) -ℤ b)
      (pos 0) ne in
      let same = get_or-set_same x u (get_or x u (pos 0) +ℤ b) (pos 0) ku in
      let total : (get_or x u (pos 0) +ℤ b) ≡ get_or x u (pos 0) = sym same ∙ (sym other ∙ read) in
      omega (arith, ints, total)

  pub weight-capacity : IsCapacity (times q (weight_value weights)) x u v (pos 0)
  weight-capacity = record {
    reached = base_moved base ku kv ne (pos 0) (omega (arith, ints))
        (λ s c h e hu hv. let w = base.within s c h e in omega (arith, ints));
    greatest = λ b moved. let z = no_move b moved in omega (arith, ints, z);
  }

  pub weight-no_room : HasRoom (times q (weight_value weights)) x u v → ⊥
  weight-no_room (a, least, moved) = let z = no_move a moved in omega (arith, ints, z, least)

pub weight-reach : (q : ℤ) (weights : List ℤ) {x : List ℤ} (u n : ℕ) → length x ≡ length weights
    → IsBase (times q (weight_value weights)) x → u < length x → n ≡ length x
    → IsReach (times q (weight_value weights)) x u (empty_set n)
weight-reach q weights {x} u n sized base ku same = record {
  places = length-replicate n false ∙ same;
  exact = λ v kv. (
    (λ h. absurd (both_ways (get_or (empty_set n) v false)
        (get_or-replicate n v false false (omega arith)) h)),
    (λ (ne, room). absurd (weight-no_room q weights sized base ku kv (λ e. ne (sym e)) room)),
  );
}
