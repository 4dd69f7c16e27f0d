-- What the extreme minimisers with the shift of pins tell of an instance, and that all numbers on
-- the way are small.
use Rattle.std.proofs.Common.{◌≡◌, ◌^◌, Bool, List, length, ℤ, pos, ◌+ℤ◌, ◌*ℤ◌, arith}
use Rattle.std.proofs.lemmas.Int.{ints}
use Rattle.sfm_spec.specs.Sets.{size}
use Rattle.sfm_spec.specs.Bounds.{IsAtMost, IsEntry}
use Rattle.sfm_spec.specs.Families.{Meaning, meanings}
use Rattle.sfm_kind.specs.Kinds.{kind_places, kind_value}
use Rattle.sfm_kind.specs.Instance.{InstanceData}
use Rattle.sfm_kind.specs.Limits.{AreInBounds}
use Rattle.sfm_extreme.specs.declared.extremes.Proved.{Proved}
use Rattle.sfm_ask.specs.Pinned.{IsPinned}
use Rattle.sfm_ask.specs.Asking.{IsPinnedMinimum}
use Rattle.sfm_ask.specs.Shifts.{shift_of_pins}
use Rattle.sfm_ask.specs.Asking.{IsFoundAt, penalty_of}
use Rattle.sfm_ask.proofs.Penalties.{Keeps, promised-is}
use Rattle.sfm_ask.proofs.Values.{less-than-penalty, penalty-small, promised-small, sum-within}
use Rattle.sfm_ask.proofs.Pinning.{none-pinned, pinned-minimum, worth-pinned}

-- the value that is told: what was found, and what was promised to the pins
abbrev pub told_value : InstanceData → List Bool → Proved → ℤ
told_value instance inside found = found.value +ℤ (penalty_of instance *ℤ pos (size inside))

-- the numbers on the way, and what is told
pub record IsTold (instance : InstanceData) (inside outside : List Bool) (found : Proved) : Type 0
  where
    pub penalty : IsAtMost (10 ^ 20) (penalty_of instance)
    pub product : IsAtMost (10 ^ 27) (penalty_of instance *ℤ pos (size inside))
    pub before : IsAtMost (10 ^ 28) found.value
    pub value : IsEntry (told_value instance inside found)
    pub minimum : IsPinnedMinimum (meanings kind_places kind_value instance.terms)
        (length instance.names) inside outside (told_value instance inside found) found.least
        found.greatest

module _ (instance : InstanceData) (inside outside : List Bool) (found : Proved)
    (bounded : AreInBounds (length instance.names) instance.terms)
    (same_in : length inside ≡ length instance.names)
    (same_out : length outside ≡ length instance.names)
    (h : IsFoundAt instance (shift_of_pins (penalty_of instance) inside outside) found) where
  abbrev meant : List Meaning
  meant = meanings kind_places kind_value instance.terms

  abbrev m : ℤ
  m = penalty_of instance

  -- where the least minimiser keeps all pins
  pub told-best : Keeps inside outside found.least → IsTold instance inside outside found
  told-best keeps =
      let small = penalty-small (length instance.names) instance bounded in
      let few = bounded.few in
      let least = h.least.minimiser in
      let p : IsPinned meant (length instance.names) inside outside found.least = record {
        places = least.places;
        allowed = least.allowed;
        has = keeps.has;
        lacks = keeps.lacks;
      } in
      let w = worth-pinned meant (length instance.names) inside outside m same_in same_out
      (less-than-penalty instance) found.least p in
      let b = sum-within instance.terms found.least least.allowed in
      let size = bounded.small in
      let q = promised-small m small inside (omega (arith, few, same_in)) in
      let e = promised-is m inside in
      let v = h.value in
      record {
        penalty = record {
          low = omega (arith, ints, small.low);
          high = omega (arith, ints, small.high);
        };
        product = record { low = omega (arith, ints, q, e); high = omega (arith, ints, q, e) };
        before = record {
          low = omega (arith, ints, w, v, b, size, q);
          high = omega (arith, ints, w, v, b, size, q);
        };
        value = record {
          low = omega (arith, ints, w, v, b, size, e);
          high = omega (arith, ints, w, v, b, size, e);
        };
        minimum = pinned-minimum meant (length instance.names) inside outside m same_in same_out
            (less-than-penalty instance) found.least found.greatest
            (told_value instance inside found)
            h.least h.greatest keeps (omega (arith, ints, v, e));
      }

  -- where it breaks one
  pub told-nothing : (Keeps inside outside found.least → ⊥) → (s : List Bool)
      → IsPinned meant (length instance.names) inside outside s → ⊥
  told-nothing breaks = none-pinned meant (length instance.names) inside outside m same_in same_out
      (less-than-penalty instance) found.least h.least.minimiser breaks
