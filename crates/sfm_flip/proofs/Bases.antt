-- A base of a term turned round, told by the term: the negated base is one of the term.
use Rattle.std.proofs.Common.{◌≡◌, ℕ, List, length, ℤ, sym, ◌∙◌, arith}
use Rattle.std.proofs.lemmas.Int.{ints}
use Rattle.sfm_spec.specs.Bounds.{IsFactor}
use Rattle.sfm_spec.specs.Terms.{times, IsBase}
use Rattle.sfm_kind.specs.Meanings.{kind_places}
use Rattle.sfm_kind.specs.Kinds.{kind_value, kind_size, kind-family, kind-submodular}
use Rattle.sfm_kind.specs.declared.kind.Kind.{Kind}
use Rattle.sfm_kind.proofs.Bounds.{kind-elements}
use Rattle.sfm_law.specs.Based.{IsBased, IsPair, CanSwap}
use Rattle.sfm_law.specs.Room.{IsRoom, IsCapacityUpto}
use Rattle.sfm_law.specs.declared.room.Room.{Room}
use Rattle.sfm_flip.specs.Flipped.{negated}
use Rattle.sfm_flip.specs.FlipLaws.{length-negated}
use Rattle.sfm_flip.specs.Flips.{flip_value, flip_size}
use Rattle.sfm_flip.specs.Known.{IsBaseOf}
use Rattle.sfm_flip.proofs.Turning.{negated-small, flip-base, flip-base_to, flip-room, flip-capacity, flip-within}

module _ (kind : Kind) (q : ℤ) (factor : IsFactor q) (y : List ℤ)
    (sized : length y ≡ length (kind_places kind)) where
  pub base_from : IsBase (times q (flip_value kind)) y
      → IsBase (times q (kind_value kind)) (negated y)
  base_from base = flip-base _ (kind_value kind) (kind-family kind) (kind-submodular kind) q
      factor.low y sized base

  pub base_to : IsBase (times q (kind_value kind)) (negated y)
      → IsBase (times q (flip_value kind)) y
  base_to base = flip-base_to _ (kind_value kind) (kind-family kind) (kind-submodular kind) q
      factor.low y sized base

module _ (kind : Kind) (q : ℤ) (y : List ℤ)
    (based : IsBased kind_places flip_value flip_size kind q y) where
  -- the negated base, within the bounds
  pub based_from : IsBased kind_places kind_value kind_size kind q (negated y)
  based_from = record {
    factor = based.factor;
    entries = length-negated y ∙ based.entries;
    bounded = omega (arith, ints, based.bounded);
    small = negated-small _ y based.small;
    base = base_from kind q based.factor y based.entries based.base;
  }

  pub base_of : IsBaseOf kind q (negated y)
  base_of = record { placed = (kind-elements kind).placed; based = based_from }

  module _ (u v : ℕ) where
    pub pair_from : IsPair u v y → IsPair v u (negated y)
    pair_from pair = record {
      apart = λ same. pair.apart (sym same);
      from = rw (length-negated y) pair.onto;
      onto = rw (length-negated y) pair.from;
    }

    pub room_to : IsPair u v y → (room : Room)
        → IsRoom (times q (kind_value kind)) (negated y) v u room
        → IsRoom (times q (flip_value kind)) y u v room
    room_to pair room is = flip-room _ (kind_value kind) (kind-family kind) (kind-submodular kind) q
        based.factor.low y based.entries u v pair.from pair.onto pair.apart room is

    pub capacity_to : IsPair u v y → (limit a : ℤ)
        → IsCapacityUpto (times q (kind_value kind)) (negated y) v u limit a
        → IsCapacityUpto (times q (flip_value kind)) y u v limit a
    capacity_to pair limit a is =
        flip-capacity _ (kind_value kind) (kind-family kind) (kind-submodular kind) q
        based.factor.low y based.entries u v pair.from pair.onto pair.apart limit a is

    pub can_from : (a : ℤ) → CanSwap (times q (flip_value kind)) y u v a
        → CanSwap (times q (kind_value kind)) (negated y) v u a
    can_from a can = record {
      apart = λ same. can.apart (sym same);
      from = rw (length-negated y) can.onto;
      onto = rw (length-negated y) can.from;
      low = can.low;
      high = can.high;
      room = flip-within _ (kind_value kind) (kind-family kind) (kind-submodular kind) q
          based.factor.low y based.entries u v can.from can.onto can.apart a can.room;
    }
