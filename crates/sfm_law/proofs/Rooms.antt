-- What lies within a room leads to a base, and what is told of a room up to a limit.
use Rattle.std.proofs.Common.{◌≢◌, ℕ, ◌<◌, List, length, ℤ, pos, ◌≤ℤ◌, arith}
use Rattle.std.proofs.lemmas.Int.{ints}
use Rattle.sfm_spec.specs.Terms.{SetFunction, IsBase, exchanged}
use Rattle.sfm_spec.proofs.Exchange.{base_between, base_moved}
use Rattle.sfm_law.specs.Based.{IsPair}
use Rattle.sfm_law.specs.Room.{IsRoom, AtMostRoom, IsWithinRoom, IsCapacityUpto}
use Rattle.sfm_law.specs.declared.room.Room.{Room}
use Rattle.sfm_law.specs.declared.room.Room.TheVariants.{Upto, Unbounded}

pub base_within_room : {f : SetFunction} {x : List ℤ} {u v : ℕ} (a : ℤ) → IsBase f x → u < length x
    → v < length x → u ≢ v → pos 0 ≤ℤ a
    → IsWithinRoom f x u v a → IsBase f (exchanged x u v a)
base_within_room {f} {x} {u} {v} a base ku kv ne low (Upto b, capacity, high) =
    base_between base ku kv ne a b low high capacity.reached
base_within_room a base ku kv ne low (Unbounded, uncapped, high) = uncapped.0 a low

-- nothing can always be exchanged
base_still : {f : SetFunction} {x : List ℤ} {u v : ℕ} → IsBase f x → IsPair u v x
    → IsBase f (exchanged x u v (pos 0))
base_still base pair = base_moved base pair.from pair.onto pair.apart (pos 0) (omega (arith, ints))
    (λ s c h e hu hv. let w = base.within s c h e in omega (arith, ints, w))

-- what can be exchanged lies within the room
pub moved_within_room : (f : SetFunction) (x : List ℤ) (u v : ℕ) (room : Room) → IsRoom f x u v room
    → (a : ℤ) → IsBase f (exchanged x u v a) → AtMostRoom a room
moved_within_room f x u v (Upto b) is a moved = is.greatest a moved
moved_within_room f x u v Unbounded is a moved = tt

-- the greatest number up to a limit within the room is the most up to there that can be exchanged
pub room_upto : {f : SetFunction} {x : List ℤ} {u v : ℕ} (room : Room) (limit a : ℤ) → IsBase f x
    → IsPair u v x → IsRoom f x u v room → pos 0 ≤ℤ limit → a ≤ℤ limit → AtMostRoom a room
    → ((b : ℤ) → b ≤ℤ limit → AtMostRoom b room → b ≤ℤ a) → IsCapacityUpto f x u v limit a
room_upto {f} {x} {u} {v} room limit a base pair is some high within greatest = record {
  low = low;
  high = high;
  reached = base_within_room a base pair.from pair.onto pair.apart low (room, is, within);
  greatest = λ b lb moved. greatest b lb (moved_within_room f x u v room is b moved);
} where
  low : pos 0 ≤ℤ a
  low = greatest (pos 0) some (moved_within_room f x u v room is (pos 0) (base_still base pair))
