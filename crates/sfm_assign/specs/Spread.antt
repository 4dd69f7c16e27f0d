-- What a demand leads to: reachability in the residual graph of a split. A demand leads to another
-- in one step where that has something on a slot that it could use itself. So one unit can move
-- along each step, from its end to its beginning.
use Rattle.std.specs.Prelude.{◌≡◌, ◌↔◌, ◌⊎◌, ℕ, ◌<◌, ◌≤◌, Bool, true, false, List, length, slice_index_or, ℤ, pos, ◌≤ℤ◌, ◌<ℤ◌, Option, Some, None, MatchOption}
use Rattle.sfm_spec.specs.Sets.{Has, IsWithin, union, size}
use Rattle.sfm_cells.specs.Splits.{amount_at}
use Rattle.sfm_cells.specs.Cells.{label_at, AreCells}
use Rattle.sfm_assign.specs.declared.spread.Answer.{Answer}
use Rattle.sfm_assign.specs.declared.spread.Answer.TheVariants.{Room, Full}

-- no step leaves the set: each demand that has something on a slot of a member is a member
pub record IsStepClosed (whos slots : List ℕ) (y : List ℤ) (set : List Bool) : Type 0 where
  pub step : (e f : ℕ) → e < length whos → f < length whos → Has set (label_at whos e)
      → label_at slots f ≡ label_at slots e → pos 1 ≤ℤ amount_at y f → Has set (label_at whos f)

-- u leads to v, step by step: v is in each set with u that no step leaves
abbrev pub LeadsTo : List ℕ → List ℕ → List ℤ → ℕ → ℕ → Type 0
LeadsTo whos slots y u v = (set : List Bool) → IsStepClosed whos slots y set → Has set u → Has set v

-- exactly the demands that u leads to, of n; and none of their slots has room
pub record AreLedTo (n : ℕ) (whos slots : List ℕ) (y rooms : List ℤ) (u : ℕ)
    (set : List Bool) : Type 0 where
  pub places : length set ≡ n
  pub begins : Has set u
  pub closed : IsStepClosed whos slots y set
  pub least : (v : ℕ) → Has set v → LeadsTo whos slots y u v
  pub full : (e : ℕ) → e < length whos → Has set (label_at whos e)
      → amount_at rooms (label_at slots e) ≤ℤ pos 0

-- u leads to a slot with room: where no step leaves a set with u, not all slots of its members are
-- full
pub record LeadsToRoom (whos slots : List ℕ) (y rooms : List ℤ) (u : ℕ) : Type 0 where
  pub some : (set : List Bool) → IsStepClosed whos slots y set → Has set u
      → ((e : ℕ) → e < length whos → Has set (label_at whos e)
      → amount_at rooms (label_at slots e) ≤ℤ pos 0) → ⊥

-- what is told of u
abbrev pub IsAnswer : ℕ → List ℕ → List ℕ → List ℤ → List ℤ → ℕ → Answer → Type 0
IsAnswer n whos slots y rooms u Room = LeadsToRoom whos slots y rooms u
IsAnswer n whos slots y rooms u (Full set) = AreLedTo n whos slots y rooms u set

abbrev pub answer_at : List (Option Answer) → ℕ → Option Answer
answer_at answers u = slice_index_or answers u None

-- what is told of n demands; of those past the end of the list nothing is
pub record AreAnswers (n : ℕ) (whos slots : List ℕ) (y rooms : List ℤ)
    (answers : List (Option Answer)) : Type 0 where
  pub room : (u : ℕ) → answer_at answers u ≡ Some Room → LeadsToRoom whos slots y rooms u
  pub led : (u : ℕ) (set : List Bool) → answer_at answers u ≡ Some (Full set)
      → AreLedTo n whos slots y rooms u set

-- something is told of u
abbrev pub IsKnown : List (Option Answer) → ℕ → Type 0
IsKnown answers u = (answer : Answer) × (answer_at answers u ≡ Some answer)

-- a list of demands has all of which something is told
pub record AreListed (answers : List (Option Answer)) (list : List ℕ) : Type 0 where
  pub below : (k : ℕ) → k < length list → label_at list k < length answers
  pub all : (u : ℕ) → IsKnown answers u → (k : ℕ) × (k < length list) × (label_at list k ≡ u)

-- amounts on the cells of demands, what their slots have left, and what is told of each demand
pub record AreTold (whos slots : List ℕ) (y rooms : List ℤ) (answers : List (Option Answer)) : Type
    0 where
  pub cells : AreCells (length answers) (length rooms) whos slots
  pub same : length y ≡ length whos
  pub known : AreAnswers (length answers) whos slots y rooms answers

-- ---- on the way

-- all slots of v are full, and all that it leads to in one step is in the set
pub record IsSettled (whos slots : List ℕ) (y rooms : List ℤ) (set : List Bool) (v : ℕ) : Type
    0 where
  pub full : (e : ℕ) → e < length whos → label_at whos e ≡ v
      → amount_at rooms (label_at slots e) ≤ℤ pos 0
  pub step : (e f : ℕ) → e < length whos → f < length whos → label_at whos e ≡ v
      → label_at slots f ≡ label_at slots e → pos 1 ≤ℤ amount_at y f → Has set (label_at whos f)

-- v stands in a queue, at some place from the next one on
pub record Waits (queue : List ℕ) (next v : ℕ) : Type 0 where
  pub place : ℕ
  pub from : next ≤ place
  pub within : place < length queue
  pub here : label_at queue place ≡ v

-- how far a search from u is: u leads to all that were found, and each of these is settled or
-- waits; of each marked slot, all that have something there were found
pub record IsSpread (n : ℕ) (whos slots : List ℕ) (y rooms : List ℤ) (u : ℕ)
    (found marks : List Bool) (queue : List ℕ) (next : ℕ) : Type 0 where
  pub places : length found ≡ n
  pub mark_places : length marks ≡ length rooms
  pub begins : Has found u
  pub led : (v : ℕ) → Has found v → LeadsTo whos slots y u v
  pub settled : (v : ℕ) → Has found v → IsSettled whos slots y rooms found v ⊎ Waits queue next v
  pub members : (k : ℕ) → k < length queue → Has found (label_at queue k)
  pub in_queue : next ≤ length queue
  pub few : length queue ≤ size found
  pub swept : (s f : ℕ) → Has marks s → f < length whos → label_at slots f ≡ s
      → pos 1 ≤ℤ amount_at y f → Has found (label_at whos f)
  pub full : (s : ℕ) → Has marks s → amount_at rooms s ≤ℤ pos 0

-- what is found and told where the answer of another demand is taken in: all that it leads to, or
-- the same answer where it leads to room or back to u
abbrev pub IsJoin : Answer → ℕ → List Bool → List Bool → Option Answer → Type 0
IsJoin Room u found after told = (after ≡ found) × (told ≡ Some Room)
IsJoin (Full set) u found after told =
    MatchOption told (after ≡ union found set) (λ a. (after ≡ found) × Has set u × (a ≡ Full set))

-- more demands were found; those of before stay, and stand in the queue where they stood
pub record IsWider (found : List Bool) (queue : List ℕ) (found_after : List Bool)
    (longer : List ℕ) : Type 0 where
  pub kept : IsWithin found found_after
  pub first : (k : ℕ) → k < length queue → (k < length longer)
      × (label_at longer k ≡ label_at queue k)

-- ---- put together from what holders of slots lead to

-- h has something on the slot s
pub record Holds (whos slots : List ℕ) (y : List ℤ) (s h : ℕ) : Type 0 where
  pub cell : ℕ
  pub exists : cell < length whos
  pub mine : label_at whos cell ≡ h
  pub there : label_at slots cell ≡ s
  pub some : pos 1 ≤ℤ amount_at y cell

-- a cell of the slot s has something on it
pub record IsHeldBy (whos slots : List ℕ) (y : List ℤ) (s cell : ℕ) : Type 0 where
  pub exists : cell < length whos
  pub there : label_at slots cell ≡ s
  pub some : pos 1 ≤ℤ amount_at y cell

-- no step leaves the set of n demands, and none of their slots has room
pub record IsFullClosed (n : ℕ) (whos slots : List ℕ) (y rooms : List ℤ) (set : List Bool) : Type
    0 where
  pub places : length set ≡ n
  pub closed : IsStepClosed whos slots y set
  pub full : (e : ℕ) → e < length whos → Has set (label_at whos e)
      → amount_at rooms (label_at slots e) ≤ℤ pos 0

-- the holders of the slot s and what they lead to are put to a set: all of it, and nothing else
pub record AreTakenIn (n : ℕ) (whos slots : List ℕ) (y rooms : List ℤ) (s : ℕ)
    (before after : List Bool) : Type 0 where
  pub kept : IsWithin before after
  pub whole : IsFullClosed n whos slots y rooms after
  pub holders : (h : ℕ) → Holds whos slots y s h → Has after h
  pub led : (v : ℕ) → Has after v → Has before v
      ⊎ ((h : ℕ) × Holds whos slots y s h × LeadsTo whos slots y h v)

-- a holder of the slot s leads to room
abbrev pub HeldWithRoom : List ℕ → List ℕ → List ℤ → List ℤ → ℕ → Type 0
HeldWithRoom whos slots y rooms s = (h : ℕ) × Holds whos slots y s h
    × LeadsToRoom whos slots y rooms h

-- what is told of a demand is taken in: a set is put to another, or room is told
abbrev pub IsPutTo : Answer → List Bool → List Bool → Bool → Type 0
IsPutTo Room before after room = room ≡ true
IsPutTo (Full set) before after room = (room ≡ false) × (after ≡ union before set)

-- the demands that ask for something
abbrev pub AreAsking : List ℤ → List Bool → Type 0
AreAsking demands asking = (v : ℕ) → v < length demands → Has asking v
    ↔ (pos 0 <ℤ amount_at demands v)
