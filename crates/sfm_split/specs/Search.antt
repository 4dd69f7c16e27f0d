-- What a search for room finds. A demand is found where it lacks something, or where it has an
-- amount on a slot that a demand found before could use instead; so an amount can move from each
-- found demand to one that lacks something.
use Rattle.std.specs.Prelude.{◌≡◌, ◌≢◌, ◌↔◌, ℕ, suc, ◌+◌, ◌<◌, Bool, false, List, [], ◌∷◌, length, slice_index_or, slice_set, ℤ, pos, ◌+ℤ◌, ◌≤ℤ◌, ◌<ℤ◌, Option, Some, None}
use Rattle.sfm_spec.specs.Sets.{Has}
use Rattle.sfm_spec.specs.Terms.{exchanged}
use Rattle.sfm_cells.specs.Splits.{sum_at, amount_at, CanBeMet}
use Rattle.sfm_cells.specs.Cells.{label_at, only}
use Rattle.sfm_split.specs.declared.nodes.Link.{Link}
use Rattle.sfm_split.specs.declared.nodes.Node.{Node}

abbrev pub node_at : List (Option Node) → ℕ → Option Node
node_at nodes i = slice_index_or nodes i None

-- a demand was found
abbrev pub IsFound : List (Option Node) → ℕ → Type 0
IsFound nodes i = (b : Node) × (node_at nodes i ≡ Some b)

-- the link of a demand, whatever the amounts are: a cell of its own and one of a demand of a lower
-- level, on one slot
pub record IsBranch (whos slots : List ℕ) (nodes : List (Option Node)) (i : ℕ) (b : Node)
    (l : Link) : Type 0 where
  pub own_in : l.own < length whos
  pub other_in : l.other < length whos
  pub mine : label_at whos l.own ≡ i
  pub shared : label_at slots l.own ≡ label_at slots l.other
  pub parent : Node
  pub is_parent : node_at nodes (label_at whos l.other) ≡ Some parent
  pub lower : parent.level < b.level

abbrev pub AreBranches : List ℕ → List ℕ → List (Option Node) → Type 0
AreBranches whos slots nodes = (i : ℕ) (b : Node) (l : Link) → node_at nodes i ≡ Some b
    → b.link ≡ Some l → IsBranch whos slots nodes i b l

-- a link of a demand that has something on the own cell of it
pub record IsLinked (whos slots : List ℕ) (y : List ℤ) (nodes : List (Option Node)) (i : ℕ)
    (b : Node) (l : Link) : Type 0 where
  pub branch : IsBranch whos slots nodes i b l
  pub has : pos 1 ≤ℤ amount_at y l.own

-- what a node tells: by its link, where it has one, an amount of at least 1 can move
abbrev pub IsNode : List ℕ → List ℕ → List ℤ → List (Option Node) → ℕ → Node → Type 0
IsNode whos slots y nodes i b = (l : Link) → b.link ≡ Some l → IsLinked whos slots y nodes i b l

abbrev pub AreNodes : List ℕ → List ℕ → List ℤ → List (Option Node) → Type 0
AreNodes whos slots y nodes = (i : ℕ) (b : Node) → node_at nodes i ≡ Some b
    → IsNode whos slots y nodes i b

-- an amount can move from a demand that was found, along the links, to one that lacks as much
pub data Carries (whos : List ℕ) (nodes : List (Option Node)) (y lacks : List ℤ) (a : ℤ) : ℕ
    → Type 0 where
  at_root : (i : ℕ) (b : Node) → node_at nodes i ≡ Some b → b.link ≡ None → a ≤ℤ amount_at lacks i
      → Carries whos nodes y lacks a i
  by_link : (i : ℕ) (b : Node) (l : Link) → node_at nodes i ≡ Some b → b.link ≡ Some l
      → a ≤ℤ amount_at y l.own → Carries whos nodes y lacks a (label_at whos l.other)
      → Carries whos nodes y lacks a i

-- the demand of a node without a link lacks something
abbrev pub AreRoots : List ℤ → List (Option Node) → Type 0
AreRoots lacks nodes = (i : ℕ) (b : Node) → node_at nodes i ≡ Some b → b.link ≡ None
    → pos 1 ≤ℤ amount_at lacks i

-- each demand that lacks something was found
abbrev pub HasRoots : List ℤ → List (Option Node) → Type 0
HasRoots lacks nodes = (i : ℕ) → pos 0 <ℤ amount_at lacks i → IsFound nodes i

-- the node of a demand that lacks an amount
abbrev pub IsRoot : ℤ → Option Node → Type 0
IsRoot lack None = lack ≤ℤ pos 0
IsRoot lack (Some b) = (b.level ≡ 0) × (b.link ≡ None) × (pos 1 ≤ℤ lack)

pub record AreRootsOf (lacks : List ℤ) (nodes : List (Option Node)) : Type 0 where
  pub places : length nodes ≡ length lacks
  pub each : (i : ℕ) → i < length lacks → IsRoot (amount_at lacks i) (node_at nodes i)

-- how many demands were not found
abbrev pub missing : List (Option Node) → ℕ
missing [] = 0
missing (None ∷ nodes) = suc (missing nodes)
missing (Some b ∷ nodes) = missing nodes

-- a slot is marked with a cell of a demand that was found below a level
pub record IsMarkOf (whos slots : List ℕ) (nodes : List (Option Node)) (level s e : ℕ) : Type
    0 where
  pub cell : e < length whos
  pub slot : label_at slots e ≡ s
  pub node : Node
  pub is_node : node_at nodes (label_at whos e) ≡ Some node
  pub lower : node.level < level

-- a queue has each demand that was found once
pub record AreQueued (nodes : List (Option Node)) (queue : List ℕ) : Type 0 where
  pub queued : (i : ℕ) → IsFound nodes i → (k : ℕ) × (k < length queue) × (label_at queue k ≡ i)
  pub members : (k : ℕ) → k < length queue → IsFound nodes (label_at queue k)
  pub counted : length queue + missing nodes ≡ length nodes

-- how far a search is: nodes of the demands that were found, which stand in a queue; and of each
-- marked slot, all demands that have something there were found
pub record IsProgress (whos slots : List ℕ) (y : List ℤ) (nodes : List (Option Node))
    (marks : List Bool) (queue : List ℕ) : Type 0 where
  pub tree : AreNodes whos slots y nodes
  pub levels : (i : ℕ) (b : Node) → node_at nodes i ≡ Some b → b.level < length queue
  pub in_queue : AreQueued nodes queue
  pub swept : (s f : ℕ) → Has marks s → f < length whos → label_at slots f ≡ s
      → node_at nodes (label_at whos f) ≡ None → amount_at y f ≤ℤ pos 0

-- more demands were found, each from another; those of before stay
pub record IsFurther (before : List (Option Node)) (queue : List ℕ) (after : List (Option Node))
    (longer : List ℕ) : Type 0 where
  pub places : length after ≡ length before
  pub kept : (i : ℕ) (b : Node) → node_at before i ≡ Some b → node_at after i ≡ Some b
  pub new : (i : ℕ) (b : Node) → node_at before i ≡ None → node_at after i ≡ Some b
      → (b.link ≡ None) → ⊥
  pub first : (k : ℕ) → k < length queue → (k < length longer)
      × (label_at longer k ≡ label_at queue k)

-- a search has gone further: more demands were found and more slots are marked, none of which has
-- room
pub record IsHandled (whos slots : List ℕ) (y rooms : List ℤ) (nodes : List (Option Node))
    (marks : List Bool) (queue : List ℕ) (after : List (Option Node)) (more : List Bool)
    (longer : List ℕ) : Type 0 where
  pub places : length more ≡ length rooms
  pub progress : IsProgress whos slots y after more longer
  pub further : IsFurther nodes queue after longer
  pub full : (s : ℕ) → Has more s → amount_at rooms s ≤ℤ pos 0
  pub kept : (s : ℕ) → Has marks s → Has more s

-- a slot of a found demand has room
pub record IsEnd (whos slots : List ℕ) (rooms : List ℤ) (nodes : List (Option Node))
    (last : ℕ) : Type 0 where
  pub cell : last < length whos
  pub found : IsFound nodes (label_at whos last)
  pub room : pos 1 ≤ℤ amount_at rooms (label_at slots last)

-- an amount can move from the slot of a cell: what a search has found still holds, the demand of
-- the cell was found, and the slot has room
pub record IsOpen (whos slots : List ℕ) (y lacks rooms : List ℤ) (nodes : List (Option Node))
    (e : ℕ) : Type 0 where
  pub tree : AreNodes whos slots y nodes
  pub roots : AreRoots lacks nodes
  pub end : IsEnd whos slots rooms nodes e

-- no slot of a found demand has room, and no other demand has anything on one of these slots
pub record IsStuck (whos slots : List ℕ) (y rooms : List ℤ) (nodes : List (Option Node)) : Type
    0 where
  pub full : (e : ℕ) → e < length whos → IsFound nodes (label_at whos e)
      → amount_at rooms (label_at slots e) ≤ℤ pos 0
  pub none : (e f : ℕ) → e < length whos → f < length whos → IsFound nodes (label_at whos e)
      → label_at slots f ≡ label_at slots e → node_at nodes (label_at whos f) ≡ None
      → amount_at y f ≤ℤ pos 0

abbrev pub IsSearchEnd : List ℕ → List ℕ → List ℤ → List ℤ → List (Option Node) → Option ℕ → Type 0
IsSearchEnd whos slots y rooms nodes None = IsStuck whos slots y rooms nodes
IsSearchEnd whos slots y rooms nodes (Some last) = IsEnd whos slots rooms nodes last

pub record IsSearch (whos slots : List ℕ) (y lacks rooms : List ℤ) (nodes : List (Option Node))
    (last : Option ℕ) : Type 0 where
  pub places : length nodes ≡ length lacks
  pub tree : AreNodes whos slots y nodes
  pub roots : AreRoots lacks nodes
  pub begins : HasRoots lacks nodes
  pub ended : IsSearchEnd whos slots y rooms nodes last

-- the demand of a node without a link gets a more, within what it lacks, on the slot of the last
-- cell in the end; all else has as much as before
pub record IsRaised (whos slots : List ℕ) (nodes : List (Option Node)) (lacks : List ℤ) (last : ℕ)
    (a : ℤ) (y z : List ℤ) : Type 0 where
  pub root : ℕ
  pub node : Node
  pub is_node : node_at nodes root ≡ Some node
  pub is_root : node.link ≡ None
  pub enough : a ≤ℤ amount_at lacks root
  pub cells : length z ≡ length y
  pub amounts : (e : ℕ) → pos 0 ≤ℤ amount_at z e
  pub got : (i : ℕ) → sum_at i whos z ≡ (sum_at i whos y +ℤ only root i a)
  pub loads : (s : ℕ) → sum_at s slots z ≡ (sum_at s slots y +ℤ only (label_at slots last) s a)

-- the demands that were found, as a set
pub record IsFoundSet (nodes : List (Option Node)) (set : List Bool) : Type 0 where
  pub places : length set ≡ length nodes
  pub members : (i : ℕ) → Has set i → IsFound nodes i
  pub others : (i : ℕ) → i < length nodes → slice_index_or set i false ≡ false
      → node_at nodes i ≡ None

-- no demand gets less than before
abbrev pub GetsMore : List ℕ → List ℤ → List ℤ → Type 0
GetsMore whos y z = (i : ℕ) → sum_at i whos y ≤ℤ sum_at i whos z

-- the demands, with one more at u
abbrev pub one_more : List ℤ → ℕ → List ℤ
one_more demands u = slice_set demands u (amount_at demands u +ℤ pos 1)

-- u cannot get one more with all others met; and the other members of the set are exactly the
-- demands that can lend to it
pub record AreLenders (demands : List ℤ) (lists : List (List ℕ)) (capacities : List ℤ) (u : ℕ)
    (set : List Bool) : Type 0 where
  pub places : length set ≡ length demands
  pub full : CanBeMet (one_more demands u) lists capacities → ⊥
  pub exact : (v : ℕ) → v < length demands → v ≢ u → Has set v
      ↔ CanBeMet (exchanged demands u v (pos 1)) lists capacities
