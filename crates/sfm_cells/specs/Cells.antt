-- The cells of demands in one list: a cell is a demand with one entry of its list. Cells are told
-- by two lists of the same length, the demand of each and the slot of each, and amounts on them by
-- a third.
use Rattle.std.specs.Prelude.{◌≡◌, ℕ, suc, ◌<◌, Bool, false, List, [], ◌∷◌, ◌++◌, length, replicate, slice_index_or, take, drop, ℤ, pos, ◌+ℤ◌, ◌≤ℤ◌, ◌<ℤ◌, nat_eq, if◌then◌else◌}
use Rattle.sfm_spec.specs.Sets.{Has}
use Rattle.sfm_cells.specs.Splits.{sum_at, amount_at, Demands}

-- lists joined end to end
abbrev pub joined : {A : Type 0} → List (List A) → List A
joined [] = []
joined (xs ∷ xss) = xs ++ joined xss

-- the demand of each cell, the demands being numbered from i
abbrev pub owners : ℕ → List (List ℕ) → List ℕ
owners i [] = []
owners i (slots ∷ lists) = replicate (length slots) i ++ owners (suc i) lists

-- amounts cut into rows as long as the lists
abbrev pub cut : List (List ℕ) → List ℤ → List (List ℤ)
cut [] y = []
cut (slots ∷ lists) y = take (length slots) y ∷ cut lists (drop (length slots) y)

abbrev pub label_at : List ℕ → ℕ → ℕ
label_at labels e = slice_index_or labels e 0

-- the sum of those amounts whose number is in a set
abbrev pub sum_in : List Bool → List ℕ → List ℤ → ℤ
sum_in set [] y = pos 0
sum_in set (j ∷ js) [] = pos 0
sum_in set (j ∷ js) (a ∷ y) = (if slice_index_or set j false then a else pos 0) +ℤ sum_in set js y

-- a at the number j, and nothing at others
abbrev pub only : ℕ → ℕ → ℤ → ℤ
only j k a = if nat_eq j k then a else pos 0

-- cells of n demands and m slots
pub record AreCells (n m : ℕ) (whos slots : List ℕ) : Type 0 where
  pub same : length slots ≡ length whos
  pub owned : (e : ℕ) → e < length whos → label_at whos e < n
  pub exist : (e : ℕ) → e < length whos → label_at slots e < m

-- amounts on cells, not negative, by which no demand gets more than it asks for and no slot more
-- than its capacity
pub record IsPart (demands capacities : List ℤ) (whos slots : List ℕ) (y : List ℤ) : Type 0 where
  pub cells : length y ≡ length whos
  pub amounts : (e : ℕ) → pos 0 ≤ℤ amount_at y e
  pub got : (i : ℕ) → i < length demands → sum_at i whos y ≤ℤ amount_at demands i
  pub within : (s : ℕ) → s < length capacities → sum_at s slots y ≤ℤ amount_at capacities s

-- each slot of a demand in the set is full, and no other demand has anything on one of these slots
pub record IsClosed (capacities : List ℤ) (whos slots : List ℕ) (y : List ℤ)
    (set : List Bool) : Type 0 where
  pub full : (e : ℕ) → e < length whos → Has set (label_at whos e)
      → amount_at capacities (label_at slots e) ≤ℤ sum_at (label_at slots e) slots y
  pub none : (e f : ℕ) → e < length whos → f < length whos → Has set (label_at whos e)
      → label_at slots f ≡ label_at slots e
      → slice_index_or set (label_at whos f) false ≡ false → amount_at y f ≡ pos 0

-- no demand lacks anything
abbrev pub IsMet : List ℤ → List ℕ → List ℤ → Type 0
IsMet demands whos y = (i : ℕ) → i < length demands → amount_at demands i ≤ℤ sum_at i whos y

-- a closed set with all demands that lack something
pub record IsFilled (demands capacities : List ℤ) (whos slots : List ℕ) (y : List ℤ)
    (set : List Bool) : Type 0 where
  pub places : length set ≡ length demands
  pub closed : IsClosed capacities whos slots y set
  pub lacking : (i : ℕ) → i < length demands → sum_at i whos y <ℤ amount_at demands i → Has set i

-- some demand lacks something, and the set is closed and has all that do
pub record IsLacking (demands capacities : List ℤ) (whos slots : List ℕ) (y : List ℤ)
    (set : List Bool) : Type 0 where
  pub filled : IsFilled demands capacities whos slots y set
  pub one : ℕ
  pub in_range : one < length demands
  pub less : sum_at one whos y <ℤ amount_at demands one

-- amounts on the cells of demands, by which each demand gets what it asks for
pub record AreMet (d : Demands) (whos slots : List ℕ) (y : List ℤ) : Type 0 where
  pub in_order : whos ≡ owners 0 d.lists
  pub in_lists : slots ≡ joined d.lists
  pub part : IsPart d.demands d.capacities whos slots y
  pub met : IsMet d.demands whos y
