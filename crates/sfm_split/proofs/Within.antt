-- Amounts that are raised step by step, with what they leave: what holds whatever the demands and
-- capacities are that they are within.
use Rattle.std.proofs.Common.{◌≡◌, ℕ, zero, suc, ◌<◌, ◌^◌, List, [], ◌∷◌, length, set, ℤ, pos, ◌+ℤ◌, ◌-ℤ◌, ◌≤ℤ◌, ◌<ℤ◌, Option, sym, ◌∙◌, arith}
use Rattle.std.proofs.lemmas.Int.{ints}
use Rattle.sfm_spec.specs.Bounds.{total_of}
use Rattle.sfm_cells.specs.Splits.{sum_at, amount_at}
use Rattle.sfm_cells.specs.Cells.{label_at, AreCells}
use Rattle.sfm_cells.specs.Left.{ListsLacking}
use Rattle.sfm_cells.proofs.Leaving.{listed_on}
use Rattle.sfm_split.specs.Search.{IsRaised}
use Rattle.sfm_split.specs.Pours.{IsPouring, AreWithin, AreRaised}
use Rattle.sfm_split.specs.declared.nodes.Node.{Node}
use Rattle.sfm_split.proofs.Fills.{left_low, left_small, below_nodes}
use Rattle.sfm_split.proofs.Pours.{pouring_begun, poured, moved_pouring}

total_le : (x z : List ℤ) → length z ≡ length x
    → ((i : ℕ) → i < length x → amount_at z i ≤ℤ amount_at x i) → total_of z ≤ℤ total_of x
total_le [] [] same le = omega (arith, ints)
total_le [] (b ∷ z) same le = absurd (omega (arith, same))
total_le (a ∷ x) [] same le = absurd (omega (arith, same))
total_le (a ∷ x) (b ∷ z) same le =
    let r = total_le x z (omega (arith, same))
    (λ i lt. le (suc i) (omega (arith, lt))) in let f = le 0
    (omega arith) in omega (arith, ints, r, f)

module _ (whos slots : List ℕ) (y lacks rooms : List ℤ) where
  pub raised_nowhere : AreRaised whos slots y lacks rooms y lacks rooms
  raised_nowhere = record { each = λ demands capacities before cells h. h }

  pub raised_on : (z lacks' rooms' z'' lacks'' rooms'' : List ℤ)
      → AreRaised whos slots y lacks rooms z lacks' rooms'
      → AreRaised whos slots z lacks' rooms' z'' lacks'' rooms''
      → AreRaised whos slots y lacks rooms z'' lacks'' rooms''
  raised_on z lacks' rooms' z'' lacks'' rooms'' f g =
      record {
        each = λ demands capacities before cells h. g.each demands capacities before cells
            (f.each demands capacities before cells h);
      }

  -- one cell gets what it can get
  pub raised_poured : (e : ℕ) (a : ℤ) → e < length whos → pos 0 ≤ℤ a
      → a ≤ℤ amount_at lacks (label_at whos e) → a ≤ℤ amount_at rooms (label_at slots e)
      → AreRaised whos slots y lacks rooms (set y e (amount_at y e +ℤ a))
      (set lacks (label_at whos e) (amount_at lacks (label_at whos e) -ℤ a))
      (set rooms (label_at slots e) (amount_at rooms (label_at slots e) -ℤ a))
  raised_poured e a lt low lacking fits =
      record {
        each = λ demands capacities before cells inv. poured demands capacities whos slots
            before y lacks rooms e a cells inv lt low fits lacking;
      }

  -- an amount moves along links
  pub raised_moved : (nodes : List (Option Node)) (last : ℕ) (a : ℤ) (z : List ℤ)
      → length nodes ≡ length lacks → last < length whos → pos 1 ≤ℤ a
      → a ≤ℤ amount_at rooms (label_at slots last)
      → (r : IsRaised whos slots nodes lacks last a y z)
      → AreRaised whos slots y lacks rooms z (set lacks r.root (amount_at lacks r.root -ℤ a))
      (set rooms (label_at slots last) (amount_at rooms (label_at slots last) -ℤ a))
  raised_moved nodes last a z places lt some fits r =
      record {
        each = λ demands capacities before cells inv. moved_pouring demands capacities whos
            slots before y lacks rooms nodes last a z cells inv places lt some fits r;
      }

  module _ (w : AreWithin whos slots y lacks rooms) where
    pub within_pouring : IsPouring w.demands w.capacities whos slots y y lacks rooms
    within_pouring = pouring_begun w.demands w.capacities whos slots y lacks rooms w.part
        w.lacks_are w.rooms_are

    pub still_within : (z lacks' rooms' : List ℤ)
        → AreRaised whos slots y lacks rooms z lacks' rooms' → AreWithin whos slots z lacks' rooms'
    still_within z lacks' rooms' r =
        let p = r.each w.demands w.capacities y w.cells within_pouring in
        record {
          demands = w.demands;
          capacities = w.capacities;
          cells = w.cells;
          bounded = w.bounded;
          part = p.part;
          lacks_are = p.lacks_are;
          rooms_are = p.rooms_are;
        }

    pub raised_lacks : (z lacks' rooms' : List ℤ)
        → AreRaised whos slots y lacks rooms z lacks' rooms' → length lacks' ≡ length lacks
    raised_lacks z lacks' rooms' r =
        (r.each w.demands w.capacities y w.cells within_pouring).lacks_are.places
        ∙ sym w.lacks_are.places

    pub raised_rooms : (z lacks' rooms' : List ℤ)
        → AreRaised whos slots y lacks rooms z lacks' rooms' → length rooms' ≡ length rooms
    raised_rooms z lacks' rooms' r =
        (r.each w.demands w.capacities y w.cells within_pouring).rooms_are.places
        ∙ sym w.rooms_are.places

    -- no demand lacks more than before
    raised_less : (z lacks' rooms' : List ℤ) → AreRaised whos slots y lacks rooms z lacks' rooms'
        → (i : ℕ) → i < length lacks → amount_at lacks' i ≤ℤ amount_at lacks i
    raised_less z lacks' rooms' r i lt =
        let p = r.each w.demands w.capacities y w.cells within_pouring in
        let places = w.lacks_are.places in
        let li : i < length w.demands = omega (arith, lt, places) in
        let before = w.lacks_are.each i li in
        let after = p.lacks_are.each i li in
        let more = p.more i in
        omega (arith, ints, before, after, more)

    -- so no more is lacked in all
    pub raised_falls : (z lacks' rooms' : List ℤ)
        → AreRaised whos slots y lacks rooms z lacks' rooms' → total_of lacks' ≤ℤ total_of lacks
    raised_falls z lacks' rooms' r =
        total_le lacks lacks' (raised_lacks z lacks' rooms' r) (raised_less z lacks' rooms' r)

    -- and those that lack something are listed
    pub still_listed : (list : List ℕ) (z lacks' rooms' : List ℤ)
        → AreRaised whos slots y lacks rooms z lacks' rooms' → ListsLacking lacks list
        → ListsLacking lacks' list
    still_listed list z lacks' rooms' r h =
        listed_on lacks lacks' list (raised_lacks z lacks' rooms' r) (raised_less z lacks' rooms' r)
        h

    pub within_cells : AreCells (length lacks) (length rooms) whos slots
    within_cells = rw (w.lacks_are.places, w.rooms_are.places) w.cells

    pub within_lacks : (i : ℕ) → i < length lacks → pos 0 ≤ℤ amount_at lacks i
    within_lacks = left_low w.demands whos y lacks w.lacks_are w.part.got

    pub within_rooms : (s : ℕ) → s < length rooms → pos 0 ≤ℤ amount_at rooms s
    within_rooms = left_low w.capacities slots y rooms w.rooms_are w.part.within

    pub within_small : (s : ℕ) → s < length rooms
        → (sum_at s slots y +ℤ amount_at rooms s) ≤ℤ pos (10 ^ 24)
    within_small = left_small w.capacities slots y rooms w.bounded w.rooms_are

    pub within_load : (e : ℕ) → e < length whos → sum_at (label_at slots e) slots y ≤ℤ pos (10 ^ 24)
    within_load e lt =
        let ls = within_cells.exist e lt in
        let low = within_rooms (label_at slots e) ls in
        let small = within_small (label_at slots e) ls in
        omega (arith, ints, low, small)

-- ---- what falls at each turn

pub low_total : (x : List ℤ) → ((i : ℕ) → i < length x → pos 0 ≤ℤ amount_at x i)
    → pos 0 ≤ℤ total_of x
low_total [] low = omega (arith, ints)
low_total (a ∷ x) low = let r = low_total x (λ i lt. low (suc i) (omega (arith, lt))) in let f = low
    0 (omega arith) in omega (arith, ints, r, f)

pub total-taken : (x : List ℤ) (i : ℕ) (a : ℤ) → i < length x
    → total_of (set x i (amount_at x i -ℤ a)) ≡ (total_of x -ℤ a)
total-taken [] i a lt = absurd (omega arith)
total-taken (b ∷ x) zero a lt = omega (arith, ints)
total-taken (b ∷ x) (suc i) a lt = let r = total-taken x i a (omega arith) in omega (arith, ints, r)

-- an amount that moves along links is taken off what demands lack
pub moved : (whos slots : List ℕ) (y lacks rooms : List ℤ) (nodes : List (Option Node)) (last : ℕ)
    (a : ℤ) (z lacks' rooms' : List ℤ) → length nodes ≡ length lacks → last < length whos
    → pos 1 ≤ℤ a → a ≤ℤ amount_at rooms (label_at slots last)
    → (r : IsRaised whos slots nodes lacks last a y z)
    → lacks' ≡ set lacks r.root (amount_at lacks r.root -ℤ a)
    → rooms' ≡ set rooms (label_at slots last) (amount_at rooms (label_at slots last) -ℤ a)
    → AreRaised whos slots y lacks rooms z lacks' rooms' × (total_of lacks' <ℤ total_of lacks)
moved whos slots y lacks rooms nodes last a z lacks' rooms' places lt some fits r ql qr =
    let below = below_nodes nodes r.root r.node r.is_node in
    let taken = total-taken lacks r.root a (omega (arith, below, places)) in (
      rw (ql, qr) (raised_moved whos slots y lacks rooms nodes last a z places lt some fits r),
      rw ql (omega (arith, ints, taken, some)),
    )
