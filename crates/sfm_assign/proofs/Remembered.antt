-- What is told of a demand by what it leads to: who can lend to it, or that it can get one more. A
-- search with a tree, which no code makes here, ends in the same: two least sets that no step
-- leaves are one.
use Rattle.std.proofs.Common.{◌≡◌, ◌≢◌, ◌↔◌, ◌<◌, ap, get_or, ℕ, Bool, List, length, set, replicate, ℤ, pos, ◌+ℤ◌, Option, Some, None, sym, ◌∙◌, arith, ⊎_elim, length-set, get_or-set_same, get_or-set_other, false}
use Rattle.std.proofs.lemmas.Int.{ints, by_lt_z}
use Rattle.std.proofs.lemmas.Bool.{cases_eq, false≢true}
use Rattle.std.proofs.lemmas.List.{length-replicate}
use Rattle.sfm_spec.specs.Sets.{Has}
use Rattle.sfm_spec.proofs.Sets.{has_or_not}
use Rattle.sfm_cells.specs.Splits.{amount_at, CanBeMet, Demands, AreDemands}
use Rattle.sfm_cells.specs.Cells.{joined, owners, label_at, AreCells, AreMet, IsPart, IsMet, IsClosed, only, IsFilled}
use Rattle.sfm_cells.specs.Left.{AreLeft}
use Rattle.sfm_split.specs.Search.{node_at, IsFound, IsStuck, IsFoundSet, HasRoots, one_more, AreLenders}
use Rattle.sfm_assign.specs.Spread.{IsStepClosed, AreLedTo, LeadsToRoom, AreAsking}
use Rattle.sfm_cells.specs.Lenders.{IsLender}
use Rattle.sfm_cells.proofs.Outcomes.{cells_for, changed-other}
use Rattle.sfm_split.specs.declared.nodes.Node.{Node}
use Rattle.sfm_split.proofs.Searches.{some_apart}
use Rattle.sfm_split.proofs.Filling.{found_exists, Searched, searched}
use Rattle.sfm_split.proofs.Lending.{GetsOne, raise_one, lend_one}
use Rattle.sfm_split.proofs.Loans.{more_part, lack_one, more_met, not_more, lenders_are, lenders_but, lenders_all}

-- a split that meets its demands, and what its slots have left, over the cells as the lists tell
-- them
pub over_lists : (d : Demands) (whos slots : List ℕ) (y rooms : List ℤ) → AreMet d whos slots y
    → AreLeft d.capacities slots y rooms
    → IsPart d.demands d.capacities (owners 0 d.lists) (joined d.lists) y
    × IsMet d.demands (owners 0 d.lists) y × AreLeft d.capacities (joined d.lists) y rooms
over_lists d whos slots y rooms met left = (
  rw (met.in_order, met.in_lists) at met.part,
  rw met.in_order at met.met,
  rw met.in_lists at left,
)

module _ (d : Demands) (sound : AreDemands d) (u : ℕ) (lu : u < length d.demands) (y rooms : List ℤ)
    (part : IsPart d.demands d.capacities (owners 0 d.lists) (joined d.lists) y)
    (met : IsMet d.demands (owners 0 d.lists) y)
    (lr : AreLeft d.capacities (joined d.lists) y rooms) where
  abbrev whos : List ℕ
  whos = owners 0 d.lists

  abbrev slots : List ℕ
  slots = joined d.lists

  abbrev more : List ℤ
  more = one_more d.demands u

  abbrev lacks : List ℤ
  lacks = set (replicate (length d.demands) (pos 0)) u (pos 1)

  more-places : length more ≡ length d.demands
  more-places = length-set d.demands u (amount_at d.demands u +ℤ pos 1)

  cells : AreCells (length more) (length d.capacities) whos slots
  cells = rw more-places (cells_for d sound)

  asked : IsPart more d.capacities whos slots y
  asked = more_part d sound u lu y part met

  lacking : AreLeft more whos y lacks
  lacking = lack_one d sound u lu y part met

  -- a search from u that does not stop has found a set with u that no step leaves
  module _ (nodes : List (Option Node)) (places : length nodes ≡ length lacks)
      (begins : HasRoots lacks nodes) (stuck : IsStuck whos slots y rooms nodes) (s : List Bool)
      (found : IsFoundSet nodes s) where
    in_set : (i : ℕ) → i < length d.demands → IsFound nodes i → Has s i
    in_set i lt (b, is) = ⊎_elim (λ has. has)
        (λ out. let l = lacking.places in let m = more-places in absurd (some_apart
        (node_at nodes i) (found.others i (omega (arith, lt, l, m, places)) out) is))
        (has_or_not s i)

    stuck_has : Has s u
    stuck_has =
        let l = length-replicate (length d.demands) (pos 0) in
        let one : amount_at lacks u ≡ pos 1 = get_or-set_same (replicate (length d.demands) (pos 0))
        u (pos 1) (pos 0) (omega (arith, l, lu)) in
        in_set u lu (begins u (omega (arith, ints, one)))

    stuck_closed : IsStepClosed whos slots y s
    stuck_closed = record {
      step = λ e f le lf has shared some. ⊎_elim (λ here. here)
          (λ out.
          let l = lacking.places in
          let owned = cells.owned f lf in
          let none = found.others (label_at whos f) (omega (arith, owned, l, places)) out in
          let little = stuck.none e f le lf (found.members (label_at whos e) has) shared none in
          absurd (omega (arith, ints, little, some)))
          (has_or_not s (label_at whos f));
    }

  -- a search from u stops where u leads to room
  room_gets : LeadsToRoom whos slots y rooms u → GetsOne more d.capacities whos slots y (λ i. pos 0)
  room_gets h = at (searched (length more) (length d.capacities) whos slots cells y lacks rooms
      lacking.places lr.places) where
        at : Searched (length more) (length d.capacities) whos slots cells y lacks rooms
            → GetsOne more d.capacities whos slots y (λ i. pos 0)
        at (nodes, Some last, k) = raise_one more d.capacities whos slots y lacks rooms nodes cells
            asked lacking lr k.places k.tree k.roots last k.ended
        at (nodes, None, k) =
            let (s, found) = found_exists nodes in
            absurd (h.some s (stuck_closed nodes k.places k.begins k.ended s found)
            (stuck_has nodes k.places k.begins k.ended s found)
            (λ e lt has. k.ended.full e lt (found.members (label_at whos e) has)))

  pub room_more : LeadsToRoom whos slots y rooms u
      → CanBeMet (one_more d.demands u) d.lists d.capacities
  room_more h = more_met d sound u lu y part met (room_gets h)

  -- where it leads to none, the search finds what u leads to
  module _ (s : List Bool) (h : AreLedTo (length d.demands) whos slots y rooms u s) where
    led_closed : IsClosed d.capacities whos slots y s
    led_closed = record {
      full = λ e lt has. let f = h.full e lt has in let x = cells.exist e lt in let l = lr.each
          (label_at slots e) x in omega (arith, ints, f, l);
      none = λ e f le lf has shared out. by_lt_z (pos 0) (amount_at y f)
          (λ some. absurd (false≢true
          (sym out ∙ h.closed.step e f le lf has shared (omega (arith, ints, some)))))
          (λ none. let low = part.amounts f in omega (arith, ints, none, low));
    }

    led_filled : IsFilled more d.capacities whos slots y s
    led_filled = record {
      places = h.places ∙ sym more-places;
      closed = led_closed;
      lacking = λ i lt less. ⊎_elim
          (λ (q : i ≡ u). rw q h.begins)
          (λ ne.
          let m = more-places in
          let o = changed-other d.demands u lu (amount_at d.demands u +ℤ pos 1) i ne in
          let all = met i (omega (arith, lt, m)) in
          absurd (omega (arith, ints, less, o, all)))
          (cases_eq i u);
    }

    led_lends : (v : ℕ) → Has s v → GetsOne more d.capacities whos slots y (λ i. only v i (pos 1))
    led_lends v has = at (searched (length more) (length d.capacities) whos slots cells y lacks
        rooms lacking.places lr.places) where
          at : Searched (length more) (length d.capacities) whos slots cells y lacks rooms
              → GetsOne more d.capacities whos slots y (λ i. only v i (pos 1))
          at (nodes, Some last, k) = absurd (not_more d sound u lu y part met s led_filled
              (more_met d sound u lu y part met
              (raise_one more d.capacities whos slots y lacks rooms nodes cells asked lacking lr
              k.places k.tree k.roots last k.ended)))
          at (nodes, None, k) =
              let (t, found) = found_exists nodes in
              let in_t = h.least v has t (stuck_closed nodes k.places k.begins k.ended t found)
              (stuck_has nodes k.places k.begins k.ended t found) in
              let (b, is) = found.members v in_t in
              lend_one more d.capacities whos slots y lacks rooms nodes cells asked lacking lr
              k.places
              k.tree k.roots v b is

    pub led_lenders : AreLenders d.demands d.lists d.capacities u s
    led_lenders = lenders_are d sound u lu y part met s led_filled led_lends

  -- what is written where u leads to room: all others that ask for something
  pub written_room : LeadsToRoom whos slots y rooms u → (asking : List Bool)
      → length asking ≡ length d.demands → AreAsking d.demands asking → (to : List Bool)
      → to ≡ set asking u false
      → (v : ℕ) → v < length d.demands → Has to v ↔ IsLender d.demands d.lists d.capacities u v
  written_room room asking places asked to wrote v lv =
      let lends = lenders_all d sound u v lu lv (room_more room) in
      let some = asked v lv in
      let lt : u < length asking = omega (arith, lu, places) in
      let other : Has to v → v ≢ u = λ has q.
      false≢true (sym (ap (λ k. get_or (set asking u false) k false) q
      ∙ get_or-set_same asking u false false lt)
      ∙ (ap (λ t. get_or t v false) (sym wrote) ∙ has)) in
      let kept : v ≢ u → get_or to v false ≡ get_or asking v false = λ ne.
      ap (λ t. get_or t v false) wrote ∙ get_or-set_other asking u v false false ne in (
        (λ has. lends.0 (other has, some.0 (sym (kept (other has)) ∙ has))),
        (λ h. let (ne, more) = lends.1 h in kept ne ∙ some.1 more),
      )

  -- and where it leads to none: the others of those that it leads to
  pub written_led : (s : List Bool) → AreLedTo (length d.demands) whos slots y rooms u s
      → (to : List Bool) → to ≡ set s u false → (v : ℕ) → v < length d.demands
      → Has to v ↔ IsLender d.demands d.lists d.capacities u v
  written_led s led to wrote v lv = rw wrote (lenders_but d sound u lu s (led_lenders s led) v lv)
