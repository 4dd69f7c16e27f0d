-- What can be filled: from any amounts there are others by which no demand gets less, with a closed
-- set of all demands that still lack something. So demands can be met exactly where no set of them
-- asks for more than its slots have.
use Rattle.std.proofs.Common.{◌≡◌, ◌⊎◌, ℕ, zero, suc, ◌+◌, ◌<◌, ◌≤◌, Bool, true, false, List, [], ◌∷◌, length, get_or, set, replicate, ℤ, pos, ◌+ℤ◌, ◌-ℤ◌, ◌≤ℤ◌, ◌<ℤ◌, Option, Some, None, refl, sym, ◌∙◌, subst, arith, inl, inr, ⊎_elim}
use Rattle.std.proofs.lemmas.Int.{ints, by_lt_z}
use Rattle.std.proofs.lemmas.Bool.{cases_lt, false≢true}
use Rattle.std.proofs.lemmas.List.{length-replicate}
use Rattle.sfm_spec.specs.Sets.{Has, sum_over}
use Rattle.sfm_spec.specs.Bounds.{total_of}
use Rattle.sfm_cells.specs.Splits.{sum_at, amount_at, slots_of, CanBeMet, IsShort}
use Rattle.sfm_cells.specs.Cells.{joined, owners, cut, label_at, AreCells, IsPart, IsFilled}
use Rattle.sfm_cells.specs.Left.{AreLeft}
use Rattle.sfm_cells.proofs.Amounts.{tally, tally-at, sum_over-le}
use Rattle.sfm_cells.proofs.Rows.{AreBelow, cells_of, split_of_part}
use Rattle.sfm_cells.proofs.Hall.{hall_easy, short_of_closed}
use Rattle.sfm_cells.proofs.Outcomes.{nothing_part}
use Rattle.sfm_split.specs.Search.{node_at, missing, IsFound, IsNode, AreNodes, AreBranches, IsRoot, AreRootsOf, IsMarkOf, IsEnd, IsSearch, IsFoundSet, IsRaised, GetsMore}
use Rattle.sfm_split.specs.declared.nodes.Link.{Link}
use Rattle.sfm_split.specs.declared.nodes.Node.{Node}
use Rattle.sfm_split.proofs.Searches.{mark_at, linked_node, IsMarkingTo, mark_put, mark_skip, IsGrowingTo, grow_none, grow_put, grow_skip, IsSearching, marks_below, marks_kept, search_begun, search_turned, some_apart, none_marked}
use Rattle.sfm_split.proofs.Ways.{branches_of, carries_of}
use Rattle.sfm_split.proofs.Augments.{IsMoving, moving_begun, moving_step, moving_lower, moving_done}
use Rattle.sfm_split.proofs.Fills.{total_bound, to_nat, to_nat_falls, raised_part, raised_more, raised_total, stuck_filled}

-- an option has a value, or it has none
pub either : {A P : Type 0} (o : Option A) → ((x : A) → o ≡ Some x → P) → (o ≡ None → P) → P
either None f g = g refl
either (Some x) f g = f x refl

-- ---- what is left

less : List ℤ → List ℤ → List ℤ
less [] y = []
less (a ∷ x) [] = a ∷ less x []
less (a ∷ x) (b ∷ y) = (a -ℤ b) ∷ less x y

length-less : (x y : List ℤ) → length (less x y) ≡ length x
unfolding less
length-less [] y = refl
length-less (a ∷ x) [] = let r = length-less x [] in omega (arith, r)
length-less (a ∷ x) (b ∷ y) = let r = length-less x y in omega (arith, r)

less-at : (x y : List ℤ) (k : ℕ) → amount_at (less x y) k ≡ (amount_at x k -ℤ amount_at y k)
    ⊎ (length x ≤ k)
unfolding less
less-at [] y k = inr (omega arith)
less-at (a ∷ x) [] zero = inl (omega (arith, ints))
less-at (a ∷ x) [] (suc k) = ⊎_elim (λ h. inl h) (λ le. inr (omega (arith, le))) (less-at x [] k)
less-at (a ∷ x) (b ∷ y) zero = inl refl
less-at (a ∷ x) (b ∷ y) (suc k) =
    ⊎_elim (λ h. inl h) (λ le. inr (omega (arith, le))) (less-at x y k)

left_exists : (totals : List ℤ) (labels : List ℕ) (y : List ℤ) → (left : List ℤ)
    × AreLeft totals labels y left
left_exists totals labels y = (
  less totals (tally (length totals) labels y),
  record {
    places = length-less totals (tally (length totals) labels y);
    each = λ k lt.
        let t = tally-at (length totals) k labels y lt in
        ⊎_elim (λ h. omega (arith, ints, h, t))
        (λ (le : length totals ≤ k). absurd (omega (arith, lt, le)))
        (less-at totals (tally (length totals) labels y) k);
  },
)

-- ---- the search

root_exists : (a : ℤ) → (o : Option Node) × IsRoot a o
root_exists a = by_lt_z (pos 0) a
    (λ l. (Some (record { level = 0; link = None }), (refl, refl, omega (arith, ints, l))))
    (λ le. (None, le))

roots_exist : (lacks : List ℤ) → (nodes : List (Option Node)) × AreRootsOf lacks nodes
roots_exist [] = ([], record { places = refl; each = λ i lt. absurd (omega arith) })
roots_exist (a ∷ lacks) = put (root_exists a) (roots_exist lacks) where
  put : ((o : Option Node) × IsRoot a o) → ((nodes : List (Option Node)) × AreRootsOf lacks nodes)
      → (nodes : List (Option Node)) × AreRootsOf (a ∷ lacks) nodes
  put (o, r) (nodes, h) = (
    o ∷ nodes,
    record { places = (let p = h.places in omega (arith, p)); each = each },
  ) where
    each : (i : ℕ) → i < length (a ∷ lacks)
        → IsRoot (amount_at (a ∷ lacks) i) (node_at (o ∷ nodes) i)
    each zero lt = r
    each (suc i) lt = h.each i (omega arith)

pub found_exists : (nodes : List (Option Node)) → (s : List Bool) × IsFoundSet nodes s
found_exists [] = (
  [],
  record {
    places = refl;
    members = λ i has. absurd (false≢true has);
    others = λ i lt. absurd (omega arith);
  },
)
found_exists (None ∷ nodes) = put (found_exists nodes) where
  put : ((s : List Bool) × IsFoundSet nodes s) → (s : List Bool) × IsFoundSet (None ∷ nodes) s
  put (s, h) = (
    false ∷ s,
    record {
      places = (let p = h.places in omega (arith, p));
      members = members;
      others = others;
    },
  ) where
    members : (i : ℕ) → Has (false ∷ s) i → IsFound (None ∷ nodes) i
    members zero has = absurd (false≢true has)
    members (suc i) has = h.members i has

    others : (i : ℕ) → i < length (None ∷ nodes) → get_or (false ∷ s) i false ≡ false
        → node_at (None ∷ nodes) i ≡ None
    others zero lt out = refl
    others (suc i) lt out = h.others i (omega arith) out
found_exists (Some b ∷ nodes) = put (found_exists nodes) where
  put : ((s : List Bool) × IsFoundSet nodes s) → (s : List Bool) × IsFoundSet (Some b ∷ nodes) s
  put (s, h) = (
    true ∷ s,
    record {
      places = (let p = h.places in omega (arith, p));
      members = members;
      others = others;
    },
  ) where
    members : (i : ℕ) → Has (true ∷ s) i → IsFound (Some b ∷ nodes) i
    members zero has = (b, refl)
    members (suc i) has = h.members i has

    others : (i : ℕ) → i < length (Some b ∷ nodes) → get_or (true ∷ s) i false ≡ false
        → node_at (Some b ∷ nodes) i ≡ None
    others zero lt out = absurd (false≢true (sym out))
    others (suc i) lt out = h.others i (omega arith) out

next : (P : ℕ → Type 0) (k : ℕ) → P (k + 1) → P (suc k)
next P k h = let e : k + 1 ≡ suc k = omega arith in subst P e h

module _ (n m : ℕ) (whos slots : List ℕ) (cells : AreCells n m whos slots) where
  abbrev Marked : List ℤ → List (Option Node) → ℕ → Type 0
  Marked rooms nodes k = ((last : ℕ) × IsEnd whos slots rooms nodes last)
      ⊎ ((marks : List (Option ℕ)) × IsMarkingTo whos slots rooms nodes marks k)

  mark_exists : (rooms : List ℤ) (nodes : List (Option Node)) → length rooms ≡ m → (k : ℕ)
      → k ≤ length whos → Marked rooms nodes k
  mark_exists rooms nodes lr zero le =
      inr (
        replicate m None,
        record {
          places = length-replicate m None ∙ sym lr;
          sound = λ s e is. absurd (some_apart (mark_at (replicate m None) s) (none_marked m s) is);
          upto = λ d lt. absurd (omega arith);
        },
      )
  mark_exists rooms nodes lr (suc k) le = at (mark_exists rooms nodes lr k (omega arith)) where
    here : label_at slots k < length rooms
    here = let x = cells.exist k (omega arith) in omega (arith, x, lr)

    at : Marked rooms nodes k → Marked rooms nodes (suc k)
    at (inl end) = inl end
    at (inr (marks, inv)) = either (node_at nodes (label_at whos k))
        (λ b found. either (mark_at marks (label_at slots k))
        (λ f is. inr (
          marks,
          next (λ j. IsMarkingTo whos slots rooms nodes marks j) k
              (mark_skip whos slots rooms nodes marks k (λ has. (f, is)) inv),
        ))
        (λ none. by_lt_z (pos 0) (amount_at rooms (label_at slots k))
        (λ room. inl (
          k,
          record {
            cell = omega arith;
            found = (b, found);
            room = omega (arith, ints, room);
          },
        ))
        (λ full. inr (
          set marks (label_at slots k) (Some k),
          next (λ j. IsMarkingTo whos slots rooms nodes (set marks (label_at slots k) (Some k)) j)
              k (mark_put whos slots rooms nodes marks k (omega arith) here (b, found) full inv),
        ))))
        (λ out. inr (
          marks,
          next (λ j. IsMarkingTo whos slots rooms nodes marks j) k
              (mark_skip whos slots rooms nodes marks k
              (λ (b, is). absurd (some_apart (node_at nodes (label_at whos k)) out is)) inv),
        ))

  abbrev Grown : List ℤ → ℕ → List (Option ℕ) → List (Option Node) → ℕ → Type 0
  Grown y level marks before k = (after : List (Option Node)) × (grew : Bool)
      × IsGrowingTo whos slots y level marks before after grew k

  grow_exists : (y : List ℤ) (level : ℕ) (marks : List (Option ℕ)) (before : List (Option Node))
      → length before ≡ n → AreNodes whos slots y before
      → ((s e : ℕ) → mark_at marks s ≡ Some e → IsMarkOf whos slots before level s e)
      → (k : ℕ) → k ≤ length whos → Grown y level marks before k
  grow_exists y level marks before ln tree marked zero le =
      (before, false, grow_none whos slots y level marks before tree)
  grow_exists y level marks before ln tree marked (suc k) le =
      at (grow_exists y level marks before ln tree marked k (omega arith)) where
        at : Grown y level marks before k → Grown y level marks before (suc k)
        at (after, grew, inv) = either (node_at after (label_at whos k))
            (λ b is. skip (λ out. absurd (some_apart (node_at after (label_at whos k)) out is)))
            (λ out. either (mark_at marks (label_at slots k))
            (λ f is. by_lt_z (pos 0) (amount_at y k)
            (λ has. by_mark f out has (marks_kept whos slots before after marks level inv.grown.kept
            marked (label_at slots k) f is)) (λ le. skip (λ o g h. le)))
            (λ none. skip
            (λ o g h. absurd (some_apart (mark_at marks (label_at slots k)) none h)))) where
              skip : (node_at after (label_at whos k) ≡ None → (f : ℕ)
                  → mark_at marks (label_at slots k) ≡ Some f → amount_at y k ≤ℤ pos 0)
                  → Grown y level marks before (suc k)
              skip h = (
                after,
                grew,
                next
                    (λ j. IsGrowingTo whos slots y level marks before after grew j) k
                    (grow_skip whos slots y level marks before after grew k h inv),
              )

              put : (b : Node) → node_at after (label_at whos k) ≡ None → b.level ≡ level
                  → ((b.link ≡ None) → ⊥) → IsNode whos slots y after (label_at whos k) b
                  → Grown y level marks before (suc k)
              put b out lv linked node = (
                set after (label_at whos k) (Some b),
                true,
                next (λ j. IsGrowingTo whos slots y level marks before
                    (set after (label_at whos k) (Some b)) true j) k
                    (grow_put whos slots y level marks before after grew k b
                    (let o = cells.owned k (omega arith) in omega (arith, o, ln))
                    (record { out = out; at_level = lv; linked = linked; node = node }) inv),
              )

              link_apart : (l : Link) → Some l ≡ None → ⊥
              link_apart l h = cc

              by_mark : (f : ℕ) → node_at after (label_at whos k) ≡ None → pos 0 <ℤ amount_at y k
                  → IsMarkOf whos slots after level (label_at slots k) f
                  → Grown y level marks before (suc k)
              by_mark f out has mark = put
                  (record { level = level; link = Some (record { own = k; other = f }) }) out refl
                  (link_apart (record { own = k; other = f }))
                  (linked_node whos slots y after level (record { own = k; other = f })
                  (omega arith)
                  mark.cell (sym mark.slot) mark.node mark.is_node mark.lower
                  (omega (arith, ints, has)))

  abbrev pub Searched : List ℤ → List ℤ → List ℤ → Type 0
  Searched y lacks rooms = (nodes : List (Option Node)) × (last : Option ℕ)
      × IsSearch whos slots y lacks rooms nodes last

  search_exists : (fuel : ℕ) (y lacks rooms : List ℤ) → length lacks ≡ n → length rooms ≡ m
      → (nodes : List (Option Node)) (marks : List (Option ℕ)) (level : ℕ) → missing nodes < fuel
      → IsSearching whos slots y lacks rooms nodes marks level true → Searched y lacks rooms
  search_exists zero y lacks rooms ll lr nodes marks level few inv = absurd (omega arith)
  search_exists (suc fuel) y lacks rooms ll lr nodes marks level few inv =
      at (search_exists fuel y lacks rooms ll lr)
      (mark_exists rooms nodes lr (length whos) (omega arith)) where
        Rest : Type 0
        Rest = (nodes : List (Option Node)) (marks : List (Option ℕ)) (level : ℕ)
            → missing nodes < fuel
            → IsSearching whos slots y lacks rooms nodes marks level true → Searched y lacks rooms

        turned : Rest → (marks' : List (Option ℕ)) (after : List (Option Node)) (grew : Bool)
            → (grew ≡ true → missing after < missing nodes)
            → IsSearching whos slots y lacks rooms after marks' (level + 1) grew
            → Searched y lacks rooms
        turned rest marks' after true more h =
            rest after marks' (level + 1) (let f = more refl in omega (arith, f, few)) h
        turned rest marks' after false more h = (
          after,
          None,
          record {
            places = h.places;
            tree = h.tree;
            roots = h.roots;
            begins = h.begins;
            ended = h.stuck refl;
          },
        )

        grown : Rest → (marks' : List (Option ℕ))
            → IsMarkingTo whos slots rooms nodes marks' (length whos)
            → Grown y (level + 1) marks' nodes (length whos) → Searched y lacks rooms
        grown rest marks' done (after, grew, g) = turned rest marks' after grew g.more
            (search_turned whos slots y lacks rooms nodes after marks marks' level true grew refl
            inv
            done.places done.sound (λ e lt has. done.upto e lt has) g.grown
            (λ e f lt out is. g.passed e f lt out is) g.more g.same)

        at : Rest → Marked rooms nodes (length whos) → Searched y lacks rooms
        at rest (inl (last, end)) = (
          nodes,
          Some last,
          record {
            places = inv.places;
            tree = inv.tree;
            roots = inv.roots;
            begins = inv.begins;
            ended = end;
          },
        )
        at rest (inr (marks', done)) =
            grown rest marks' done (grow_exists y (level + 1) marks' nodes (inv.places ∙ ll)
            inv.tree
            (marks_below whos slots rooms nodes marks' level done.sound inv.levels) (length whos)
            (omega arith))

  -- each search has an end
  pub searched : (y lacks rooms : List ℤ) → length lacks ≡ n → length rooms ≡ m
      → Searched y lacks rooms
  searched y lacks rooms ll lr = at (roots_exist lacks) where
    at : ((nodes : List (Option Node)) × AreRootsOf lacks nodes) → Searched y lacks rooms
    at (nodes, roots) = search_exists (suc (missing nodes)) y lacks rooms ll lr nodes
        (replicate (length rooms) None) 0 (omega arith)
        (search_begun whos slots y lacks rooms nodes (replicate (length rooms) None)
        (length-replicate (length rooms) None) (none_marked (length rooms)) roots)

  -- ---- the moves

  pub move_exists : (fuel : ℕ) (nodes : List (Option Node)) (lacks : List ℤ) (last : ℕ) (a : ℤ)
      (y z : List ℤ) (who : ℕ) → length y ≡ length whos → AreBranches whos slots nodes → pos 0 ≤ℤ a
      → (inv : IsMoving whos slots nodes lacks last a y z who) → inv.here.level < fuel
      → (z' : List ℤ) × IsRaised whos slots nodes lacks last a y z'
  move_exists zero nodes lacks last a y z who same tree some inv few = absurd (omega arith)
  move_exists (suc fuel) nodes lacks last a y z who same tree some inv few =
      at (move_exists fuel nodes lacks last a y) where
        Rest : Type 0
        Rest = (z : List ℤ) (who : ℕ) → length y ≡ length whos → AreBranches whos slots nodes
            → pos 0 ≤ℤ a → (inv : IsMoving whos slots nodes lacks last a y z who)
            → inv.here.level < fuel → (z' : List ℤ) × IsRaised whos slots nodes lacks last a y z'

        at : Rest → (z' : List ℤ) × IsRaised whos slots nodes lacks last a y z'
        at rest = either inv.here.link
            (λ l is.
            let u = amount_at z l.own -ℤ a in
            let v = amount_at (set z l.own u) l.other +ℤ a in
            let step = moving_step n m whos slots nodes lacks last a y z who cells same tree inv l
            is u
            v refl refl some in
            let lower = moving_lower n m whos slots nodes lacks last a y z who cells same tree inv l
            is
            step.here step.is_here in
            rest (set (set z l.own u) l.other v) (label_at whos l.other) same tree some step
            (omega (arith, lower, few)))
            (λ none. (
              z,
              (moving_done n m whos slots nodes lacks last a y z who cells same tree inv
                  none).0,
            ))

-- ---- filling

module _ (demands capacities : List ℤ) (whos slots : List ℕ)
    (cells : AreCells (length demands) (length capacities) whos slots) where
  abbrev Stepped : List ℤ → Type 0
  Stepped y = ((s : List Bool) × IsFilled demands capacities whos slots y s)
      ⊎ ((z : List ℤ) × IsPart demands capacities whos slots z × GetsMore whos y z
      × (total_of y <ℤ total_of z))

  step_exists : (y : List ℤ) → IsPart demands capacities whos slots y → Stepped y
  step_exists y part = with_left (left_exists demands whos y) (left_exists capacities slots y) where
    found : (lacks rooms : List ℤ) → AreLeft demands whos y lacks → AreLeft capacities slots y rooms
        → Searched (length demands) (length capacities) whos slots cells y lacks rooms → Stepped y
    found lacks rooms ll lr (nodes, None, h) =
        let (s, set) = found_exists nodes in inl (
          s,
          stuck_filled demands capacities whos slots y lacks rooms nodes s cells part ll lr
              h.places h.begins h.ended set,
        )
    found lacks rooms ll lr (nodes, Some last, h) =
        let end = h.ended in
        let (b, is) = end.found in
        let begun = moving_begun (length demands) (length capacities) whos slots nodes lacks last
        (pos 1) (amount_at y last +ℤ pos 1) y cells part.cells part.amounts end.cell
        (omega (arith, ints)) (carries_of whos slots y nodes h.tree lacks h.roots
        (label_at whos last) b is) refl in
        let (z, r) = move_exists (length demands) (length capacities) whos slots cells
        (suc begun.here.level) nodes lacks last (pos 1) y
        (set y last (amount_at y last +ℤ pos 1)) (label_at whos last) part.cells
        (branches_of whos slots y nodes h.tree) (omega (arith, ints)) begun (omega arith) in
        let some : pos 1 ≤ℤ pos 1 = omega (arith, ints) in
        inr (
          z,
          raised_part demands capacities whos slots y lacks rooms nodes last (pos 1) z cells
              part ll lr h.places end.cell some end.room r,
          raised_more demands capacities whos slots y lacks rooms nodes last (pos 1) z cells part
              ll lr h.places end.cell some end.room r,
          raised_total demands capacities whos slots y lacks rooms nodes last (pos 1) z cells part
              ll lr h.places end.cell some end.room r,
        )

    with_left : ((lacks : List ℤ) × AreLeft demands whos y lacks)
        → ((rooms : List ℤ) × AreLeft capacities slots y rooms) → Stepped y
    with_left (lacks, ll) (rooms, lr) =
        found lacks rooms ll lr (searched (length demands) (length capacities) whos slots cells y
        lacks rooms ll.places lr.places)

  abbrev Filled : List ℤ → Type 0
  Filled y = (z : List ℤ) × (s : List Bool) × IsPart demands capacities whos slots z
      × GetsMore whos y z × IsFilled demands capacities whos slots z s

  fill_by : (fuel : ℕ) (y : List ℤ) → IsPart demands capacities whos slots y
      → to_nat (total_of demands -ℤ total_of y) < fuel → Filled y
  fill_by zero y part few = absurd (omega arith)
  fill_by (suc fuel) y part few = at (fill_by fuel) (step_exists y part) where
    at : ((z : List ℤ) → IsPart demands capacities whos slots z
        → to_nat (total_of demands -ℤ total_of z) < fuel → Filled z) → Stepped y → Filled y
    at rest (inl (s, h)) = (y, s, part, (λ i. omega (arith, ints)), h)
    at rest (inr (z, pz, more, rose)) =
        let b = total_bound demands capacities (length capacities) whos slots z cells pz in
        let falls = to_nat_falls (total_of demands -ℤ total_of z) (total_of demands -ℤ total_of y)
        (omega (arith, ints, b)) (omega (arith, ints, rose)) in
        let (w, s, pw, again, h) = rest z pz (omega (arith, falls, few)) in
        (w, s, pw, (λ i. let f = more i in let g = again i in omega (arith, ints, f, g)), h)

  -- any amounts can be raised to some with a closed set of all demands that lack something
  pub fill_exists : (y : List ℤ) → IsPart demands capacities whos slots y → Filled y
  fill_exists y part = fill_by (suc (to_nat (total_of demands -ℤ total_of y))) y part (omega arith)

-- ---- Hall's condition

-- some demand lacks something, or none does
lacking_or_met : (demands : List ℤ) (whos : List ℕ) (y : List ℤ) (k : ℕ)
    → ((i : ℕ) × (i < k) × (sum_at i whos y <ℤ amount_at demands i))
    ⊎ ((i : ℕ) → i < k → amount_at demands i ≤ℤ sum_at i whos y)
lacking_or_met demands whos y zero = inr (λ i lt. absurd (omega arith))
lacking_or_met demands whos y (suc k) = at (lacking_or_met demands whos y k) where
  at : ((i : ℕ) × (i < k) × (sum_at i whos y <ℤ amount_at demands i))
      ⊎ ((i : ℕ) → i < k → amount_at demands i ≤ℤ sum_at i whos y)
      → ((i : ℕ) × (i < suc k) × (sum_at i whos y <ℤ amount_at demands i))
      ⊎ ((i : ℕ) → i < suc k → amount_at demands i ≤ℤ sum_at i whos y)
  at (inl (i, lt, less)) = inl (i, omega arith, less)
  at (inr met) = by_lt_z (sum_at k whos y) (amount_at demands k)
      (λ less. inl (k, omega arith, less))
      (λ le. inr (λ i lt. ⊎_elim (λ before. met i before)
      (λ (ge : k ≤ i). let q : i ≡ k = omega (arith, ge, lt) in rw q le) (cases_lt i k)))

-- demands can be met, or a set of them asks for more than its slots have
pub met_or_short : (demands : List ℤ) (lists : List (List ℕ)) (capacities : List ℤ)
    → length lists ≡ length demands → AreBelow (length capacities) lists
    → ((i : ℕ) → i < length demands → pos 0 ≤ℤ amount_at demands i)
    → ((s : ℕ) → s < length capacities → pos 0 ≤ℤ amount_at capacities s)
    → CanBeMet demands lists capacities ⊎ ((s : List Bool) × IsShort demands lists capacities s)
met_or_short demands lists capacities same below low caps =
    from (fill_exists demands capacities (owners 0 lists) (joined lists) cells
    (replicate (length (owners 0 lists)) (pos 0))
    (nothing_part demands capacities (owners 0 lists) (joined lists) low caps)) where
      cells : AreCells (length demands) (length capacities) (owners 0 lists) (joined lists)
      cells = rw (← same) (cells_of (length capacities) lists below)

      from : Filled demands capacities (owners 0 lists) (joined lists) cells
          (replicate (length (owners 0 lists)) (pos 0)) → CanBeMet demands lists capacities
          ⊎ ((s : List Bool) × IsShort demands lists capacities s)
      from (z, s, part, more, filled) = ⊎_elim
          (λ (i, lt, less). inr (
            s,
            short_of_closed demands capacities lists z same below part s
                filled.places filled.closed i (filled.lacking i lt less) less,
          ))
          (λ met. inl (cut lists z, split_of_part demands lists capacities z same part met))
          (lacking_or_met demands (owners 0 lists) z (length demands))

-- Hall's condition: demands can be met if no set of them asks for more than its slots have
pub hall : (demands : List ℤ) (lists : List (List ℕ)) (capacities : List ℤ)
    → length lists ≡ length demands → AreBelow (length capacities) lists
    → ((i : ℕ) → i < length demands → pos 0 ≤ℤ amount_at demands i)
    → ((s : ℕ) → s < length capacities → pos 0 ≤ℤ amount_at capacities s)
    → ((s : List Bool) → length s ≡ length demands
    → sum_over s demands ≤ℤ sum_over (slots_of (length capacities) lists s) capacities)
    → CanBeMet demands lists capacities
hall demands lists capacities same below low caps h = ⊎_elim
    (λ met. met)
    (λ (s, short). let b = h s short.places in let m = short.more in absurd (omega (
      arith,
      ints,
      b,
      m,
    )))
    (met_or_short demands lists capacities same below low caps)

-- smaller demands can be met too
pub smaller : (demands less : List ℤ) (lists : List (List ℕ)) (capacities : List ℤ)
    → length lists ≡ length demands → length less ≡ length demands
    → AreBelow (length capacities) lists
    → ((i : ℕ) → i < length demands → (pos 0 ≤ℤ amount_at less i)
    × (amount_at less i ≤ℤ amount_at demands i))
    → ((s : ℕ) → s < length capacities → pos 0 ≤ℤ amount_at capacities s)
    → CanBeMet demands lists capacities → CanBeMet less lists capacities
smaller demands less lists capacities same ls below le caps can =
    hall less lists capacities (same ∙ sym ls) below (λ i lt. (le i (omega (arith, lt, ls))).0) caps
    (λ s h.
    let b = hall_easy demands lists capacities s same below (h ∙ ls) can in
    let m = sum_over-le s less demands h (sym ls)
    (λ i has. let lt = has_place s i has in (le i (omega (arith, lt, h, ls))).1) in
    omega (arith, ints, b, m)) where
      has_place : (s : List Bool) (e : ℕ) → Has s e → e < length s
      has_place [] e h = absurd (false≢true h)
      has_place (a ∷ s) zero h = omega arith
      has_place (a ∷ s) (suc e) h = let r = has_place s e h in omega (arith, r)
