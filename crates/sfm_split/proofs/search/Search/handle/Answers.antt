use Rattle.std.proofs.Common.{◌≡◌, ◌<◌, ℕ, Bool, true, false, List, length, get_or, set, pos, ◌≤ℤ◌, ap, sym, arith, rules, FitsSigned, ◌∙◌, length-set}
use Rattle.std.proofs.lemmas.Int.{ints}
use Rattle.std.proofs.lemmas.List.{get_or_read}
use mir.Syntax.{w128}
use Rattle.sfm_spec.specs.Sets.{Has}
use Rattle.sfm_cells.specs.Splits.{amount_at}
use Rattle.sfm_cells.specs.Cells.{label_at}
use Rattle.sfm_cells.proofs.Grouping.{pass_begun, pass_here, pass_done, pass_more}
use Rattle.sfm_split.proofs.Queues.{further_none, further_more, marked_here, marked_kept, marked_full}
use Rattle.sfm_split.proofs.search.Search.handle.Goals as goal
use Rattle.sfm_split.proofs.search.Search.handle.Goals.{After-index-s, then-not-index+else-rooms-s-gt0+in_ok-sweep, else-not-index}

-- the slot of the cell
slot : (c : After-index-s) → let k = label_at c.args.cells.now.slots.items
    (label_at c.list-e-items.result.now c.loop-e.e-index) in (c.index-s.result.now ≡ k)
    × (k < length c.args.rooms.now)
slot c =
    let e = label_at c.list-e-items.result.now c.loop-e.e-index in
    let same = c.requires.cells.same in
    let (lt, mine) = pass_here c.args.cells.now.whos_grouped c.list-e-items.ensures
    c.loop-e-test.true in (
      get_or_read c.args.cells.now.slots.items e c.index-s.result.now (omega (arith, lt, same))
          c.index-s.ensures 0,
      c.requires.cells.exist e lt,
    )

pub index-s-requires : goal.index-s-requires
index-s-requires c =
    let same = c.requires.cells.same in
    let (lt, mine) = pass_here c.args.cells.now.whos_grouped c.list-e-items.ensures
    c.loop-e-test.true in
    let ok = c.args.cells.now.slots.ok.0 in
    omega (arith, lt, same, ok)

pub offset_bounds-rooms-s : goal.offset_bounds-rooms-s
offset_bounds-rooms-s c =
    let (is, exist) = slot (goal.at.offset_bounds-rooms-s c).After-index-s in
    let below : c.index-s.result.now < length c.args.rooms.now = omega (arith, is, exist) in
    omega arith

pub loop-e-preserved : goal.loop-e-preserved
loop-e-preserved c =
    let (is, exist) = slot (goal.at.loop-e-preserved c).After-index-s in
    let slots = c.args.cells.now.slots.items in
    let rooms = c.args.rooms.now in
    let s = c.index-s.result.now in
    let first = c.args.self.now in
    let self = c.loop-e.self in
    let marks = self.marks.items in
    let inv = c.loop-e.invariant in
    let h = inv.handled in
    let places = h.places in
    let k = label_at slots (label_at c.list-e-items.result.now c.loop-e.e-index) in
    let in_marks : k < length marks = omega (arith, exist, places) in
    let Marked : List Bool → ℕ → Type 0 = λ marks f. Has marks (label_at slots f) in
    elim c.if-not-index.branch [
      | then-not-index+else-rooms-s-gt0+in_ok-sweep w ↦ (
          let told = w.in_ok-sweep.ensures in
          let after = w.sweep.new.self in
          let f : FitsSigned w128 (get_or rooms s (pos 0)) = search rules in
          let q = ap (λ j. amount_at rooms j) is in
          let t = w.if-rooms-s-gt0.false in
          let full : amount_at rooms k ≤ℤ pos 0 = omega (arith, ints, q, t) in
          rw w.self-is (record {
            handled = record {
              places = ap length told.marks ∙ (length-set marks k true ∙ h.places);
              progress = told.progress;
              further = further_more first.nodes.items self.nodes.items after.nodes.items
                  first.queue.items self.queue.items after.queue.items h.further told.further;
              full = rw told.marks (marked_full marks rooms k full h.full);
              kept = λ m has. rw told.marks (marked_kept marks k m in_marks (h.kept m has));
            };
            passed = rw told.marks (pass_more (Marked (set marks k true)) inv.passed
                (λ f has. marked_kept marks k (label_at slots f) in_marks has)
                (marked_here marks k in_marks));
          }))
      | else-not-index w ↦ (
          let v = get_or_read marks s c.index.result.now (omega (arith, is, exist, places))
          c.index.ensures false in
          rw w.self-is (record {
            handled = h;
            passed = pass_more (Marked marks) inv.passed (λ f has. has)
                (ap (λ j. get_or marks j false) (sym is) ∙ (sym v ∙ w.if-not-index.false));
          }))
    ]

pub loop-e-init : goal.loop-e-init
loop-e-init c =
    let cells = c.args.cells.now in
    let self = c.args.self.now in
    record {
      handled = record {
        places = c.requires.places;
        progress = c.requires.progress;
        further = further_none self.nodes.items self.queue.items;
        full = c.requires.full;
        kept = λ m has. has;
      };
      passed = pass_begun c.list-e-items.result.now
          (λ e. Has self.marks.items (label_at cells.slots.items e));
    }

pub sweep-requires-clause-cells : goal.sweep-requires-clause-cells
sweep-requires-clause-cells c =
    let h = c.loop-e.invariant.handled in rw (h.further.places, h.places) c.requires.cells

pub sweep-requires-clause-same : goal.sweep-requires-clause-same
sweep-requires-clause-same c = c.requires.same

pub sweep-requires-clause-cell : goal.sweep-requires-clause-cell
sweep-requires-clause-cell c = let (lt, mine) = pass_here c.args.cells.now.whos_grouped
    c.list-e-items.ensures c.loop-e-test.true in lt

pub sweep-requires-clause-found : goal.sweep-requires-clause-found
sweep-requires-clause-found c =
    let (lt, mine) = pass_here c.args.cells.now.whos_grouped c.list-e-items.ensures
    c.loop-e-test.true in
    let (b, is) = c.requires.found in
    rw mine (b, c.loop-e.invariant.handled.further.kept c.args.i b is)

pub sweep-requires-clause-progress : goal.sweep-requires-clause-progress
sweep-requires-clause-progress c = c.loop-e.invariant.handled.progress

pub returns-clause-handled : goal.returns-clause-handled
returns-clause-handled c = c.loop-e.invariant.handled

pub returns-clause-told : goal.returns-clause-told
returns-clause-told c = λ e lt mine. pass_done c.args.cells.now.whos_grouped c.list-e-items.ensures
    c.loop-e-test.false c.loop-e.invariant.passed e lt mine
