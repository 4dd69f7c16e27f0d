use Rattle.std.proofs.Common.{Some, sym, arith, ◌∙◌}
use Rattle.std.proofs.lemmas.Int.{ints}
use Rattle.sfm_spec.specs.Bounds.{total_of}
use Rattle.sfm_split.specs.Search.{IsSearch}
use Rattle.sfm_split.specs.Pours.{AreRaised}
use Rattle.sfm_split.proofs.Ways.{branches_of}
use Rattle.sfm_split.proofs.Fills.{to_nat_falls}
use Rattle.sfm_split.proofs.Within.{raised_on, raised_lacks, raised_rooms, raised_falls, still_within, still_listed, within_cells, within_lacks, low_total}
use Rattle.sfm_split.proofs.fill.fill_from.Goals.{In-Some, After-drain}
use Rattle.sfm_split.proofs.fill.fill_from.Goals as goal

-- what the search tells
told : (c : In-Some) → IsSearch c.args.cells.now.whos.items c.args.cells.now.slots.items
    c.loop-search.y c.loop-search.left.lacks.items c.loop-search.left.rooms.items
    c.run.new.self.nodes.items (Some c.in-Some.last)
told c = rw c.in-Some.is at c.in_ok-last.ensures.search

-- the amounts after both moves
raised : (c : After-drain) → AreRaised c.args.cells.now.whos.items c.args.cells.now.slots.items
    c.loop-search.y c.loop-search.left.lacks.items c.loop-search.left.rooms.items c.drain.new.y
    c.drain.new.left.lacks.items c.drain.new.left.rooms.items
raised c =
    let left = c.loop-search.left in
    let one = c.raise.new in
    let all = c.drain.new in
    raised_on c.args.cells.now.whos.items c.args.cells.now.slots.items c.loop-search.y
    left.lacks.items left.rooms.items one.y one.left.lacks.items one.left.rooms.items all.y
    all.left.lacks.items all.left.rooms.items c.raise.ensures.raised c.drain.ensures.raised

pub run-requires-clause-cells : goal.run-requires-clause-cells
run-requires-clause-cells c =
    let left = c.loop-search.left in
    within_cells c.args.cells.now.whos.items c.args.cells.now.slots.items c.loop-search.y
    left.lacks.items left.rooms.items c.loop-search.invariant.within

pub raise-requires-clause-tree : goal.raise-requires-clause-tree
raise-requires-clause-tree c = branches_of c.args.cells.now.whos.items c.args.cells.now.slots.items
    c.loop-search.y c.run.new.self.nodes.items
    (told (goal.at.raise-requires-clause-tree c).In-Some).tree

pub drain-requires : goal.drain-requires
drain-requires c =
    let whos = c.args.cells.now.whos.items in
    let slots = c.args.cells.now.slots.items in
    let y = c.loop-search.y in
    let left = c.loop-search.left in
    let new = c.raise.new in
    let within = c.loop-search.invariant.within in
    let s = told (goal.at.drain-requires c).In-Some in
    record {
      within = still_within whos slots y left.lacks.items left.rooms.items within new.y
          new.left.lacks.items new.left.rooms.items c.raise.ensures.raised;
      places = s.places ∙ sym (raised_lacks whos slots y left.lacks.items left.rooms.items within
          new.y new.left.lacks.items new.left.rooms.items c.raise.ensures.raised);
      tree = branches_of whos slots y c.run.new.self.nodes.items s.tree;
    }

pub loop-search-smaller : goal.loop-search-smaller
loop-search-smaller c =
    let path = goal.at.loop-search-smaller c in
    let whos = c.args.cells.now.whos.items in
    let slots = c.args.cells.now.slots.items in
    let y = c.loop-search.y in
    let lacks = c.loop-search.left.lacks.items in
    let rooms = c.loop-search.left.rooms.items in
    let within = c.loop-search.invariant.within in
    let s = told path.In-Some in
    let one = c.raise.new in
    let all = c.drain.new in
    let first = still_within whos slots y lacks rooms within one.y one.left.lacks.items
    one.left.rooms.items c.raise.ensures.raised in
    let then = still_within whos slots y lacks rooms within all.y all.left.lacks.items
    all.left.rooms.items (raised path.After-drain) in
    let low = low_total all.left.lacks.items
    (within_lacks whos slots all.y all.left.lacks.items all.left.rooms.items then) in
    let less = c.raise.ensures.more (record { tree = s.tree; roots = s.roots; end = s.ended }) in
    let falls = raised_falls whos slots one.y one.left.lacks.items one.left.rooms.items first all.y
    all.left.lacks.items all.left.rooms.items c.drain.ensures.raised in
    to_nat_falls (total_of all.left.lacks.items) (total_of lacks) low
    (omega (arith, ints, less, falls))

pub loop-search-preserved : goal.loop-search-preserved
loop-search-preserved c =
    let path = goal.at.loop-search-preserved c in
    let whos = c.args.cells.now.whos.items in
    let slots = c.args.cells.now.slots.items in
    let first = c.args.left.now in
    let y = c.loop-search.y in
    let lacks = c.loop-search.left.lacks.items in
    let rooms = c.loop-search.left.rooms.items in
    let inv = c.loop-search.invariant in
    let all = c.drain.new in
    let both = raised path.After-drain in
    record {
      raised = raised_on whos slots c.args.y.now first.lacks.items first.rooms.items y lacks rooms
          all.y all.left.lacks.items all.left.rooms.items inv.raised both;
      within = still_within whos slots y lacks rooms inv.within all.y all.left.lacks.items
          all.left.rooms.items both;
      listed = rw (c.drain.ensures.same ∙ c.raise.ensures.same)
          (still_listed whos slots y lacks rooms inv.within c.loop-search.left.lacking.items all.y
          all.left.lacks.items all.left.rooms.items both inv.listed);
      nodes = (told path.In-Some).places
          ∙ sym (raised_lacks whos slots y lacks rooms inv.within all.y all.left.lacks.items
          all.left.rooms.items both);
      marks = c.in_ok-last.ensures.places
          ∙ sym (raised_rooms whos slots y lacks rooms inv.within all.y all.left.lacks.items
          all.left.rooms.items both);
      queued = c.in_ok-last.ensures.queued;
    }

pub returns-clause-stuck : goal.returns-clause-stuck
returns-clause-stuck c = rw c.in_default.is at c.in_ok-last.ensures.search

pub returns-clause-queued : goal.returns-clause-queued
returns-clause-queued c = c.in_ok-last.ensures.queued
