use Rattle.std.proofs.Common.{◌<◌, length, sym, ◌∙◌, arith}
use Rattle.std.proofs.lemmas.Int.{ints}
use Rattle.sfm_cells.proofs.Outcomes.{some_here, none_here}
use Rattle.sfm_split.proofs.Fills.{stuck_filled}
use Rattle.sfm_split.proofs.Within.{raised_on, still_listed, still_within}
use Rattle.sfm_split.proofs.splitting.raise_all.Goals as goal

pub returns-then-is_some-clause-told : goal.returns-then-is_some-clause-told
returns-then-is_some-clause-told c =
    let s = c.in_ok-search.ensures.stuck in
    let left = c.fill_from.new.left in
    let (i, h) = some_here c.first_lacking.result _ _ (sym c.is_some.ensures ∙ c.if-is_some.true)
    c.first_lacking.ensures in
    let lt = h.0 in
    let less = h.1 in
    record {
      each = λ demands capacities before cells p.
          let places = p.lacks_are.places in
          let li : i < length demands = omega (arith, lt, places) in
          let e = p.lacks_are.each i li in
          record {
            filled = stuck_filled demands capacities c.args.cells.now.whos.items
                c.args.cells.now.slots.items c.fill_from.new.y left.lacks.items left.rooms.items
                c.in_ok-search.search.nodes.items c.in_ok-set.set cells p.part p.lacks_are
                p.rooms_are s.places s.begins s.ended
                (rw c.deref.ensures.value at c.in_ok-set.ensures);
            one = i;
            in_range = li;
            less = omega (arith, ints, less, e);
          };
    }

pub returns-clause-told : goal.returns-clause-told
returns-clause-told c =
    let none = none_here c.first_lacking.result _ _ (sym c.is_some.ensures ∙ c.if-is_some.false)
    c.first_lacking.ensures in
    record {
      each = λ demands capacities before cells p. λ i lt.
          let places = p.lacks_are.places in let e = p.lacks_are.each i lt in let z = none i
          (omega (arith, lt, places)) in omega (arith, ints, e, z);
    }

pub fill_from-requires : goal.fill_from-requires
fill_from-requires c =
    let whos = c.args.cells.now.whos.items in
    let slots = c.args.cells.now.slots.items in
    let left = c.args.left.now in
    let new = c.pour.new in
    let raised = c.pour.ensures.raised in
    record {
      within = still_within whos slots c.args.y.now left.lacks.items left.rooms.items
          c.requires.within new.y new.left.lacks.items new.left.rooms.items raised;
      listed = rw c.pour.ensures.same
          (still_listed whos slots c.args.y.now left.lacks.items left.rooms.items c.requires.within
          left.lacking.items new.y new.left.lacks.items new.left.rooms.items raised
          c.requires.listed);
    }

pub returns-clause-raised : goal.returns-clause-raised
returns-clause-raised c =
    let left = c.args.left.now in
    let new = c.pour.new in
    let last = c.fill_from.new in
    raised_on c.args.cells.now.whos.items c.args.cells.now.slots.items c.args.y.now left.lacks.items
    left.rooms.items new.y new.left.lacks.items new.left.rooms.items last.y
    last.left.lacks.items last.left.rooms.items c.pour.ensures.raised c.fill_from.ensures.raised

pub returns-then-is_some-clause-raised : goal.returns-then-is_some-clause-raised
returns-then-is_some-clause-raised c =
    let left = c.args.left.now in
    let new = c.pour.new in
    let last = c.fill_from.new in
    raised_on c.args.cells.now.whos.items c.args.cells.now.slots.items c.args.y.now left.lacks.items
    left.rooms.items new.y new.left.lacks.items new.left.rooms.items last.y
    last.left.lacks.items last.left.rooms.items c.pour.ensures.raised c.fill_from.ensures.raised
