use Rattle.std.proofs.Common.{◌≡◌, suc, ◌<◌, ◌≤◌, ◌+◌, ◌++◌, [], length, drop, get_or, replicate, sym, ap, ◌∙◌, arith}
use Rattle.std.proofs.lemmas.List.{append_assoc, append-nil, at_drop_more, drop_all}
use Rattle.sfm_cells.specs.Cells.{joined, owners}
use Rattle.sfm_cells.proofs.Rows.{cells_of}
use Rattle.sfm_cells.proofs.cells.Cells.of.Goals.{After-loop-i}
use Rattle.sfm_cells.proofs.cells.Cells.of.Goals as goal

whole : (c : After-loop-i) → c.loop-i.whos.items ≡ owners 0 c.args.lists.now
whole c =
    let lists = c.args.lists.now in
    let i = c.loop-i.i in
    let whos = c.loop-i.whos.items in
    let past : length lists ≤ i = rw c.len-i-end.ensures at c.loop-i-test.false in
    sym (append-nil whos) ∙ (ap (λ ls. whos ++ owners i ls) (sym (drop_all i lists past))
    ∙ c.loop-i.invariant.whos)

all : (c : After-loop-i) → c.loop-i.slots.items ≡ joined c.args.lists.now
all c =
    let lists = c.args.lists.now in
    let i = c.loop-i.i in
    let slots = c.loop-i.slots.items in
    let past : length lists ≤ i = rw c.len-i-end.ensures at c.loop-i-test.false in
    sym (append-nil slots) ∙ (ap (λ ls. slots ++ joined ls) (sym (drop_all i lists past))
    ∙ c.loop-i.invariant.slots)

pub loop-i-preserved : goal.loop-i-preserved
loop-i-preserved c =
    let lists = c.args.lists.now in
    let i = c.loop-i.i in
    let inv = c.loop-i.invariant in
    let lt : i < length lists = rw c.len-i-end.ensures at c.loop-i-test.true in
    let is = c.at.ensures in
    let list = get_or lists i [] in
    let one : i + 1 ≡ suc i = omega arith in
    let whos = c.loop-i.whos.items in
    let slots = c.loop-i.slots.items in
    record {
      whos = rw (c.in_ok-add.ensures.whos, is)
          (append_assoc whos (replicate (length list) i) (owners (i + 1) (drop (i + 1) lists))
          ∙ (ap (λ k. whos ++ (replicate (length list) i ++ owners k (drop (i + 1) lists))) one
          ∙ (ap (λ r. whos ++ r) (sym (at_drop_more (owners i) lists i [] lt)) ∙ inv.whos)));
      slots = rw (c.in_ok-add.ensures.slots, is)
          (append_assoc slots list (joined (drop (i + 1) lists))
          ∙ (ap (λ r. slots ++ r) (sym (at_drop_more joined lists i [] lt)) ∙ inv.slots));
    }

pub of-requires : goal.of-requires
of-requires c =
    record {
      below = rw (
        c.deref.ensures.value,
        c.len.ensures,
        whole (goal.at.of-requires c).After-loop-i,
      )
          (cells_of c.args.m c.args.lists.now c.requires.exist).owned;
    }

pub of-requires-2 : goal.of-requires-2
of-requires-2 c =
    let cells = cells_of c.args.m c.args.lists.now c.requires.exist in
    let same = cells.same in
    record {
      below = rw (c.deref-2.ensures.value, all (goal.at.of-requires-2 c).After-loop-i)
          (λ e lt. cells.exist e (omega (arith, lt, same)));
    }

pub invariant_of-result-clause-whos_grouped : goal.invariant_of-result-clause-whos_grouped
invariant_of-result-clause-whos_grouped c = rw c.deref.ensures.value at c.in_ok-by_who.ensures

pub invariant_of-result-clause-slots_grouped : goal.invariant_of-result-clause-slots_grouped
invariant_of-result-clause-slots_grouped c = rw c.deref-2.ensures.value at c.in_ok-by_slot.ensures

pub returns-clause-whos : goal.returns-clause-whos
returns-clause-whos c = whole (goal.at.returns-clause-whos c).After-loop-i

pub returns-clause-slots : goal.returns-clause-slots
returns-clause-slots c = all (goal.at.returns-clause-slots c).After-loop-i
