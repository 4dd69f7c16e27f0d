use Rattle.std.proofs.Common.{◌-◌, get_or, ◌∙◌, arith}
use Rattle.std.proofs.lemmas.List.{get_or_default}
use Rattle.sfm_base.proofs.Rowing.{LiesAt, begin_at, lies_at}
use Rattle.sfm_base.proofs.lists.Lists.at.Goals as goal
use Rattle.sfm_base.proofs.lists.Lists.at.Goals.{After-deref, After-index}

-- where the row lies
lies : (c : After-deref) → let ends = c.self.inside.ends.items in LiesAt ends
    c.self.inside.items.items c.args.self.now c.args.i (begin_at 0 ends c.args.i)
    (get_or ends c.args.i 0)
lies c = lies_at c.self.inside.ends.items c.self.inside.items.items c.args.self.now c.args.i
    c.self.invariant c.self.view_is c.requires

-- as the calls tell it
told : (c : After-index) → LiesAt c.self.inside.ends.items c.self.inside.items.items c.args.self.now
    c.args.i c.begin_of-begin.result c.index.result.now
told c =
    let h = lies_at c.self.inside.ends.items c.self.inside.items.items c.args.self.now c.args.i
    c.self.invariant c.self.view_is c.requires in
    let begin = rw c.deref.ensures.value at c.begin_of-begin.ensures in
    let end = c.index.ensures ∙ get_or_default c.self.inside.ends.items c.args.i c.index.result.now
    0 h.there in
    rw (begin, end) h

pub begin_of-begin-requires : goal.begin_of-begin-requires
begin_of-begin-requires c = rw c.deref.ensures.value
    (lies (goal.at.begin_of-begin-requires c).After-deref).there

pub index-requires : goal.index-requires
index-requires c = let there = (lies (goal.at.index-requires c).After-deref).there in omega (
  arith,
  there,
  c.self.inside.ends.ok.0,
)

pub between-requires-clause-order : goal.between-requires-clause-order
between-requires-clause-order c = (told (goal.at.between-requires-clause-order c).After-index).order

pub between-requires-clause-within : goal.between-requires-clause-within
between-requires-clause-within c =
    rw c.deref-2.ensures.value (told (goal.at.between-requires-clause-within c).After-index).within

pub returns : goal.returns
returns c = c.between.ensures ∙ rw c.deref-2.ensures.value
    (told (goal.at.returns c).After-index).row
