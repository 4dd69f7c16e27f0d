use Rattle.std.proofs.Common.{◌≡◌, ◌≢◌, ◌-◌, ◌+◌, [], length, get_or, ℤ, pos, ◌+ℤ◌, ◌-ℤ◌, sym, ◌∙◌, arith, FitsSigned, get_or-set_other}
use Rattle.std.proofs.lemmas.List.{get_or_default}
use Rattle.std.proofs.lemmas.Int.{ints, to_z-of_z}
use mir.Syntax.{w128}
use Rattle.sfm_base.proofs.Rowing.{IsSpot, LiesAt, begin_at, lies_at, rows_exchanged, spot}
use Rattle.sfm_base.proofs.rows.Rows.exchange.Goals as goal
use Rattle.sfm_base.proofs.rows.Rows.exchange.Goals.{After-deref, After-begin_of-begin, After-index_mut, After-index_mut-2}

-- where the row lies
lies : (c : After-deref) → let ends = c.self.inside.ends.items in LiesAt ends
    c.self.inside.numbers.items c.args.self.now c.args.i (begin_at 0 ends c.args.i)
    (get_or ends c.args.i 0)
lies c = lies_at c.self.inside.ends.items c.self.inside.numbers.items c.args.self.now c.args.i
    c.self.invariant c.self.view_is c.requires.inside

-- and its two numbers
record AreSpots (c : After-begin_of-begin) : Type 0 where
  begin : c.begin_of-begin.result ≡ begin_at 0 c.self.inside.ends.items c.args.i
  one : IsSpot c.self.inside.numbers.items (get_or c.args.self.now c.args.i [])
      c.begin_of-begin.result c.args.u
  other : IsSpot c.self.inside.numbers.items (get_or c.args.self.now c.args.i [])
      c.begin_of-begin.result c.args.v
  count : length c.self.inside.numbers.items ≡ c.self.inside.numbers.len

spots : (c : After-begin_of-begin) → AreSpots c
spots c =
    let ends = c.self.inside.ends.items in
    let xs = c.self.inside.numbers.items in
    let rows = c.args.self.now in
    let i = c.args.i in
    let r = c.requires in
    let h = lies_at ends xs rows i c.self.invariant c.self.view_is r.inside in
    let begin : c.begin_of-begin.result ≡ begin_at 0 ends i = rw c.deref.ensures.value at
    c.begin_of-begin.ensures in
    record {
      begin = begin;
      one = rw begin (spot ends xs rows i (begin_at 0 ends i) (get_or ends i 0) c.args.u h r.from);
      other = rw begin (spot ends xs rows i (begin_at 0 ends i) (get_or ends i 0) c.args.v h
          r.onto);
      count = sym c.self.inside.numbers.ok.0;
    }

pub begin_of-begin-requires : goal.begin_of-begin-requires
begin_of-begin-requires c = rw c.deref.ensures.value
    (lies (goal.at.begin_of-begin-requires c).After-deref).there

pub overflow_add-begin : goal.overflow_add-begin
overflow_add-begin c =
    let h = spots (goal.at.overflow_add-begin c).After-begin_of-begin in
    omega (arith, h.one.inside, h.count, c.self.inside.numbers.small)

pub index_mut-requires : goal.index_mut-requires
index_mut-requires c =
    let h = spots (goal.at.index_mut-requires c).After-begin_of-begin in
    omega (arith, h.one.inside, h.count)

pub overflow_add-begin-2 : goal.overflow_add-begin-2
overflow_add-begin-2 c =
    let h = spots (goal.at.overflow_add-begin-2 c).After-begin_of-begin in
    omega (arith, h.other.inside, h.count, c.self.inside.numbers.small)

pub index_mut-requires-2 : goal.index_mut-requires-2
index_mut-requires-2 c =
    let h = spots (goal.at.index_mut-requires-2 c).After-begin_of-begin in
    omega (arith, h.other.inside, h.count)

-- what is raised
raised : (c : After-index_mut)
    → IsSpot c.self.inside.numbers.items (get_or c.args.self.now c.args.i [])
    c.begin_of-begin.result c.args.u
    → c.index_mut.result.now ≡ get_or (get_or c.args.self.now c.args.i []) c.args.u (pos 0)
raised c one =
    c.index_mut.ensures.value
    ∙ (one.value c.index_mut.result.now
    ∙ get_or_default (get_or c.args.self.now c.args.i []) c.args.u c.index_mut.result.now (pos 0)
    c.requires.from)

pub overflow_add-index_mut : goal.overflow_add-index_mut
overflow_add-index_mut c =
    let at = goal.at.overflow_add-index_mut c in
    let is = raised at.After-index_mut (spots at.After-begin_of-begin).one in
    let r = c.requires in
    let fa : FitsSigned w128 c.args.a = c.ranges.a in
    let one = r.one in
    let amount = r.amount in
    let fu : FitsSigned w128 (get_or (get_or c.args.self.now c.args.i []) c.args.u
    (pos 0)) = omega (arith, ints, one.low, one.high) in
    rw is (simp to_z-of_z (omega (arith, ints, one.low, one.high, amount.low, amount.high)))

-- what is lowered
lowered : (c : After-index_mut-2)
    → IsSpot c.self.inside.numbers.items (get_or c.args.self.now c.args.i [])
    c.begin_of-begin.result c.args.v
    → c.index_mut-2.result.now ≡ get_or (get_or c.args.self.now c.args.i []) c.args.v (pos 0)
lowered c other =
    let apart = c.requires.apart in
    let b = c.begin_of-begin.result in
    let ne : b + c.args.v ≢ b + c.args.u = λ e. apart (omega (arith, e)) in
    c.index_mut-2.ensures.value
    ∙ (get_or-set_other c.self.inside.numbers.items (b + c.args.u) (b + c.args.v) _
    c.index_mut-2.result.now ne
    ∙ (other.value c.index_mut-2.result.now
    ∙ get_or_default (get_or c.args.self.now c.args.i []) c.args.v c.index_mut-2.result.now (pos 0)
    c.requires.onto))

pub overflow_sub-index_mut : goal.overflow_sub-index_mut
overflow_sub-index_mut c =
    let at = goal.at.overflow_sub-index_mut c in
    let is = lowered at.After-index_mut-2 (spots at.After-begin_of-begin).other in
    let r = c.requires in
    let fa : FitsSigned w128 c.args.a = c.ranges.a in
    let other = r.other in
    let amount = r.amount in
    let fv : FitsSigned w128 (get_or (get_or c.args.self.now c.args.i []) c.args.v
    (pos 0)) = omega (arith, ints, other.low, other.high) in
    rw is (simp to_z-of_z (omega (arith, ints, other.low, other.high, amount.low, amount.high)))

pub returns : goal.returns
returns c =
    let at = goal.at.returns c in
    let h = spots at.After-begin_of-begin in
    let row = get_or c.args.self.now c.args.i [] in
    let r = c.requires in
    let fa : FitsSigned w128 c.args.a = c.ranges.a in
    let one = r.one in
    let other = r.other in
    let amount = r.amount in
    let fu : FitsSigned w128 (get_or row c.args.u (pos 0)) = omega (
      arith,
      ints,
      one.low,
      one.high,
    ) in
    let fv : FitsSigned w128 (get_or row c.args.v (pos 0)) = omega (
      arith,
      ints,
      other.low,
      other.high,
    ) in
    let fs : FitsSigned w128 (get_or row c.args.u (pos 0) +ℤ c.args.a) = omega (
      arith,
      ints,
      one.low,
      one.high,
      amount.low,
      amount.high,
    ) in
    let fd : FitsSigned w128 (get_or row c.args.v (pos 0) -ℤ c.args.a) = omega (
      arith,
      ints,
      other.low,
      other.high,
      amount.low,
      amount.high,
    ) in
    rw (raised at.After-index_mut h.one, lowered at.After-index_mut-2 h.other, h.begin)
    (simp to_z-of_z (rows_exchanged c.self.inside.ends.items c.self.inside.numbers.items
    c.args.self.now c.args.i c.args.u c.args.v c.args.a c.self.invariant c.self.view_is r.inside
    r.from r.onto))
