use Rattle.std.proofs.Common.{◌≡◌, ◌++◌, length, take, drop, set, ℤ, pos, ◌+ℤ◌, ◌∙◌, sym, ap, arith, rules, FitsSigned, length-set, get_or-set_same}
use Rattle.std.proofs.lemmas.Int.{ints, to_z-of_z}
use Rattle.std.proofs.lemmas.List.{get_or_read}
use mir.Syntax.{w128}
use Rattle.sfm_cells.specs.Splits.{amount_at}
use Rattle.sfm_cells.proofs.Leaving.{listed_besides, listed_still}
use Rattle.sfm_cells.proofs.Written.{written}
use Rattle.sfm_cells.proofs.left.Lefts.put_lack.Goals.{After-put, else-before-le0-via-then-before-le0+else-index-gt0, else-before-le0-via-else-before-le0}
use Rattle.sfm_cells.proofs.left.Lefts.put_lack.Goals as goal

-- what is lacking then is written back
back : (c : After-put) → take c.args.self.now.lacks.len
    (c.put.new.to ++ drop (length c.put.new.to) c.args.self.now.lacks.items)
    ≡ set c.args.self.now.lacks.items c.args.i
    (amount_at c.args.self.now.lacks.items c.args.i +ℤ c.args.a)
back c =
    let lacks = c.args.self.now.lacks in
    let first = c.deref_mut.ensures.value in
    let q = ap length first ∙ sym lacks.ok.0 in
    let put = rw (to_z-of_z w128 c.args.a c.ranges.a) at c.put.ensures in
    written c.put.new.to (drop (length c.put.new.to) lacks.items) lacks.len (c.put.auto.to ∙ q)
    ∙ (rw first at put)

pub returns-in_ok-push-clause-listed : goal.returns-in_ok-push-clause-listed
returns-in_ok-push-clause-listed c =
    let lacks = c.args.self.now.lacks.items in
    let list = c.args.self.now.lacking.items in
    rw (back (goal.at.returns-in_ok-push-clause-listed c).After-put, c.in_ok-push.ensures.items)
    (listed_besides lacks list c.args.i (amount_at lacks c.args.i +ℤ c.args.a)
    c.requires.can.place c.requires.listed)

pub returns-else-before-le0-clause-lacks : goal.returns-else-before-le0-clause-lacks
returns-else-before-le0-clause-lacks c =
    back (goal.at.returns-else-before-le0-clause-lacks c).After-put

pub returns-else-before-le0-clause-listed : goal.returns-else-before-le0-clause-listed
returns-else-before-le0-clause-listed c =
    let lacks = c.args.self.now.lacks.items in
    let i = c.args.i in
    let after : ℤ = amount_at lacks i +ℤ c.args.a in
    let before : ℤ = c.index-before.result.now in
    let fb : FitsSigned w128 before = search rules in
    let lt = c.requires.can.place in
    let was = get_or_read lacks i before lt c.index-before.ensures (pos 0) in
    let is = back (goal.at.returns-else-before-le0-clause-listed c).After-put in
    rw is (listed_still lacks c.args.self.now.lacking.items i after lt c.requires.listed
    (λ more. elim c.else-before-le0.branch [
      | else-before-le0-via-then-before-le0+else-index-gt0 w ↦ (
          let x : ℤ = w.index.result.now in
          let fx : FitsSigned w128 x = search rules in
          let read = rw is at w.index.ensures in
          let q = get_or_read (set lacks i after) i x (rw (length-set lacks i after) lt) read
          (pos 0) in
          let g = get_or-set_same lacks i after (pos 0) lt in
          let none = w.if-index-gt0.false in
          absurd (omega (arith, ints, q, g, none, more)))
      | else-before-le0-via-else-before-le0 w ↦
          (let some = w.if-before-le0.false in omega (arith, ints, some, was))
    ]))
