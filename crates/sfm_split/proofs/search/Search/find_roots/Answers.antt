use Rattle.std.proofs.Common.{refl, None, length, pos, ◌≤ℤ◌, ◌<◌, ◌≡◌, ℤ, ap, arith, rules, FitsSigned}
use Rattle.std.proofs.lemmas.Int.{ints}
use Rattle.std.proofs.lemmas.List.{get_or_read}
use mir.Syntax.{w128}
use Rattle.sfm_cells.specs.Splits.{amount_at}
use Rattle.sfm_cells.specs.Cells.{label_at}
use Rattle.sfm_split.proofs.Queues.{roots_none, roots_skip, roots_again, roots_put, roots_all}
use Rattle.sfm_split.proofs.search.Search.find_roots.Goals as goal
use Rattle.sfm_split.proofs.search.Search.find_roots.Goals.{After-index-i, then-index-gt0+then-not-is_found+in_ok-push, else-index-gt0, else-index-gt0-via-then-index-gt0+else-not-is_found, else-index-gt0-via-else-index-gt0}

-- the next demand of the list
next_is : (c : After-index-i) → (c.loop-k.k < length c.args.left.now.lacking.items)
    × (c.index-i.result.now ≡ label_at c.args.left.now.lacking.items c.loop-k.k)
next_is c =
    let list = c.args.left.now.lacking in
    let ok = list.ok.0 in
    let lt : c.loop-k.k < length list.items = omega (arith, ok) in
    (lt, get_or_read list.items c.loop-k.k c.index-i.result.now lt c.index-i.ensures 0)

pub loop-k-init : goal.loop-k-init
loop-k-init c =
    let at = c.args.self.now in
    let left = c.args.left.now in
    record {
      marks = refl;
      roots = rw c.requires.queue
          (roots_none left.lacks.items left.lacking.items at.nodes.items c.requires.places
          c.requires.none);
    }

pub loop-k-preserved : goal.loop-k-preserved
loop-k-preserved c =
    let (lt, is) = next_is (goal.at.loop-k-preserved c).After-index-i in
    let left = c.args.left.now in
    let lacks = left.lacks.items in
    let list = left.lacking.items in
    let k = c.loop-k.k in
    let at = c.loop-k.self in
    let inv = c.loop-k.invariant in
    let x : ℤ = c.index.result.now in
    let f : FitsSigned w128 x = search rules in
    let below = c.requires.listed.below k lt in
    let lack = get_or_read lacks c.index-i.result.now x (omega (arith, is, below)) c.index.ensures
    (pos 0) in
    let same = ap (λ m. amount_at lacks m) is in
    elim c.if-index-gt0.branch [
      | then-index-gt0+then-not-is_found+in_ok-push w ↦ (
          let t = w.if-index-gt0.true in
          let some : pos 1 ≤ℤ amount_at lacks
          (label_at list k) = omega (arith, ints, t, lack, same) in
          let fresh = rw (w.if-not-is_found.true, is, w.deref.ensures.value) at
          w.is_found.ensures in
          rw (w.self-is, w.in_ok-push.ensures.items, is)
          (record {
            marks = inv.marks;
            roots = roots_put lacks list at.nodes.items at.queue.items k inv.roots
                c.requires.listed lt fresh (record { level = 0; link = None }) (refl, refl, some);
          }))
      | else-index-gt0 w ↦ rw w.self-is (record {
        marks = inv.marks;
        roots = elim w.else-index-gt0.branch [
          | else-index-gt0-via-then-index-gt0+else-not-is_found v ↦ roots_again lacks list
              at.nodes.items at.queue.items k inv.roots
              (rw (v.if-not-is_found.false, is, v.deref.ensures.value) at v.is_found.ensures)
          | else-index-gt0-via-else-index-gt0 v ↦ (
              let t = v.if-index-gt0.false in
              let full : amount_at lacks (label_at list k) ≤ℤ pos
              0 = omega (arith, ints, t, lack, same) in
              roots_skip lacks list at.nodes.items at.queue.items k inv.roots full)
        ];
      })
    ]

pub returns-clause-nodes : goal.returns-clause-nodes
returns-clause-nodes c =
    let left = c.args.left.now in
    let at = c.loop-k.self in
    let ok = left.lacking.ok.0 in
    roots_all left.lacks.items left.lacking.items at.nodes.items at.queue.items c.loop-k.k
    c.loop-k.invariant.roots c.requires.listed (omega (arith, ok))
