use Rattle.std.proofs.Common.{◌≡◌, ℕ, ◌<◌, ◌≤◌, None, length, ap, ◌∙◌, arith}
use Rattle.std.proofs.lemmas.List.{get_or_read}
use Rattle.sfm_cells.specs.Cells.{label_at}
use Rattle.sfm_assign.specs.Spread.{answer_at}
use Rattle.sfm_cells.proofs.Clearing.{cleared_more, cleared_all}
use Rattle.sfm_assign.proofs.Telling.{listed_nothing}
use Rattle.sfm_assign.proofs.told.Told.forget.Goals.{At-loop-k, After-index-u}
use Rattle.sfm_assign.proofs.told.Told.forget.Goals as goal

-- the next demand of the list
next_is : (c : After-index-u) → (c.index-u.result.now ≡ label_at c.self.inside.known.items
    c.loop-k.k) × (label_at c.self.inside.known.items c.loop-k.k < length
    c.self.inside.answers.items)
next_is c =
    let before = c.self.inside in
    let known = c.loop-k.self-inside.known in
    let k = c.loop-k.k in
    let kept = c.loop-k.invariant.known in
    let long = ap length kept in
    let now = known.ok.0 in
    let then = before.known.ok.0 in
    let lt : k < length known.items = omega (arith, long, now, then) in (
      get_or_read known.items k c.index-u.result.now lt c.index-u.ensures 0
          ∙ ap (λ xs. label_at xs k) kept,
      c.self.invariant.below k (omega (arith, lt, long)),
    )

-- in the end nothing is told
none : (c : At-loop-k) → length c.self.inside.known.items ≤ c.loop-k.k → (u : ℕ)
    → answer_at c.loop-k.self-inside.answers.items u ≡ None
none c past = cleared_all c.self.inside.answers.items c.self.inside.known.items
    c.loop-k.self-inside.answers.items c.loop-k.k past (λ u a is. c.self.invariant.all u (a, is))
    c.loop-k.invariant.cleared

pub index_mut-requires : goal.index_mut-requires
index_mut-requires c =
    let (is, below) = next_is (goal.at.index_mut-requires c).After-index-u in
    let same = c.loop-k.invariant.cleared.same in
    let ok = c.loop-k.self-inside.answers.ok.0 in
    omega (arith, below, is, same, ok)

pub loop-k-preserved : goal.loop-k-preserved
loop-k-preserved c =
    let (is, below) = next_is (goal.at.loop-k-preserved c).After-index-u in
    let before = c.self.inside in
    let inv = c.loop-k.invariant in
    record {
      known = inv.known;
      cleared = rw (c.forget_one.ensures, is)
          (cleared_more before.answers.items before.known.items c.loop-k.self-inside.answers.items
          c.loop-k.k below inv.cleared);
    }

pub returns-clause-none : goal.returns-clause-none
returns-clause-none c =
    let ok = c.self.inside.known.ok.0 in
    none (goal.at.returns-clause-none c).At-loop-k (omega (arith, ok))

pub invariant_of-self : goal.invariant_of-self
invariant_of-self c =
    let ok = c.self.inside.known.ok.0 in
    rw c.clear.ensures.items (listed_nothing c.loop-k.self-inside.answers.items
    (none (goal.at.invariant_of-self c).At-loop-k (omega (arith, ok))))
