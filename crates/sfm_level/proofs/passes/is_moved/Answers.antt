use Rattle.std.proofs.Common.{◌≡◌, ℕ, ◌<◌, ◌^◌, List, length, get_or, pos, ◌+ℤ◌, ap, ◌∙◌, arith, FitsSigned}
use Rattle.std.proofs.lemmas.Int.{ints, to_z-of_z}
use Rattle.std.proofs.lemmas.List.Elements.{All-get_or}
use mir.Syntax.{w128}
use Rattle.sfm_spec.specs.Bounds.{IsAtMost}
use Rattle.sfm_spec.specs.Families.{meanings, base_sum_at, even_shift}
use Rattle.sfm_spec.specs.Walks.{Step, Joins}
use Rattle.sfm_exchange.proofs.ClaimedGraphs.{are_terms}
use Rattle.sfm_level.specs.Sums.{sums_of}
use Rattle.sfm_level.proofs.Chains.{below_more, none_rises}
use Rattle.sfm_level.proofs.Kept.{sums-kept, sums-near}
use Rattle.sfm_level.proofs.Values.{get_or-first_values, length-first_values}
use Rattle.sfm_level.proofs.passes.is_moved.Given as given
use Rattle.sfm_level.proofs.passes.is_moved.Goals as goal
use Rattle.sfm_level.proofs.passes.is_moved.Goals.{In-loop-a, then-branch, else-branch}

-- the numbers that are looked at are the sums of the bases
are_sums : (g : given.Over) (c : In-loop-a g) → let t = g.T.Term in
    c.deref-a-items.result.now ≡ sums_of (meanings t.places t.value_of c.args.terms.now) c.args.n
    c.args.graph.now.bases
are_sums g c = c.deref-a-items.ensures.value
    ∙ (c.in_ok-z.ensures.items ∙ (c.deref.ensures.value ∙ sums-kept c.requires))

-- so each is small
small : (g : given.Over) (c : In-loop-a g)
    → IsAtMost (10 ^ 15) (get_or c.deref-a-items.result.now c.loop-a.a-index (pos 0))
small g c =
    let is = are_sums g c in
    All-get_or (IsAtMost (10 ^ 15)) c.deref-a-items.result.now c.loop-a.a-index (pos 0)
    c.loop-a-test.true
    (rw is (sums-near c.requires))

pub overflow_add-a : goal.overflow_add-a
overflow_add-a g c =
    let s = small g (goal.at.overflow_add-a g c).In-loop-a in
    let fa : FitsSigned w128 (get_or c.deref-a-items.result.now c.loop-a.a-index
    (pos 0)) = omega (arith, ints, s.low, s.high) in
    simp to_z-of_z (omega (arith, ints, s.low, s.high))

pub prove_at-requires-clause-slope : goal.prove_at-requires-clause-slope
prove_at-requires-clause-slope g c =
    let a = get_or c.deref-a-items.result.now c.loop-a.a-index (pos 0) in
    let s = small g (goal.at.prove_at-requires-clause-slope g c).In-loop-a in
    let fa : FitsSigned w128 a = omega (arith, ints, s.low, s.high) in
    let ft : FitsSigned w128 (a +ℤ pos 1) = omega (arith, ints, s.low, s.high) in
    simp to_z-of_z (record { low = omega (arith, ints, s.low); high = omega (arith, ints, s.high) })

pub loop-a-preserved : goal.loop-a-preserved
loop-a-preserved g c =
    let t = g.T.Term in
    let ts = meanings t.places t.value_of c.args.terms.now in
    let n = c.args.n in
    let before = c.args.graph.now.bases in
    let f = base_sum_at ts before in
    let k = c.loop-a.a-index in
    let z = c.deref-a-items.result.now in
    let at = (goal.at.loop-a-preserved g c).In-loop-a in
    let is : z ≡ sums_of ts n before = are_sums g at in
    let a = get_or z k (pos 0) in
    let s = small g at in
    let fa : FitsSigned w128 a = omega (arith, ints, s.low, s.high) in
    let ft : FitsSigned w128 (a +ℤ pos 1) = omega (arith, ints, s.low, s.high) in
    let here : k < n
    = rw (ap length is, length-first_values n f) at c.loop-a-test.true in
    let sum : a ≡ f k = ap (λ y. get_or y k (pos 0)) is ∙ get_or-first_values n f k here in
    let inv = c.loop-a.invariant in
    let e = c.in_ok-prove_at.ensures in
    elim c.if-branch.branch [
      | then-branch w ↦
          let less = e.moved w.if-branch.true in
          rw w.moved-is (
            e.graph,
            omega (arith, ints, less, inv.1),
            (λ h. omega (arith, ints, less, inv.1)),
            (λ h. cc),
          )
      | else-branch w ↦
          let still = simp to_z-of_z at (e.still w.if-branch.false) in
          let same = still.same in
          rw w.moved-is (
            e.graph,
            rw same inv.1,
            (λ h. rw same (inv.2 h)),
            (λ h.
                let stayed = inv.3 h in
                let ends = rw (stayed.0, sum) at still.ends in (
                  same ∙ stayed.0,
                  below_more (λ i. (first : ℕ) (steps : List Step)
                      → Joins ts (pos 1) (even_shift n (f i +ℤ pos 1)) before first steps → ⊥) k
                      stayed.1 ends,
                )),
          )
    ]

pub returns-clause-none : goal.returns-clause-none
returns-clause-none g c =
    let t = g.T.Term in
    let m = g.met.T.Term in
    let ts = meanings t.places t.value_of c.args.terms.now in
    let n = c.args.n in
    let before = c.args.graph.now.bases in
    let is : c.deref-a-items.result.now ≡ sums_of ts n before
    = c.deref-a-items.ensures.value
    ∙ (c.in_ok-z.ensures.items ∙ (c.deref.ensures.value ∙ sums-kept c.requires)) in
    let count : length c.deref-a-items.result.now ≡ n
    = ap length is ∙ length-first_values n (base_sum_at ts before) in
    let claimed = c.requires.claimed in
    let test = c.loop-a-test.false in
    λ h.
    let stayed = c.loop-a.invariant.3 h in
    rw stayed.0 (none_rises ts n before (are_terms claimed m.family m.submodular) claimed.are_bases
    (λ e l. stayed.1 e (omega (arith, l, count, test))))
