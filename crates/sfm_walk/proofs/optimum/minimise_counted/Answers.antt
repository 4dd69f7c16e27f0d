use Rattle.std.proofs.Common.{◌≡◌, ℤ, List, map, pos, ◌≤ℤ◌, replicate, rules, arith, FitsSigned}
use Rattle.std.proofs.lemmas.Int.{ints, to_z-of_z}
use Rattle.std.proofs.lemmas.List.{length-replicate}
use Rattle.std.specs.Result.{IfOk}
use mir.Syntax.{w128}
use mir.Val.{of_z, to_z}
use Rattle.sfm_spec.specs.Sets.{magnitudes}
use Rattle.sfm_spec.specs.Families.{meanings, even_shift}
use Rattle.sfm_walk.specs.Counted.{IsCounted}
use Rattle.sfm_walk.specs.Optimum.{IsOptimum}
use Rattle.sfm_walk.proofs.Starting.{even_small, magnitudes_none}
use Rattle.sfm_walk.proofs.optimum.minimise_counted.Given as given
use Rattle.sfm_walk.proofs.optimum.minimise_counted.Goals as goal
use Rattle.sfm_walk.proofs.optimum.minimise_counted.Goals.{After-minimise_at_counted}

-- what holds at the shift as it was written holds at the even one
even : (g : given.Over) (c : After-minimise_at_counted g) (P : ℤ → List ℤ → Type 0)
    → P (to_z w128 (of_z w128 c.args.q)) c.deref.result.now
    → P c.args.q (even_shift c.args.n c.args.p)
even g c P h =
    let fq : FitsSigned w128 c.args.q = c.ranges.q in
    let same : c.deref.result.now ≡ replicate c.args.n c.args.p = search rules in
    let known : P c.args.q c.deref.result.now = simp to_z-of_z at h in
    rw same at known

pub minimise_at_counted-requires-clause-each : goal.minimise_at_counted-requires-clause-each
minimise_at_counted-requires-clause-each g c =
    let same : c.deref.result.now ≡ replicate c.args.n c.args.p = search rules in
    rw same (length-replicate c.args.n c.args.p)

pub minimise_at_counted-requires-clause-shifts : goal.minimise_at_counted-requires-clause-shifts
minimise_at_counted-requires-clause-shifts g c =
    let r = c.requires in
    even_small c.deref.result.now c.args.n c.args.p r.slope r.bounded.few (search rules)

pub minimise_at_counted-requires-clause-factor : goal.minimise_at_counted-requires-clause-factor
minimise_at_counted-requires-clause-factor g c =
    let fq : FitsSigned w128 c.args.q = c.ranges.q in
    simp to_z-of_z c.requires.factor

pub minimise_at_counted-requires-clause-bounded : goal.minimise_at_counted-requires-clause-bounded
minimise_at_counted-requires-clause-bounded g c = c.requires.bounded

pub minimise_at_counted-requires-clause-room : goal.minimise_at_counted-requires-clause-room
minimise_at_counted-requires-clause-room g c = c.requires.room

pub returns-clause-optimum : goal.returns-clause-optimum
returns-clause-optimum g c =
    let t = g.T.Term in
    let ts = meanings t.places t.value_of c.args.terms.now in
    let call = c.minimise_at_counted in
    even g (goal.at.returns-clause-optimum g c).After-minimise_at_counted
    (λ q shift. IfOk call.result (IsOptimum ts c.args.n q shift)) call.ensures.optimum

pub returns-clause-counted : goal.returns-clause-counted
returns-clause-counted g c =
    let t = g.T.Term in
    let ts = meanings t.places t.value_of c.args.terms.now in
    let call = c.minimise_at_counted in
    even g (goal.at.returns-clause-counted g c).After-minimise_at_counted
    (λ q shift. IfOk call.result (λ r. IsCounted ts c.args.n q shift
    (map (λ x. t.start_of x q) c.args.terms.now) r.bases c.args.steps.now call.new.steps))
    call.ensures.counted

pub returns-clause-few : goal.returns-clause-few
returns-clause-few g c = c.minimise_at_counted.ensures.few

pub returns-clause-kept : goal.returns-clause-kept
returns-clause-kept g c = c.minimise_at_counted.ensures.kept

pub returns-in_err-shift-clause-few : goal.returns-in_err-shift-clause-few
returns-in_err-shift-clause-few g c = omega arith

pub returns-clause-plain : goal.returns-clause-plain
returns-clause-plain g c = λ none one.
    let fq : FitsSigned w128 c.args.q = c.ranges.q in
    let same : c.deref.result.now ≡ replicate c.args.n c.args.p = search rules in
    let no : magnitudes c.deref.result.now ≤ℤ pos 0 = rw (same, none) (magnitudes_none c.args.n) in
    c.minimise_at_counted.ensures.plain (simp to_z-of_z one) (omega (arith, ints, no))
