use Rattle.std.proofs.Common.{ℕ, ◌+◌, ◌≤◌, ◌*◌, ◌^◌, ℤ, ◌-ℤ◌, length, map, subst, arith, FitsSigned}
use Rattle.std.proofs.lemmas.Int.{to_z-of_z}
use Rattle.std.proofs.lemmas.Result.{IfOk-weaker}
use Rattle.std.specs.List.{All}
use Rattle.std.specs.Result.{IfOk}
use mir.Syntax.{w128}
use mir.Val.{of_z, to_z}
use Rattle.sfm_spec.specs.Bounds.{IsAtMost}
use Rattle.sfm_spec.specs.Families.{meanings, rest_at, deficit}
use Rattle.sfm_spec.specs.Walks.{few_walks}
use Rattle.sfm_walk.specs.Counted.{IsCounted}
use Rattle.sfm_walk.specs.Optimum.{IsOptimum}
use Rattle.sfm_walk.specs.Spread.{IsUpTo}
use Rattle.sfm_walk.proofs.Spreads.{small_after}
use Rattle.sfm_walk.proofs.Starting.{sizes_bounded, starts_bounded, starts_plain_bounded}
use Rattle.sfm_walk.proofs.optimum.minimise_at_counted.Given as given
use Rattle.sfm_walk.proofs.optimum.minimise_at_counted.Goals as goal
use Rattle.sfm_walk.proofs.optimum.minimise_at_counted.Goals.{After-minimise_from}

-- what holds of the places of the shift holds of the ground
here : (g : given.Over) (c : After-minimise_from g) (P : ℕ → ℤ → Type 0)
    → P (length c.args.shift.now) (to_z w128 (of_z w128 c.args.q)) → P c.args._n c.args.q
here g c P h =
    let fq : FitsSigned w128 c.args.q = c.ranges.q in
    let known : P (length c.args.shift.now) c.args.q = simp to_z-of_z at h in
    subst (λ n. P n c.args.q) c.requires.each known

pub start_rows-requires-clause-factor : goal.start_rows-requires-clause-factor
start_rows-requires-clause-factor g c =
    let fq : FitsSigned w128 c.args.q = c.ranges.q in
    simp to_z-of_z c.requires.factor

pub start_rows-requires-clause-bounded : goal.start_rows-requires-clause-bounded
start_rows-requires-clause-bounded g c =
    let t = g.T.Term in
    let m = g.met.T.Term in
    sizes_bounded t.places t.value_of t.size_of m.submodular m.bounded _ c.args.terms.now
    c.requires.bounded

pub minimise_from-requires-clause-room : goal.minimise_from-requires-clause-room
minimise_from-requires-clause-room g c = c.requires.room

pub minimise_from-requires-clause-bounded : goal.minimise_from-requires-clause-bounded
minimise_from-requires-clause-bounded g c = rw c.requires.each c.requires.bounded

pub minimise_from-requires-clause-shifts : goal.minimise_from-requires-clause-shifts
minimise_from-requires-clause-shifts g c = c.requires.shifts

pub minimise_from-requires-clause-factor : goal.minimise_from-requires-clause-factor
minimise_from-requires-clause-factor g c =
    let fq : FitsSigned w128 c.args.q = c.ranges.q in
    simp to_z-of_z c.requires.factor

pub minimise_from-requires-clause-bases : goal.minimise_from-requires-clause-bases
minimise_from-requires-clause-bases g c = c.in_ok-first_bases.ensures.bases

pub minimise_from-requires-clause-small : goal.minimise_from-requires-clause-small
minimise_from-requires-clause-small g c =
    let t = g.T.Term in
    let m = g.met.T.Term in
    let fq : FitsSigned w128 c.args.q = c.ranges.q in
    let rows = simp to_z-of_z at c.in_ok-first_bases.ensures.starts in
    rw rows
    (starts_bounded t.places t.value_of t.size_of m.submodular m.bounded _ c.args.terms.now
    c.requires.bounded t.start_of c.args.q (λ x. m.starts_small x c.args.q) c.requires.factor)

pub returns-clause-optimum : goal.returns-clause-optimum
returns-clause-optimum g c =
    let t = g.T.Term in
    let ts = meanings t.places t.value_of c.args.terms.now in
    let call = c.minimise_from in
    here g (goal.at.returns-clause-optimum g c).After-minimise_from
    (λ n q. IfOk call.result (IsOptimum ts n q c.args.shift.now)) call.ensures.optimum

pub returns-clause-counted : goal.returns-clause-counted
returns-clause-counted g c =
    let t = g.T.Term in
    let ts = meanings t.places t.value_of c.args.terms.now in
    let call = c.minimise_from in
    here g (goal.at.returns-clause-counted g c).After-minimise_from
    (λ n q. IfOk call.result (λ r. IsCounted ts n q c.args.shift.now
    (map (λ term. t.start_of term q) c.args.terms.now) r.bases c.args.steps.now call.new.steps))
    (rw c.in_ok-first_bases.ensures.starts at call.ensures.counted)

pub returns-clause-few : goal.returns-clause-few
returns-clause-few g c =
    here g (goal.at.returns-clause-few g c).After-minimise_from
    (λ n q. c.minimise_from.new.steps ≤ c.args.steps.now + few_walks n (length c.args.terms.now))
    c.minimise_from.ensures.few

pub returns-clause-kept : goal.returns-clause-kept
returns-clause-kept g c = c.minimise_from.ensures.kept

pub returns-clause-plain : goal.returns-clause-plain
returns-clause-plain g c = λ one shifts.
    let t = g.T.Term in
    let m = g.met.T.Term in
    let fq : FitsSigned w128 c.args.q = c.ranges.q in
    let ts = meanings t.places t.value_of c.args.terms.now in
    let shift = c.args.shift.now in
    let first = c.in_ok-first_bases.first_bases in
    let starts = simp to_z-of_z at c.in_ok-first_bases.ensures.starts in
    let small : All (λ x. All (IsAtMost (2 * 10 ^ 18)) x) first = rw starts
    (starts_plain_bounded t.places t.value_of t.size_of m.submodular m.bounded _
    c.args.terms.now c.requires.bounded t.start_of c.args.q (λ x. m.starts_small x c.args.q)
    one) in
    IfOk-weaker c.minimise_from.result
    (λ r. (b : ℤ) → All (λ x. All (IsUpTo b) x) first
    → All (λ x. All (IsUpTo (b -ℤ deficit (length shift) (rest_at ts first shift))) x) r.bases)
    (λ r. All (λ x. All (IsAtMost (10 ^ 25)) x) r.bases)
    (λ r spread. small_after t.places t.value_of c.args.terms.now shift first r.bases small
    c.requires.bounded.few_places shifts spread) c.minimise_from.ensures.spread

pub returns-in_err-first_bases-clause-few : goal.returns-in_err-first_bases-clause-few
returns-in_err-first_bases-clause-few g c = omega arith
