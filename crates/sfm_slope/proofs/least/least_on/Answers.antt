use Rattle.std.proofs.Common.{◌≡◌, length, ap, ◌∙◌, FitsSigned, arith}
use Rattle.std.proofs.lemmas.Int.{ints, to_z-of_z}
use Rattle.std.proofs.lemmas.List.{length-map}
use mir.Syntax.{w128}
use Rattle.sfm_spec.specs.Families.{meanings, shifted_at, sized_shift, IsLeast}
use Rattle.sfm_slope.proofs.Worthing.{attained_by, attained_worth}
use Rattle.sfm_slope.proofs.least.least_on.Given as given
use Rattle.sfm_slope.proofs.least.least_on.Goals as goal
use Rattle.sfm_slope.proofs.least.least_on.Goals.{After-as_slice, In_ok-least}

-- the shift that is read has a number for each place
long : (g : given.Over) (c : After-as_slice g)
    → length c.as_slice.result.now ≡ length c.args.sizes.now
long g c = ap length c.as_slice.ensures.value ∙ c.set_shift.ensures.places

-- it is the one that was written
shifted : (g : given.Over) (c : In_ok-least g)
    → c.as_slice.result.now ≡ sized_shift c.args.sizes.now c.args.ratio.p
shifted g c =
    let s = c.args.ratio in
    let fp : FitsSigned w128 s.p = omega (arith, ints, s.small.low, s.small.high) in
    c.as_slice.ensures.value ∙ (simp to_z-of_z at c.set_shift.ensures.shift)

pub set_shift-requires-clause-sizes : goal.set_shift-requires-clause-sizes
set_shift-requires-clause-sizes g c = rw c.requires.places c.requires.sizes

pub set_shift-requires-clause-small : goal.set_shift-requires-clause-small
set_shift-requires-clause-small g c =
    let s = c.args.ratio in
    let fp : FitsSigned w128 s.p = omega (arith, ints, s.small.low, s.small.high) in
    simp to_z-of_z s.small

pub least_by-requires-clause-shifts : goal.least_by-requires-clause-shifts
least_by-requires-clause-shifts g c = rw c.as_slice.ensures.value c.set_shift.ensures.small

pub least_by-requires-clause-graph : goal.least_by-requires-clause-graph
least_by-requires-clause-graph g c =
    let s = c.args.ratio in
    let fq : FitsSigned w128 s.q = omega (arith, ints, s.factor.low, s.factor.high) in
    rw (long g (goal.at.least_by-requires-clause-graph g c).After-as_slice)
    (simp to_z-of_z c.requires.graph)

-- the set is the least minimiser at the slope
found : (g : given.Over) (c : In_ok-least g) → let t = g.T.Term in let s = c.args.ratio in
    IsLeast (meanings t.places t.value_of c.args.terms.now) (length c.args.sizes.now) s.q
    (sized_shift c.args.sizes.now s.p) c.in_ok-least.least.set
found g c =
    let s = c.args.ratio in
    let fq : FitsSigned w128 s.q = omega (arith, ints, s.factor.low, s.factor.high) in
    rw (shifted g c, length-map c.args.sizes.now _) at
    (simp to_z-of_z at c.in_ok-least.ensures.least)

-- and attains the least value there
attains : (g : given.Over) (c : In_ok-least g) → let t = g.T.Term in let s = c.args.ratio in
    c.in_ok-least.least.value ≡ shifted_at (meanings t.places t.value_of c.args.terms.now) s.q
    (sized_shift c.args.sizes.now s.p) c.in_ok-least.least.set
attains g c =
    let s = c.args.ratio in
    let fq : FitsSigned w128 s.q = omega (arith, ints, s.factor.low, s.factor.high) in
    rw (shifted g c) at (simp to_z-of_z at c.in_ok-least.ensures.value)

pub worth_by-requires : goal.worth_by-requires
worth_by-requires g c =
    let t = g.T.Term in
    let m = g.met.T.Term in
    let s = c.args.ratio in
    let at = (goal.at.worth_by-requires g c).In_ok-least in
    let least = c.in_ok-least.least in
    record {
      sizes = rw (found g at).minimiser.places c.requires.sizes;
      value = attained_by t.places t.value_of t.size_of m.bounded (λ y. (m.submodular y).at_empty)
          c.args.terms.now
          c.requires.graph.bounded.small c.args.sizes.now s.p s.q least.value least.set
          (attains g at);
    }

pub returns-clause-graph : goal.returns-clause-graph
returns-clause-graph g c =
    let s = c.args.ratio in
    let fq : FitsSigned w128 s.q = omega (arith, ints, s.factor.low, s.factor.high) in
    rw (long g (goal.at.returns-clause-graph g c).After-as_slice) at
    (simp to_z-of_z at c.in_ok-least.ensures.graph)

pub returns-clause-places : goal.returns-clause-places
returns-clause-places g c = c.set_shift.ensures.places

pub returns-clause-least : goal.returns-clause-least
returns-clause-least g c = rw c.worth_by.ensures.same
    (found g (goal.at.returns-clause-least g c).In_ok-least)

pub returns-clause-worth : goal.returns-clause-worth
returns-clause-worth g c =
    let t = g.T.Term in
    let m = g.met.T.Term in
    let s = c.args.ratio in
    let at = (goal.at.returns-clause-worth g c).In_ok-least in
    let least = c.in_ok-least.least in
    let e = c.worth_by.ensures in
    attained_worth t.places t.value_of t.size_of m.bounded (λ y. (m.submodular y).at_empty)
    c.args.terms.now
    c.requires.graph.bounded.small c.args.sizes.now s.p s.q least.value least.set (attains g at)
    c.worth_by.result (found g at).minimiser.allowed e.same e.size e.weight e.sum
