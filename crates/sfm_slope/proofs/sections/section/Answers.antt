use Rattle.std.proofs.Common.{◌≡◌, length, ap, ◌∙◌, FitsSigned, rules, arith}
use Rattle.std.proofs.lemmas.Int.{ints, to_z-of_z}
use Rattle.std.proofs.lemmas.List.{length-map}
use mir.Syntax.{w128}
use Rattle.sfm_spec.specs.Families.{sized_shift}
use Rattle.sfm_slope.proofs.sections.section.Given as given
use Rattle.sfm_slope.proofs.sections.section.Goals as goal
use Rattle.sfm_slope.proofs.sections.section.Goals.{After-deref}

-- the shift that is read is the one that was written
written : (g : given.Over) (c : After-deref g)
    → c.deref.result.now ≡ sized_shift c.args.sizes.now c.args.point.now.slope.num
written g c =
    let s = c.args.point.now.slope in
    let fp : FitsSigned w128 s.num = omega (arith, ints, s.entry.low, s.entry.high) in
    c.deref.ensures.value ∙ (simp to_z-of_z at c.set_shift.ensures.shift)

-- so it has a number for each place
long : (g : given.Over) (c : After-deref g) → length c.deref.result.now ≡ length c.args.sizes.now
long g c = ap length c.deref.ensures.value ∙ c.set_shift.ensures.places

pub set_shift-requires-clause-sizes : goal.set_shift-requires-clause-sizes
set_shift-requires-clause-sizes g c = rw c.requires.search.shift c.requires.sizes

pub set_shift-requires-clause-small : goal.set_shift-requires-clause-small
set_shift-requires-clause-small g c =
    let s = c.args.point.now.slope in
    let r = c.requires.range.small in
    let fp : FitsSigned w128 s.num = omega (arith, ints, s.entry.low, s.entry.high) in
    simp to_z-of_z (record { low = omega (arith, ints, r.low); high = omega (arith, ints, r.high) })

pub minimise_from_start-requires-clause-bounded : goal.minimise_from_start-requires-clause-bounded
minimise_from_start-requires-clause-bounded g c =
    rw (long g (goal.at.minimise_from_start-requires-clause-bounded g c).After-deref)
    c.requires.search.first.bounded

pub minimise_from_start-requires-clause-shifts : goal.minimise_from_start-requires-clause-shifts
minimise_from_start-requires-clause-shifts g c = rw c.deref.ensures.value c.set_shift.ensures.small

pub minimise_from_start-requires-clause-graph : goal.minimise_from_start-requires-clause-graph
minimise_from_start-requires-clause-graph g c =
    rw (long g (goal.at.minimise_from_start-requires-clause-graph g c).After-deref)
    c.requires.search.cold

pub minimise_from_start-requires-clause-firsts : goal.minimise_from_start-requires-clause-firsts
minimise_from_start-requires-clause-firsts g c =
    rw (long g (goal.at.minimise_from_start-requires-clause-firsts g c).After-deref)
    c.requires.search.first

pub minimise_from_start-requires-clause-begins : goal.minimise_from_start-requires-clause-begins
minimise_from_start-requires-clause-begins g c = c.requires.search.begins

pub returns-clause-search : goal.returns-clause-search
returns-clause-search g c =
    let at = (goal.at.returns-clause-search g c).After-deref in
    record {
      first = c.requires.search.first;
      begins = c.requires.search.begins;
      warm = c.requires.search.warm;
      cold = rw (long g at) at c.in_ok-bases.ensures.graph;
      shift = c.set_shift.ensures.places;
    }

pub returns-clause-found : goal.returns-clause-found
returns-clause-found g c =
    let s = c.args.point.now.slope in
    let fq : FitsSigned w128 s.den = omega (arith, ints, s.factor.low, s.factor.high) in
    let same = written g (goal.at.returns-clause-found g c).After-deref in
    let h = c.in_ok-bases.ensures in
    let proves = rw (same, length-map c.args.sizes.now _) at h.optimal.proves in
    let few = rw (same, length-map c.args.sizes.now _) at h.few in
    record {
      mark = search rules;
      bases = record {
        bases = simp to_z-of_z at h.optimal.bases;
        small = h.optimal.small;
        proves = simp to_z-of_z at proves;
        reached = simp to_z-of_z at few;
        few = c.requires.range.few;
      };
    }
