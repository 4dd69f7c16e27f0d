use Rattle.std.proofs.Common.{◌≡◌, ◌+◌, ◌≤◌, length, map, ap, ◌∙◌, FitsSigned, arith}
use Rattle.std.proofs.lemmas.Int.{ints, to_z-of_z}
use Rattle.std.proofs.lemmas.List.{length-map}
use mir.Syntax.{w128}
use Rattle.sfm_spec.specs.Families.{meanings, sized_shift}
use Rattle.sfm_spec.specs.Walks.{IsWalkChain, few_walks}
use Rattle.sfm_spec.proofs.LeastWalks.{few_walks_small}
use Rattle.sfm_exchange.proofs.ClaimedGraphs.{counted, shaped}
use Rattle.sfm_stage.proofs.Chains.{walks_join}
use Rattle.sfm_exchange.specs.Scaled.{rows_times}
use Rattle.sfm_slope.proofs.Scaled.{rows-small}
use Rattle.sfm_slope.proofs.tree.walk_on.Given as given
use Rattle.sfm_slope.proofs.tree.walk_on.Goals as goal
use Rattle.sfm_slope.proofs.tree.walk_on.Goals.{After-deref, In_ok-restart_by}

-- the shift that is read is the one that was written
written : (g : given.Over) (c : After-deref g)
    → c.deref.result.now ≡ sized_shift c.args.sizes.now c.args.slope.num
written g c =
    let s = c.args.slope in
    let fp : FitsSigned w128 s.num = omega (arith, ints, s.entry.low, s.entry.high) in
    c.deref.ensures.value ∙ (simp to_z-of_z at c.set_shift.ensures.shift)

-- so it has a number for each place
long : (g : given.Over) (c : After-deref g) → length c.deref.result.now ≡ length c.args.sizes.now
long g c = ap length c.deref.ensures.value ∙ c.set_shift.ensures.places

-- the walks begin at multiples
multiplied : (g : given.Over) (c : In_ok-restart_by g)
    → c.restart_by.new.graph.bases ≡ rows_times c.args.slope.den c.args.at.now.graph.bases
multiplied g c =
    let s = c.args.slope in
    let fq : FitsSigned w128 s.den = omega (arith, ints, s.factor.low, s.factor.high) in
    simp to_z-of_z at c.in_ok-restart_by.ensures.bases

pub restart_by-requires-clause-small : goal.restart_by-requires-clause-small
restart_by-requires-clause-small g c =
    let h = c.requires.small in
    λ k d l i e lt. let b = h k d l i e
    lt in record { low = omega (arith, ints, b.low); high = omega (arith, ints, b.high) }

pub improve-requires-clause-small : goal.improve-requires-clause-small
improve-requires-clause-small g c =
    let s = c.args.slope in
    rw (multiplied g (goal.at.improve-requires-clause-small g c).In_ok-restart_by)
    (rows-small s.den c.args.at.now.graph.bases s.factor c.requires.small)

pub improve-requires-clause-shifts : goal.improve-requires-clause-shifts
improve-requires-clause-shifts g c = rw c.deref.ensures.value c.set_shift.ensures.small

pub overflow_add-at : goal.overflow_add-at
overflow_add-at g c =
    let h = c.requires.standing.1 in
    let b = h.claimed.bounded in
    let n = long g (goal.at.overflow_add-at g c).After-deref in
    let less = few_walks_small (length c.deref.result.now) (length c.args.terms.now) (rw n b.few)
    (rw length-map at b.few_terms) in
    let few = c.in_ok-improve.ensures.few in
    let walks = h.few in
    omega (arith, less, few, walks, c.count.ensures, c.new-steps.ensures)

pub returns-then-at-count-clause-search : goal.returns-then-at-count-clause-search
returns-then-at-count-clause-search g c =
    let at = (goal.at.returns-then-at-count-clause-search g c).After-deref in
    record {
      first = c.requires.search.first;
      begins = c.requires.search.begins;
      warm = c.requires.search.warm;
      cold = rw (long g at) at (shaped c.in_ok-improve.ensures.improved.graph);
      shift = c.set_shift.ensures.places;
    }

pub returns-clause-search : goal.returns-clause-search
returns-clause-search g c =
    let at = (goal.at.returns-clause-search g c).After-deref in
    let s = rw (long g at) at (shaped c.in_ok-improve.ensures.improved.graph) in
    record {
      first = c.requires.search.first;
      begins = c.requires.search.begins;
      warm = c.requires.search.warm;
      cold = record {
        are_spots = s.are_spots;
        sized_rows = s.sized_rows;
        claim_count = s.claim_count;
        note_count = s.note_count;
        noted = s.noted;
        union_count =
            s.union_count;
        back_count = s.back_count;
      };
      shift = c.set_shift.ensures.places;
    }

pub returns-clause-section : goal.returns-clause-section
returns-clause-section g c =
    let t = g.T.Term in
    let ts = meanings t.places t.value_of c.args.terms.now in
    let s = c.args.slope in
    let sizes = c.args.sizes.now in
    let shift = sized_shift sizes s.num in
    let firsts = map (λ term. t.start_of term s.den) c.args.terms.now in
    let after = c.improve.new.graph.bases in
    let fq : FitsSigned w128 s.den = omega (arith, ints, s.factor.low, s.factor.high) in
    let same = written g (goal.at.returns-clause-section g c).After-deref in
    let e = c.in_ok-improve.ensures.improved in
    let k = e.counted.0 in
    let bases = rows_times s.den c.args.at.now.graph.bases in
    let chain : IsWalkChain ts s.den shift k bases
    after = rw (same, multiplied g (goal.at.returns-clause-section g c).In_ok-restart_by) at
    (simp to_z-of_z at e.counted.2) in
    let count = e.counted.3 in
    let n = c.args.at.now.walks in
    let total : n + k ≤ few_walks (length sizes)
    (length c.args.terms.now) = omega (
      arith,
      count,
      c.count.ensures,
      c.new-steps.ensures,
      c.if-at-count.false,
      c.most_walks.ensures.is,
    ) in
    rw c.replace.ensures.value (record {
      bases = simp to_z-of_z at e.optimal.bases;
      small = e.optimal.small;
      proves = simp to_z-of_z at (rw (same, length-map sizes _) at e.optimal.proves);
      reached = (
        n + k,
        rw (counted c.requires.standing.1.claimed) total,
        walks_join ts s.den shift n k firsts bases after c.requires.chain chain,
      );
    })
