use Rattle.std.proofs.Common.{◌≡◌, length, pos, ◌≤ℤ◌, refl, ◌∙◌, arith, FitsSigned}
use Rattle.std.proofs.lemmas.Int.{ints, to_z-of_z}
use mir.Syntax.{w128}
use Rattle.sfm_spec.specs.Families.{meanings, AreTerms}
use Rattle.sfm_spec.proofs.Duality.{meanings-terms}
use Rattle.sfm_spec.proofs.Walks.{bases-at}
use Rattle.sfm_law.specs.Rest.{IsRest}
use Rattle.sfm_law.proofs.Lists.{length-bases, length-meanings, placed-meanings}
use Rattle.sfm_exchange.specs.Hops.{steps_of}
use Rattle.sfm_exchange.proofs.ClaimedGraphs.{whole_claimed}
use Rattle.sfm_walk.proofs.Marking.{AreMarks, are_marks, marks_small, none_leads, one_leads, turned}
use Rattle.sfm_walk.proofs.shortest_walk.shortest.Given as given
use Rattle.sfm_walk.proofs.shortest_walk.shortest.Goals as goal
use Rattle.sfm_walk.proofs.shortest_walk.shortest.Goals.{After-deref, After-deref-2}

-- the marks of the places
marked : (g : given.Over) (c : After-deref g)
    → AreMarks c.args.to.now c.args.from c.deref.result.now
marked g c =
    let r = c.requires in
    rw (c.deref.ensures.value, c.in_ok-z.ensures)
    (are_marks c.args.to.now c.args.from r.from r.apart)

-- what is known of them and of the shift at which z is what they are
record IsMarked (g : given.Over) (c : After-deref-2 g) : Type 0 where
  marks : AreMarks c.args.to.now c.args.from c.deref.result.now
  fit : let t = g.T.Term in AreTerms (length c.args.to.now)
      (meanings t.places t.value_of c.args.terms.now)
  shifted : let t = g.T.Term in IsRest (meanings t.places t.value_of c.args.terms.now)
      c.deref.result.now c.args.bases.now c.deref-2.result.now
  count : length c.deref-2.result.now ≡ length c.args.to.now
  low : pos 0 ≤ℤ c.args.q

known : (g : given.Over) (c : After-deref-2 g) → IsMarked g c
known g c = record {
  marks = marks;
  fit = fit;
  shifted = shifted;
  count = shifted.places
      ∙ marks.places;
  low = omega (arith, ints, factor);
} where
  factor : pos 1 ≤ℤ c.args.q
  factor = c.requires.factor.low

  marks : AreMarks c.args.to.now c.args.from c.deref.result.now
  marks = let r = c.requires in rw (c.deref.ensures.value, c.in_ok-z.ensures)
      (are_marks c.args.to.now c.args.from r.from r.apart)

  fit : let t = g.T.Term in AreTerms (length c.args.to.now)
      (meanings t.places t.value_of c.args.terms.now)
  fit =
      let t = g.T.Term in
      let m = g.met.T.Term in
      let n = length c.args.to.now in
      meanings-terms n t.places t.value_of m.family m.submodular c.args.terms.now
      (placed-meanings n t.places t.value_of c.args.terms.now c.requires.bounded.placed)

  shifted : let t = g.T.Term in IsRest (meanings t.places t.value_of c.args.terms.now)
      c.deref.result.now c.args.bases.now c.deref-2.result.now
  shifted = rw c.deref-2.ensures.value c.in_ok-shift.ensures

pub rest_of-requires-clause-placed : goal.rest_of-requires-clause-placed
rest_of-requires-clause-placed g c =
    rw (marked g (goal.at.rest_of-requires-clause-placed g c).After-deref).places
    c.requires.bounded.placed

pub rest_of-requires-clause-rows : goal.rest_of-requires-clause-rows
rest_of-requires-clause-rows g c =
    let t = g.T.Term in
    let terms = c.args.terms.now in
    length-bases c.args.q (meanings t.places t.value_of terms) c.args.bases.now c.requires.bases
    ∙ length-meanings t.places t.value_of terms

pub rest_of-requires-clause-entries : goal.rest_of-requires-clause-entries
rest_of-requires-clause-entries g c =
    let t = g.T.Term in
    let terms = c.args.terms.now in
    let ts = meanings t.places t.value_of terms in
    λ i l. (bases-at c.args.q ts c.args.bases.now i c.requires.bases
    (rw (length-meanings t.places t.value_of terms) l)).0

pub rest_of-requires-clause-shifts : goal.rest_of-requires-clause-shifts
rest_of-requires-clause-shifts g c =
    let at = (goal.at.rest_of-requires-clause-shifts g c).After-deref in
    marks_small c.args.to.now c.args.from c.deref.result.now (marked g at) c.requires.bounded.few

pub searched_walk-requires : goal.searched_walk-requires
searched_walk-requires g c =
    let fq : FitsSigned w128 c.args.q = c.ranges.q in
    let t = g.T.Term in
    let r = c.requires in
    let k = known g (goal.at.searched_walk-requires g c).After-deref-2 in
    let ts = meanings t.places t.value_of c.args.terms.now in
    let exact = rw c.len.ensures at (simp to_z-of_z at c.in_ok-graph.ensures.graph) in
    let back = turned ts c.args.bases.now (length c.args.to.now) c.args.q k.low k.fit r.bases
    c.args.to.now c.args.from c.deref.result.now c.deref-2.result.now refl r.from r.apart
    k.marks k.shifted in
    simp to_z-of_z (record {
      claimed = rw k.count (whole_claimed
          (record { bounded = r.bounded; factor = r.factor; exact = exact }));
      small = rw (c.in_ok-graph.ensures.bases, c.in_ok-copied.ensures) r.small;
      at = record {
        is_rest = rw (c.in_ok-graph.ensures.bases, c.in_ok-copied.ensures, c.run_at-run.ensures.z)
            (rw c.deref.ensures.value at back);
        signs = rw c.run_at-run.ensures.z c.run_at-run.ensures.signs;
      };
    })

pub returns-then-not-branch : goal.returns-then-not-branch
returns-then-not-branch g c =
    let fq : FitsSigned w128 c.args.q = c.ranges.q in
    let t = g.T.Term in
    let r = c.requires in
    let k = known g (goal.at.returns-then-not-branch g c).After-deref-2 in
    let ts = meanings t.places t.value_of c.args.terms.now in
    let none = simp to_z-of_z at
    (rw (
      c.in_ok-searched_walk.ensures.bases,
      c.in_ok-graph.ensures.bases,
      c.in_ok-copied.ensures,
    )
    at (c.in_ok-searched_walk.ensures.ends c.if-not-branch.true)) in
    none_leads ts c.args.bases.now (length c.args.to.now) c.args.q k.low k.fit r.bases
    c.args.to.now c.args.from c.deref.result.now c.deref-2.result.now refl r.from r.apart
    k.marks k.shifted none

pub returns : goal.returns
returns g c =
    let fq : FitsSigned w128 c.args.q = c.ranges.q in
    let t = g.T.Term in
    let r = c.requires in
    let k = known g (goal.at.returns g c).After-deref-2 in
    let ts = meanings t.places t.value_of c.args.terms.now in
    let run = c.searched_walk.new.run in
    let next = simp to_z-of_z at (c.in_ok-searched_walk.ensures.next c.if-not-branch.false) in
    let walk = rw (
      c.in_ok-searched_walk.ensures.bases,
      c.in_ok-graph.ensures.bases,
      c.in_ok-copied.ensures,
    )
    at next.walk in
    rw (c.in_ok-steps.ensures, c.deref-3.ensures.value)
    (one_leads ts c.args.bases.now (length c.args.to.now) c.args.q k.low k.fit r.bases
    c.args.to.now c.args.from c.deref.result.now c.deref-2.result.now refl r.from r.apart
    k.marks k.shifted run.path.first (steps_of run.path.hops.items)
    (rw k.count at walk.first_in) walk.shortest)
