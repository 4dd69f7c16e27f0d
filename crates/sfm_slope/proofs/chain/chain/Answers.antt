use Rattle.std.proofs.Common.{◌≡◌, [], get_or, false, true, None, length, refl, ◌∙◌, arith}
use Rattle.std.proofs.lemmas.Bool.{both_ways}
use Rattle.std.proofs.lemmas.List.{get_or-replicate, length-replicate}
use Rattle.std.proofs.lemmas.List.Elements.{All-nil}
use Rattle.sfm_spec.specs.Sets.{empty_set, whole_set}
use Rattle.sfm_spec.specs.Families.{meanings}
use Rattle.sfm_spec.proofs.Lattice.{empty_allowed, whole_allowed}
use Rattle.sfm_exchange.proofs.ClaimedGraphs.{are_terms}
use Rattle.sfm_slope.specs.Points.{IsInRange}
use Rattle.sfm_slope.proofs.Gaps.{whole_gap}
use Rattle.sfm_slope.proofs.Parts.{part_all, part_none}
use Rattle.sfm_slope.proofs.chain.chain.Goals as goal
use Rattle.sfm_slope.proofs.chain.chain.Goals.{then-n-gt0+in_ok-fill, else-n-gt0}

pub worth_of-requires-clause-allowed : goal.worth_of-requires-clause-allowed
worth_of-requires-clause-allowed g c =
    let m = g.met.T.Term in
    rw c.in_ok-empty.ensures (empty_allowed (length c.args.sizes.now) _
    (are_terms c.requires.search.first m.family m.submodular))

pub worth_of-requires-2-clause-allowed : goal.worth_of-requires-2-clause-allowed
worth_of-requires-2-clause-allowed g c =
    let m = g.met.T.Term in
    rw c.in_ok-whole.ensures (whole_allowed (length c.args.sizes.now) _
    (are_terms c.requires.search.first m.family m.submodular))

pub returns-clause-slopes : goal.returns-clause-slopes
returns-clause-slopes g c =
    let t = g.T.Term in
    let n = length c.args.sizes.now in
    let sizes = c.args.sizes.now in
    let ts = meanings t.places t.value_of c.args.terms.now in
    let fit = are_terms c.requires.search.first g.met.T.Term.family g.met.T.Term.submodular in
    let whole : c.in_ok-high.high.set ≡ whole_set n = c.in_ok-high.ensures.same
    ∙ c.in_ok-whole.ensures in
    elim c.if-n-gt0.branch [
      | then-n-gt0+in_ok-fill w ↦ rw w.found-is
          (part_all ts n sizes fit refl c.requires.sizes.positive w.fill.new.found.items
          c.in_ok-high.high.set w.in_ok-fill.ensures.part whole)
      | else-n-gt0 w ↦
          let none : n ≡ 0 = omega (arith, w.if-n-gt0.false) in
          rw (w.found-is, c.new-found.ensures.items)
          (part_all ts n sizes fit refl c.requires.sizes.positive [] (empty_set n)
          (part_none ts n sizes) (rw none refl))
    ]

pub returns-clause-ranges : goal.returns-clause-ranges
returns-clause-ranges g c =
    elim c.if-n-gt0.branch [
      | then-n-gt0+in_ok-fill w ↦ rw w.found-is w.in_ok-fill.ensures.part.ranges
      | else-n-gt0 w ↦ rw (w.found-is, c.new-found.ensures.items)
          (All-nil (IsInRange c.args.sizes.now))
    ]

pub fill-requires-clause-before : goal.fill-requires-clause-before
fill-requires-clause-before g c =
    let t = g.T.Term in
    let n = length c.args.sizes.now in
    rw (c.in_ok-low.ensures.same, c.in_ok-empty.ensures, c.new-found.ensures.items)
    (part_none (meanings t.places t.value_of c.args.terms.now) n c.args.sizes.now)

pub fill-requires-clause-gap : goal.fill-requires-clause-gap
fill-requires-clause-gap g c =
    let t = g.T.Term in
    let n = length c.args.sizes.now in
    let sizes = c.args.sizes.now in
    let ts = meanings t.places t.value_of c.args.terms.now in
    let fit = are_terms c.requires.search.first g.met.T.Term.family g.met.T.Term.submodular in
    let some = c.if-n-gt0.true in
    let apart : empty_set n ≡ whole_set n
    → ⊥ = λ same. both_ways (get_or (empty_set n) 0 false)
    (get_or-replicate n 0 false false some) (rw same (get_or-replicate n 0 true false some)) in
    rw (
      c.in_ok-low.ensures.same,
      c.in_ok-empty.ensures,
      c.in_ok-high.ensures.same,
      c.in_ok-whole.ensures,
    ) (whole_gap ts n sizes fit refl c.requires.sizes.positive
    (empty_set n) (None, refl) apart)

pub returns-clause-search : goal.returns-clause-search
returns-clause-search g c =
    elim c.if-n-gt0.branch [
      | then-n-gt0+in_ok-fill w ↦ rw w.search-is w.in_ok-fill.ensures.search
      | else-n-gt0 w ↦ rw w.search-is c.requires.search
    ]

pub worth_of-requires-clause-bounded : goal.worth_of-requires-clause-bounded
worth_of-requires-clause-bounded g c =
    rw (c.in_ok-empty.ensures, length-replicate (length c.args.sizes.now) false)
    c.requires.search.first.bounded

pub worth_of-requires-2-clause-bounded : goal.worth_of-requires-2-clause-bounded
worth_of-requires-2-clause-bounded g c =
    rw (c.in_ok-whole.ensures, length-replicate (length c.args.sizes.now) true)
    c.requires.search.first.bounded

pub fill-requires-clause-search : goal.fill-requires-clause-search
fill-requires-clause-search g c = c.requires.search

pub fill-requires-clause-low_worth : goal.fill-requires-clause-low_worth
fill-requires-clause-low_worth g c = c.in_ok-low.ensures.worth

pub fill-requires-clause-high_worth : goal.fill-requires-clause-high_worth
fill-requires-clause-high_worth g c = c.in_ok-high.ensures.worth
