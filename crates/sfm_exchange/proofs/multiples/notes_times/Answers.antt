use Rattle.std.proofs.Common.{◌≡◌, ◌<◌, ℤ, List, [], length, ◌*ℤ◌, arith, FitsSigned}
use Rattle.std.specs.List.{All}
use Rattle.std.proofs.lemmas.Int.{ints, to_z-of_z}
use Rattle.std.proofs.lemmas.List.{get_or-map, length-map}
use Rattle.std.proofs.lemmas.List.Elements.{All-get_or}
use mir.Syntax.{w128}
use Rattle.sfm_spec.specs.Bounds.{IsEntry, IsFactor}
use Rattle.sfm_spec.specs.Families.{meanings}
use Rattle.sfm_spec.specs.Walks.{base_at}
use Rattle.sfm_law.specs.Based.{IsBased}
use Rattle.sfm_reach.specs.Reach.{kept_fits}
use Rattle.sfm_reach.proofs.Basing.{is_based, size_low}
use Rattle.sfm_exchange.specs.Scaled.{row_times, rows_times}
use Rattle.sfm_exchange.proofs.ClaimedGraphs.{base_count}
use Rattle.sfm_exchange.proofs.Notes.{notes_begun, notes_more, notes_done}
use Rattle.sfm_exchange.proofs.Scaling.{bases-times}
use Rattle.sfm_exchange.proofs.Summing.{entries_small, rows_small}
use Rattle.sfm_exchange.proofs.multiples.notes_times.Given as given
use Rattle.sfm_exchange.proofs.multiples.notes_times.Goals as goal
use Rattle.sfm_exchange.proofs.multiples.notes_times.Goals.{After-row-x}

pub loop-i-init : goal.loop-i-init
loop-i-init g c = let (p, bases, h) = c.requires.noted in notes_begun p bases c.requires.count h

pub row-x-requires : goal.row-x-requires
row-x-requires g c = rw (base_count c.requires.other.1) c.loop-i-test.true

pub index-kept-requires : goal.index-kept-requires
index-kept-requires g c = omega (
  arith,
  c.loop-i-test.true,
  c.requires.other.1.note_count,
  c.args.other.now.graph.now.notes.ok.0,
)

-- a factor fits
factor_fits : (q : ℤ) → IsFactor q → FitsSigned w128 q
factor_fits q f = omega (arith, ints, f.low, f.high)

-- the row of the term is a base of it, and so is its multiple
module _ (g : given.Over) (c : After-row-x g) where
  abbrev x : List ℤ
  x = base_at c.args.other.now.graph.now.bases c.loop-i.i

  in_bases : c.loop-i.i < length c.args.other.now.graph.now.bases
  in_bases = rw (base_count c.requires.other.1) c.loop-i-test.true

  multiplied : base_at (rows_times c.args.m c.args.other.now.graph.now.bases) c.loop-i.i ≡ row_times
      c.args.m x
  multiplied = get_or-map (row_times c.args.m) c.args.other.now.graph.now.bases c.loop-i.i [] []
      in_bases

  based : let t = g.T.Term in IsBased t.places t.value_of t.size_of c.index-terms-i.result
      c.args.other.now.q x
  based =
      let t = g.T.Term in
      let m = g.met.T.Term in
      let o = c.requires.other.1 in
      let small = entries_small c.args.other.now.graph.now.bases c.requires.small in
      (is_based t.places t.value_of t.size_of
      (size_low t.places t.value_of t.size_of m.submodular m.bounded) c.args.terms.now
      c.requires.other.0 c.args.other.now.q c.args.other.now.graph.now.bases o.bounded o.factor
      o.are_bases
      c.loop-i.i c.loop-i-test.true c.index-terms-i.result c.index-terms-i.is
      (All-get_or (λ y. All IsEntry y) c.args.other.now.graph.now.bases c.loop-i.i [] in_bases
      small)).based

  multiple : let t = g.T.Term in IsBased t.places t.value_of t.size_of c.index-terms-i.result
      (c.args.m *ℤ c.args.other.now.q) (row_times c.args.m x)
  multiple =
      let t = g.T.Term in
      let m = g.met.T.Term in
      let o = c.requires.other.1 in
      let rows = c.args.other.now.graph.now.bases in
      let small : All IsEntry (base_at (rows_times c.args.m rows) c.loop-i.i) = All-get_or
      (λ y. All IsEntry y) (rows_times c.args.m rows) c.loop-i.i [] (rw length-map in_bases)
      (rows_small c.args.m rows c.requires.times c.requires.small) in
      let are = bases-times c.args.m c.args.other.now.q
      (meanings t.places t.value_of c.args.terms.now) rows c.requires.times.low o.are_bases in
      rw multiplied at (is_based t.places t.value_of t.size_of
      (size_low t.places t.value_of t.size_of m.submodular m.bounded) c.args.terms.now
      c.requires.other.0 (c.args.m *ℤ c.args.other.now.q) (rows_times c.args.m rows) o.bounded
      c.requires.factor are
      c.loop-i.i c.loop-i-test.true c.index-terms-i.result c.index-terms-i.is small).based

pub kept_times-requires-clause-based : goal.kept_times-requires-clause-based
kept_times-requires-clause-based g c =
    let fo : FitsSigned w128 c.args.other.now.q = factor_fits c.args.other.now.q
    c.requires.other.1.factor in
    rw c.row-x.ensures (simp to_z-of_z
    (based g (goal.at.kept_times-requires-clause-based g c).After-row-x))

pub kept_times-requires-clause-multiple : goal.kept_times-requires-clause-multiple
kept_times-requires-clause-multiple g c =
    let fo : FitsSigned w128 c.args.other.now.q = factor_fits c.args.other.now.q
    c.requires.other.1.factor in
    let fm : FitsSigned w128 c.args.m = c.ranges.m in
    rw c.row-x.ensures (simp to_z-of_z
    (multiple g (goal.at.kept_times-requires-clause-multiple g c).After-row-x))

pub kept_times-requires-clause-noted : goal.kept_times-requires-clause-noted
kept_times-requires-clause-noted g c =
    let o = c.requires.other.1 in
    let fit : kept_fits g.T.Term.fits c.index-terms-i.result c.index-kept.result.now
    c.args.other.now.q (base_at c.args.other.now.graph.now.bases c.loop-i.i)
    = o.noted c.loop-i.i c.loop-i-test.true c.index-terms-i.result c.index-terms-i.is
    c.index-kept.result.now c.index-kept.ensures in
    let fo : FitsSigned w128 c.args.other.now.q = factor_fits c.args.other.now.q
    c.requires.other.1.factor in
    rw c.row-x.ensures (simp to_z-of_z fit)

pub index_mut-requires : goal.index_mut-requires
index_mut-requires g c = omega (
  arith,
  c.loop-i-test.true,
  c.loop-i.invariant.count,
  c.loop-i.notes.ok.0,
)

pub kept_times-requires-clause-other : goal.kept_times-requires-clause-other
kept_times-requires-clause-other g c =
    c.loop-i.invariant.other c.loop-i.i (omega arith) c.loop-i-test.true c.index-terms-i.result
    c.index-terms-i.is c.index_mut.result.now c.index_mut.ensures.value

pub loop-i-preserved : goal.loop-i-preserved
loop-i-preserved g c =
    let fo : FitsSigned w128 c.args.other.now.q = factor_fits c.args.other.now.q
    c.requires.other.1.factor in
    let fm : FitsSigned w128 c.args.m = c.ranges.m in
    let at = (goal.at.loop-i-preserved g c).After-row-x in
    let fit = rw (c.row-x.ensures, ← multiplied g at) at
    (simp to_z-of_z at c.in_ok-kept_times.ensures) in
    let so_far = simp to_z-of_z at c.loop-i.invariant in
    simp to_z-of_z (notes_more so_far c.loop-i-test.true c.index-terms-i.result c.index-terms-i.is
    c.kept_times.new.to fit)

pub returns-clause-count : goal.returns-clause-count
returns-clause-count g c = c.loop-i.invariant.count

pub returns-clause-noted : goal.returns-clause-noted
returns-clause-noted g c =
    let fm : FitsSigned w128 c.args.m = c.ranges.m in
    notes_done (simp to_z-of_z at c.loop-i.invariant) c.loop-i-test.false
