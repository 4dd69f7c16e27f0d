use Rattle.std.proofs.Common.{◌≡◌, ◌≢◌, ℕ, ◌<◌, ◌^◌, List, [], length, get_or, ℤ, pos, ◌≤ℤ◌, refl, sym, ap, subst, ◌∙◌, arith, FitsSigned}
use Rattle.std.proofs.lemmas.Int.{to_z-of_z}
use Rattle.std.proofs.lemmas.List.{drop_more}
use mir.Syntax.{w128}
use Rattle.sfm_spec.specs.Terms.{times, IsBase, exchanged}
use Rattle.sfm_spec.specs.Families.{Meaning, meanings}
use Rattle.sfm_spec.specs.Walks.{Step, CanMove, base_at, term_at}
use Rattle.sfm_spec.proofs.Walks.{bases-at}
use Rattle.sfm_law.specs.Based.{IsBased}
use Rattle.sfm_law.specs.Walk.{step_of}
use Rattle.sfm_law.proofs.Lists.{length-meanings, meanings-at}
use Rattle.sfm_walk.proofs.Starting.{sizes_bounded}
use Rattle.sfm_walk_tests.proofs.amounts.can_move.Goals as goal

-- a step that its term can move can move
can_at : (terms : List Meaning) (q : ℤ) (rows : List (List ℤ)) (from : ℕ) (step : Step) (a : ℤ)
    (m : Meaning)
    → term_at terms step.term ≡ m → step.term < length terms
    → (u : ℕ) × (v : ℕ) × (u < length m.places) × (v < length m.places)
    × (get_or m.places u 0 ≡ from)
    × (get_or m.places v 0 ≡ step.to) × (u ≢ v)
    × IsBase (times q m.value) (exchanged (base_at rows step.term) u v a)
    → CanMove terms q rows from step a
can_at terms q rows from step a m is inside (u, v, lu, lv, begins, ends, apart, base) = record {
  in_range = inside;
  u = u;
  v = v;
  u_in = rw is lu;
  v_in = rw is lv;
  begins = rw is begins;
  ends = rw is ends;
  apart = apart;
  base = rw is base;
}

pub can_step-requires-clause-based : goal.can_step-requires-clause-based
can_step-requires-clause-based g c =
    let fq : FitsSigned w128 c.args.q = c.ranges.q in
    let t = g.T.Term in
    let m = g.met.T.Term in
    let r = c.requires in
    let ts = c.args.terms.now in
    let x = c.index-terms-i.result in
    let i = (get_or c.as_slice-to-items.result.now c.loop-to.to-index (0, 0)).1 in
    let l : i < length ts = omega (arith, c.if-i-terms.false) in
    let is = meanings-at t.places t.value_of ts i x l c.index-terms-i.is in
    let b = bases-at c.args.q (meanings t.places t.value_of ts) c.args.bases.now i r.bases
    (rw (length-meanings t.places t.value_of ts) l) in
    let based : IsBased t.places t.value_of t.size_of x c.args.q
    (base_at c.args.bases.now i) = record {
      factor = r.factor;
      entries = b.0 ∙ ap (λ (u : Meaning). length u.places) is;
      bounded = subst (λ y. t.size_of y ≤ℤ pos (10 ^ 18)) (sym c.index-terms-i.is)
          (sizes_bounded t.places t.value_of t.size_of m.submodular m.bounded r.bounded.0 ts
          r.bounded.1 i x l);
      small = r.small i [] (omega (arith, c.if-i-len.false, c.len.ensures));
      base = subst (λ (u : Meaning). IsBase (times c.args.q u.value) (base_at c.args.bases.now i))
          is b.1;
    } in
    simp to_z-of_z (rw c.row-x.ensures based)

pub loop-to-preserved : goal.loop-to-preserved
loop-to-preserved g c =
    let fq : FitsSigned w128 c.args.q = c.ranges.q in
    let fa : FitsSigned w128 c.args.a = c.ranges.a in
    let t = g.T.Term in
    let ts = c.args.terms.now in
    let items = c.as_slice-to-items.result.now in
    let step = step_of (get_or items c.loop-to.to-index (0, 0)) in
    let l : step.term < length ts = omega (arith, c.if-i-terms.false) in
    let is = meanings-at t.places t.value_of ts step.term c.index-terms-i.result l
    c.index-terms-i.is in
    let told = simp to_z-of_z at (rw c.row-x.ensures at (c.if-not-can_step.ensures refl)) in
    let can = can_at (meanings t.places t.value_of ts) c.args.q c.args.bases.now c.loop-to.from step
    c.args.a (record {
      places = t.places c.index-terms-i.result;
      value = t.value_of c.index-terms-i.result;
    }) is
    (rw (length-meanings t.places t.value_of ts) l) told in
    let invariant = simp to_z-of_z at c.loop-to.invariant in
    let more = drop_more items c.loop-to.to-index (0, 0) c.loop-to-test.true in
    simp to_z-of_z (λ rest. invariant (rw more (can, rest)))
