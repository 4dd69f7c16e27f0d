use Rattle.std.proofs.Common.{◌≡◌, inl, inr, ◌<◌, true, false, length, ℤ, ◌≤ℤ◌, ◌<ℤ◌, FitsSigned, to_z, ap, subst, arith}
use Rattle.std.proofs.lemmas.Int.{ints, to_z-of_z}
use Rattle.std.proofs.lemmas.Option.{slice_get-get_or}
use lib.Signed.{lt_z}
use mir.Syntax.{w128}
use Rattle.sfm_due.proofs.Summing.{turn}
use Rattle.sfm_pair.specs.Passing.{IsOver}
use Rattle.sfm_pair.proofs.Placing.{IsAdded, add-places, add-size, not-over, step}
use Rattle.sfm_pair.proofs.clash.passes_at.Goals as goal
use Rattle.sfm_pair.proofs.clash.passes_at.Goals.{After-size, then-all_places-gt-MOST_PAIR_PLACES-via-then-all_places-gt-MOST_PAIR_PLACES, then-all_places-gt-MOST_PAIR_PLACES-via-else-all_places-gt-MOST_PAIR_PLACES+then-all_size-gt-MOST_PAIR_SIZE}

-- what the test of a size tells
above : (a b c : ℤ) → lt_z a b ≡ true → b ≡ c → a <ℤ c
above a b c t is = omega (arith, ints, t, is)

not-above : (a b : ℤ) → lt_z a b ≡ false → b ≤ℤ a
not-above a b f = omega (arith, ints, f)

pub overflow_mul-all_size : goal.overflow_mul-all_size
overflow_mul-all_size c =
    let t = turn c.args.terms.now c.loop-i.i c.index-terms-i-in-loop-i.result
    c.index-terms-i-in-loop-i.is c.loop-i-test.true c.requires.small in
    let fs : FitsSigned w128 c.size.result = omega (
      arith,
      ints,
      t.next,
      t.low,
      t.more,
      t.high,
      c.size.ensures,
    ) in
    simp to_z-of_z (omega (arith, ints, t.next, t.low, t.more, t.high, c.size.ensures))

-- twice the size of the term is added
added : (c : After-size) → IsAdded c.args.terms.now c.loop-i.i c.args.size
    (to_z w128 c.loop-i.all_size-bits) c.size.result
added c =
    let terms = c.args.terms.now in
    let i = c.loop-i.i in
    let term = c.index-terms-i-in-loop-i.result in
    let fa : FitsSigned w128 c.args.size = c.ranges.size in
    let t = turn terms i term c.index-terms-i-in-loop-i.is c.loop-i-test.true c.requires.small in
    add-size terms i term c.args.size (to_z w128 c.loop-i.all_size-bits) c.size.result t
    c.size.ensures (simp to_z-of_z at c.loop-i.invariant.sizes) c.requires.low
    c.loop-i.invariant.small

pub overflow_add-all_size : goal.overflow_add-all_size
overflow_add-all_size c =
    let a = added (goal.at.overflow_add-all_size c).After-size in
    let fs = a.fits in
    let fd = a.double in
    simp to_z-of_z a.sum

pub returns-then-all_places-gt-MOST_PAIR_PLACES : goal.returns-then-all_places-gt-MOST_PAIR_PLACES
returns-then-all_places-gt-MOST_PAIR_PLACES c =
    let terms = c.args.terms.now in
    let i = c.loop-i.i in
    let inv = c.loop-i.invariant in
    let fa : FitsSigned w128 c.args.size = c.ranges.size in
    let so_far = simp to_z-of_z at inv.sizes in
    let a = added (goal.at.returns-then-all_places-gt-MOST_PAIR_PLACES c).After-size in
    let fs = a.fits in
    let fd = a.double in
    let sum = a.sum in
    let placed = add-places terms i c.index-terms-i.result c.args.places c.loop-i.all_places
    (length c.elements.result.now)
    (step terms i c.index-terms-i.result c.index-terms-i.is c.loop-i-test.true)
    (ap length c.elements.ensures) inv.places in
    let over : IsOver c.args.places c.args.size terms i =
    elim c.then-all_places-gt-MOST_PAIR_PLACES.branch [
      | then-all_places-gt-MOST_PAIR_PLACES-via-then-all_places-gt-MOST_PAIR_PLACES w ↦
          inl (subst (λ z. 16384 < z) placed w.if-all_places-gt-MOST_PAIR_PLACES.true)
      | then-all_places-gt-MOST_PAIR_PLACES-via-else-all_places-gt-MOST_PAIR_PLACES+then-all_size-gt-MOST_PAIR_SIZE
          w ↦
          inr (above _ _ _ (simp to_z-of_z at w.if-all_size-gt-MOST_PAIR_SIZE.true) a.is)
    ] in
    record {
      i = i;
      line_is = slice_get-get_or c.args.lines.now i 0 (rw c.requires.counted c.loop-i-test.true);
      holds = over;
      before = λ j l h. not-over c.args.places c.args.size terms i j (rw (← inv.places) inv.few)
          (rw (← so_far) inv.small) l h;
    }

pub loop-i-preserved : goal.loop-i-preserved
loop-i-preserved c =
    let terms = c.args.terms.now in
    let i = c.loop-i.i in
    let inv = c.loop-i.invariant in
    let fa : FitsSigned w128 c.args.size = c.ranges.size in
    let a = added (goal.at.loop-i-preserved c).After-size in
    let fs = a.fits in
    let fd = a.double in
    let sum = a.sum in
    record {
      places = add-places terms i c.index-terms-i.result c.args.places c.loop-i.all_places
          (length c.elements.result.now)
          (step terms i c.index-terms-i.result c.index-terms-i.is c.loop-i-test.true)
          (ap length c.elements.ensures) inv.places;
      sizes = simp to_z-of_z a.is;
      few = c.if-all_places-gt-MOST_PAIR_PLACES.false;
      small = simp to_z-of_z (not-above _ _
          (simp to_z-of_z at c.if-all_size-gt-MOST_PAIR_SIZE.false));
    }
