use Rattle.std.proofs.Common.{◌≡◌, ℕ, suc, map, ◌≤ℤ◌, ◌<ℤ◌, FitsSigned, sym, arith, subst}
use Rattle.std.proofs.lemmas.Int.{ints, to_z-of_z}
use Rattle.std.proofs.lemmas.List.{length-map}
use mir.Syntax.{w128}
use Rattle.sfm_spec.specs.Laws.{Mark}
use Rattle.sfm_spec.specs.Search.{mark_at}
use Rattle.sfm_law.specs.declared.breaks.Break.{Break as Found}
use Rattle.sfm_cert.specs.Answer.{mark_of}
use Rattle.sfm_cert.specs.Solved.{break_of}
use Rattle.sfm_check.proofs.KeptSlopes.{mark_kept}
use Rattle.sfm_check.proofs.minimum.count_below.Goals as goal

-- the numerator of a slope is a word of 128 bits
num_fits : (found : Found) → FitsSigned w128 found.slope.num
num_fits found = let entry = found.slope.entry in omega (arith, ints, entry)

pub returns-then-found-limit : goal.returns-then-found-limit
returns-then-found-limit c =
    let items = c.args.breaks.now in
    let b = c.index-breaks-k.result in
    let fl : FitsSigned w128 c.args.limit = c.ranges.limit in
    let fn = num_fits b in
    let t = simp to_z-of_z at c.if-found-limit.true in
    let more : c.args.limit ≤ℤ b.slope.num = omega (arith, ints, t) in
    let below : (j : ℕ) → suc j ≡ c.loop-k.k
    → (mark_at (map mark_of (map break_of items)) j).num <ℤ c.args.limit =
    simp to_z-of_z at c.loop-k.invariant in
    record {
      few = omega (
        arith,
        c.loop-k-test.true,
        length-map items break_of,
        length-map (map break_of items) mark_of,
      );
      below = below;
      above = λ lk. subst (λ (m : Mark). c.args.limit ≤ℤ m.num)
          (sym (mark_kept items c.loop-k.k b c.loop-k-test.true c.index-breaks-k.is)) more;
    }

pub loop-k-preserved : goal.loop-k-preserved
loop-k-preserved c = λ j e.
    let items = c.args.breaks.now in
    let fl : FitsSigned w128 c.args.limit = c.ranges.limit in
    let fn = num_fits c.index-breaks-k.result in
    let less : c.index-breaks-k.result.slope.num <ℤ c.args.limit = let t = simp to_z-of_z at
    c.if-found-limit.false in omega (arith, ints, t) in
    let is = mark_kept items c.loop-k.k c.index-breaks-k.result c.loop-k-test.true
    c.index-breaks-k.is in
    let at : c.loop-k.k ≡ j = omega (arith, e) in
    let here : (mark_at (map mark_of (map break_of items)) c.loop-k.k).num
    <ℤ c.args.limit = subst (λ (m : Mark). m.num <ℤ c.args.limit) (sym is) less in
    simp to_z-of_z (subst (λ i. (mark_at (map mark_of (map break_of items)) i).num <ℤ c.args.limit)
    at here)
