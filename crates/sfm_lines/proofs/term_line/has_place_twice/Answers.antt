-- The places so far are different, and the next one is one of them or another.
use Rattle.std.proofs.Common.{get_or, refl, arith}
use Rattle.std.proofs.lemmas.Bool.{eqb-true, eqb-false}
use Rattle.sfm_lines.proofs.Repeats.{twice-seen, once-more}
use Rattle.sfm_lines.proofs.term_line.has_place_twice.Goals as goal

pub returns-then-contains : goal.returns-then-contains
returns-then-contains c =
    let (k, lt, at) = c.if-contains.ensures.cases in
    let place = get_or c.args.places.now c.loop-i.i 0 in (
      λ e. twice-seen c.args.places.now c.loop-i.i 0 c.loop-i-test.true
          (k, lt, eqb-true _ _ (at place)),
      λ h. refl,
    )

pub loop-i-preserved : goal.loop-i-preserved
loop-i-preserved c = once-more c.args.places.now c.loop-i.i 0 c.loop-i-test.true c.loop-i.invariant
    (λ k d lt. eqb-false _ _ (c.if-contains.ensures.cases k d (omega arith) lt))
