use Rattle.std.proofs.Common.{◌≡◌, ℕ, ◌<◌, refl, arith, ⊎_elim}
use Rattle.std.proofs.lemmas.Bool.{cases_lt, false≢true}
use Rattle.sfm_graphic.proofs.Tails.{no_tail, tail_at}
use Rattle.sfm_graphic.proofs.testing.is_tail.Goals as goal

pub loop-pair-preserved : goal.loop-pair-preserved
loop-pair-preserved c = λ k lt.
    let i : ℕ = c.loop-pair.pair-index in
    ⊎_elim
    (λ (l : k < i). c.loop-pair.invariant k l)
    (λ ge. let e : k ≡ i = omega (arith, ge, lt) in rw e c.if-pair-a.false)
    (cases_lt k i)

pub returns-then-pair-a : goal.returns-then-pair-a
returns-then-pair-a c = (
  (λ t. tail_at c.args.ends.now c.args.a c.loop-pair.pair-index c.loop-pair-test.true
      c.if-pair-a.true),
  (λ h. refl),
)

pub returns : goal.returns
returns c =
    let end = c.loop-pair-test.false in (
      (λ t. absurd (false≢true t)),
      (λ h. absurd (no_tail c.args.ends.now c.args.a
          (λ k lt. c.loop-pair.invariant k (omega (arith, lt, end))) h)),
    )
