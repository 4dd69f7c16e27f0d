use Rattle.std.proofs.Common.{⊎_elim, ◌<◌, ◌/◌, ◌^◌, get_or, rules, arith}
use Rattle.std.proofs.lemmas.Bool.{cases_lt}
use Rattle.sfm_base.proofs.Members.{past_words}
use Rattle.sfm_base.proofs.Counting.{no_bit, first_bit}
use Rattle.sfm_base.proofs.words.first.Goals as goal

pub loop-k-init : goal.loop-k-init
loop-k-init c = λ e l. absurd (omega (arith, l))

pub returns-then-word-ne0 : goal.returns-then-word-ne0
returns-then-word-ne0 c =
    let words = c.args.words.now in
    let k = c.loop-k.k in
    let fits : get_or words k 0 < 2 ^ 64 = search rules in
    let told = first_bit words k c.if-word-ne0.true fits c.loop-k.invariant in
    (told.1, told.2)

pub loop-k-preserved : goal.loop-k-preserved
loop-k-preserved c = λ e l.
    ⊎_elim (c.loop-k.invariant e)
    (λ ge. no_bit c.args.words.now c.loop-k.k e (omega (arith, l, ge)) c.if-word-ne0.false)
    (cases_lt (e / 64) c.loop-k.k)

pub returns : goal.returns
returns c = λ e.
    ⊎_elim (c.loop-k.invariant e)
    (λ ge. past_words c.args.words.now e (omega (arith, ge, c.loop-k-test.false)))
    (cases_lt (e / 64) c.loop-k.k)
