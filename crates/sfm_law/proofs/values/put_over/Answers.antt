use Rattle.std.proofs.Common.{length, get_or, pos, arith}
use Rattle.std.proofs.lemmas.Int.{to_z-of_z}
use Rattle.sfm_law.specs.Values.{IsOver}
use Rattle.sfm_law.proofs.Entries.{fits_at}
use Rattle.sfm_law.proofs.Puts.{put_more}
use Rattle.sfm_law.proofs.values.put_over.Goals as goal

pub loop-v-preserved : goal.loop-v-preserved
loop-v-preserved c =
    let x = c.args.x.now in
    let i = c.loop-v.v in
    let fa = fits_at x i c.loop-v-test.true c.requires.small in
    let over = simp to_z-of_z at c.is_over.ensures in
    let inv = c.loop-v.invariant in
    rw c.put.ensures (put_more (λ k. IsOver c.args.bar (get_or x k (pos 0))) (length x) c.loop-v.to
    i c.is_over.result inv.places inv.exact c.loop-v-test.true over)

pub returns-clause-over : goal.returns-clause-over
returns-clause-over c = λ v kv. c.loop-v.invariant.exact v (omega (arith, kv, c.loop-v-test.false))
