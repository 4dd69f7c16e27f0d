use Rattle.std.proofs.Common.{◌≡◌, ◌∙◌, get_or, ap, arith}
use Rattle.sfm_laminar.proofs.Counted.{raised-before}
use Rattle.sfm_laminar.proofs.growing.raise.Goals as goal

pub overflow_add-counts : goal.overflow_add-counts
overflow_add-counts c =
    let es = c.args.numbers.now in
    let old = c.args.counts.now in
    let i = c.loop-i.i-index in
    let e : get_or c.loop-i.counts (get_or es i 0) 0 ≡ get_or old (get_or es i 0)
    0 = ap (λ counts. get_or counts (get_or es i 0) 0) c.loop-i.invariant
    ∙ raised-before old es i c.requires.ascending c.loop-i-test.true in
    let few = c.requires.few (get_or es i 0) in
    omega (arith, e, few)
