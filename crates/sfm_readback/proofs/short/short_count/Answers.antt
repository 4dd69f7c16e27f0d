use Rattle.std.proofs.Common.{◌≢◌, ◌<◌, get_or, sym, ◌∙◌, arith}
use Rattle.std.proofs.lemmas.Bool.{false≢true, eq-eqb}
use Rattle.sfm_readback.proofs.ShortNumbers.{count_cut}
use Rattle.sfm_readback.proofs.short.short_count.Goals as goal
use Rattle.sfm_readback.proofs.short.short_count.Goals.{then-len-gt1, else-len-gt1}

pub returns : goal.returns
returns c =
    let d = c.digits_at-value.ensures in
    let lead : 1 < c.digits_at-value.result.1 → get_or c.args.bytes.now 0 0 ≢ 48 = λ more z.
    elim c.if-len-gt1.branch [
      | then-len-gt1 w ↦ false≢true (sym c.if-bytes-eq48.false ∙ w.value-is ∙ eq-eqb _ _ z)
      | else-len-gt1 w ↦ omega (arith, w.if-len-gt1.false, more)
    ] in (
      d.small,
      count_cut c.args.bytes.now c.digits_at-value.result.0 c.digits_at-value.result.1
          (omega (arith, c.if-len-eq0.false)) d.within d.digits d.value d.small lead,
    )
