use Rattle.sfm_readback.proofs.Tokens.{cut_around}
use Rattle.sfm_readback.proofs.FirstBytes.{none_found, one_found}
use Rattle.sfm_readback.proofs.numbers.split_at_first.Goals as goal

pub returns-in_err-mid : goal.returns-in_err-mid
returns-in_err-mid c = rw c.from_residual.ensures
    (none_found c.args.value c.args.bytes.now c.in_err-mid.ensures)

pub returns : goal.returns
returns c =
    let found = one_found c.args.value c.args.bytes.now c.in_ok-mid.mid c.in_ok-mid.ensures in
    (found.1, cut_around c.args.value c.args.bytes.now c.in_ok-mid.mid found.0 found.2)
