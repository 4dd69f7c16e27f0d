use Rattle.sfm_readback.proofs.Tokens.{entry_read}
use Rattle.sfm_readback.proofs.numbers.read_entry.Goals as goal

pub returns : goal.returns
returns c = entry_read c.args.bytes.now c.read_number.result c.read_number.ensures
