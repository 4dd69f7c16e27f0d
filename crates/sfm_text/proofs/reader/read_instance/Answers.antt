-- One piece that is the whole text.
use Rattle.std.proofs.lemmas.List.{append-nil}
use Rattle.sfm_text.proofs.reader.read_instance.Goals as goal

pub returns-clause-read : goal.returns-clause-read
returns-clause-read c = rw (append-nil c.args.text.now) at c.read_pieces.ensures.read

pub returns-clause-refused : goal.returns-clause-refused
returns-clause-refused c = rw (append-nil c.args.text.now) at c.read_pieces.ensures.refused
