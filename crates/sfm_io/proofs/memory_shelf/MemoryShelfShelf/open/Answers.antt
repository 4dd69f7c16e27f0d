-- What an opening in memory does gives what every opening does.
use Rattle.std.proofs.Common.{rules}
use Rattle.sfm_io.proofs.HeldLemmas.{Opens-held}
use Rattle.sfm_io.proofs.memory_shelf.MemoryShelfShelf.open.Goals as goal

pub returns-in_default-clause-exact : goal.returns-in_default-clause-exact
returns-in_default-clause-exact c = search rules

pub returns-in_default-clause-opens : goal.returns-in_default-clause-opens
returns-in_default-clause-opens c = Opens-held (returns-in_default-clause-exact c)

pub returns-clause-exact : goal.returns-clause-exact
returns-clause-exact c = search rules

pub returns-clause-opens : goal.returns-clause-opens
returns-clause-opens c = Opens-held (returns-clause-exact c)
