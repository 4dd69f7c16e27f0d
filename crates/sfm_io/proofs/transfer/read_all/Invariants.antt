use Rattle.std.proofs.Common.{◌≡◌, ◌+◌, ◌-◌, ◌≤◌, vec_len}
use Rattle.sfm_io.proofs.ShelfLemmas.{HasRead}
use Rattle.sfm_io.proofs.transfer.read_all.Given as goal

abbrev pub invariant-loop-bytes : goal.invariant-loop-bytes
invariant-loop-bytes g l = record {
  read : HasRead (g.S.Shelf.state l.fn.shelf) l.bytes.items (g.S.Shelf.state l.shelf);
  bounded : vec_len l.bytes ≤ l.limit + 1;
  piece : vec_len l.buffer ≡ 65536;
}

abbrev pub decreases-loop-bytes : goal.decreases-loop-bytes
decreases-loop-bytes g l = l.limit + 1 - vec_len l.bytes
