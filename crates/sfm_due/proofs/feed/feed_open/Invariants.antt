use Rattle.std.proofs.Common.{◌≡◌, ◌-◌, ◌≤◌, vec_len}
use Rattle.sfm_due.proofs.Feeds.{HasFed}
use Rattle.sfm_due.proofs.feed.feed_open.Given as goal

abbrev pub invariant-loop-done : goal.invariant-loop-done
invariant-loop-done g l = record {
  fed : HasFed (g.S.Shelf.state l.fn.shelf) (g.S.Shelf.state l.shelf) l.reader l.done;
  bounded : l.done ≤ 16777217;
  piece : vec_len l.buffer ≡ 65536;
}

abbrev pub decreases-loop-done : goal.decreases-loop-done
decreases-loop-done g l = 16777217 - l.done
