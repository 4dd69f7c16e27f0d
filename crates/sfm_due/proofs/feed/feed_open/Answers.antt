use Rattle.std.proofs.Common.{◌+◌, arith}
use Rattle.std.proofs.lemmas.List.{length-take}
use Rattle.std.proofs.lemmas.Result.{err_from_is_err_and}
use Rattle.sfm_io.proofs.ShelfLemmas.{KeepsShelf-trans}
use Rattle.sfm_due.proofs.Feeds.{fed-none, fed-more, fed-whole, fed-long, fed-stop}
use Rattle.sfm_due.proofs.feed.feed_open.Goals as goal

pub loop-done-init : goal.loop-done-init
loop-done-init g c = record {
  fed = fed-none _ _ c.in_ok-reader.ensures.stands;
  bounded = omega arith;
  piece = c.in_ok-buffer.ensures.piece;
}

pub loop-done-preserved : goal.loop-done-preserved
loop-done-preserved g c = record {
  fed = fed-more _ _ _ _ _ c.loop-done.done _ c.in_ok-count.count
      c.loop-done.invariant.fed c.in_ok-count.ensures;
  bounded = omega (
    arith,
    c.in_ok-count.ensures.small,
    c.loop-done.invariant.bounded,
    c.loop-done.invariant.piece,
    length-take (c.min-most.result + 1) c.deref_mut.result.now,
  );
  piece = c.loop-done.invariant.piece;
}

pub returns-in_err-count-clause-kept : goal.returns-in_err-count-clause-kept
returns-in_err-count-clause-kept g c = KeepsShelf-trans _ _ c.loop-done.invariant.fed.read.kept
    c.feed_on.ensures.kept

pub returns-in_err-count-clause-read : goal.returns-in_err-count-clause-read
returns-in_err-count-clause-read g c =
    let p = err_from_is_err_and c.from_residual-in_err-count.result
    c.from_residual-in_err-count.ensures.1 in
    rw (p.1, p.2) (fed-stop _ _ _ _ _ c.loop-done.done _ _ c.loop-done.invariant.fed
    c.in_err-count.ensures)

pub returns-then-count-eq0-clause-kept : goal.returns-then-count-eq0-clause-kept
returns-then-count-eq0-clause-kept g c = KeepsShelf-trans _ _ c.loop-done.invariant.fed.read.kept
    c.in_ok-count.ensures.kept

pub returns-then-count-eq0-clause-read : goal.returns-then-count-eq0-clause-read
returns-then-count-eq0-clause-read g c =
    fed-whole _ _ _ _ _ c.loop-done.done _ _ c.if-count-eq0.true
    (omega (arith, c.loop-done-test.true)) c.loop-done.invariant.fed c.in_ok-count.ensures

pub returns-clause-kept : goal.returns-clause-kept
returns-clause-kept g c = c.loop-done.invariant.fed.read.kept

pub returns-clause-read : goal.returns-clause-read
returns-clause-read g c = fed-long _ _ _ c.loop-done.done
    (omega (arith, c.loop-done.invariant.bounded, c.loop-done-test.false)) c.loop-done.invariant.fed
