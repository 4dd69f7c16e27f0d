use Rattle.std.proofs.Common.{◌+◌, arith}
use Rattle.std.proofs.lemmas.List.{length-take}
use Rattle.std.proofs.lemmas.Result.{err_from_is_err_and}
use Rattle.sfm_io.proofs.ShelfLemmas.{HasRead-none, HasRead-more, HasRead-whole, HasRead-long, KeepsShelf-trans, IsCause-from_stop}
use Rattle.sfm_io.proofs.transfer.read_all.Goals as goal

pub loop-bytes-init : goal.loop-bytes-init
loop-bytes-init g c = record {
  read = rw c.new-bytes.ensures.items (HasRead-none _);
  bounded = omega arith;
  piece = c.in_ok-buffer.ensures.len;
}

pub loop-bytes-preserved : goal.loop-bytes-preserved
loop-bytes-preserved g c = record {
  read = HasRead-more c.loop-bytes.invariant.read
      c.in_ok-read_on.ensures;
  bounded =
      omega (
        arith,
        c.in_ok-read_on.ensures.count,
        c.loop-bytes.bytes.ok.0,
        c.read_on.new.bytes.ok.0,
        length-take (c.min-most.result + 1) c.deref_mut.result.now,
      );
  piece = c.loop-bytes.invariant.piece;
}

pub returns-in_err-read_on-clause-kept : goal.returns-in_err-read_on-clause-kept
returns-in_err-read_on-clause-kept g c =
    KeepsShelf-trans _ _ c.loop-bytes.invariant.read.kept c.read_on.ensures.kept

pub returns-in_err-read_on-clause-cause : goal.returns-in_err-read_on-clause-cause
returns-in_err-read_on-clause-cause g c =
    let p = err_from_is_err_and c.from_residual-in_err-read_on.result
    c.from_residual-in_err-read_on.ensures.1 in
    rw (p.1, p.2) (IsCause-from_stop c.args.limit _ c.loop-bytes.invariant.read
    c.in_err-read_on.ensures)

pub returns-then-branch-eq0-clause-kept : goal.returns-then-branch-eq0-clause-kept
returns-then-branch-eq0-clause-kept g c =
    KeepsShelf-trans _ _ c.loop-bytes.invariant.read.kept c.read_on.ensures.kept

pub returns-then-branch-eq0-clause-whole : goal.returns-then-branch-eq0-clause-whole
returns-then-branch-eq0-clause-whole g c =
    HasRead-whole c.loop-bytes.invariant.read (rw c.if-branch-eq0.true at c.in_ok-read_on.ensures)

pub returns-clause-cause : goal.returns-clause-cause
returns-clause-cause g c = HasRead-long c.loop-bytes.invariant.read
    (omega (arith, c.loop-bytes.bytes.ok.0))
