use Rattle.std.proofs.Common.{List, Bool}
use Rattle.sfm_readback.specs.Lines.{IsSetLine}
use Rattle.sfm_readback.proofs.Ends.{stuck_without, stuck_at, wanting}
use Rattle.sfm_readback.proofs.steps.read_set.Goals as goal

pub returns-in_default-clause-stuck : goal.returns-in_default-clause-stuck
returns-in_default-clause-stuck c =
    stuck_without c.args.text.now c.args.cursor.now
    (λ line. (s : List Bool) × IsSetLine c.args.word.now c.args.instance.now.names line s)
    c.in_default.ensures.none

pub returns-in_default-2-clause-stuck : goal.returns-in_default-2-clause-stuck
returns-in_default-2-clause-stuck c =
    let none = rw c.in_default-2.is at c.in_ok-members.ensures in
    stuck_at c.args.text.now c.args.cursor.now c.take_line.new.cursor
    (λ line. (s : List Bool) × IsSetLine c.args.word.now c.args.instance.now.names line s)
    c.in-Some.line.now c.in-Some.ensures.taken (λ g. none g.0 g.1)

pub returns-in_err-members-clause-stuck : goal.returns-in_err-members-clause-stuck
returns-in_err-members-clause-stuck c =
    wanting c.from_residual.result c.args.text.now c.args.cursor.now
    (λ line. (s : List Bool) × IsSetLine c.args.word.now c.args.instance.now.names line s)
    c.from_residual.ensures.1

pub returns-clause-read : goal.returns-clause-read
returns-clause-read c = record {
  line = c.in-Some.line.now;
  takes = c.in-Some.ensures.taken;
  within = c.in-Some.ensures.within;
  good = rw c.in-Some-2.is at c.in_ok-members.ensures;
}
