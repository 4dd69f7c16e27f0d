use Rattle.std.proofs.Common.{ℤ}
use Rattle.sfm_readback.specs.Lines.{IsValueLine}
use Rattle.sfm_readback.proofs.Ends.{stuck_without, stuck_at}
use Rattle.sfm_readback.proofs.steps.read_value.Goals as goal

pub returns-in_default-clause-stuck : goal.returns-in_default-clause-stuck
returns-in_default-clause-stuck c =
    stuck_without c.args.text.now c.args.cursor.now
    (λ line. (v : ℤ) × IsValueLine c.args.word.now line v) c.in_default.ensures.none

pub returns-in_default-value_of-clause-stuck : goal.returns-in_default-value_of-clause-stuck
returns-in_default-value_of-clause-stuck c =
    stuck_at c.args.text.now c.args.cursor.now c.take_line.new.cursor
    (λ line. (v : ℤ) × IsValueLine c.args.word.now line v) c.in-Some.line.now
    c.in-Some.ensures.taken (λ g. c.in_default-value_of.ensures g.0 g.1)
