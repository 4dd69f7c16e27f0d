use Rattle.std.proofs.Common.{◌≡◌}
use Rattle.sfm_readback.proofs.Ends.{stuck_without, stuck_at, differs}
use Rattle.sfm_readback.proofs.next.expect.Goals as goal

pub returns-in_default-clause-stuck : goal.returns-in_default-clause-stuck
returns-in_default-clause-stuck c =
    stuck_without c.args.text.now c.args.cursor.now (λ line. line ≡ c.args.due.now)
    c.in_default.ensures.none

pub returns-then-ne-clause-stuck : goal.returns-then-ne-clause-stuck
returns-then-ne-clause-stuck c =
    stuck_at c.args.text.now c.args.cursor.now c.take_line.new.cursor
    (λ line. line ≡ c.args.due.now) c.in-Some.line.now c.in-Some.ensures.taken
    (differs _ _ _ c.ne.ensures c.if-ne.true)
