-- The set holds the different texts so far, and an insertion puts the next one behind them where it
-- is none of them.
use Rattle.sfm_lines.proofs.Numbering.{keys-in}
use Rattle.sfm_lines.proofs.labels.add_names.Goals as goal

pub loop-text-preserved : goal.loop-text-preserved
loop-text-preserved c = λ before h. keys-in before c.args.texts.now c.loop-text.text-index _
    c.loop-text.names.keys c.insert.new.self.keys c.loop-text-test.true
    (c.loop-text.invariant before h) c.in_ok-insert.ensures.keys
