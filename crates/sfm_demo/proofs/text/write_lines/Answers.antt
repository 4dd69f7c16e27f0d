use Rattle.sfm_demo.proofs.Pieces.{lines_none, lines_more}
use Rattle.sfm_demo.proofs.text.write_lines.Goals as goal

pub loop-i-init : goal.loop-i-init
loop-i-init c = lines_none c.args.kind c.args.draws.now _

pub loop-i-preserved : goal.loop-i-preserved
loop-i-preserved c = lines_more c.args.kind c.loop-i._i _ _ _ _ _ _ _ c.loop-i.invariant
    c.in_ok-write_line.ensures c.in_ok-writeln.ensures.bytes
