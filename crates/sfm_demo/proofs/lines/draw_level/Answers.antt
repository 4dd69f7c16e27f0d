use Rattle.std.proofs.Common.{sym, ◌∙◌, arith}
use Rattle.std.proofs.lemmas.Int.{ints}
use Rattle.sfm_demo.proofs.Pieces.{level_of, level-state}
use Rattle.sfm_demo.proofs.lines.draw_level.Goals as goal

pub returns-clause-value : goal.returns-clause-value
returns-clause-value c = level_of c.args.draws.now c.draw.result _ c.draw.ensures.value
    (omega (arith, ints))

pub returns-clause-after : goal.returns-clause-after
returns-clause-after c = c.draw.ensures.after ∙ sym (level-state c.args.draws.now)
