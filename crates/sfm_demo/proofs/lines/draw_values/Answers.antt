use Rattle.std.proofs.Common.{FitsSigned, arith}
use Rattle.std.proofs.lemmas.Int.{ints, to_z-of_z}
use mir.Syntax.{w64}
use Rattle.sfm_demo.proofs.Pieces.{values_after, values_drawn}
use Rattle.sfm_demo.proofs.lines.draw_values.Goals as goal

pub returns-clause-value : goal.returns-clause-value
returns-clause-value c =
    let fx : FitsSigned w64 c.draw_level-x.result = omega (arith, ints) in
    let fy : FitsSigned w64 c.draw_level-y.result = omega (arith, ints) in
    let fz : FitsSigned w64 c.draw_level-z.result = omega (arith, ints) in
    values_drawn _ c.draw_level-x.new.draws c.draw_level-y.new.draws c.draw_level-z.new.draws
    c.draw-t.result _ _ _ _ (simp to_z-of_z at c.table_values.ensures)
    c.draw_level-x.ensures.value c.draw_level-x.ensures.after
    c.draw_level-y.ensures.value c.draw_level-y.ensures.after c.draw_level-z.ensures.value
    c.draw_level-z.ensures.after c.draw-t.ensures.value

pub returns-clause-after : goal.returns-clause-after
returns-clause-after c = values_after _ _ _ _ _ c.draw_level-x.ensures.after
    c.draw_level-y.ensures.after c.draw_level-z.ensures.after c.draw-t.ensures.after
