use Rattle.sfm_demo.proofs.Pieces.{passed_on, table_put}
use Rattle.sfm_demo.proofs.lines.write_table.Goals as goal

pub returns : goal.returns
returns c =
    passed_on c.write_set.result
    (table_put _ _ _ _ _ _ _ _ _ c.draw-p.ensures.value c.draw-p.ensures.after
    c.draw_values-values.ensures.value c.draw_values-values.ensures.after
    c.in_ok-write.ensures.bytes c.in_ok-write_numbers.ensures)
    c.write_set.ensures
