use Rattle.sfm_demo.proofs.Pieces.{passed_on, whole}
use Rattle.sfm_demo.proofs.text.write_text.Goals as goal

pub returns : goal.returns
returns c =
    passed_on c.writeln-2.result
    (whole _ _ _ _ _ _ _ _ _ _ c.in_ok-write.ensures.bytes c.in_ok-write_run.ensures
    c.in_ok-write-2.ensures.bytes c.in_ok-write_items.ensures.text
    c.in_ok-write_items.ensures.after c.in_ok-writeln.ensures.bytes c.in_ok-write_terms.ensures)
    c.writeln-2.ensures.bytes
