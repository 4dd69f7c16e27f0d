use Rattle.std.proofs.Common.{map}
use Rattle.sfm_extreme.specs.Blocks.{block_of}
use Rattle.sfm_cert.specs.Header.{header_text}
use Rattle.sfm_cert.specs.LineLists.{block_lines, slope_lines, first_lines}
use Rattle.sfm_cert.specs.Solved.{answer_of, break_of, form_with}
use Rattle.sfm_cert.proofs.Pieces.{three_lines}
use Rattle.sfm_cert.proofs.write.put_head.Goals as goal

pub returns : goal.returns
returns g c =
    let names = c.args.instance.now.names in
    let s = c.args.solved.now in
    three_lines g.O.Out.after g.met.O.Out.joined _ _ _ _
    (first_lines (form_with (header_text c.args.header) c.args.instance.now) (answer_of s))
    (block_lines names 1 (map block_of s.blocks.items))
    (slope_lines names (map break_of s.breaks.items))
    c.put_extremes.ensures (rw c.deref.ensures.value at c.put_blocks.ensures)
    (rw c.deref-2.ensures.value at c.put_breaks.ensures)
