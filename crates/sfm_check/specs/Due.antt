-- The answer that is due, of what the bases at 0/1 tell and of all slopes.
use Rattle.std.specs.Prelude.{List, [], map}
use Rattle.sfm_spec.specs.Laws.{Mark}
use Rattle.sfm_extreme.specs.declared.extremes.Proved.{Proved}
use Rattle.sfm_extreme.specs.declared.grouping.Block.{Block}
use Rattle.sfm_extreme.specs.Blocks.{block_of}
use Rattle.sfm_cert.specs.Answer.{Answer, Break}

-- a slope without bases
abbrev pub break_at : Mark → Break
break_at m = record { num = m.num; den = m.den; members = m.members; bases = [] }

abbrev pub due_answer : Proved → List Block → List Mark → Answer
due_answer found blocks marks =
    record {
      value = found.value;
      least = found.least;
      greatest = found.greatest;
      blocks = map block_of blocks;
      bases = [];
      breaks = map break_at marks;
    }
