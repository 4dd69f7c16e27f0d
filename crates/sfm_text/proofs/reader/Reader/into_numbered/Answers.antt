use Rattle.std.proofs.Common.{rules, ◌≡◌}
use Rattle.sfm_lines.specs.declared.stage.Stage.TheVariants.{Ended}
use Rattle.sfm_text.specs.Standing.{progress_of}
use Rattle.sfm_text.proofs.Counted.{not-few, told-by}
use Rattle.sfm_text.proofs.reader.Reader.into_numbered.Goals as goal

pub returns-in_default : goal.returns-in_default
returns-in_default c = λ text lead.
    let ended : c.args.self.reading.stage ≡ Ended = search rules in
    absurd (not-few text (progress_of c.args.self) lead ended c.in_default.ensures)

pub returns : goal.returns
returns c = λ text lead.
    let ended : c.args.self.reading.stage ≡ Ended = search rules in
    told-by text c.args.self _ c.in-Some.between.items lead ended c.into_instance-instance.ensures
    c.lines.ensures.lined c.in-Some.ensures
    (rw (c.lines.ensures.lines, c.deref.ensures.value) at c.in_ok-term_lines.ensures)
