use Rattle.std.proofs.Common.{◌∙◌}
use Rattle.sfm_lines.specs.Lines.{tokens_of}
use Rattle.sfm_text.proofs.StageReasons.{header-good, line-as}
use Rattle.sfm_text.proofs.reading.Reading.take_header.Goals as goal

pub returns : goal.returns
returns c = λ line is.
    let e = c.empty_instance-instance.ensures in
    rw (e.version, e.names, e.terms, e.lines)
    (header-good c.args.self.now.instance line c.in-Some-version_behind.version
    (line-as line (tokens_of c.args.line.now) _
    (c.in-Some.ensures ∙ c.in-Some-version_behind.ensures) is))
