use Rattle.std.proofs.Common.{◌∷◌, codes}
use Rattle.sfm_lines.specs.Lines.{tokens_of}
use Rattle.sfm_text.specs.Judging.{AreGroundNames}
use Rattle.sfm_text.proofs.StageReasons.{ground-good, ground-unmarked, line-as}
use Rattle.sfm_text.proofs.reading.Reading.take_ground.Goals as goal

pub returns-in-Some-fault : goal.returns-in-Some-fault
returns-in-Some-fault c = λ line is.
    let names = tokens_of c.in-Some.rest.now in
    (rw c.in-Some-fault.is at c.in_ok-fault.ensures) c.args.self.now.instance line
    (line-as line _ (codes "ground" ∷ names) c.in-Some.ensures is)

pub with_names-requires : goal.with_names-requires
with_names-requires c = rw c.in_default-fault.is at c.in_ok-fault.ensures

pub returns : goal.returns
returns c = λ line is.
    let names = tokens_of c.in-Some.rest.now in
    let good : AreGroundNames names = rw c.in_default-fault.is at c.in_ok-fault.ensures in
    rw (
      c.in_ok-self.ensures.version,
      c.text_version-version.ensures,
      c.in_ok-self.ensures.names,
      c.in_ok-self.ensures.terms,
      c.in_ok-self.ensures.lines,
    )
    (ground-good c.args.self.now.instance line names
    (line-as line _ (codes "ground" ∷ names) c.in-Some.ensures is)
    (ground-unmarked names good.unmarked) good.forms good.distinct good.few)
