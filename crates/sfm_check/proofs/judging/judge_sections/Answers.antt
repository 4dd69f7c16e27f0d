use Rattle.std.proofs.Common.{[], pos}
use Rattle.sfm_extreme.specs.declared.extremes.Proved.{Proved}
use Rattle.sfm_check.specs.Findings.{AreTold}
use Rattle.sfm_check.specs.Offers.{of_offer, said}
use Rattle.sfm_check.proofs.Forming.{all_bases}
use Rattle.sfm_check.proofs.judging.judge_sections.Goals as goal

no_proved : Proved
no_proved = record { value = pos 0; least = []; greatest = [] }

pub returns-in-Unproved : goal.returns-in-Unproved
returns-in-Unproved c = λ header. (
  all_bases c.args.offer.now.instance.now (said c.args.offer.now) c.requires.offer.formed
      c.requires.bases,
  rw c.in-Unproved.is at c.in_ok-line.ensures,
)

pub returns-in-Some : goal.returns-in-Some
returns-in-Some c = λ header.
    let told : of_offer AreTold c.args.offer.now c.in-Proved.proved.items = rw c.in-Proved.is at
    c.in_ok-line.ensures in (
      (λ s l. (told.each s no_proved l).proved),
      rw c.in-Some.is at (c.in_ok-line-in-Proved.ensures header),
    )

pub returns : goal.returns
returns c = λ header.
    let told : of_offer AreTold c.args.offer.now c.in-Proved.proved.items = rw c.in-Proved.is at
    c.in_ok-line.ensures in (
      rw c.in-None.is at (c.in_ok-line-in-Proved.ensures header),
      (λ s l. (told.each s no_proved l).proved),
    )
