use Rattle.std.proofs.Common.{◌≡◌, codes}
use Rattle.sfm_side.specs.PinLines.{pins_of}
use Rattle.sfm_side.specs.Pins.{pins_form}
use Rattle.sfm_run.proofs.Opening.{opens_long}
use Rattle.sfm_run.proofs.open.open_pins.Goals as goal

pub returns-in-None-clause-opened : goal.returns-in-None-clause-opened
returns-in-None-clause-opened g c =
    opens_long pins_of (codes "pins") (pins_form c.args.instance.now.names) (λ p pins. pins ≡ p)
    c.args.file.now _ _ c.faulty.result
    c.in_ok-text.ensures.kept (rw c.in-None.is at c.in_ok-text.ensures.read)
    c.faulty.ensures
