use Rattle.std.proofs.Common.{◌≡◌}
use Rattle.std.proofs.lemmas.Result.{IfOk-weaker}
use Rattle.sfm_spec.specs.Families.{meanings}
use Rattle.sfm_kind.specs.Kinds.{kind_places, kind_value}
use Rattle.sfm_side.specs.PinLines.{pins_of}
use Rattle.sfm_ask.specs.Pinned.{IsAnswered}
use Rattle.sfm_ask.specs.Asking.{text_of_asked}
use Rattle.sfm_ask.proofs.Pieces.{answered}
use Rattle.sfm_ask.proofs.text.asked_text.Goals as goal

pub returns : goal.returns
returns c =
    let instance = c.args.instance.now in
    let meant = meanings kind_places kind_value instance.terms in
    let pins = pins_of c.args.pins.now in
    let asked = c.in_ok-asked.asked in
    IfOk-weaker c.write_asked.result _ (λ text. IsAnswered instance.names meant pins text.items)
    (λ text (is : text.items ≡ text_of_asked instance.names asked).
    answered instance.names meant pins asked text.items c.in_ok-asked.ensures.asked is)
    c.write_asked.ensures
