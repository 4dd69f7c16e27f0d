use Rattle.std.proofs.Common.{◌++◌, ap, ◌∙◌}
use Rattle.sfm_demo.specs.DemoText.{demo_text_of}
use Rattle.sfm_demo.proofs.text.demo_text.Goals as goal

pub returns : goal.returns
returns c =
    ap (λ v. v.items) c.into_bytes.ensures.value ∙ c.in_ok-write_text.ensures
    ∙ ap (λ o. o ++ demo_text_of c.new.result) c.new-out.ensures.bytes
    ∙ ap demo_text_of c.new.ensures
