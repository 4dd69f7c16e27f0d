use Rattle.std.proofs.Common.{◌++◌, ap, ◌∙◌}
use Rattle.std.proofs.lemmas.List.{take_all}
use Rattle.sfm_cert.specs.Answer.{text_of}
use Rattle.sfm_cert.specs.Solved.{form_of}
use Rattle.sfm_level.specs.Told.{level_lines, level_of}
use Rattle.sfm_level.proofs.text.put_page.Goals as goal

pub returns : goal.returns
returns c =
    let page = c.args.page.now in
    let form = form_of c.args.instance.now in
    let text = text_of (level_lines form (level_of c.args.level.now)) in
    ap (λ p. p.bytes) c.put_level.ensures
    ∙ ap (λ x. page.bytes ++ x) (take_all page.spare text c.requires.room)
