use Rattle.std.proofs.Common.{◌≡◌, ◌∙◌, ap, length}
use Rattle.std.proofs.lemmas.Result.{IfOk-weaker}
use Rattle.sfm_spec.specs.Families.{meanings}
use Rattle.sfm_kind.specs.Kinds.{kind_places, kind_value}
use Rattle.sfm_cert.specs.Answer.{text_of}
use Rattle.sfm_cert.specs.Solved.{form_of}
use Rattle.sfm_level.specs.LevelText.{IsLevelText}
use Rattle.sfm_level.specs.Told.{level_lines, level_of}
use Rattle.sfm_level.proofs.text.level_text.Goals as goal

pub returns : goal.returns
returns c =
    let instance = c.args.instance.now in
    let form = form_of instance in
    let told = level_of c.in_ok-told.told in
    IfOk-weaker c.write_level.result (λ text. text.items ≡ text_of (level_lines form told))
    (λ text. IsLevelText instance.lines (meanings kind_places kind_value instance.terms)
    (length instance.names) text.items)
    (λ text is. record {
      vector = told.vector;
      bases = told.bases;
      are_bases = c.in_ok-told.ensures.is_true.bases;
      sum = c.in_ok-told.ensures.is_true.sum;
      level = c.in_ok-told.ensures.is_true.level;
      text = is ∙ ap (λ s. text_of (level_lines form
          (record { squares = s; vector = told.vector; bases = told.bases })))
          c.in_ok-told.ensures.is_true.squares;
    }) c.write_level.ensures
