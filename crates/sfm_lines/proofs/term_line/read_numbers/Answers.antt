use Rattle.std.proofs.Common.{ℤ, ◌++◌, ◌∷◌, [], ap, ◌∙◌, refl}
use Rattle.std.proofs.lemmas.Option.{none-some}
use Rattle.sfm_lines.specs.TermLines.{IsNumberFor}
use Rattle.sfm_lines.proofs.Matches.{Any-text, AllZip-more}
use Rattle.sfm_lines.proofs.Numbers.{kept-number}
use Rattle.sfm_lines.proofs.term_line.read_numbers.Goals as goal

pub returns-in_default : goal.returns-in_default
returns-in_default c = Any-text
    (λ text. (value : ℤ) → IsNumberFor c.args.instance.now.version c.args.word text value → ⊥)
    c.args.texts.now c.loop-text.text-index _ c.loop-text-test.true
    (λ value h. none-some value ((c.in_default.ensures value).1 h))

pub loop-text-preserved : goal.loop-text-preserved
loop-text-preserved c =
    let v = c.in-Some.value in
    let read = (c.in-Some.ensures v).0 refl in
    AllZip-more (IsNumberFor c.args.instance.now.version c.args.word) c.args.texts.now
    c.loop-text.values.items c.push.new.self.items c.loop-text.text-index _ v
    c.loop-text-test.true c.loop-text.invariant read
    (c.in_ok-push.ensures.items ∙ ap (λ (z : ℤ). c.loop-text.values.items ++ z ∷ [])
    (kept-number c.args.instance.now.version c.args.word _ v read))
