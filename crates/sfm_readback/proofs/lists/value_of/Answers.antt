use Rattle.std.proofs.Common.{◌≡◌, ◌++◌, List, ℕ, ℤ, Option, Some, None, MatchOption, ap, ◌∙◌}
use Rattle.std.specs.Fmt.{signed_decimal}
use Rattle.sfm_spec.specs.Bounds.{IsEntry}
use Rattle.sfm_readback.specs.Lines.{IsValueLine}
use Rattle.sfm_readback.proofs.LineForms.{value_parts}
use Rattle.sfm_readback.proofs.lists.value_of.Goals as goal

-- a number behind a word
behind_word : (line word rest : List ℕ) (r : Option ℤ) → line ≡ word ++ rest
    → MatchOption r ((a : ℤ) → IsEntry a → rest ≡ signed_decimal a → ⊥)
    (λ a. IsEntry a × (rest ≡ signed_decimal a))
    → MatchOption r ((v : ℤ) → IsValueLine word line v → ⊥) (IsValueLine word line)
behind_word line word rest None e h = λ v l. h v l.0 (value_parts word line rest v e l.1)
behind_word line word rest (Some a) e h = (h.0, e ∙ ap (λ z. word ++ z) h.1)

pub returns : goal.returns
returns c = behind_word c.args.line.now c.args.word.now c.in_ok-behind.field-0.now
    c.read_entry.result c.in_ok-behind.ensures c.read_entry.ensures
