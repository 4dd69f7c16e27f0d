use Rattle.std.proofs.Common.{◌-◌, List, ℕ, length, take, drop, subst, sym, ◌∙◌}
use Rattle.std.specs.Prelude.{◌≢◌}
use Rattle.std.specs.List.{All}
use Rattle.std.proofs.lemmas.List.{take_rest}
use Rattle.sfm_readback.specs.Reading.{IsNextLine}
use Rattle.sfm_readback.proofs.Tokens.{no_middle}
use Rattle.sfm_readback.proofs.next.next_line.Goals as goal

none_next : (text : List ℕ) (at : ℕ) → All (λ c. c ≢ 10) (take (length text - at) (drop at text))
    → (line : List ℕ) → IsNextLine text at line → ⊥
none_next text at h line n = no_middle 10 line n.rest
    (subst (λ (x : List ℕ). All (λ c. c ≢ 10) x) (take_rest text at ∙ n.cut) h)

pub returns-in_err-line-clause-none : goal.returns-in_err-line-clause-none
returns-in_err-line-clause-none c =
    rw c.from_residual.ensures (none_next c.args.text.now c.args.at c.in_err-line.ensures)

pub returns-clause-found : goal.returns-clause-found
returns-clause-found c = record {
  is_line = c.in_ok-line.ensures.0;
  rest = c.in_ok-line.field-0-1.now;
  cut = sym (take_rest c.args.text.now c.args.at)
      ∙ c.in_ok-line.ensures.1;
}
