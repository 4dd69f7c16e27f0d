use Rattle.std.proofs.Common.{List, ℕ, Option, refl, subst}
use Rattle.sfm_lines.specs.Parts.{IsSeparator}
use Rattle.sfm_weights.specs.Plain.{text_at}
use Rattle.sfm_weights.proofs.Entries.{weighed-same}
use Rattle.sfm_weights.proofs.entry.entry_of.Goals as goal

pub returns-in_default : goal.returns-in_default
returns-in_default c = λ entry h. c.in_default.ensures entry h.0

pub returns-then-is_separator : goal.returns-then-is_separator
returns-then-is_separator c = λ entry h.
    h.1 (subst (λ (e : List ℕ × Option (List ℕ)). IsSeparator e.0)
    (weighed-same c.args.token.now (c.in-Some.element.now, text_at c.in-Some.weight) entry
    c.in-Some.ensures h.0) (c.if-is_separator.ensures.0 refl))
