use Rattle.std.proofs.Common.{ℕ, ap, ◌∙◌}
use Rattle.std.specs.Prelude.{bytes_eq}
use Rattle.std.specs.Option.{unwrap_or}
use Rattle.std.specs.List.{position}
use Rattle.sfm_lines.proofs.Numbering.{found-place}
use Rattle.sfm_lines.proofs.FewLabels.{place-small}
use Rattle.sfm_lines.proofs.labels.number_of.Goals as goal

pub returns-clause-number : goal.returns-clause-number
returns-clause-number c = c.unwrap_or-number.ensures
    ∙ (rw (c.get_index_of.ensures.index)
    (ap (λ (n : ℕ). unwrap_or (position (λ k. bytes_eq c.args.label.now k.now)
    c.args.names.now.keys) n) c.len.ensures.len
    ∙ found-place c.args.label.now c.args.names.now.keys))

pub returns-clause-small : goal.returns-clause-small
returns-clause-small c = place-small c.args.label.now c.args.names.now.keys _
    (returns-clause-number c) c.requires.few
