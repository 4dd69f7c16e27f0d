-- A line whose elements have no weights is judged as its line without them is.
use Rattle.std.proofs.Common.{rules, ◌∷◌}
use Rattle.sfm_lines.specs.Lines.{tokens_of}
use Rattle.sfm_lines.specs.Words.{word_text}
use Rattle.sfm_text.specs.Weighed.{IsLineRefusedBy}
use Rattle.sfm_text.proofs.SaidLines.{said-plain, refused-plain}
use Rattle.sfm_text.proofs.added.add_plain.Goals as goal

pub returns-in_err-term-clause-outcome : goal.returns-in_err-term-clause-outcome
returns-in_err-term-clause-outcome c =
    let told : IsLineRefusedBy c.args.instance.now
    (word_text c.args.word ∷ tokens_of c.args.rest.now) c.in_err-term.field-0.0 =
    refused-plain c.args.instance.now c.args.word (tokens_of c.args.rest.now) c.requires.plain _
    c.in_err-term.ensures.refused in
    search rules

pub add_made-requires : goal.add_made-requires
add_made-requires c =
    record {
      read = (
        word_text c.args.word ∷ tokens_of c.args.rest.now,
        said-plain c.args.instance.now c.args.word (tokens_of c.args.rest.now) c.requires.plain _
            c.in_ok-term.ensures.read,
      );
    }

pub returns-clause-outcome : goal.returns-clause-outcome
returns-clause-outcome c = c.add_made.ensures.outcome
    (word_text c.args.word ∷ tokens_of c.args.rest.now)
    (said-plain c.args.instance.now c.args.word (tokens_of c.args.rest.now) c.requires.plain _
    c.in_ok-term.ensures.read)
