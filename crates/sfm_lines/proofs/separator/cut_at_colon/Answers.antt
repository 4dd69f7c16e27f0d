use Rattle.sfm_lines.specs.Lines.{texts_of}
use Rattle.sfm_lines.proofs.Colons.{colon-none, marked-before, marked-behind, is-cut}
use Rattle.sfm_lines.proofs.separator.cut_at_colon.Goals as goal
use Rattle.sfm_lines.proofs.separator.cut_at_colon.Goals.{then-has_separator-via-then-has_separator, then-has_separator-via-else-has_separator+then-has_separator-2}

pub returns-in_default : goal.returns-in_default
returns-in_default c = λ before behind h. colon-none (texts_of c.args.tokens.now) before behind
    c.in_default.ensures.first h

pub returns-then-has_separator : goal.returns-then-has_separator
returns-then-has_separator c = λ before behind h. elim c.then-has_separator.branch [
  | then-has_separator-via-then-has_separator w ↦ marked-before c.args.tokens.now c.in-Some.at
      c.in-Some.ensures.first before behind w.if-has_separator.ensures h
  | then-has_separator-via-else-has_separator+then-has_separator-2 w ↦ marked-behind
      c.args.tokens.now c.in-Some.at c.in-Some.ensures.first before behind
      w.if-has_separator-2.ensures h
]

pub returns : goal.returns
returns c = is-cut c.args.tokens.now c.in-Some.at c.in-Some.ensures.first c.if-has_separator.ensures
    c.if-has_separator-2.ensures
