use Rattle.std.proofs.Common.{sym, ◌∙◌}
use Rattle.std.proofs.lemmas.Bool.{false≢true}
use Rattle.sfm_lines.specs.Lines.{tokens_of}
use Rattle.sfm_lines.specs.TermLines.{StandsTwice}
use Rattle.sfm_passes.proofs.PieceGroups.{of-none, of-group}
use Rattle.sfm_passes.proofs.group_test.is_once.Goals as goal

pub returns-in_default : goal.returns-in_default
returns-in_default c = of-none (λ cap names. StandsTwice names → ⊥) (tokens_of c.args.piece.now)
    c.in_default.ensures.cut

pub returns-then-branch : goal.returns-then-branch
returns-then-branch c = (
  c.in-Some.field-0-0.now,
  tokens_of c.in-Some.names.now,
  c.in-Some.ensures.cut,
  c.in_ok-has_repeat_in.ensures.0 c.if-branch.true,
)

pub returns : goal.returns
returns c = of-group (λ cap names. StandsTwice names → ⊥) (tokens_of c.args.piece.now) _ _
    c.in-Some.ensures.cut (λ t. false≢true
    (sym c.if-branch.false ∙ c.in_ok-has_repeat_in.ensures.1 t))
