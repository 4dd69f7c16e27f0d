use Rattle.std.proofs.Common.{codes, ◌∙◌, sym, refl}
use Rattle.std.proofs.lemmas.Bool.{false≢true}
use Rattle.sfm_lines.specs.Lines.{tokens_of}
use Rattle.sfm_lines.specs.Parts.{IsSeparator}
use Rattle.sfm_passes.proofs.Passed.{any-behind}
use Rattle.sfm_text.proofs.StageReasons.{ground-shape, ground-name, ground-twice, ground-total, ground-unmarked}
use Rattle.sfm_text.proofs.reading.names_fault.Goals as goal

pub returns-then-has_separator_in : goal.returns-then-has_separator_in
returns-then-has_separator_in c = λ instance line is.
    let names = tokens_of c.args.names.now in
    ground-shape instance line names is
    (any-behind IsSeparator (codes "ground") names _ refl c.if-has_separator_in.ensures)

pub returns-then-not-are_names_in : goal.returns-then-not-are_names_in
returns-then-not-are_names_in c = λ instance line is.
    let names = tokens_of c.args.names.now in
    ground-name instance line names is (ground-unmarked names c.if-has_separator_in.ensures)
    c.if-not-are_names_in.ensures

pub returns-then-branch : goal.returns-then-branch
returns-then-branch c = λ instance line is.
    let names = tokens_of c.args.names.now in
    ground-twice instance line names is (ground-unmarked names c.if-has_separator_in.ensures)
    c.if-not-are_names_in.ensures (c.in_ok-has_repeat_in.ensures.0 c.if-branch.true)

pub returns-then-has_token : goal.returns-then-has_token
returns-then-has_token c = λ instance line is.
    let names = tokens_of c.args.names.now in
    ground-total instance line names is (ground-unmarked names c.if-has_separator_in.ensures)
    c.if-not-are_names_in.ensures
    (λ t. false≢true (sym c.if-branch.false ∙ c.in_ok-has_repeat_in.ensures.1 t))
    c.if-has_token.ensures

pub returns : goal.returns
returns c = record {
  unmarked = c.if-has_separator_in.ensures;
  forms = c.if-not-are_names_in.ensures;
  distinct = λ t. false≢true (sym c.if-branch.false ∙ c.in_ok-has_repeat_in.ensures.1 t);
  few = c.if-has_token.ensures;
}
