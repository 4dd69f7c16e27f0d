use Rattle.std.proofs.Common.{◌≡◌, [], true, map, subst}
use Rattle.clap.specs.Words.{HasMatchesOf, app_of, fault_of, is_simple_and_free, kind_of}
use Rattle.sfm_words.proofs.Found.{taken_for_memory}
use Rattle.sfm_words.proofs.Lines.{line_is_simple}
use Rattle.sfm_words.proofs.read.matches_of.Goals as goal

pub returns-in_err-matches-clause-refused : goal.returns-in_err-matches-clause-refused
returns-in_err-matches-clause-refused c =
    taken_for_memory (app_of c.in_ok-line.line) (map (λ word. word.now) c.args.words.now)
    (kind_of c.in_err-matches.field-0.0) c.in_ok-line.ensures c.in_err-matches.ensures.passes
    c.from_residual-in_err-matches.result c.from_residual-in_err-matches.ensures.1

pub returns-clause-matches : goal.returns-clause-matches
returns-clause-matches c = subst (λ a. HasMatchesOf a (map (λ word. word.now) c.args.words.now)
    c.in_ok-matches.matches) c.in_ok-line.ensures c.in_ok-matches.ensures.matches

pub returns-clause-free : goal.returns-clause-free
returns-clause-free c = subst (λ a. is_simple_and_free a ≡ true
    → fault_of a (map (λ word. word.now) c.args.words.now) ≡ []) c.in_ok-line.ensures
    c.in_ok-matches.ensures.kinds line_is_simple
