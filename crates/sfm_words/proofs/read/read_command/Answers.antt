use Rattle.std.proofs.Common.{map}
use Rattle.sfm_words.proofs.Found.{answer_asks, answer_is_form, answer_is_no_refusal, answer_is_small, answered, form_is_no_usage, read_is, usage_is_not_taken}
use Rattle.sfm_words.proofs.read.read_command.Goals as goal

pub returns-in_err-matches-clause-refused : goal.returns-in_err-matches-clause-refused
returns-in_err-matches-clause-refused c =
    usage_is_not_taken (map (λ word. word.now) c.args.words.now) c.in_err-matches.field-0.0
    c.in_err-matches.ensures.refused c.from_residual.result c.from_residual.ensures.1

pub returns-in_err-matches-clause-form : goal.returns-in_err-matches-clause-form
returns-in_err-matches-clause-form c =
    form_is_no_usage (map (λ word. word.now) c.args.words.now) c.in_err-matches.field-0.0
    c.in_err-matches.ensures.refused c.from_residual.result c.from_residual.ensures.1

pub returns : goal.returns
returns c =
    let words = map (λ word. word.now) c.args.words.now in
    let r = c.ok_or.result in
    let read = read_is words c.in_ok-matches.matches c.command_in.result
    c.in_ok-matches.ensures.free c.in_ok-matches.ensures.matches c.command_in.ensures in
    let answer = answered words c.command_in.result r c.ok_or.ensures.value read in
    record {
      read = answer_asks words r answer;
      refused = answer_is_no_refusal words r _ answer;
      form = answer_is_form words r answer;
      seeds = answer_is_small words r answer;
    }
