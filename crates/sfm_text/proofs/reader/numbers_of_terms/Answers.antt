-- Each number of a term line is put once for each term of its line.
use Rattle.std.proofs.Common.{sym, ◌∙◌, arith}
use Rattle.sfm_text.proofs.ForTerms.{width-is, past-min, for_terms-more, for_terms-all}
use Rattle.sfm_text.proofs.reader.numbers_of_terms.Goals as goal

pub loop-i-init : goal.loop-i-init
loop-i-init c = c.new-all.ensures.items

pub loop-i-preserved : goal.loop-i-preserved
loop-i-preserved c =
    let width = width-is _ c.max.result c.max.ensures in
    let test = c.loop-i-test.true in
    let end = c.min-i-end.ensures in
    let more = for_terms-more c.args.layers.now c.args.numbers.now c.loop-i.i _ _
    (omega (arith, test, end)) (omega (arith, test, end)) in
    c.in_ok-push_times.ensures ∙ (rw (c.loop-i.invariant, width) (sym more))

pub returns : goal.returns
returns c =
    let test = c.loop-i-test.false in
    let end = c.min-i-end.ensures in
    c.loop-i.invariant ∙ for_terms-all c.args.layers.now c.args.numbers.now c.loop-i.i
    (past-min _ _ c.loop-i.i (omega (arith, test, end)))
