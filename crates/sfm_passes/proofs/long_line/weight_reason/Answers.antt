use Rattle.sfm_lines.specs.Lines.{tokens_of}
use Rattle.sfm_lines.specs.Parts.{IsPairToken}
use Rattle.sfm_lines.specs.declared.word.TermWord.TheVariants.{WeightWord}
use Rattle.sfm_passes.proofs.Passed.{all-matched}
use Rattle.sfm_passes.proofs.LongReasons.{long-shape, no-weight, weight-number, weight-name, weight-twice}
use Rattle.sfm_passes.proofs.long_line.weight_reason.Goals as goal

pub returns-then-not-all_hold : goal.returns-then-not-all_hold
returns-then-not-all_hold c =
    let tokens = tokens_of c.args.line.now in
    long-shape c.args.instance.now WeightWord tokens
    (no-weight c.args.instance.now tokens c.if-not-all_hold.ensures)

pub returns-then-not-all_hold-2 : goal.returns-then-not-all_hold-2
returns-then-not-all_hold-2 c =
    let tokens = tokens_of c.args.line.now in
    let (pairs, each) = all-matched IsPairToken tokens c.if-not-all_hold.ensures in
    weight-number c.args.instance.now tokens c.requires.long pairs each c.if-not-all_hold-2.ensures

pub returns-then-not-all_hold-3 : goal.returns-then-not-all_hold-3
returns-then-not-all_hold-3 c =
    let tokens = tokens_of c.args.line.now in
    let (pairs, each) = all-matched IsPairToken tokens c.if-not-all_hold.ensures in
    weight-name c.args.instance.now tokens c.requires.long pairs each c.if-not-all_hold-2.ensures
    c.if-not-all_hold-3.ensures

pub returns : goal.returns
returns c =
    let tokens = tokens_of c.args.line.now in
    let (pairs, each) = all-matched IsPairToken tokens c.if-not-all_hold.ensures in
    weight-twice c.args.instance.now tokens c.requires.long pairs each c.if-not-all_hold-2.ensures
    c.requires.names c.if-not-all_hold-3.ensures
