use Rattle.std.proofs.Common.{◌≤◌, length, ap, arith}
use Rattle.sfm_lines.specs.Lines.{tokens_of}
use Rattle.sfm_lines.specs.Parts.{IsPairToken}
use Rattle.sfm_passes.proofs.Passed.{all-matched}
use Rattle.sfm_side.proofs.SizeReasons.{size-empty, size-unpaired, size-number, size-name}
use Rattle.sfm_side.proofs.sizes.pairs_reason.Goals as goal

pub returns-in_default : goal.returns-in_default
returns-in_default c = λ given. size-empty c.args.instance.now.names given
    (tokens_of c.args.line.now) c.in_default.ensures.cut

pub returns-then-not-all_pass : goal.returns-then-not-all_pass
returns-then-not-all_pass c = λ given. size-unpaired c.args.instance.now.names given
    (tokens_of c.args.line.now) c.if-not-all_pass.ensures

pub returns-then-not-all_pass-2 : goal.returns-then-not-all_pass-2
returns-then-not-all_pass-2 c = λ given.
    let tokens = tokens_of c.args.line.now in
    let some : 1 ≤ length (tokens_of c.args.line.now) = omega (
      arith,
      ap length c.in-Some.ensures.cut,
    ) in
    let (pairs, each) = all-matched IsPairToken tokens c.if-not-all_pass.ensures in
    size-number c.args.instance.now.names given tokens some pairs each c.if-not-all_pass-2.ensures

pub returns-then-not-all_pass-3 : goal.returns-then-not-all_pass-3
returns-then-not-all_pass-3 c = λ given.
    let tokens = tokens_of c.args.line.now in
    let some : 1 ≤ length (tokens_of c.args.line.now) = omega (
      arith,
      ap length c.in-Some.ensures.cut,
    ) in
    let (pairs, each) = all-matched IsPairToken tokens c.if-not-all_pass.ensures in
    size-name c.args.instance.now.names given tokens some pairs each c.if-not-all_pass-2.ensures
    c.if-not-all_pass-3.ensures
