use Rattle.std.proofs.Common.{refl}
use Rattle.sfm_spec.specs.Names.{IsName}
use Rattle.sfm_lines.proofs.Repeats.{All-texts-more, All-texts-end}
use Rattle.sfm_lines.proofs.names.are_names.Goals as goal

pub loop-text-preserved : goal.loop-text-preserved
loop-text-preserved c = All-texts-more IsName c.args.texts.now c.loop-text.text-index _
    c.loop-text-test.true c.loop-text.invariant (c.if-not-is_name.ensures.0 refl)

pub returns : goal.returns
returns c = All-texts-end IsName c.args.texts.now c.loop-text.text-index c.loop-text-test.false
    c.loop-text.invariant
