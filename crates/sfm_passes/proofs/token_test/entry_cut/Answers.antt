use Rattle.sfm_passes.proofs.LongLabels.{label-token, no-entry, no-labels}
use Rattle.sfm_passes.proofs.token_test.entry_cut.Goals as goal

pub returns-in_default : goal.returns-in_default
returns-in_default c = no-entry c.args.rank c.args.token.now c.in_default.ensures

pub returns-then-not-has_labels : goal.returns-then-not-has_labels
returns-then-not-has_labels c = no-labels c.args.rank c.args.token.now c.in-Some.element.now
    c.in-Some.text.now c.in-Some.ensures c.if-not-has_labels.ensures

pub returns : goal.returns
returns c =
    let (labels, are) = c.if-not-has_labels.ensures in (
      labels,
      label-token c.args.rank c.args.token.now c.in-Some.element.now c.in-Some.text.now
          labels c.in-Some.ensures are,
      are,
    )
