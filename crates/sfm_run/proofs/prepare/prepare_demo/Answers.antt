use Rattle.sfm_due.specs.Demo.{IsDueToDemo}
use Rattle.sfm_run.proofs.Joining.{made, not_made}
use Rattle.sfm_run.proofs.prepare.prepare_demo.Goals as goal

pub returns-in_err-due : goal.returns-in_err-due
returns-in_err-due c shelf =
    not_made (IsDueToDemo c.args.seed) shelf c.from_residual.result c.from_residual.ensures.1

pub returns : goal.returns
returns c shelf = made (IsDueToDemo c.args.seed) c.in_ok-due.due shelf c.in_ok-due.ensures
