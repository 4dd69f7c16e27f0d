use Rattle.std.proofs.Common.{◌≡◌, take}
use Rattle.sfm_cert.specs.Answer.{listed}
use Rattle.sfm_cert.proofs.put.put_names.Given as goal

abbrev pub invariant-loop-e : goal.invariant-loop-e
invariant-loop-e g l = l.out ≡ g.O.Out.after l.initial.out
    (listed (take l.e l.instance.names) (take l.e l.members))
