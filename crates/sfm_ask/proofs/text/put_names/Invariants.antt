use Rattle.std.proofs.Common.{◌≡◌, ◌++◌, take}
use Rattle.sfm_cert.specs.Answer.{listed}
use Rattle.sfm_ask.proofs.text.put_names.Given as goal

-- the members so far are listed
abbrev pub invariant-loop-e : goal.invariant-loop-e
invariant-loop-e l = l.text.items ≡ l.initial.text.items ++ listed (take l.e l.instance.names)
    (take l.e l.members)
