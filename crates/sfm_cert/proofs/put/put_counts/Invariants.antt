use Rattle.std.proofs.Common.{◌≡◌, take}
use Rattle.sfm_cert.specs.LineLists.{counted}
use Rattle.sfm_cert.proofs.put.put_counts.Given as goal

abbrev pub invariant-loop-n : goal.invariant-loop-n
invariant-loop-n g l = l.out ≡ g.O.Out.after l.initial.out (counted (take l.n-index l.counts))
