-- What the first levels bring, and with the others all.
use Rattle.sfm_kind.proofs.Weighing.{AreWeighed}
use Rattle.sfm_kind.proofs.kind.Kind.weigh.Given as goal

abbrev pub invariant-loop-j : goal.invariant-loop-j
invariant-loop-j l = AreWeighed l.self l.weights l.levels.items l.j l.places l.size
