use Rattle.std.proofs.Common.{Contains, length}
use Rattle.std.specs.List.{All, Any}
use Rattle.sfm_lines.specs.Lines.{texts_of}
use Rattle.sfm_passes.specs.Passes.{texts_between}
use Rattle.sfm_passes.proofs.passes.has_kept.Given as goal

abbrev pub invariant-loop-token : goal.invariant-loop-token
invariant-loop-token l = record {
  some : Any (Contains (texts_of l.kept.keys)) (texts_between l.separator l.left)
      → Any (Contains (texts_of l.kept.keys)) (texts_between l.separator l.line);
  none : All (λ token. Contains (texts_of l.kept.keys) token → ⊥) (texts_between l.separator l.left)
      → All (λ token. Contains (texts_of l.kept.keys) token → ⊥) (texts_between l.separator l.line);
}

abbrev pub decreases-loop-token : goal.decreases-loop-token
decreases-loop-token l = length l.left
