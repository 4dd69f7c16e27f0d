use Rattle.std.proofs.Common.{length}
use Rattle.std.specs.List.{All, Any}
use Rattle.sfm_lines.specs.Lines.{tokens_of}
use Rattle.sfm_passes.specs.Passes.{RepeatsSlot}
use Rattle.sfm_passes.proofs.slots.has_repeated_slot.Given as goal

abbrev pub invariant-loop-token : goal.invariant-loop-token
invariant-loop-token l = record {
  some : Any RepeatsSlot (tokens_of l.left) → Any RepeatsSlot (tokens_of l.line);
  none : All (λ token. RepeatsSlot token → ⊥) (tokens_of l.left)
      → All (λ token. RepeatsSlot token → ⊥) (tokens_of l.line);
}

abbrev pub decreases-loop-token : goal.decreases-loop-token
decreases-loop-token l = length l.left
