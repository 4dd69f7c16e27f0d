use Rattle.std.proofs.Common.{◌≡◌, ℕ, List, ◌++◌, length, map, Option}
use Rattle.std.specs.List.{AllZip}
use Rattle.sfm_lines.specs.Lines.{tokens_of}
use Rattle.sfm_weights.specs.Plain.{IsEntryOf}
use Rattle.sfm_weights.proofs.plain.put_elements.Given as goal

abbrev pub invariant-loop-token : goal.invariant-loop-token
invariant-loop-token l = record {
  marked : List (List ℕ);
  entries : List (List ℕ × Option (List ℕ));
  parts : tokens_of l.line ≡ marked ++ tokens_of l.left;
  each : AllZip IsEntryOf marked entries;
  copied : tokens_of l.plain.items ≡ tokens_of l.initial.plain.items ++ map (λ entry. entry.0)
      entries;
}

abbrev pub decreases-loop-token : goal.decreases-loop-token
decreases-loop-token l = length l.left
