use Rattle.std.proofs.Common.{◌≡◌, ◌≤◌, ◌+◌, ℕ, List, ◌++◌, length, None}
use Rattle.std.specs.Prelude.{◌==◌}
use Rattle.std.specs.List.{position_or_len}
use Rattle.sfm_text.specs.Standing.{IsOpen, progress_of}
use Rattle.sfm_text.proofs.reader.Reader.read_lines.Given as goal

abbrev pub invariant-loop-end : goal.invariant-loop-end
invariant-loop-end l = record {
  done : List ℕ;
  parts : l.piece ≡ done ++ l.left;
  first : l.end ≡ position_or_len (λ c. c == 10) l.left;
  faultless : l.self.fault ≡ None;
  open_ : (text : List ℕ) → IsOpen (progress_of l.fn.self) l.fn.self.rest.items text
      → IsOpen (progress_of l.self) l.self.rest.items (text ++ done);
  room : l.self.lines + length l.self.rest.items + length l.left ≤ l.self.count;
  count : l.self.count ≡ l.fn.self.count;
  spent : l.self.spent ≡ l.fn.self.spent;
}

abbrev pub decreases-loop-end : goal.decreases-loop-end
decreases-loop-end l = length l.left
