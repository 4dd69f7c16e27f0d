use Rattle.std.proofs.Common.{◌≡◌, [], ◌++◌, length}
use Rattle.sfm_lines.specs.Lines.{tokens_of}
use Rattle.sfm_text.proofs.reading.with_names.Given as goal

abbrev pub invariant-loop-name : goal.invariant-loop-name
invariant-loop-name l = record {
  names : tokens_of l.line ≡ l.instance.names ++ tokens_of l.left;
  version : l.instance.version ≡ l.fn.version;
  terms : l.instance.terms ≡ [];
  lines : l.instance.lines ≡ [];
}

abbrev pub decreases-loop-name : goal.decreases-loop-name
decreases-loop-name l = length l.left
