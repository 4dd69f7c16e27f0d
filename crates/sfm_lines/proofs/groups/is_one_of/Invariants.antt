use Rattle.std.proofs.Common.{◌≡◌, false, take}
use Rattle.std.specs.Prelude.{bytes_eq}
use Rattle.std.specs.List.{All}
use Rattle.sfm_lines.specs.Lines.{texts_of}
use Rattle.sfm_lines.proofs.groups.is_one_of.Given as goal

abbrev pub invariant-loop-other : goal.invariant-loop-other
invariant-loop-other l = All (λ other. bytes_eq other l.text ≡ false)
    (texts_of (take l.other-index l.texts))
