-- What is based of a kind is so of its own term, at a multiple of a base too.
use Rattle.std.proofs.Common.{FitsSigned}
use Rattle.std.proofs.lemmas.Int.{to_z-of_z}
use mir.Syntax.{w128}
use Rattle.sfm_kind.proofs.kind.KindTerm.note_times.Goals as goal

pub boxed_times-requires-clause-multiple : goal.boxed_times-requires-clause-multiple
boxed_times-requires-clause-multiple c =
    let fm : FitsSigned w128 c.args.m = c.ranges.m in
    let b = rw c.in-Graphic-Graphic.is-0 at c.requires.multiple in
    simp to_z-of_z (record {
      factor = b.factor;
      entries = b.entries;
      bounded = b.bounded;
      small = b.small;
      base = b.base;
    })

pub boxed_times-requires-in-Transversal-Transversal-clause-multiple
    : goal.boxed_times-requires-in-Transversal-Transversal-clause-multiple
boxed_times-requires-in-Transversal-Transversal-clause-multiple c =
    let fm : FitsSigned w128 c.args.m = c.ranges.m in
    let b = rw c.in-Transversal-Transversal.is-0 at c.requires.multiple in
    simp to_z-of_z (record {
      factor = b.factor;
      entries = b.entries;
      bounded = b.bounded;
      small = b.small;
      base = b.base;
    })
