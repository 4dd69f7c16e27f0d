-- What is based of a kind is so of its own term, at a multiple of a base too.
use Rattle.std.proofs.Common.{FitsSigned}
use Rattle.std.proofs.lemmas.Int.{to_z-of_z}
use Rattle.std.proofs.lemmas.Bool.{both_ways}
use mir.Syntax.{w128}
use Rattle.sfm_kind.proofs.kind.KindTerm.note_over.Goals.{in-Graphic-Graphic-Graphic, in-Transversal-Transversal-Transversal, in_default, in_default-2, in_default-3, in_default-4, in_default-5}
use Rattle.sfm_kind.proofs.kind.KindTerm.note_over.Goals as goal

pub note_over-requires-clause-multiple : goal.note_over-requires-clause-multiple
note_over-requires-clause-multiple c =
    let fm : FitsSigned w128 c.args.m = c.ranges.m in
    let b = rw c.in-Graphic-Graphic-Graphic.is-0 at c.requires.multiple in
    simp to_z-of_z (record {
      factor = b.factor;
      entries = b.entries;
      bounded = b.bounded;
      small = b.small;
      base = b.base;
    })

pub note_over-requires-in-Transversal-Transversal-Transversal-clause-multiple
    : goal.note_over-requires-in-Transversal-Transversal-Transversal-clause-multiple
note_over-requires-in-Transversal-Transversal-Transversal-clause-multiple c =
    let fm : FitsSigned w128 c.args.m = c.ranges.m in
    let b = rw c.in-Transversal-Transversal-Transversal.is-0 at c.requires.multiple in
    simp to_z-of_z (record {
      factor = b.factor;
      entries = b.entries;
      bounded = b.bounded;
      small = b.small;
      base = b.base;
    })

pub returns : goal.returns
returns c = λ done.
    let fm : FitsSigned w128 c.args.m = c.ranges.m in
    elim c.match-self.branch [
      | in-Graphic-Graphic-Graphic w ↦ (
          let fit = simp to_z-of_z at (w.note_over.ensures (rw w.result-is at done)) in
          rw (w.in-Graphic-Graphic-Graphic.is-0, w.over-is) fit)
      | in-Transversal-Transversal-Transversal w ↦ (
          let fit = simp to_z-of_z at
          (w.note_over-in-Transversal-Transversal-Transversal.ensures
          (rw w.result-is at done)) in
          rw (w.in-Transversal-Transversal-Transversal.is-0, w.over-is) fit)
      | in_default w ↦ absurd (both_ways _ w.result-is done)
      | in_default-2 w ↦ absurd (both_ways _ w.result-is done)
      | in_default-3 w ↦ absurd (both_ways _ w.result-is done)
      | in_default-4 w ↦ absurd (both_ways _ w.result-is done)
      | in_default-5 w ↦ absurd (both_ways _ w.result-is done)
    ]
