use Rattle.std.proofs.Common.{ap, arith, length}
use Rattle.std.proofs.lemmas.Int.{ints}
use Rattle.sfm_spec.specs.Sets.{size}
use Rattle.sfm_laminar.proofs.Kept.{basis-few}
use Rattle.sfm_laminar.proofs.laminar.Laminar.most.Goals as goal

pub ranked-requires-clause-high : goal.ranked-requires-clause-high
ranked-requires-clause-high c =
    let s = c.args.self.now in
    let few = basis-few (length s.places) s.groups s.grouped in
    let e = c.size.ensures in
    let b = ap size s.based in
    omega (arith, ints, few, e, b, s.few)
