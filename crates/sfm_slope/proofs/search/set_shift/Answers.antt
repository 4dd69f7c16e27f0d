use Rattle.std.proofs.Common.{◌^◌, ◌∙◌, FitsSigned, arith}
use Rattle.std.proofs.lemmas.Int.{ints, to_z-of_z}
use Rattle.std.proofs.lemmas.List.{with_items_is}
use mir.Syntax.{w128}
use Rattle.sfm_sizes.proofs.Sized.{sized-small}
use Rattle.sfm_slope.proofs.search.set_shift.Goals as goal

pub returns-clause-small : goal.returns-clause-small
returns-clause-small c =
    let fp : FitsSigned w128 c.args.p = c.ranges.p in
    let sized = simp to_z-of_z at c.write_sized.ensures in
    let whole = with_items_is c.args.shift.now c.write_sized.new.shift
    (c.write_sized.auto.shift ∙ c.deref_mut.ensures.len) in
    let m = sized-small (10 ^ 21) _ c.args.sizes.now c.args.p c.requires.small c.requires.sizes in
    rw (whole, sized) (omega (arith, ints, m))
