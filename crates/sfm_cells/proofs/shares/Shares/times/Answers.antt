use Rattle.std.proofs.Common.{◌≡◌, map, ◌*ℤ◌, ap, ◌∙◌, FitsSigned}
use Rattle.std.proofs.lemmas.Int.{to_z-of_z}
use mir.Syntax.{w128}
use Rattle.sfm_cells.proofs.shares.Shares.times.Goals as goal

pub list_times-requires : goal.list_times-requires
list_times-requires c =
    let fm : FitsSigned w128 c.args.m = c.ranges.m in
    rw c.deref.ensures.value (simp to_z-of_z c.requires)

pub returns-clause-amounts : goal.returns-clause-amounts
returns-clause-amounts c =
    let fm : FitsSigned w128 c.args.m = c.ranges.m in
    let m = c.args.m in
    let made : c.in_ok-list_times.field-0.items ≡ map (λ a. m *ℤ a)
    c.deref.result.now = simp to_z-of_z at c.in_ok-list_times.ensures in
    made ∙ ap (map (λ a. m *ℤ a)) c.deref.ensures.value
