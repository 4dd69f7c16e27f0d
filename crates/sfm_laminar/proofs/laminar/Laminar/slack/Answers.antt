use Rattle.std.proofs.Common.{◌≡◌, ◌∙◌, ◌*ℤ◌, ◌-ℤ◌, length, ap, pos, FitsSigned}
use Rattle.std.specs.Int.{int_min}
use Rattle.std.proofs.lemmas.Int.{to_z-of_z}
use mir.Syntax.{w128}
use Rattle.sfm_laminar.specs.Crossing.{group_at}
use Rattle.sfm_laminar.specs.Masks.{sum_listed}
use Rattle.sfm_laminar.specs.Rooms.{bound_of}
use Rattle.sfm_law.proofs.Fits.{difference_fits}
use Rattle.sfm_laminar.proofs.laminar.Laminar.slack.Goals as goal

pub overflow_sub-result : goal.overflow_sub-result
overflow_sub-result c =
    let fb : FitsSigned w128 c.bound.result = record { sfits = c.bound.type_inv } in
    let fs : FitsSigned w128 c.sum_listed.result = record { sfits = c.sum_listed.type_inv } in
    simp to_z-of_z (difference_fits _ _ c.bound.ensures.small c.sum_listed.ensures.small)

pub returns : goal.returns
returns c =
    let s = c.args.self.now in
    let g = group_at s.groups c.args.i in
    let q = c.args.q in
    let fq : FitsSigned w128 q = c.ranges.q in
    let fp : FitsSigned w128 c.place_most.result = record { sfits = c.place_most.type_inv } in
    let fb : FitsSigned w128 c.bound.result = record { sfits = c.bound.type_inv } in
    let fs : FitsSigned w128 c.sum_listed.result = record { sfits = c.sum_listed.type_inv } in
    let fd : FitsSigned w128 (c.bound.result -ℤ c.sum_listed.result) = difference_fits _ _
    c.bound.ensures.small c.sum_listed.ensures.small in
    let p = simp to_z-of_z at c.place_most.ensures.value in
    let b = simp to_z-of_z at c.bound.ensures.value in
    let is : c.bound.result ≡ bound_of q s.w g = b
    ∙ ap (λ m. m *ℤ int_min c.group-group.result.now.cap
    (pos (length c.group-group.result.now.members))) p
    ∙ ap (λ h. (q *ℤ s.w) *ℤ int_min h.cap (pos (length h.members)))
    c.group-group.ensures.group in
    let sum : c.sum_listed.result ≡ sum_listed g.members c.args.x.now = c.sum_listed.ensures.sum
    ∙ ap (λ es. sum_listed es c.args.x.now) c.members.ensures
    ∙ ap (λ h. sum_listed h.members c.args.x.now) c.group-group.ensures.group in
    simp to_z-of_z (ap (λ a. a -ℤ c.sum_listed.result) is ∙ ap (λ a. bound_of q s.w g -ℤ a) sum)

pub bound-requires-clause-low : goal.bound-requires-clause-low
bound-requires-clause-low c = let fp : FitsSigned w128
    c.place_most.result = record { sfits = c.place_most.type_inv } in simp to_z-of_z
    c.place_most.ensures.low

pub bound-requires-clause-high : goal.bound-requires-clause-high
bound-requires-clause-high c =
    let fp : FitsSigned w128 c.place_most.result = record {
      sfits = c.place_most.type_inv;
    } in simp to_z-of_z c.place_most.ensures.high
