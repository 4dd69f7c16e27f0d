-- The groups are those that are kept, and two that cross are told by the term.
use Rattle.std.proofs.Common.{◌≡◌, ap, Err, ◌∙◌, to_z, of_z, arith}
use Rattle.std.specs.Int.{w128}
use Rattle.std.proofs.lemmas.Int.{ints}
use Rattle.sfm_lines.proofs.least_groups.with_kept.Goals as goal

pub new-requires-clause-below : goal.new-requires-clause-below
new-requires-clause-below c = rw c.in_ok-groups.ensures c.requires.below

pub returns-in-Err-Crosses : goal.returns-in-Err-Crosses
returns-in-Err-Crosses c =
    let arm = c.in-Err-Crosses in
    let first = (arm.ensures.crosses arm.field-0-0 arm.field-0-1).0
    (ap (λ e. Err e) arm.field-0-is) in
    (arm.field-0-0, arm.field-0-1, rw c.in_ok-groups.ensures at first.crossing)

pub returns-in-Ok : goal.returns-in-Ok
returns-in-Ok c =
    let number : to_z w128 (of_z w128 c.args.w)
    ≡ c.args.w = omega (arith, ints, c.requires.given.low, c.requires.given.high) in (
      c.in-Ok.ensures.places,
      c.in-Ok.ensures.number ∙ number,
      c.in-Ok.ensures.groups
          ∙ c.in_ok-groups.ensures,
      λ i j h. c.in-Ok.ensures.none i j (rw c.in_ok-groups.ensures h),
    )
