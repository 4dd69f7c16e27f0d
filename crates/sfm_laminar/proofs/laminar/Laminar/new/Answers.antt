use Rattle.std.proofs.Common.{refl, FitsSigned}
use Rattle.std.proofs.lemmas.Int.{to_z-of_z}
use Rattle.std.proofs.lemmas.Result.{IfOk-from_err}
use mir.Syntax.{w128}
use Rattle.sfm_laminar.proofs.Ends.{memory_apart, ok_apart, same_crossing, crossing_at, memory_told}
use Rattle.sfm_laminar.proofs.Leasts.{first_once}
use Rattle.sfm_laminar.proofs.laminar.Laminar.new.Goals as goal

pub returns-in-Some-clause-crosses : goal.returns-in-Some-clause-crosses
returns-in-Some-clause-crosses c = λ first second. (
  (λ e. let s = same_crossing _ _ _ _ _ _ refl e in rw (← s.0, ← s.1) c.in-Some.ensures),
  (λ x. let o = first_once c.args.groups _ _ first second c.in-Some.ensures x in crossing_at _ _ _
      first second _ refl o.0 o.1),
)

pub returns-in_err-uncrossed-clause-crosses : goal.returns-in_err-uncrossed-clause-crosses
returns-in_err-uncrossed-clause-crosses c = λ first second. (
  (λ e. absurd (memory_apart _ _ first second (memory_told _ _ c.from_residual.ensures.1) e)),
  (λ x. absurd (c.in_default.ensures first second x.crossing)),
)

pub returns-clause-crosses : goal.returns-clause-crosses
returns-clause-crosses c = λ first second. (
  (λ e. absurd (ok_apart _ _ _ first second refl e)),
  (λ x. absurd (c.in_default.ensures first second x.crossing)),
)

pub returns-in_err-uncrossed-clause-none : goal.returns-in_err-uncrossed-clause-none
returns-in_err-uncrossed-clause-none c = IfOk-from_err _ _ c.from_residual.ensures.0

pub returns-in_err-uncrossed-clause-tried : goal.returns-in_err-uncrossed-clause-tried
returns-in_err-uncrossed-clause-tried c = λ e. c.in_default.ensures

pub returns-in_err-uncrossed-clause-places : goal.returns-in_err-uncrossed-clause-places
returns-in_err-uncrossed-clause-places c = IfOk-from_err _ _ c.from_residual.ensures.0

pub returns-in_err-uncrossed-clause-number : goal.returns-in_err-uncrossed-clause-number
returns-in_err-uncrossed-clause-number c = IfOk-from_err _ _ c.from_residual.ensures.0

pub returns-in_err-uncrossed-clause-groups : goal.returns-in_err-uncrossed-clause-groups
returns-in_err-uncrossed-clause-groups c = IfOk-from_err _ _ c.from_residual.ensures.0

pub returns-clause-none : goal.returns-clause-none
returns-clause-none c = c.in_default.ensures

pub returns-clause-tried : goal.returns-clause-tried
returns-clause-tried c = λ e. c.in_default.ensures

pub returns-clause-places : goal.returns-clause-places
returns-clause-places c = c.in_ok-uncrossed.ensures.0

pub returns-clause-number : goal.returns-clause-number
returns-clause-number c = let fw : FitsSigned w128 c.args.w = c.ranges.w in simp to_z-of_z at
    c.in_ok-uncrossed.ensures.1

pub returns-clause-groups : goal.returns-clause-groups
returns-clause-groups c = c.in_ok-uncrossed.ensures.2

pub uncrossed-requires-clause-none : goal.uncrossed-requires-clause-none
uncrossed-requires-clause-none c = c.in_default.ensures

pub uncrossed-requires-clause-below : goal.uncrossed-requires-clause-below
uncrossed-requires-clause-below c = c.requires.below

pub uncrossed-requires-clause-elements : goal.uncrossed-requires-clause-elements
uncrossed-requires-clause-elements c = c.requires.elements

pub uncrossed-requires-clause-low : goal.uncrossed-requires-clause-low
uncrossed-requires-clause-low c = let fw : FitsSigned w128 c.args.w = c.ranges.w in simp to_z-of_z
    c.requires.low

pub uncrossed-requires-clause-given : goal.uncrossed-requires-clause-given
uncrossed-requires-clause-given c = let fw : FitsSigned w128 c.args.w = c.ranges.w in simp to_z-of_z
    c.requires.given
