use Rattle.std.proofs.Common.{◌∙◌, List, length, pos, ◌≤ℤ◌, true, refl, ap, sym, subst}
use Rattle.std.specs.List.{All}
use Rattle.std.proofs.lemmas.Int.{to_z-of_z}
use Rattle.std.proofs.lemmas.List.{length-replicate}
use Rattle.std.proofs.lemmas.Result.{IfOk-from_err}
use mir.Syntax.{w128}
use Rattle.sfm_spec.specs.Bounds.{IsGiven}
use Rattle.sfm_spec.specs.Kinds.{Group}
use Rattle.sfm_base.proofs.Elements.{placed_few}
use Rattle.sfm_laminar.specs.Groups.{IsGroup, AreGroups}
use Rattle.sfm_laminar.specs.LaminarLaws.{basis_of}
use Rattle.sfm_laminar.proofs.Kept.{basis_from}
use Rattle.sfm_laminar.proofs.laminar.Laminar.uncrossed.Goals as goal
use Rattle.sfm_laminar.proofs.laminar.Laminar.uncrossed.Goals.{After-places}

-- the groups are sound, within the places, and none cross
grouped : (c : After-places) → AreGroups (length c.args.elements.now) c.args.groups
grouped c =
    let P : List Group → Type 0 = λ gs. All IsGroup gs in
    record {
      each = subst P c.groups.view_is c.groups.invariant;
      below = c.requires.below;
      none = c.requires.none;
    }

pub grow-requires-clause-grouped : goal.grow-requires-clause-grouped
grow-requires-clause-grouped c =
    rw (ap length c.in_ok-all.ensures ∙ length-replicate (length c.args.elements.now) true)
    (grouped (goal.at.grow-requires-clause-grouped c).After-places)

pub grow-requires-clause-few : goal.grow-requires-clause-few
grow-requires-clause-few c =
    let k = length c.args.elements.now in
    rw (ap length c.in_ok-all.ensures ∙ length-replicate k true)
    (placed_few 256 c.args.elements.now c.requires.elements.placed)

pub invariant_of-result-clause-few : goal.invariant_of-result-clause-few
invariant_of-result-clause-few c =
    rw c.in_ok-places.ensures (placed_few 256 c.args.elements.now c.requires.elements.placed)

pub invariant_of-result-clause-grouped : goal.invariant_of-result-clause-grouped
invariant_of-result-clause-grouped c =
    rw c.in_ok-places.ensures (grouped (goal.at.invariant_of-result-clause-grouped c).After-places)

pub invariant_of-result-clause-based : goal.invariant_of-result-clause-based
invariant_of-result-clause-based c =
    basis_from (length c.args.elements.now) c.args.groups _ _ c.in_ok-all.ensures
    c.in_ok-basis.ensures ∙ ap (λ n. basis_of n c.args.groups)
    (ap length (sym c.in_ok-places.ensures))

pub invariant_of-result-clause-indexed : goal.invariant_of-result-clause-indexed
invariant_of-result-clause-indexed c = rw c.in_ok-places.ensures c.in_ok-index.ensures

pub invariant_of-result-clause-masked : goal.invariant_of-result-clause-masked
invariant_of-result-clause-masked c = rw c.in_ok-places.ensures c.in_ok-masks.ensures

pub invariant_of-result-clause-elements : goal.invariant_of-result-clause-elements
invariant_of-result-clause-elements c = rw c.in_ok-places.ensures c.requires.elements

pub invariant_of-result-clause-low : goal.invariant_of-result-clause-low
invariant_of-result-clause-low c =
    subst (λ z. pos 0 ≤ℤ z) (sym (to_z-of_z w128 c.args.w c.ranges.w)) c.requires.low

pub invariant_of-result-clause-given : goal.invariant_of-result-clause-given
invariant_of-result-clause-given c = subst IsGiven (sym (to_z-of_z w128 c.args.w c.ranges.w))
    c.requires.given

pub new-requires-2 : goal.new-requires-2
new-requires-2 c = record { below = c.requires.below }

pub grow-requires-clause-indexed : goal.grow-requires-clause-indexed
grow-requires-clause-indexed c =
    rw (ap length c.in_ok-all.ensures ∙ length-replicate (length c.args.elements.now) true)
    c.in_ok-index.ensures

pub returns : goal.returns
returns c = (c.in_ok-places.ensures, to_z-of_z w128 c.args.w c.ranges.w, refl)

pub returns-in_err-places : goal.returns-in_err-places
returns-in_err-places c = IfOk-from_err _ _ c.from_residual.ensures.0

pub returns-in_err-all : goal.returns-in_err-all
returns-in_err-all c = IfOk-from_err _ _ c.from_residual-in_err-all.ensures.0

pub returns-in_err-index : goal.returns-in_err-index
returns-in_err-index c = IfOk-from_err _ _ c.from_residual-in_err-index.ensures.0

pub returns-in_err-basis : goal.returns-in_err-basis
returns-in_err-basis c = IfOk-from_err _ _ c.from_residual-in_err-basis.ensures.0

pub returns-in_err-masks : goal.returns-in_err-masks
returns-in_err-masks c = IfOk-from_err _ _ c.from_residual-in_err-masks.ensures.0
