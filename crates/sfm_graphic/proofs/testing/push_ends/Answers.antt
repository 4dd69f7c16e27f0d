use Rattle.std.proofs.Common.{◌∙◌, ◌<◌, ◌∷◌, [], length, get_or, ap, pos, refl, arith, FitsSigned}
use Rattle.std.proofs.lemmas.Int.{to_z-of_z}
use Rattle.std.proofs.lemmas.List.{length-map, length-take-le, take_all}
use Rattle.std.proofs.lemmas.List.Elements.{All-get_or}
use mir.Syntax.{w128}
use Rattle.sfm_assign.specs.Splits.{IsAmount}
use Rattle.sfm_graphic.specs.Ends.{edges_of}
use Rattle.sfm_graphic.specs.Numbered.{end_lists, ends_of}
use Rattle.sfm_graphic.proofs.Labels.{length-edges}
use Rattle.sfm_matroid.proofs.Fits.{amount_fits}
use Rattle.sfm_graphic.proofs.Numbering.{pair-below, two-below, lists-push}
use Rattle.sfm_matroid.proofs.Demands.{demands-push, same_demands}
use Rattle.sfm_graphic.proofs.testing.push_ends.Goals as goal

pub loop-e-init : goal.loop-e-init
loop-e-init c = record { demands = c.requires.none.0; lists = c.requires.none.1; capacities = refl }

pub push-requires-clause-exist : goal.push-requires-clause-exist
push-requires-clause-exist c =
    let ends = c.args.ends.now in
    let m = length c.args.demand.now.capacities in
    let b = pair-below ends m c.loop-e.e c.requires.below c.loop-e-test.true in
    let pair = get_or ends c.loop-e.e (0, 0) in
    rw (ap length c.loop-e.invariant.capacities)
    (two-below (pair.0 ∷ pair.1 ∷ []) pair.0 pair.1 m refl b.0 b.1)

pub push-requires-clause-amount : goal.push-requires-clause-amount
push-requires-clause-amount c =
    let x = c.args.x.now in
    let e = c.loop-e.e in
    let amount = All-get_or IsAmount x e (pos 0)
    (omega (arith, c.loop-e-test.true, c.requires.sized)) c.requires.amounts in
    let fx : FitsSigned w128 (get_or x e (pos 0)) = amount_fits _ amount in
    simp to_z-of_z amount

pub push-requires-clause-few : goal.push-requires-clause-few
push-requires-clause-few c =
    let x = c.args.x.now in
    let e = c.loop-e.e in
    let l = ap length c.loop-e.invariant.demands
    ∙ length-take-le e x (omega (arith, c.loop-e-test.true, c.requires.sized)) in
    omega (arith, l, c.loop-e-test.true, c.requires.few)

pub loop-e-preserved : goal.loop-e-preserved
loop-e-preserved c =
    let e = c.loop-e.e in
    let inv = c.loop-e.invariant in
    let x = c.args.x.now in
    let le = c.loop-e-test.true in
    let pair = get_or c.args.ends.now e (0, 0) in
    let lx : e < length x = omega (arith, le, c.requires.sized) in
    let fx : FitsSigned w128 (get_or x e (pos 0)) = amount_fits _
    (All-get_or IsAmount x e (pos 0) lx c.requires.amounts) in
    record {
      demands = ap (λ d. d.demands) c.in_ok-push.ensures
          ∙ simp to_z-of_z (demands-push x c.loop-e.demand.demands e (pos 0) lx inv.demands);
      lists = ap (λ d. d.lists) c.in_ok-push.ensures
          ∙ lists-push c.args.ends.now c.loop-e.demand.lists (pair.0 ∷ pair.1 ∷ []) e le inv.lists
          refl;
      capacities = ap (λ d. d.capacities) c.in_ok-push.ensures ∙ inv.capacities;
    }

pub returns : goal.returns
returns c =
    let x = c.args.x.now in
    let ends = c.args.ends.now in
    let e = c.loop-e.e in
    let inv = c.loop-e.invariant in
    let end = c.loop-e-test.false in
    let lists = end_lists (edges_of ends) in
    let ll = length-map (edges_of ends) ends_of ∙ length-edges ends in
    same_demands c.loop-e.demand x lists c.args.demand.now.capacities
    (inv.demands ∙ take_all e x (rw c.requires.sized end))
    (inv.lists ∙ take_all e lists (rw ll end)) inv.capacities
