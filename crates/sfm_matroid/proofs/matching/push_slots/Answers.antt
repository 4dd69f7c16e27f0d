use Rattle.std.proofs.Common.{◌≡◌, ◌∙◌, ◌<◌, ◌++◌, ◌∷◌, List, [], ℕ, length, get_or, pos, ap, refl, sym, arith}
use Rattle.std.proofs.lemmas.Int.{to_z-of_z}
use Rattle.std.proofs.lemmas.Grind.{take_at_read}
use Rattle.std.proofs.lemmas.List.{get_or_read, length-take-le, take_all}
use Rattle.std.proofs.lemmas.List.Elements.{All-get_or}
use Rattle.sfm_assign.specs.Splits.{IsAmount}
use Rattle.sfm_matroid.proofs.Fits.{amount_fits}
use Rattle.sfm_matroid.proofs.Demands.{demands-push, same_demands}
use Rattle.sfm_matroid.proofs.matching.push_slots.Goals as goal
use Rattle.sfm_matroid.proofs.matching.push_slots.Goals.{In_ok-write_numbers}

-- the slots that are put are those of the entry
slots : (c : In_ok-write_numbers) → (c.loop-e.e < length c.args.entries.now)
    × (c.write_numbers.new.numbers.items ≡ get_or c.args.entries.now c.loop-e.e [])
slots c =
    let e = c.loop-e.e in
    let are = c.as_slice-items.ensures in (
      rw are at c.loop-e-test.true,
      c.in_ok-write_numbers.ensures
          ∙ (c.as_slice.ensures ∙ (get_or_read c.as_slice-items.result.now e c.index-items-e.result
          c.loop-e-test.true c.index-items-e.is [] ∙ ap (λ (es : List (List ℕ)). get_or es e [])
          are)),
    )

pub loop-e-init : goal.loop-e-init
loop-e-init c = record { demands = c.requires.none.0; lists = c.requires.none.1; capacities = refl }

pub push-requires-clause-exist : goal.push-requires-clause-exist
push-requires-clause-exist c =
    let (le, item) = slots (goal.at.push-requires-clause-exist
    c).In_ok-write_numbers in rw (
      ap length c.loop-e.invariant.capacities,
      c.deref.ensures.value,
      item,
    ) (c.requires.below c.loop-e.e [] le)

pub push-requires-clause-few : goal.push-requires-clause-few
push-requires-clause-few c =
    let x = c.args.x.now in
    let e = c.loop-e.e in
    let (le, item) = slots (goal.at.push-requires-clause-few c).In_ok-write_numbers in
    let l = ap length c.loop-e.invariant.demands
    ∙ length-take-le e x (omega (arith, le, c.requires.sized)) in
    omega (arith, l, le, c.requires.few)

pub loop-e-preserved : goal.loop-e-preserved
loop-e-preserved c =
    let x = c.args.x.now in
    let entries = c.args.entries.now in
    let e = c.loop-e.e in
    let inv = c.loop-e.invariant in
    let (le, item) = slots (goal.at.loop-e-preserved c).In_ok-write_numbers in
    let lx : e < length x = omega (arith, le, c.requires.sized) in
    let fx = amount_fits _ (All-get_or IsAmount x e (pos 0) lx c.requires.amounts) in
    record {
      demands = ap (λ d. d.demands) c.in_ok-push.ensures
          ∙ simp to_z-of_z (demands-push x c.loop-e.demand.demands e (pos 0) lx inv.demands);
      lists = ap (λ d. d.lists) c.in_ok-push.ensures
          ∙ (ap (λ z. c.loop-e.demand.lists ++ z ∷ []) (c.deref.ensures.value ∙ item)
          ∙ (ap (λ ls. ls ++ get_or entries e [] ∷ []) inv.lists
          ∙ sym (take_at_read entries e [] le).1));
      capacities = ap (λ d. d.capacities) c.in_ok-push.ensures ∙ inv.capacities;
    }

pub returns : goal.returns
returns c =
    let x = c.args.x.now in
    let entries = c.args.entries.now in
    let e = c.loop-e.e in
    let inv = c.loop-e.invariant in
    let end = rw c.as_slice-items.ensures at c.loop-e-test.false in
    same_demands c.loop-e.demand x entries c.args.demand.now.capacities
    (inv.demands ∙ take_all e x (rw c.requires.sized end)) (inv.lists ∙ take_all e entries end)
    inv.capacities
