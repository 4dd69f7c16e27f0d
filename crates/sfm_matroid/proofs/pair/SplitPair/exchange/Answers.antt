use Rattle.std.proofs.Common.{◌≡◌, List, length, None, get_or, ℤ, pos, ◌+ℤ◌, ◌-ℤ◌, Some, refl, sym, ap, ◌∙◌, FitsSigned}
use Rattle.std.proofs.lemmas.Int.{to_z-of_z}
use mir.Syntax.{w128}
use Rattle.sfm_spec.proofs.Sums.{length-exchanged}
use Rattle.sfm_assign.specs.Splits.{Demands}
use Rattle.sfm_assign.specs.declared.kept.Kept.{Kept}
use Rattle.sfm_matroid.specs.Amounts.{IsBeside}
use Rattle.sfm_matroid.specs.Notes.{apart_at, IsNear}
use Rattle.sfm_matroid.proofs.Beside.{spare_there, beside_back}
use Rattle.sfm_matroid.proofs.Exchanges.{DoFit, near_there, left, can_exchange, is_exchanged, do_fit}
use Rattle.sfm_matroid.proofs.pair.SplitPair.exchange.Goals.{After-demands-y}
use Rattle.sfm_matroid.proofs.pair.SplitPair.exchange.Goals as goal

-- what the spare split was left at
left_at : (c : After-demands-y) (held : List ℤ) → IsNear c.args.self.now held
    → (b d : ℤ) × (c.in-Some-spare.spare.demand ≡ apart_at c.args.self.now.kept.demand
    (record { u = c.args.swap.now.u; v = c.args.swap.now.v }) b d held)
left_at c held h =
    near_there c.args.self.now.kept.demand held c.in-Some.near
    (record { u = c.args.swap.now.u; v = c.args.swap.now.v }) c.in-Some-spare.spare
    c.in-Some-spare.spare
    (λ i. Some (record { u = c.if-near-swap.false i; v = c.if-near-swap-2.false i })) refl
    (h c.in-Some.near c.in-Some-spare.spare (sym c.take.ensures.value ∙ c.in-Some.is)
    c.in-Some-spare.is)

-- the numbers of the places fit
numbers : (c : After-demands-y) → DoFit c.args.self.now.kept.demand.demands
    c.in-Some-spare.spare.demand.demands c.args.swap.now.u c.args.swap.now.v c.args.swap.now.a
numbers c =
    let can = c.requires.can in
    let s = c.args.swap.now in
    let (held, h) = c.requires.near in
    let (b, d, is) = left_at c held h in
    rw is (do_fit c.args.self.now.kept.demand.demands s.u s.v s.a b d can
    (rw is at c.demands-y.ensures.sound.amounts))

pub overflow_add-changes : goal.overflow_add-changes
overflow_add-changes c =
    let path = (goal.at.overflow_add-changes c).After-demands-y in
    let x = c.args.self.now.kept.demand.demands in
    let s = c.args.swap.now in
    let f = numbers path in
    let fa : FitsSigned w128 s.a = f.moves in
    let fx : FitsSigned w128 (get_or x s.u (pos 0)) = f.x_u in
    rw c.demands-x.ensures.value (simp to_z-of_z f.up)

pub overflow_sub-changes : goal.overflow_sub-changes
overflow_sub-changes c =
    let path = (goal.at.overflow_sub-changes c).After-demands-y in
    let x = c.args.self.now.kept.demand.demands in
    let s = c.args.swap.now in
    let f = numbers path in
    let y = c.in-Some-spare.spare.demand.demands in
    let fa : FitsSigned w128 s.a = f.moves in
    let fx : FitsSigned w128 (get_or x s.u (pos 0)) = f.x_u in
    let fu : FitsSigned w128 (get_or x s.u (pos 0) +ℤ s.a) = f.up in
    let fy : FitsSigned w128 (get_or y s.u (pos 0)) = f.y_u in
    rw (c.demands-x.ensures.value, c.demands-y.ensures.value) (simp to_z-of_z f.more_u)

pub overflow_sub-changes-2 : goal.overflow_sub-changes-2
overflow_sub-changes-2 c =
    let path = (goal.at.overflow_sub-changes-2 c).After-demands-y in
    let x = c.args.self.now.kept.demand.demands in
    let s = c.args.swap.now in
    let f = numbers path in
    let fa : FitsSigned w128 s.a = f.moves in
    let fx : FitsSigned w128 (get_or x s.v (pos 0)) = f.x_v in
    rw c.demands-x.ensures.value (simp to_z-of_z f.down)

pub overflow_sub-changes-3 : goal.overflow_sub-changes-3
overflow_sub-changes-3 c =
    let path = (goal.at.overflow_sub-changes-3 c).After-demands-y in
    let x = c.args.self.now.kept.demand.demands in
    let s = c.args.swap.now in
    let f = numbers path in
    let y = c.in-Some-spare.spare.demand.demands in
    let fa : FitsSigned w128 s.a = f.moves in
    let fx : FitsSigned w128 (get_or x s.v (pos 0)) = f.x_v in
    let fd : FitsSigned w128 (get_or x s.v (pos 0) -ℤ s.a) = f.down in
    let fy : FitsSigned w128 (get_or y s.v (pos 0)) = f.y_v in
    rw (c.demands-x.ensures.value, c.demands-y.ensures.value) (simp to_z-of_z f.more_v)

pub bring_changed-requires : goal.bring_changed-requires
bring_changed-requires c =
    let path = (goal.at.bring_changed-requires c).After-demands-y in
    let can = c.requires.can in
    let x = c.args.self.now.kept.demand.demands in
    let s = c.args.swap.now in
    let (held, h) = c.requires.near in
    let (b, d, is) = left_at path held h in
    let f = do_fit x s.u s.v s.a b d can (rw is at c.demands-y.ensures.sound.amounts) in
    let fa : FitsSigned w128 s.a = f.moves in
    let fx : FitsSigned w128 (get_or x s.u (pos 0)) = f.x_u in
    let fu : FitsSigned w128 (get_or x s.u (pos 0) +ℤ s.a) = f.up in
    let fy : FitsSigned w128 (get_or (left x s.u s.v s.a b d can) s.u (pos 0)) = f.y_u in
    let fd : FitsSigned w128 ((get_or x s.u (pos 0) +ℤ s.a)
    -ℤ get_or (left x s.u s.v s.a b d can) s.u (pos 0)) = f.more_u in
    let fxv : FitsSigned w128 (get_or x s.v (pos 0)) = f.x_v in
    let fl : FitsSigned w128 (get_or x s.v (pos 0) -ℤ s.a) = f.down in
    let fyv : FitsSigned w128 (get_or (left x s.u s.v s.a b d can) s.v (pos 0)) = f.y_v in
    let fdv : FitsSigned w128 ((get_or x s.v (pos 0) -ℤ s.a)
    -ℤ get_or (left x s.u s.v s.a b d can) s.v (pos 0)) = f.more_v in
    rw (c.demands-x.ensures.value, c.demands-y.ensures.value, is)
    (simp to_z-of_z (can_exchange x s.u s.v s.a b d can))

pub returns-in-Ok-clause-kept : goal.returns-in-Ok-clause-kept
returns-in-Ok-clause-kept c = λ held h.
    let path = (goal.at.returns-in-Ok-clause-kept c).After-demands-y in
    let can = c.requires.can in
    let x = c.args.self.now.kept.demand.demands in
    let s = c.args.swap.now in
    let y = c.in-Some-spare.spare.demand.demands in
    let (b, d, is) = left_at path held h in
    let f = numbers path in
    let fa : FitsSigned w128 s.a = f.moves in
    let fx : FitsSigned w128 (get_or x s.u (pos 0)) = f.x_u in
    let fu : FitsSigned w128 (get_or x s.u (pos 0) +ℤ s.a) = f.up in
    let fy : FitsSigned w128 (get_or y s.u (pos 0)) = f.y_u in
    let fd : FitsSigned w128 ((get_or x s.u (pos 0) +ℤ s.a) -ℤ get_or y s.u (pos 0)) = f.more_u in
    let fxv : FitsSigned w128 (get_or x s.v (pos 0)) = f.x_v in
    let fl : FitsSigned w128 (get_or x s.v (pos 0) -ℤ s.a) = f.down in
    let fyv : FitsSigned w128 (get_or y s.v (pos 0)) = f.y_v in
    let fdv : FitsSigned w128 ((get_or x s.v (pos 0) -ℤ s.a) -ℤ get_or y s.v (pos 0)) = f.more_v in
    let told = simp to_z-of_z at
    (rw (c.demands-x.ensures.value, c.demands-y.ensures.value) at c.in-Ok.ensures.brought) in
    let told' = rw is at told in
    ap (λ (k : Kept). k.demand) c.swap.ensures.x_after ∙ (told'
    ∙ (λ i. record {
      demands = is_exchanged x s.u s.v s.a b d can i;
      lists = c.args.self.now.kept.demand.lists;
      capacities = held;
    }))

pub returns-in-Ok-clause-spare : goal.returns-in-Ok-clause-spare
returns-in-Ok-clause-spare c =
    let path = goal.at.returns-in-Ok-clause-spare c in
    let p = c.args.self.now in
    let (held, h) = c.requires.near in
    let (b, d, is) = left_at path.After-demands-y held h in
    let told = returns-in-Ok-clause-kept c held h in
    let before = c.requires.spare c.in-Some-spare.spare c.in-Some-spare.is in
    let slots = rw is at before.slots in
    let after : IsBeside p.kept.demand c.swap.new.x.demand = record {
      lists = ap (λ (d : Demands). d.lists) told;
      places = ap (λ (d : Demands). length d.demands) told ∙ length-exchanged _ _ _ _;
      slots = ap (λ (d : Demands). length d.capacities) told ∙ slots;
    } in
    spare_there (record { kept = c.swap.new.x; spare = Some c.swap.new.y; near = None })
    c.swap.new.y refl
    (rw c.swap.ensures.y_after (beside_back p.kept.demand c.swap.new.x.demand after))

pub returns-in-Err-Shortage-clause-spare : goal.returns-in-Err-Shortage-clause-spare
returns-in-Err-Shortage-clause-spare c =
    let p = c.args.self.now in
    spare_there (record { kept = p.kept; spare = Some c.bring_changed.new.self; near = None })
    c.bring_changed.new.self refl
    (rw c.in-Err-Shortage.ensures.unchanged
    (c.requires.spare c.in-Some-spare.spare c.in-Some-spare.is))

pub returns-in-Err-Shortage-clause-kept : goal.returns-in-Err-Shortage-clause-kept
returns-in-Err-Shortage-clause-kept c = refl
