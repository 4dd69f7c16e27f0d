use Rattle.std.proofs.Common.{ℕ, List, get_or, ℤ, pos, ◌+ℤ◌, ◌-ℤ◌, to_z, of_z, arith, FitsSigned, refl}
use Rattle.std.proofs.lemmas.Int.{ints, to_z-of_z}
use Rattle.std.proofs.lemmas.List.Elements.{All-get_or}
use mir.Syntax.{w128}
use Rattle.sfm_spec.specs.Terms.{exchanged}
use Rattle.sfm_spec.proofs.Sums.{length-exchanged}
use Rattle.sfm_spec.proofs.MoveOrder.{exchanged-first, exchanged-second}
use Rattle.sfm_assign.specs.Splits.{IsAmount}
use Rattle.sfm_matroid.specs.Amounts.{CanMove}
use Rattle.sfm_matroid.proofs.Fits.{amount_fits}
use Rattle.sfm_matroid.proofs.room.moved.Goals as goal

sum_passed : (a b : ℤ) → FitsSigned w128 a → FitsSigned w128 b → FitsSigned w128 (a +ℤ b)
    → FitsSigned w128 (to_z w128 (of_z w128 a) +ℤ to_z w128 (of_z w128 b))
sum_passed a b fa fb h = simp to_z-of_z h

difference_passed : (a b : ℤ) → FitsSigned w128 a → FitsSigned w128 b → FitsSigned w128 (a -ℤ b)
    → FitsSigned w128 (to_z w128 (of_z w128 a) -ℤ to_z w128 (of_z w128 b))
difference_passed a b fa fb h = simp to_z-of_z h

-- what u and v have before and after
record DoFit (x : List ℤ) (u v : ℕ) (a : ℤ) : Type 0 where
  moves : FitsSigned w128 a
  has_u : FitsSigned w128 (get_or x u (pos 0))
  more : FitsSigned w128 (get_or x u (pos 0) +ℤ a)
  has_v : FitsSigned w128 (get_or x v (pos 0))
  less : FitsSigned w128 (get_or x v (pos 0) -ℤ a)

do_fit : (x : List ℤ) (u v : ℕ) (a : ℤ) → CanMove x u v a → DoFit x u v a
do_fit x u v a r =
    let l = length-exchanged x u v a in
    let eu = rw (exchanged-first x u v a r.from r.apart) at
    (All-get_or IsAmount (exchanged x u v a) u (pos 0) (omega (arith, r.from, l)) r.after) in
    let ev = rw (exchanged-second x u v a r.onto) at
    (All-get_or IsAmount (exchanged x u v a) v (pos 0) (omega (arith, r.onto, l)) r.after) in
    let xu = All-get_or IsAmount x u (pos 0) r.from r.before in
    let xv = All-get_or IsAmount x v (pos 0) r.onto r.before in
    record {
      moves = omega (arith, ints, xu, eu);
      has_u = amount_fits _ xu;
      more = amount_fits _ eu;
      has_v = amount_fits _ xv;
      less = amount_fits _ ev;
    }

pub overflow_add-x : goal.overflow_add-x
overflow_add-x c = let h = do_fit _ _ _ _ c.requires in sum_passed _ _ h.has_u h.moves h.more

pub overflow_sub-x : goal.overflow_sub-x
overflow_sub-x c = let h = do_fit _ _ _ _ c.requires in difference_passed _ _ h.has_v h.moves h.less

pub returns : goal.returns
returns c =
    let x = c.args.x.now in
    let s = c.args.swap.now in
    let h = do_fit x s.u s.v s.a c.requires in
    let fa : FitsSigned w128 s.a = h.moves in
    let fu : FitsSigned w128 (get_or x s.u (pos 0)) = h.has_u in
    let fs : FitsSigned w128 (get_or x s.u (pos 0) +ℤ s.a) = h.more in
    let fv : FitsSigned w128 (get_or x s.v (pos 0)) = h.has_v in
    let fd : FitsSigned w128 (get_or x s.v (pos 0) -ℤ s.a) = h.less in
    rw c.in_ok-after.ensures.items (simp to_z-of_z refl)
