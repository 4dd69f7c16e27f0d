use Rattle.std.proofs.Common.{◌≡◌, ◌∙◌, ℕ, zero, suc, ◌<◌, Bool, false, Option, Some, None, List, length, refl, get_or, nat_eq, sym, ap, arith, FitsSigned}
use Rattle.std.proofs.lemmas.Bool.{eqb-true, false≢true}
use Rattle.std.proofs.lemmas.Int.{to_z-of_z}
use mir.Syntax.{w128}
use Rattle.sfm_assign.specs.Splits.{CanBeMet, Demands}
use Rattle.sfm_assign.specs.declared.kept.Kept.{Kept}
use Rattle.sfm_graphic.specs.Ends.{edges_of}
use Rattle.sfm_matroid.specs.Notes.{IsSplitOrNone}
use Rattle.sfm_matroid.proofs.Fits.{amounts_count}
use Rattle.sfm_graphic.proofs.Labels.{length-edges}
use Rattle.sfm_graphic.proofs.Numbering.{length-vertices, pair-below}
use Rattle.sfm_graphic.proofs.Passed.{end_amounts_passed}
use Rattle.sfm_graphic.proofs.SplitTests.{within_ends_split}
use Rattle.sfm_graphic.proofs.Tails.{tail_at}
use Rattle.sfm_graphic.proofs.testing.passes_tails.Goals as goal

not_none : (n : ℕ) (r : Bool) → r ≡ nat_eq n 0 → r ≡ false → 0 < n
not_none zero r e f = absurd (false≢true (sym f ∙ e))
not_none (suc n) r e f = omega arith

none_split : (d : Demands) (o : Option Kept) → ((k : Kept) → o ≡ Some k → ⊥) → IsSplitOrNone d o
    → CanBeMet d.demands d.lists d.capacities → ⊥
none_split d None none is can = is can
none_split d (Some k) none is can = none k refl

pub returns : goal.returns
returns c =
    let fm : FitsSigned w128 c.args.most = c.ranges.most in
    simp to_z-of_z at c.passes_each.ensures

pub returns-in_default : goal.returns-in_default
returns-in_default c =
    let r = c.requires in
    let g = c.args.graph.now in
    let ends = g.ends in
    let x = c.args.x.now in
    let fm : FitsSigned w128 c.args.most = c.ranges.most in
    let none = none_split _ _ c.in_default.not-Some
    (simp to_z-of_z at (rw c.in_ok-demand.ensures at c.in_ok-kept.ensures)) in
    let is = c.as_slice-ends.ensures in
    let some : 0 < length ends = rw is at (not_none _ _ c.is_empty.ensures c.if-is_empty.false) in
    let first = (get_or c.as_slice-ends.result.now 0 (0, 0)).0 in
    let lt : first < g.vertices = rw is (pair-below ends g.vertices 0 g.below some).0 in
    let tail = tail_at ends first 0 some
    (sym (ap (λ (pairs : List (ℕ × ℕ)). (get_or pairs 0 (0, 0)).0) is)) in (
      (λ t. absurd (false≢true t)),
      (λ h. absurd (none (within_ends_split (edges_of ends) g.vertices g.below c.args.most x r.sized
          first lt r.low (amounts_count x r.amounts) (h first lt tail)))),
    )

pub returns-then-is_empty : goal.returns-then-is_empty
returns-then-is_empty c =
    let g = c.args.graph.now in
    let l = length-edges g.ends in
    let none = eqb-true _ 0 (sym c.is_empty.ensures ∙ c.if-is_empty.true) in
    let same = ap length c.as_slice-ends.ensures in
    ((λ t a lt (e, le, is). absurd (omega (arith, l, le, none, same))), (λ h. refl))

pub end_demand-requires : goal.end_demand-requires
end_demand-requires c = end_amounts_passed _ c.args.most c.args.x.now c.requires

pub passes_each-requires-clause-amounts : goal.passes_each-requires-clause-amounts
passes_each-requires-clause-amounts c = end_amounts_passed _ c.args.most c.args.x.now c.requires

pub passes_each-requires-clause-over : goal.passes_each-requires-clause-over
passes_each-requires-clause-over c =
    let h = rw c.in-Some.is at (rw c.in_ok-demand.ensures at c.in_ok-kept.ensures) in
    rw h.0 (record { places = c.requires.sized; lists = refl; vertices = length-vertices _ _ _ })
