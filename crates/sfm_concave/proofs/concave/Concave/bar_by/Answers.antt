use Rattle.std.proofs.Common.{◌≤◌, ◌-◌, length, get_or, pos, refl, arith, FitsSigned}
use Rattle.std.specs.List.{All}
use Rattle.std.proofs.lemmas.Bool.{both_ways}
use Rattle.std.proofs.lemmas.Int.{to_z-of_z}
use Rattle.std.proofs.lemmas.List.Elements.{All-get_or}
use mir.Syntax.{w128}
use Rattle.sfm_spec.specs.Bounds.{IsEntry}
use Rattle.sfm_law.proofs.Writes.{entry_fits}
use Rattle.sfm_concave.proofs.Ranks.{ranked_small}
use Rattle.sfm_concave.proofs.ConcaveRooms.{concave_at}
use Rattle.sfm_concave.proofs.ConcaveBars.{IsOwnCut, concave_own_some, concave_own_bar, concave_none_bar, concave_tight_bar}
use Rattle.sfm_concave.proofs.concave.Concave.bar_by.Goals as goal
use Rattle.sfm_concave.proofs.concave.Concave.bar_by.Goals.{After-count_upto-own, After-is_tight}

pub count_upto-own-requires-clause-small : goal.count_upto-own-requires-clause-small
count_upto-own-requires-clause-small c =
    let r = c.requires in
    let x = c.args.at.now.x.now in
    let few : length x ≤ 256 = omega (arith, c.args.self.now.few, r.entries) in
    ranked_small x c.args.ranking.sorted.now c.args.ranking.sums.now r.ranked few r.small

-- the entry of u is a number of 128 bits
entry : (c : After-count_upto-own) → FitsSigned w128 (get_or c.args.at.now.x.now c.args.u (pos 0))
entry c = entry_fits _ (All-get_or IsEntry c.args.at.now.x.now c.args.u (pos 0) c.requires.from
    c.requires.small)

-- what the search found
own : (c : After-count_upto-own)
    → IsOwnCut c.args.at.now.q c.args.self.now.values c.args.at.now.x.now c.args.ranking.sorted.now
    c.args.ranking.sums.now c.args.u c.count_upto-own.result
own c =
    let r = c.requires in
    let s = c.args.self.now in
    let fu = entry c in
    record {
      here = concave_at _ r.factor.low s.counted r.entries s.falling r.base;
      ranked = r.ranked;
      ku = r.from;
      cut = simp to_z-of_z at c.count_upto-own.ensures;
    }

pub overflow_sub-own : goal.overflow_sub-own
overflow_sub-own c = concave_own_some (own (goal.at.overflow_sub-own c).After-count_upto-own)

pub returns-then-is_tight : goal.returns-then-is_tight
returns-then-is_tight c =
    let after = (goal.at.returns-then-is_tight c).After-count_upto-own in
    let fu = entry after in
    simp to_z-of_z (concave_own_bar (own after) (c.if-is_tight.ensures.0 refl))

pub returns-in_err-i : goal.returns-in_err-i
returns-in_err-i c =
    rw c.from_residual.ensures (concave_none_bar
    (own (goal.at.returns-in_err-i c).After-count_upto-own)
    (λ t. both_ways c.is_tight.result c.if-is_tight.false (c.is_tight.ensures.1 t))
    c.in_err-i.ensures)

pub returns : goal.returns
returns c =
    let r = c.requires in
    let y = c.args.ranking.sorted.now in
    let cut = own (goal.at.returns c).After-count_upto-own in
    let few : length c.args.at.now.x.now ≤ 256 = omega (arith, c.args.self.now.few, r.entries) in
    let small : All IsEntry y = ranked_small c.args.at.now.x.now y c.args.ranking.sums.now r.ranked
    few r.small in
    let i = c.in_ok-i.i in
    let is = c.in_ok-i.ensures in
    let in_range = cut.cut.in_range in
    let before = is.below in
    let fd : FitsSigned w128 (get_or y (i - 1) (pos 0)) = entry_fits _
    (All-get_or IsEntry y (i - 1) (pos 0) (omega (arith, in_range, before)) small) in
    simp to_z-of_z (concave_tight_bar cut
    (λ t. both_ways c.is_tight.result c.if-is_tight.false (c.is_tight.ensures.1 t)) i is)
