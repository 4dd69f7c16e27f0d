use Rattle.std.proofs.Common.{FitsSigned}
use Rattle.std.proofs.lemmas.Int.{to_z-of_z}
use mir.Syntax.{w128}
use Rattle.sfm_exchange.proofs.ClaimedGraphs.{shaped}
use Rattle.sfm_walk.proofs.optimum.minimise_from_start.Goals as goal

pub returns-clause-graph : goal.returns-clause-graph
returns-clause-graph g c =
    let s = shaped c.in_ok-improve_from_start.ensures.graph in
    record {
      are_spots = s.are_spots;
      sized_rows = s.sized_rows;
      claim_count = s.claim_count;
      note_count = s.note_count;
      noted = s.noted;
      union_count = s.union_count;
      back_count =
          s.back_count;
    }

pub returns-clause-optimal : goal.returns-clause-optimal
returns-clause-optimal g c =
    let fq : FitsSigned w128 c.args.q = c.ranges.q in
    rw c.replace.ensures.value (simp to_z-of_z at c.in_ok-improve_from_start.ensures.optimal)

pub returns-clause-few : goal.returns-clause-few
returns-clause-few g c =
    let fq : FitsSigned w128 c.args.q = c.ranges.q in
    rw c.replace.ensures.value (simp to_z-of_z at c.in_ok-improve_from_start.ensures.few)
