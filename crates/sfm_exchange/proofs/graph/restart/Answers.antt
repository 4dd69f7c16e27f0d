use Rattle.std.proofs.Common.{arith, FitsSigned}
use Rattle.std.proofs.lemmas.Int.{to_z-of_z}
use mir.Syntax.{w128}
use Rattle.sfm_spec.specs.Families.{meanings}
use Rattle.sfm_reach.specs.Unions.{HaveRows}
use Rattle.sfm_reach.proofs.Noting.{sized_meanings}
use Rattle.sfm_reach.proofs.Uniting.{have_rows}
use Rattle.sfm_reach.proofs.Basing.{are_based}
use Rattle.sfm_exchange.proofs.graph.restart.Goals as goal

pub ask_all-requires-clause-based : goal.ask_all-requires-clause-based
ask_all-requires-clause-based g c =
    let m = g.met.T.Term in
    let fq : FitsSigned w128 c.args.q = c.ranges.q in
    simp to_z-of_z (are_based m.submodular m.bounded c.requires.bounded c.requires.factor
    c.requires.bases c.requires.small)

pub ask_all-requires-clause-rows : goal.ask_all-requires-clause-rows
ask_all-requires-clause-rows g c = c.requires.graph.sized_rows

pub unions_of-requires : goal.unions_of-requires
unions_of-requires g c =
    let t = g.T.Term in
    let ts = meanings t.places t.value_of c.args.terms.now in
    let tables = c.ask_all.new.rows.items in
    let spots = c.args.graph.now.spots.items in
    let sized = sized_meanings t.places t.value_of c.args.terms.now tables
    c.in_ok-ask_all.ensures.sized in
    let have : HaveRows tables spots = have_rows ts c.args.n spots tables c.requires.graph.are_spots
    sized.0 sized.1 in
    rw (c.deref.ensures.value, c.deref-2.ensures.value) have

pub returns-clause-graph : goal.returns-clause-graph
returns-clause-graph g c =
    let fq : FitsSigned w128 c.args.q = c.ranges.q in
    let ask = c.in_ok-ask_all.ensures in
    record {
      are_bases = c.requires.bases;
      are_sums = c.in_ok-graph.ensures;
      note_count = ask.count;
      claim_count = omega (
        arith,
        c.fill.ensures.len,
        c.requires.graph.claim_count,
        c.args.graph.now.claimed.ok.0,
        c.fill.new.self.ok.0,
      );
      noted = simp to_z-of_z at ask.noted;
      sized_rows = ask.sized;
      tables = simp to_z-of_z at ask.tables;
      are_spots = c.requires.graph.are_spots;
      are_unions = rw (c.deref.ensures.value, c.deref-2.ensures.value) at c.in_ok-graph-3.ensures;
      are_turned = rw c.deref-3.ensures.value at c.in_ok-graph-4.ensures;
    }

pub turned_of-requires : goal.turned_of-requires
turned_of-requires g c = rw (
  c.deref-3.ensures.value,
  c.in_ok-graph-3.ensures.count,
  c.deref.ensures.value,
  c.requires.graph.are_spots.count,
) c.requires.bounded.few

pub ask_all-requires-clause-count : goal.ask_all-requires-clause-count
ask_all-requires-clause-count g c = c.in_ok-graph-2.ensures.count

pub ask_all-requires-clause-noted : goal.ask_all-requires-clause-noted
ask_all-requires-clause-noted g c = c.in_ok-graph-2.ensures.fit _ _

pub sums_of-requires-clause-bounded : goal.sums_of-requires-clause-bounded
sums_of-requires-clause-bounded g c = c.requires.bounded

pub sums_of-requires-clause-bases : goal.sums_of-requires-clause-bases
sums_of-requires-clause-bases g c = (c.args.q, c.requires.bases)

pub sums_of-requires-clause-small : goal.sums_of-requires-clause-small
sums_of-requires-clause-small g c = c.requires.small
