use Rattle.std.proofs.Common.{◌≡◌, ℕ, ◌<◌, [], length, map, sym, ◌∙◌, ◌*ℤ◌, FitsSigned}
use Rattle.std.proofs.lemmas.List.{get_or-map}
use Rattle.std.proofs.lemmas.Int.{to_z-of_z}
use mir.Syntax.{w128}
use Rattle.sfm_spec.specs.Families.{meanings, AreBases}
use Rattle.sfm_spec.specs.Walks.{base_at}
use Rattle.sfm_exchange.specs.Scaled.{row_times, rows_times}
use Rattle.sfm_exchange.proofs.ClaimedGraphs.{are_terms, base_count, counted, unions_count}
use Rattle.sfm_exchange.proofs.Scaling.{bases-times, claims_times, unions_same}
use Rattle.sfm_exchange.proofs.Summing.{products_small, sums_times}
use Rattle.sfm_exchange.proofs.multiples.restart_times.Goals as goal

pub times-requires : goal.times-requires
times-requires g c =
    let fq : FitsSigned w128 c.args.m = c.ranges.m in
    simp to_z-of_z (record { factor = c.requires.times; small = c.requires.small })

pub take_rows-requires-clause-sized : goal.take_rows-requires-clause-sized
take_rows-requires-clause-sized g c =
    (map g.T.Term.places c.args.terms.now, c.requires.other.sized_rows, c.requires.graph.sized_rows)

pub take_rows-requires-clause-claimed : goal.take_rows-requires-clause-claimed
take_rows-requires-clause-claimed g c = c.requires.graph.claim_count
    ∙ sym c.requires.other.claim_count

pub take_rows-requires-clause-unions : goal.take_rows-requires-clause-unions
take_rows-requires-clause-unions g c = c.requires.graph.union_count
    ∙ sym (unions_count c.requires.other)

pub take_rows-requires-clause-back : goal.take_rows-requires-clause-back
take_rows-requires-clause-back g c = c.requires.graph.back_count
    ∙ sym c.requires.other.are_turned.count

pub notes_times-requires-clause-factor : goal.notes_times-requires-clause-factor
notes_times-requires-clause-factor g c =
    let fq : FitsSigned w128 c.args.m = c.ranges.m in simp to_z-of_z c.requires.factor

pub notes_times-requires-clause-other : goal.notes_times-requires-clause-other
notes_times-requires-clause-other g c = (_, c.requires.other)

pub returns-clause-graph : goal.returns-clause-graph
returns-clause-graph g c =
    let t = g.T.Term in
    let m = g.met.T.Term in
    let fq : FitsSigned w128 c.args.m = c.ranges.m in
    let r = c.requires in
    let o = r.other in
    let other = c.args.other.now.graph.now in
    let fit = are_terms o m.family m.submodular in
    let bases = rows_times c.args.m other.bases in
    let same : (i : ℕ) → i < length other.bases
    → base_at bases i ≡ row_times c.args.m (base_at other.bases i) =
    λ i l. get_or-map (row_times c.args.m) other.bases i [] [] l in
    let taken = c.take_rows.ensures in
    let is = taken.bases ∙ simp to_z-of_z at c.in_ok-graph.ensures in
    let sums_are : c.in_ok-graph-2.field-0.items ≡ row_times c.args.m
    other.sums.items = rw c.deref.ensures.value at
    (simp to_z-of_z at c.in_ok-graph-2.ensures) in
    let are : AreBases (c.args.m *ℤ c.args.other.now.q)
    (meanings t.places t.value_of c.args.terms.now) bases
    = bases-times c.args.m c.args.other.now.q (meanings t.places t.value_of c.args.terms.now)
    other.bases r.times.low o.are_bases in
    record {
      are_sums = rw (is, taken.sums, sums_are) (sums_times c.args.m o.are_sums);
      bounded = o.bounded;
      factor = r.factor;
      are_bases = rw is are;
      note_count = rw taken.notes c.in_ok-notes_times.ensures.count;
      claim_count = rw taken.claimed o.claim_count;
      noted = rw (is, taken.notes) (simp to_z-of_z at c.in_ok-notes_times.ensures.noted);
      sized_rows = rw taken.rows o.sized_rows;
      claims = λ i l. rw (is, taken.claimed, taken.rows)
          (claims_times _ _ _ _ other.bases bases other.claimed.items other.rows.items o.factor.low
          r.times.low r.factor.low fit o.are_bases are i (rw (counted o) l)
          (same i (rw (base_count o) l)) (o.claims i l));
      are_spots = rw taken.spots r.graph.are_spots;
      are_unions = rw (taken.spots, taken.rows, taken.unions)
          (unions_same r.graph.are_spots o.are_spots o.are_unions);
      are_turned = rw (taken.unions, taken.back) o.are_turned;
    }

pub returns-clause-bases : goal.returns-clause-bases
returns-clause-bases g c =
    let fq : FitsSigned w128 c.args.m = c.ranges.m in
    c.take_rows.ensures.bases ∙ simp to_z-of_z at c.in_ok-graph.ensures

pub multiply-requires : goal.multiply-requires
multiply-requires g c =
    let t = g.T.Term in
    let fq : FitsSigned w128 c.args.m = c.ranges.m in
    let o = c.requires.other in
    simp to_z-of_z
    (record {
      small = rw c.deref.ensures.value
          (products_small t.places t.value_of c.args.terms.now _ _
          c.args.other.now.graph.now.sums.items c.args.m o.are_sums c.requires.times
          c.requires.small
          o.bounded.few_places);
    })
