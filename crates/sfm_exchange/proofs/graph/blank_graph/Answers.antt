use Rattle.std.proofs.Common.{[], pos}
use Rattle.sfm_exchange.proofs.graph.blank_graph.Goals as goal

pub returns : goal.returns
returns g c = record {
  are_spots = c.in_ok-spots.ensures;
  sized_rows = c.in_ok-rows.ensures;
  claim_count = c.in_ok-claimed.ensures;
  note_count = c.in_ok-notes.ensures.count;
  noted = (pos 1, [], c.in_ok-notes.ensures.fit (pos 1) []);
  union_count = c.in_ok-unions.ensures;
  back_count = c.in_ok-back.ensures;
}
