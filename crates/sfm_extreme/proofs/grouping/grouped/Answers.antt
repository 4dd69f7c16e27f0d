use Rattle.std.proofs.Common.{◌≡◌, [], ◌∷◌, ◌++◌, map, ap, ◌∙◌}
use Rattle.std.proofs.lemmas.List.{map_push}
use Rattle.sfm_spec.specs.Blocks.{Block}
use Rattle.sfm_extreme.specs.Blocks.{block_of}
use Rattle.sfm_extreme.proofs.Groups.{grouped_push}
use Rattle.sfm_extreme.proofs.grouping.grouped.Goals as goal

pub loop-i-preserved : goal.loop-i-preserved
loop-i-preserved c =
    let blocks = c.loop-i.blocks.items in
    let block : Block = record {
      members = c.in_ok-members.members;
      needs = c.in_ok-needs.needs.items;
    } in
    let more : map block_of c.push.new.self.items ≡ map block_of
    blocks ++ block ∷ [] = ap (map block_of) c.in_ok-push.ensures.items
    ∙ map_push block_of blocks (record {
      members = c.in_ok-members.members;
      needs = c.in_ok-needs.needs;
    }) in
    rw more (grouped_push c.args.rows.now c.args.firsts.now c.loop-i.i (map block_of blocks) block
    c.loop-i.invariant c.in_ok-members.ensures c.in_ok-needs.ensures)
