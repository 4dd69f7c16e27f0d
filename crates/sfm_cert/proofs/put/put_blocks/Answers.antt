use Rattle.std.proofs.Common.{◌≡◌, ◌+◌, ◌<◌, ◌∷◌, [], length, get_or, take, map, sym, ap, ◌∙◌, arith}
use Rattle.std.proofs.lemmas.List.{length-map}
use Rattle.sfm_spec.specs.Blocks.{no_block}
use Rattle.sfm_extreme.specs.Blocks.{block_of}
use Rattle.sfm_cert.specs.Answer.{block_line}
use Rattle.sfm_cert.specs.LineLists.{block_lines}
use Rattle.sfm_cert.proofs.AnswerLines.{item_at, block_lines-more}
use Rattle.sfm_cert.proofs.Pieces.{appended_lines}
use Rattle.sfm_cert.proofs.put.put_blocks.Goals as goal

pub put_block-requires : goal.put_block-requires
put_block-requires g c =
    let i = c.loop-i.i in
    let h : i < length (map block_of c.args.blocks.now) = omega (
      arith,
      c.loop-i-test.true,
      length-map c.args.blocks.now block_of,
    ) in
    sym (c.requires i h) ∙ ap (λ b. length b.members)
    (item_at block_of c.args.blocks.now i c.index-blocks-i.result no_block c.loop-i-test.true
    c.index-blocks-i.is)

pub loop-i-preserved : goal.loop-i-preserved
loop-i-preserved g c =
    let names = c.args.instance.now.names in
    let bs = map block_of c.args.blocks.now in
    let i = c.loop-i.i in
    let b = block_of c.index-blocks-i.result in
    let h : i < length bs = omega (
      arith,
      c.loop-i-test.true,
      length-map c.args.blocks.now block_of,
    ) in
    let e : get_or bs i no_block ≡ b = item_at block_of c.args.blocks.now i c.index-blocks-i.result
    no_block c.loop-i-test.true c.index-blocks-i.is in
    appended_lines g.O.Out.after g.met.O.Out.joined _ _ _ (block_lines names 1 (take i bs))
    (block_line names (i + 1) b ∷ []) (block_lines names 1 (take (i + 1) bs)) c.loop-i.invariant
    c.put_block.ensures
    (block_lines-more names bs i no_block b h e)
