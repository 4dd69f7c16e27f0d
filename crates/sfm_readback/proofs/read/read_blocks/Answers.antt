use Rattle.std.proofs.Common.{◌≡◌, ◌∷◌, ◌++◌, [], ℕ, List, length, map, subst, sym, ap, ◌∙◌, arith}
use Rattle.std.proofs.lemmas.List.{length-map, length_push, map_push}
use Rattle.sfm_spec.specs.Blocks.{Block}
use Rattle.sfm_extreme.specs.Blocks.{block_of}
use Rattle.sfm_cert.specs.Solved.{form_of}
use Rattle.sfm_readback.specs.Lines.{IsBlockLine}
use Rattle.sfm_readback.specs.Parts.{ReadsBlocks}
use Rattle.sfm_readback.specs.Reading.{EndsStuck, TakesSome}
use Rattle.sfm_readback.proofs.Parts.{blocks_begin, blocks_more, blocks_stop}
use Rattle.sfm_readback.proofs.read.read_blocks.Goals as goal

pub loop-alloc-init : goal.loop-alloc-init
loop-alloc-init c = rw c.new-blocks.ensures.items (
  blocks_begin (form_of c.args.instance.now) c.args.text.now c.args.cursor.now c.requires,
  omega arith,
)

pub returns-in_err-block-clause-stopped : goal.returns-in_err-block-clause-stopped
returns-in_err-block-clause-stopped c =
    let form = form_of c.args.instance.now in
    let bs = map block_of c.loop-alloc.blocks.items in
    let n : c.len.result ≡ length
    bs = omega (arith, c.len.ensures, length-map c.loop-alloc.blocks.items block_of) in
    blocks_stop form c.args.text.now c.from_residual.result c.args.cursor.now c.loop-alloc.cursor bs
    c.in_err-block.field-0.0 c.from_residual.ensures.1 c.loop-alloc.invariant.0
    (c.begins.ensures.0 c.loop-alloc-test.true)
    (subst (λ (k : ℕ). EndsStuck c.args.text.now c.loop-alloc.cursor
    (λ line. (b : Block) × IsBlockLine form.names k line b) c.in_err-block.field-0.0) n
    c.in_err-block.ensures.stuck)

pub loop-alloc-preserved : goal.loop-alloc-preserved
loop-alloc-preserved c =
    let form = form_of c.args.instance.now in
    let text = c.args.text.now in
    let bs = map block_of c.loop-alloc.blocks.items in
    let b = block_of c.in_ok-block.block in
    let n : c.len.result ≡ length
    bs = omega (arith, c.len.ensures, length-map c.loop-alloc.blocks.items block_of) in
    let pushed : map block_of c.push.new.self.items ≡ bs ++ b ∷ [] = ap (map block_of)
    c.in_ok-push.ensures.items ∙ map_push block_of c.loop-alloc.blocks.items
    c.in_ok-block.block in
    let takes = subst (λ (k : ℕ). TakesSome text c.loop-alloc.cursor c.read_block.new.cursor
    (λ line. IsBlockLine form.names k line b)) n c.in_ok-block.ensures.read in (
      subst (λ (x : List Block). ReadsBlocks form text c.args.cursor.now c.read_block.new.cursor x)
          (sym pushed)
          (blocks_more form text c.args.cursor.now c.loop-alloc.cursor c.read_block.new.cursor bs b
          c.loop-alloc.invariant.0 takes),
      omega (
        arith,
        ap length c.in_ok-push.ensures.items,
        length_push c.loop-alloc.blocks.items c.in_ok-block.block,
        c.loop-alloc.invariant.1,
        takes.takes.at,
      ),
    )
