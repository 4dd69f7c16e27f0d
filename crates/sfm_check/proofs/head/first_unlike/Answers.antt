use Rattle.std.proofs.Common.{◌≡◌, ◌<◌, length, map, ⊎_elim, sym, ap, ◌∙◌, subst, arith}
use Rattle.std.proofs.lemmas.Bool.{cases_lt}
use Rattle.std.proofs.lemmas.List.{ext_get_or, length-map, get_or-map}
use Rattle.sfm_spec.specs.Blocks.{Block, block_at, no_block}
use Rattle.sfm_extreme.specs.Blocks.{block_of}
use Rattle.sfm_check.proofs.head.first_unlike.Goals.{After-index-given-i}
use Rattle.sfm_check.proofs.head.first_unlike.Goals as goal

-- the blocks at the place in both lists
pair : (c : After-index-given-i) → (c.loop-i.i < length c.args.given.now)
    × (block_at (map block_of c.args.given.now) c.loop-i.i ≡ block_of c.index-given-i.result)
    × (block_at (map block_of c.args.due.now) c.loop-i.i ≡ block_of c.index-due-i.result)
pair c =
    let i = c.loop-i.i in
    let inside = c.loop-i.invariant.0 in
    let apart = c.if-i-given.false in
    let lg : i < length c.args.given.now = omega (arith, inside, apart) in (
      lg,
      get_or-map block_of c.args.given.now i c.index-given-i.result no_block lg
          ∙ ap block_of (sym c.index-given-i.is),
      get_or-map block_of c.args.due.now i c.index-due-i.result no_block c.loop-i-test.true
          ∙ ap block_of (sym c.index-due-i.is),
    )

pub is_same_block-requires : goal.is_same_block-requires
is_same_block-requires c =
    let (lg, eg, ed) = pair (goal.at.is_same_block-requires c).After-index-given-i in
    ap (λ (b : Block). length b.members) (sym eg)
    ∙ (c.requires c.loop-i.i lg c.loop-i-test.true ∙ ap (λ (b : Block). length b.members) ed)

pub loop-i-preserved : goal.loop-i-preserved
loop-i-preserved c =
    let i = c.loop-i.i in
    let (lg, eg, ed) = pair (goal.at.loop-i-preserved c).After-index-given-i in
    let here : block_at (map block_of c.args.given.now) i ≡ block_at (map block_of c.args.due.now)
    i = eg ∙ (c.is_same_block.ensures.0 c.if-not-is_same_block.false ∙ sym ed) in (
      omega (arith, lg),
      (λ j l. ⊎_elim
          (λ less. c.loop-i.invariant.1 j less)
          (λ ge. let is : i ≡ j = omega arith in subst (λ k.
          block_at (map block_of c.args.given.now) k ≡ block_at (map block_of c.args.due.now) k)
          is here)
          (cases_lt j i)),
    )

pub returns-else-given-due : goal.returns-else-given-due
returns-else-given-due c =
    let end = c.loop-i-test.false in
    let inside = c.loop-i.invariant.0 in
    let few = c.if-given-due.false in
    let lg = length-map c.args.given.now block_of in
    let ld = length-map c.args.due.now block_of in
    ext_get_or no_block (map block_of c.args.given.now) (map block_of c.args.due.now)
    (omega (arith, end, inside, few, lg, ld))
    (λ i l. c.loop-i.invariant.1 i (omega (arith, l, end, inside, few, lg, ld)))
