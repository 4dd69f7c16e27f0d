use Rattle.std.proofs.Common.{◌∙◌, length, ap, pos, sym, rules}
use Rattle.sfm_graphic.specs.Graphs.{graphic_rank}
use Rattle.sfm_graphic.specs.Forests.{graphic-ranks}
use Rattle.sfm_matroid.proofs.Fits.{count_is}
use Rattle.sfm_graphic.proofs.Kept.{rank_taken}
use Rattle.sfm_graphic.proofs.Labels.{length-edges}
use Rattle.sfm_graphic.proofs.graphic.Graphic.rank.Goals as goal

pub grow-requires : goal.grow-requires
grow-requires c = c.requires ∙ (sym c.args.self.now.same_count
    ∙ (sym (ap length c.as_slice.ensures) ∙ length-edges c.as_slice.result.now))

pub returns-clause-rank : goal.returns-clause-rank
returns-clause-rank c =
    let e = rank_taken c.as_slice.result.now c.args.self.now.ends c.args.s.now _ c.as_slice.ensures
    c.in_ok-forest.ensures.taken in
    count_is c.size.result (search rules) ∙ ap pos (c.size.ensures ∙ e)

pub returns-clause-greatest : goal.returns-clause-greatest
returns-clause-greatest c =
    let s = c.args.self.now in
    let t = c.args.s.now in (
      graphic_rank s.ends t,
      returns-clause-rank c,
      graphic-ranks s.ends t (c.requires ∙ sym s.same_count),
    )
