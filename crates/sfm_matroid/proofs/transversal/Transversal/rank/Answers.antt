use Rattle.std.proofs.Common.{◌∙◌, ap, length, pos, sym, rules}
use Rattle.sfm_spec.specs.Sets.{size}
use Rattle.sfm_matroid.specs.Slots.{transversal_rank}
use Rattle.sfm_matroid.specs.Transversals.{transversal-ranks}
use Rattle.sfm_matroid.proofs.Fits.{count_is}
use Rattle.sfm_matroid.proofs.transversal.Transversal.rank.Goals as goal

pub matched-requires : goal.matched-requires
matched-requires c = let s = c.args.self.now in c.requires
    ∙ (sym s.same_count ∙ ap length (sym s.framed))

pub returns-clause-rank : goal.returns-clause-rank
returns-clause-rank c = count_is c.size.result (search rules)
    ∙ ap pos (c.size.ensures ∙ ap size (rw c.args.self.now.framed at c.in_ok-taken.ensures.taken))

pub returns-clause-greatest : goal.returns-clause-greatest
returns-clause-greatest c =
    let s = c.args.self.now in
    let t = c.args.s.now in (
      transversal_rank s.entries t,
      returns-clause-rank c,
      transversal-ranks s.entries t (c.requires ∙ sym s.same_count),
    )
