-- One more term is taken out at the same place.
use Rattle.std.proofs.Common.{arith, remove, sym, ap, ◌∙◌}
use Rattle.std.proofs.lemmas.Int.{ints}
use Rattle.sfm_kind.specs.Instance.{support_of}
use Rattle.sfm_kind.specs.Limits.{total_size_of}
use Rattle.sfm_kind.proofs.Removed.{cut_out-more}
use Rattle.sfm_kind.proofs.instance.take_out_all.Goals as goal

pub loop-taken-preserved : goal.loop-taken-preserved
loop-taken-preserved c =
    let inv = c.loop-taken.invariant in
    let done = c.take_out.ensures in (
      done.terms
          ∙ (ap (λ l. remove l c.args.first) inv.0
          ∙ cut_out-more c.args.terms.now.items c.args.first c.loop-taken._taken
          (omega (arith, c.requires.within, c.loop-taken-test.true))),
      done.supported ∙ ap support_of (sym done.terms),
      done.totalled ∙ ap total_size_of (sym done.terms),
      omega (arith, ints, done.smaller, inv.3),
    )
