use Rattle.std.proofs.Common.{length, refl, sym, subst}
use Rattle.std.proofs.lemmas.Option.{get_or_from_slice_get, slice_get-get_or, slice_get_read}
use Rattle.sfm_meet.specs.Meetable.{IsNeed}
use Rattle.sfm_pair.proofs.clash.first_need.Goals as goal

pub returns-then-is_need : goal.returns-then-is_need
returns-then-is_need c =
    let terms = c.args.terms.now in
    let i = c.loop-i.i in
    record {
      i = i;
      line_is = slice_get-get_or c.args.lines.now i 0 (rw c.requires c.loop-i-test.true);
      holds = (
        c.index-terms-i.result,
        slice_get_read terms (length terms) i c.index-terms-i.result refl c.loop-i-test.true
            c.index-terms-i.is,
        c.is_need.ensures.0 c.if-is_need.true,
      );
      before = λ j l h. c.loop-i.invariant j h.0 l
          (subst (λ t. IsNeed t) (sym (get_or_from_slice_get terms j h.0 h.0 h.1)) h.2);
    }
