use Rattle.std.proofs.Common.{◌≡◌, false, length, sym, ap, ◌∙◌, arith}
use Rattle.std.proofs.lemmas.Bool.{false≢true}
use Rattle.std.proofs.lemmas.List.{length-replicate}
use Rattle.sfm_spec.specs.Sets.{empty_set}
use Rattle.sfm_reach.proofs.Placing.{none_in_empty}
use Rattle.sfm_reach.proofs.image.Image.blank.Goals as goal

pub returns : goal.returns
returns c =
    let n = length c.args.places.now in
    let is : c.in_ok-empty.field-0 ≡ empty_set n = c.in_ok-empty.ensures in
    let none = c.no_bits.ensures in
    record {
      count = ap length is ∙ length-replicate n false;
      exact = λ e. (
        (λ one. let z = none e in absurd (omega (arith, z, one))),
        (λ (v, lv, has, same). absurd (false≢true (sym (none_in_empty n v) ∙ (rw is at has)))),
      );
      order = c.are_in_order.ensures.0;
    }
