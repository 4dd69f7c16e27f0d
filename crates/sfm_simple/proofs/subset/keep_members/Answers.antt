use Rattle.std.proofs.Common.{◌≡◌, ◌∙◌, Bool, false, List, length, sym, arith}
use Rattle.std.proofs.lemmas.List.{ext_get_or}
use Rattle.sfm_spec.specs.Sets.{intersection}
use Rattle.sfm_spec.proofs.Sets.{get_or-intersection}
use Rattle.sfm_spec.proofs.Sums.{length-intersection}
use Rattle.sfm_simple.specs.Subsets.{members, length-members}
use Rattle.sfm_simple.proofs.subset.keep_members.Goals as goal

pub returns : goal.returns
returns c =
    let old = c.args.to.now in
    let kept : List Bool = members (length old) c.args.s in
    let inv = c.loop-j.invariant in
    let same : length old ≡ length kept = sym (length-members (length old) c.args.s) in
    ext_get_or false c.loop-j.to (intersection old kept)
    (inv.places ∙ sym (length-intersection old kept same))
    (λ k h. inv.done k (omega (arith, h, inv.places)) ∙ sym (get_or-intersection old kept k same))
