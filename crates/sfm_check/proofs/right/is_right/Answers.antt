use Rattle.std.proofs.Common.{zero, suc, map, IsTrue, arith}
use Rattle.std.proofs.lemmas.Result.{IfOk-weaker}
use Rattle.sfm_kind.specs.Limits.{AreInBounds}
use Rattle.sfm_cert.specs.Answer.{mark_of}
use Rattle.sfm_cert.specs.Solved.{form_of}
use Rattle.sfm_check.specs.Truth.{IsProvedSection, IsTrueHead}
use Rattle.sfm_check.specs.Findings.{AllAreProved, IsTrueMinimum}
use Rattle.sfm_check.specs.Values.{AreRightSlopes}
use Rattle.sfm_check.specs.declared.offer.Offer.{Offer}
use Rattle.sfm_check.specs.Offers.{IsOffer, elements, meant, of_offer, of_section, said}
use Rattle.sfm_check.proofs.AllSlopes.{fit, given_lowest}
use Rattle.sfm_check.proofs.Following.{full_chain}
use Rattle.sfm_check.proofs.Heads.{head_true}
use Rattle.sfm_check.proofs.right.is_right.Goals as goal

-- right slopes, with a minimum that is true and proved
all_right : (o : Offer) → AreInBounds (elements o) o.instance.now.terms → IsOffer o
    → of_offer AreRightSlopes o → of_offer IsTrueMinimum o × of_section IsProvedSection o 0
    → of_offer IsTrueHead o × of_offer AllAreProved o
all_right o bounded offer slopes found = (
  head_true (meant o) (elements o) o.sizes.now (said o) found.0
      (full_chain (meant o) (elements o) o.sizes.now (fit (elements o) o.instance.now.terms bounded)
      offer.sizes (map mark_of (said o).breaks)
      (given_lowest (form_of o.instance.now) (said o) offer.formed) slopes.chain),
  proved,
) where
  proved : of_offer AllAreProved o
  proved zero l = found.1
  proved (suc s) l = slopes.proved (suc s) (λ e. omega (arith, e)) l

pub is_minimum_right-requires-clause-chain : goal.is_minimum_right-requires-clause-chain
is_minimum_right-requires-clause-chain c =
    (c.in_ok-are_slopes_right.ensures c.if-not-branch.false).chain

pub returns : goal.returns
returns c =
    let o = c.args.offer.now in
    let slopes : of_offer AreRightSlopes o = c.in_ok-are_slopes_right.ensures
    c.if-not-branch.false in
    IfOk-weaker c.is_minimum_right.result _
    (λ r. IsTrue r → of_offer IsTrueHead o × of_offer AllAreProved o)
    (λ r (found : IsTrue r → of_offer IsTrueMinimum o × of_section IsProvedSection o 0) yes.
    all_right o c.tell_kept.ensures.bounded c.requires.offer slopes (found yes))
    c.is_minimum_right.ensures
