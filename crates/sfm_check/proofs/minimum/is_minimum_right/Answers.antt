use Rattle.std.proofs.Common.{map, pos, IsTrue, sym, subst, arith}
use Rattle.std.proofs.lemmas.Result.{IfOk-weaker}
use Rattle.sfm_spec.specs.Blocks.{AreBlocks}
use Rattle.sfm_spec.specs.Families.{IsGreatest, IsLeast, Prove, even_shift}
use Rattle.sfm_kind.specs.Limits.{AreInBounds}
use Rattle.sfm_cert.specs.Answer.{mark_of}
use Rattle.sfm_cert.specs.Solved.{form_of}
use Rattle.sfm_check.specs.Truth.{IsProvedSection, section_at}
use Rattle.sfm_check.specs.Findings.{AllRowsAreBases, IsFullChain, IsTrueMinimum, no_section}
use Rattle.sfm_check.specs.Zero.{AreBetween, AreWorthLeast}
use Rattle.sfm_check.specs.declared.offer.Offer.{Offer}
use Rattle.sfm_check.specs.Offers.{IsOffer, elements, meant, of_offer, said}
use Rattle.sfm_check.proofs.AllSlopes.{fit, given_lowest}
use Rattle.sfm_check.proofs.AtZero.{IsToldAtZero, told_at_zero, zero_shift}
use Rattle.sfm_check.proofs.Forming.{all_bases}
use Rattle.sfm_check.proofs.minimum.is_minimum_right.Goals as goal

told : (o : Offer) → AreInBounds (elements o) o.instance.now.terms → IsOffer o
    → AllRowsAreBases (meant o) (said o)
    → IsFullChain (meant o) (elements o) o.sizes.now (map mark_of (said o).breaks)
    → AreBetween (elements o) (said o) → of_offer AreWorthLeast o → of_offer IsToldAtZero o
told o bounded offer bases chain between worth =
    told_at_zero (meant o) (elements o) o.sizes.now (said o)
    (fit (elements o) o.instance.now.terms bounded) offer.sizes
    (all_bases o.instance.now (said o) offer.formed bases 0 no_section (omega arith))
    offer.formed.least offer.formed.greatest
    (given_lowest (form_of o.instance.now) (said o) offer.formed) chain between worth

pub are_blocks_right-requires : goal.are_blocks_right-requires
are_blocks_right-requires c =
    let o = c.args.offer.now in
    let ms = meant o in
    let n = elements o in
    let zero = zero_shift n o.sizes.now c.requires.offer.sizes in
    let h = told o c.tell_kept.ensures.bounded c.requires.offer c.requires.bases
    c.requires.chain
    (c.in_ok-are_between.ensures c.if-not-branch.false)
    (c.in_ok-are_worth_least.ensures c.if-not-branch-2.false) in
    record {
      formed = c.requires.offer.formed;
      bases = h.proved.bases;
      prove = subst (λ z. Prove ms n (pos 1) z o.solved.now.bases) zero h.proved.proves;
      least = subst (λ z. IsLeast ms n (pos 1) z o.solved.now.least) zero h.least;
      greatest = subst (λ z. IsGreatest ms n (pos 1) z o.solved.now.greatest) zero h.greatest;
    }

pub returns : goal.returns
returns c =
    let a = said c.args.offer.now in
    let ms = meant c.args.offer.now in
    let n = elements c.args.offer.now in
    let sizes = c.args.offer.now.sizes.now in
    let zero = zero_shift n sizes c.requires.offer.sizes in
    let h = told c.args.offer.now c.tell_kept.ensures.bounded c.requires.offer c.requires.bases
    c.requires.chain
    (c.in_ok-are_between.ensures c.if-not-branch.false)
    (c.in_ok-are_worth_least.ensures c.if-not-branch-2.false) in
    IfOk-weaker c.are_blocks_right.result _
    (λ r. IsTrue r → IsTrueMinimum ms n sizes a × IsProvedSection ms n sizes (section_at a 0))
    (λ r (right : IsTrue r → AreBlocks ms n (pos 1) (even_shift n (pos 0)) a.blocks) yes.
    let blocks = subst (λ z. AreBlocks ms n (pos 1) z a.blocks) (sym zero) (right yes) in
    (record { least = h.least; greatest = h.greatest; value = h.value; blocks = blocks }, h.proved))
    c.are_blocks_right.ensures
