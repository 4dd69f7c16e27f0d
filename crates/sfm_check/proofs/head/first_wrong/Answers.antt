use Rattle.std.proofs.Common.{◌≡◌, ℕ, ◌+◌, ◌≤◌, List, [], length, map, ℤ, ⊎_elim, arith, subst, sym}
use Rattle.std.specs.Prelude.{codes}
use Rattle.std.proofs.lemmas.List.{length-map}
use Rattle.sfm_spec.specs.Families.{Meaning, meanings}
use Rattle.sfm_spec.specs.Laws.{Mark}
use Rattle.sfm_kind.specs.Kinds.{kind_places, kind_value}
use Rattle.sfm_extreme.specs.declared.extremes.Proved.{Proved}
use Rattle.sfm_extreme.specs.Blocks.{block_of}
use Rattle.sfm_cert.specs.Answer.{mark_of}
use Rattle.sfm_cert.specs.Solved.{form_of, form_with}
use Rattle.sfm_cert.proofs.AnyHeader.{formed_any}
use Rattle.sfm_check.specs.Truth.{section_at}
use Rattle.sfm_check.specs.Findings.{IsFirstWrongSlope, IsToldOf, IsTrueMinimum, IsWrongLine}
use Rattle.sfm_check.specs.Offers.{elements, meant, said}
use Rattle.sfm_check.proofs.AllSlopes.{all_slopes, fit, given_lowest, wrong_at}
use Rattle.sfm_check.proofs.Following.{full_chain}
use Rattle.sfm_check.proofs.Forming.{few_lines}
use Rattle.sfm_check.proofs.Heads.{found_wrong, head_true, with_slopes, with_slopes-same, with_slopes-true}
use Rattle.sfm_check.proofs.head.first_wrong.Goals as goal

pub first_wrong_before_slopes-requires-clause-told
    : goal.first_wrong_before_slopes-requires-clause-told
first_wrong_before_slopes-requires-clause-told c =
    let ms = meant c.args.offer.now in
    let n = elements c.args.offer.now in
    let told = c.requires.told.each 0 c.index-found-0.result (omega arith) in
    subst (λ (z : Proved). IsToldOf ms n c.args.offer.now.sizes.now
    (section_at (said c.args.offer.now) 0) z) (sym c.index-found-0.is) told

-- a slope that is wrong is there, or stands behind the last one
within : (terms : List Meaning) (n : ℕ) (sizes : List ℤ) (marks : List Mark) (k : ℕ)
    → IsFirstWrongSlope terms n sizes marks k → k ≤ length marks
within terms n sizes marks k w =
    ⊎_elim (λ here. omega (arith, here.0)) (λ end. omega (arith, end.0)) w.wrong

pub overflow_add-result-in-Some-2 : goal.overflow_add-result-in-Some-2
overflow_add-result-in-Some-2 c =
    let a = said c.args.offer.now in
    let w : IsFirstWrongSlope (meant c.args.offer.now) (elements c.args.offer.now)
    c.args.offer.now.sizes.now (map mark_of a.breaks) c.in-Some-2.k =
    rw c.in-Some-2.is at c.in_ok-k.ensures in
    let k = within (meant c.args.offer.now) (elements c.args.offer.now) c.args.offer.now.sizes.now
    (map mark_of a.breaks) c.in-Some-2.k w in
    let lines = few_lines (form_of c.args.offer.now.instance.now) a in
    let most = c.requires.few in
    omega (
      arith,
      lines,
      most,
      k,
      c.len.ensures,
      c.args.offer.now.solved.now.blocks.ok.0,
      length-map c.args.offer.now.solved.now.blocks.items block_of,
      length-map a.breaks mark_of,
    )

pub returns-in-Some : goal.returns-in-Some
returns-in-Some c = λ header. rw c.in-Some.is at (c.in_ok-line.ensures header)

pub returns-in-Some-2 : goal.returns-in-Some-2
returns-in-Some-2 c = λ header.
    let form = form_with header c.args.offer.now.instance.now in
    let ts = c.args.offer.now.instance.now.terms in
    let ms = meanings kind_places kind_value ts in
    let n = elements c.args.offer.now in
    let a = said c.args.offer.now in
    let k = c.in-Some-2.k in
    let (marks, slopes) = all_slopes n ts c.tell_kept.ensures.bounded c.args.offer.now.sizes.now
    c.requires.offer.sizes in
    let head : IsTrueMinimum ms n c.args.offer.now.sizes.now a = rw c.in_default.is at
    (c.in_ok-line.ensures []) in
    let truth = with_slopes-true ms n c.args.offer.now.sizes.now a marks head slopes in
    let w : IsFirstWrongSlope ms n c.args.offer.now.sizes.now (map mark_of a.breaks)
    k = rw c.in-Some-2.is at c.in_ok-k.ensures in
    let x = wrong_at form a ts (formed_any c.args.offer.now.instance.now (codes "answer 1") header
    c.requires.offer.formed) c.tell_kept.ensures.named c.tell_kept.ensures.bounded
    c.args.offer.now.sizes.now c.requires.offer.sizes (with_slopes a marks) k truth.breaks
    (with_slopes-same a marks) w in
    let blocks : length a.blocks ≡ c.len.result = omega (
      arith,
      c.len.ensures,
      length-map c.args.offer.now.solved.now.blocks.items block_of,
      c.args.offer.now.solved.now.blocks.ok.0,
    ) in
    found_wrong form ms c.args.offer.now.sizes.now a (with_slopes a marks) (5 + c.len.result + k)
    truth (subst (λ z. IsWrongLine form a (with_slopes a marks) (5 + z + k)) blocks x)

pub returns-in-None : goal.returns-in-None
returns-in-None c = λ header.
    let ts = c.args.offer.now.instance.now.terms in
    let ms = meanings kind_places kind_value ts in
    let n = elements c.args.offer.now in
    let a = said c.args.offer.now in
    let head : IsTrueMinimum ms n c.args.offer.now.sizes.now a = rw c.in_default.is at
    (c.in_ok-line.ensures []) in
    head_true ms n c.args.offer.now.sizes.now a head
    (full_chain ms n c.args.offer.now.sizes.now (fit n ts c.tell_kept.ensures.bounded)
    c.requires.offer.sizes (map mark_of a.breaks)
    (given_lowest (form_of c.args.offer.now.instance.now) a c.requires.offer.formed)
    (rw c.in-None.is at c.in_ok-k.ensures))
