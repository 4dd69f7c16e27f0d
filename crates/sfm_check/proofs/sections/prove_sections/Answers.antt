use Rattle.std.proofs.Common.{◌≡◌, ◌+◌, ◌<◌, [], ◌∷◌, length, get_or, pos, ⊎_elim, refl, sym, ap, ◌∙◌, subst, arith}
use Rattle.std.proofs.lemmas.Bool.{cases_lt}
use Rattle.std.proofs.lemmas.List.{length-map, length_push, get_or_push, get_or_append_left}
use Rattle.sfm_spec.specs.Families.{meanings}
use Rattle.sfm_kind.specs.Kinds.{kind_places, kind_value}
use Rattle.sfm_extreme.specs.declared.extremes.Proved.{Proved}
use Rattle.sfm_extreme.specs.Blocks.{block_of}
use Rattle.sfm_law.proofs.Lists.{length-meanings}
use Rattle.sfm_cert.specs.Answer.{line_at}
use Rattle.sfm_cert.specs.Solved.{break_of, form_of}
use Rattle.sfm_check.specs.Truth.{section_at, section_of, sections_of, IsProvedSection}
use Rattle.sfm_check.specs.Findings.{IsToldOf}
use Rattle.sfm_check.specs.Offers.{elements, meant, said}
use Rattle.sfm_check.proofs.Forming.{few_lines, section_in}
use Rattle.sfm_check.proofs.sections.prove_sections.Goals as goal

pub loop-s-init : goal.loop-s-init
loop-s-init c = (ap length c.new-proved.ensures.items, λ s d l. absurd (omega (arith, l)))

pub prove_section-requires-clause-at : goal.prove_section-requires-clause-at
prove_section-requires-clause-at c =
    section_in c.args.offer.now.solved.now.breaks.items (said c.args.offer.now) c.loop-s.s _ refl
    (c.len-s-end.ensures ∙ c.args.offer.now.solved.now.breaks.ok.0) c.loop-s-test.true

pub line_of_at-line-requires-clause-blocks : goal.line_of_at-line-requires-clause-blocks
line_of_at-line-requires-clause-blocks c =
    let lines = few_lines (form_of c.args.offer.now.instance.now) (said c.args.offer.now) in
    omega (
      arith,
      lines,
      c.requires.few,
      c.args.offer.now.solved.now.blocks.ok.0,
      c.len.ensures,
      length-map c.args.offer.now.solved.now.blocks.items block_of,
    )

pub line_of_at-line-requires-clause-slopes : goal.line_of_at-line-requires-clause-slopes
line_of_at-line-requires-clause-slopes c =
    let lines = few_lines (form_of c.args.offer.now.instance.now) (said c.args.offer.now) in
    omega (
      arith,
      lines,
      c.requires.few,
      c.args.offer.now.solved.now.breaks.ok.0,
      c.len-in-None.ensures,
      length-map c.args.offer.now.solved.now.breaks.items break_of,
    )

pub line_of_at-line-requires-clause-terms : goal.line_of_at-line-requires-clause-terms
line_of_at-line-requires-clause-terms c =
    let few = c.terms.ensures.bounded.few_terms in
    omega (
      arith,
      few,
      ap length c.terms.ensures.terms,
      length-map c.args.offer.now.instance.now.terms kind_places,
    )

pub line_of_at-line-requires-clause-section : goal.line_of_at-line-requires-clause-section
line_of_at-line-requires-clause-section c =
    let lines = few_lines (form_of c.args.offer.now.instance.now) (said c.args.offer.now) in
    omega (
      arith,
      lines,
      c.requires.few,
      c.args.offer.now.solved.now.breaks.ok.0,
      c.loop-s-test.true,
      c.len-s-end.ensures,
      length-map c.args.offer.now.solved.now.breaks.items break_of,
    )

pub returns-in-None : goal.returns-in-None
returns-in-None c =
    let a = said c.args.offer.now in
    let ts = c.args.offer.now.instance.now.terms in
    let n = elements c.args.offer.now in
    let items = c.args.offer.now.solved.now.breaks.items in
    let breaks = c.args.offer.now.solved.now.breaks.ok.0 in
    let blocks = c.args.offer.now.solved.now.blocks.ok.0 in
    let ls = section_in items a c.loop-s.s _ refl (c.len-s-end.ensures ∙ breaks)
    c.loop-s-test.true in
    let never : IsProvedSection (meanings kind_places kind_value ts) n c.args.offer.now.sizes.now
    (section_at a c.loop-s.s) → ⊥ = rw c.in-None.is at c.in_ok-found.ensures in
    let kb : c.len.result ≡ length a.blocks = c.len.ensures
    ∙ (blocks ∙ sym (length-map c.args.offer.now.solved.now.blocks.items block_of)) in
    let kj : c.len-in-None.result ≡ length a.breaks = c.len-in-None.ensures
    ∙ (breaks ∙ sym (length-map items break_of)) in
    let km : length c.terms.result.now ≡ length (meanings kind_places kind_value ts) = ap length
    c.terms.ensures.terms ∙ sym (length-meanings kind_places kind_value ts) in
    record {
      section = c.loop-s.s;
      is_section = ls;
      line_is = c.line_of_at-line.ensures
          ∙ (ap (λ z. line_at z c.len-in-None.result (length c.terms.result.now) c.loop-s.s) kb
          ∙ (ap (λ z. line_at (length a.blocks) z (length c.terms.result.now) c.loop-s.s) kj
          ∙ ap (λ z. line_at (length a.blocks) (length a.breaks) z c.loop-s.s) km));
      unproved = never;
      before = λ s l. (c.loop-s.invariant.1 s (record { value = pos 0; least = []; greatest = [] })
          l).proved;
    }

pub loop-s-preserved : goal.loop-s-preserved
loop-s-preserved c =
    let a = said c.args.offer.now in
    let ms = meant c.args.offer.now in
    let n = elements c.args.offer.now in
    let found = c.in-Some.found in
    let there : IsToldOf ms n c.args.offer.now.sizes.now (section_at a c.loop-s.s)
    found = rw c.in-Some.is at c.in_ok-found.ensures in
    let pushed = c.in_ok-push-in-Some.ensures.items in
    let count = c.loop-s.invariant.0 in (
      ap length pushed ∙ (length_push c.loop-s.proved.items found ∙ ap (λ z. z + 1) count),
      (λ s d l. ⊎_elim
          (λ less.
          let lo : s < length c.loop-s.proved.items = omega (arith, less, count) in
          let same : get_or c.push.new.self.items s d ≡ get_or c.loop-s.proved.items s
          d = ap (λ z. get_or z s d) pushed
          ∙ get_or_append_left c.loop-s.proved.items (found ∷ []) d s lo in
          subst (λ (z : Proved). IsToldOf ms n c.args.offer.now.sizes.now (section_at a s) z)
          (sym same) (c.loop-s.invariant.1 s d less))
          (λ ge.
          let at : c.loop-s.s ≡ s = omega arith in
          let last : s ≡ length c.loop-s.proved.items = omega (arith, at, count) in
          let same : get_or c.push.new.self.items s d ≡ found = ap (λ z. get_or z s d) pushed
          ∙ get_or_push c.loop-s.proved.items found d s (sym last) in
          subst (λ (z : Proved). IsToldOf ms n c.args.offer.now.sizes.now (section_at a s) z)
          (sym same) (subst (λ k. IsToldOf ms n c.args.offer.now.sizes.now (section_at a k)
          found) at there))
          (cases_lt s c.loop-s.s)),
    )

pub returns : goal.returns
returns c =
    let a = said c.args.offer.now in
    let items = c.args.offer.now.solved.now.breaks.items in
    let breaks = c.args.offer.now.solved.now.breaks.ok.0 in
    let end = c.loop-s-test.false in
    let upto = c.loop-s.auto.s-end in
    let all : c.loop-s.s ≡ length
    (sections_of a) = omega (
      arith,
      end,
      upto,
      breaks,
      c.len-s-end.ensures,
      length-map a.breaks section_of,
      length-map items break_of,
    ) in
    record {
      count = c.loop-s.invariant.0 ∙ all;
      each = λ s d l. c.loop-s.invariant.1 s d (omega (arith, l, all));
    }
