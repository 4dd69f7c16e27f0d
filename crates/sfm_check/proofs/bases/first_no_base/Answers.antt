use Rattle.std.proofs.Common.{◌≡◌, ℕ, ◌+◌, ◌<◌, List, length, map, ⊎_elim, refl, sym, ap, ◌∙◌, subst, arith}
use Rattle.std.proofs.lemmas.Bool.{cases_lt}
use Rattle.std.proofs.lemmas.List.{length-map}
use Rattle.sfm_spec.specs.Families.{meanings}
use Rattle.sfm_kind.specs.declared.kind.Kind.{Kind}
use Rattle.sfm_kind.specs.Limits.{AreInBounds}
use Rattle.sfm_kind.specs.Kinds.{kind_places, kind_value}
use Rattle.sfm_extreme.specs.Blocks.{block_of}
use Rattle.sfm_law.proofs.Lists.{length-meanings}
use Rattle.sfm_cert.specs.Answer.{line_at}
use Rattle.sfm_cert.specs.Solved.{answer_of, break_of, form_of}
use Rattle.sfm_check.specs.Truth.{section_at, section_of as section_from}
use Rattle.sfm_check.specs.Verdict.{IsBaseAt}
use Rattle.sfm_check.specs.Findings.{AreBasesIn, IsFirstNoBaseIn}
use Rattle.sfm_check.proofs.Forming.{few_lines, section_in}
use Rattle.sfm_check.proofs.bases.first_no_base.Goals.{In-Some}
use Rattle.sfm_check.proofs.bases.first_no_base.Goals as goal

pub first_no_base_at-requires-clause-at : goal.first_no_base_at-requires-clause-at
first_no_base_at-requires-clause-at c =
    section_in c.args.solved.now.breaks.items (answer_of c.args.solved.now) c.loop-s.s _ refl
    (c.len-s-end.ensures ∙ c.args.solved.now.breaks.ok.0) c.loop-s-test.true

pub first_no_base_at-requires-clause-before : goal.first_no_base_at-requires-clause-before
first_no_base_at-requires-clause-before c = λ k i l li. c.loop-s.invariant k i l li

few_terms : (n : ℕ) (ts : List Kind) (i : ℕ) → AreInBounds n ts
    → i < length (meanings kind_places kind_value ts) → i < 16384
few_terms n ts i bounded l = omega (
  arith,
  l,
  bounded.few_terms,
  length-meanings kind_places kind_value ts,
  length-map ts kind_places,
)

few_found : (c : In-Some) → c.in-Some.i < 16384
few_found c =
    let raw = rw c.in-Some.is at c.in_ok-i.ensures in
    few_terms _ c.args.instance.now.terms c.in-Some.i c.terms-terms.ensures.bounded raw.is_term

pub overflow_add-i : goal.overflow_add-i
overflow_add-i c = omega (arith, few_found (goal.at.overflow_add-i c).In-Some)

pub line_of_base-line-requires-clause-base : goal.line_of_base-line-requires-clause-base
line_of_base-line-requires-clause-base c =
    omega (arith, few_found (goal.at.line_of_base-line-requires-clause-base c).In-Some)

pub line_of_base-line-requires-clause-blocks : goal.line_of_base-line-requires-clause-blocks
line_of_base-line-requires-clause-blocks c =
    let lines = few_lines (form_of c.args.instance.now)
    (answer_of c.args.solved.now) in omega (
      arith,
      lines,
      c.requires.few,
      c.args.solved.now.blocks.ok.0,
      c.len.ensures,
      length-map c.args.solved.now.blocks.items block_of,
    )

pub line_of_base-line-requires-clause-slopes : goal.line_of_base-line-requires-clause-slopes
line_of_base-line-requires-clause-slopes c =
    let lines = few_lines (form_of c.args.instance.now)
    (answer_of c.args.solved.now) in omega (
      arith,
      lines,
      c.requires.few,
      c.args.solved.now.breaks.ok.0,
      c.len-in-Some.ensures,
      length-map c.args.solved.now.breaks.items break_of,
    )

pub line_of_base-line-requires-clause-section : goal.line_of_base-line-requires-clause-section
line_of_base-line-requires-clause-section c =
    let lines = few_lines (form_of c.args.instance.now)
    (answer_of c.args.solved.now) in omega (
      arith,
      lines,
      c.requires.few,
      c.args.solved.now.breaks.ok.0,
      c.loop-s-test.true,
      c.len-s-end.ensures,
      length-map c.args.solved.now.breaks.items break_of,
    )

pub loop-s-preserved : goal.loop-s-preserved
loop-s-preserved c = λ s i l k.
    let a = answer_of c.args.solved.now in
    let ts = c.args.instance.now.terms in
    let told : AreBasesIn (meanings kind_places kind_value ts) (section_at a c.loop-s.s).den
    (section_at a c.loop-s.s).bases = rw c.in_default.is at c.in_ok-i.ensures in
    ⊎_elim
    (λ less. c.loop-s.invariant s i less k)
    (λ ge. let same : c.loop-s.s ≡ s = omega (
      arith,
      l,
      ge,
    ) in subst (λ z. IsBaseAt (meanings kind_places kind_value ts) a z i) same (told i k))
    (cases_lt s c.loop-s.s)

pub returns-in-Some : goal.returns-in-Some
returns-in-Some c =
    let a = answer_of c.args.solved.now in
    let ts = c.args.instance.now.terms in
    let items = c.args.solved.now.breaks.items in
    let breaks = c.args.solved.now.breaks.ok.0 in
    let blocks = c.args.solved.now.blocks.ok.0 in
    let ls = section_in items a c.loop-s.s _ refl (c.len-s-end.ensures ∙ breaks)
    c.loop-s-test.true in
    let told : IsFirstNoBaseIn (meanings kind_places kind_value ts) (section_at a c.loop-s.s).den
    (section_at a c.loop-s.s).bases c.in-Some.i = rw c.in-Some.is at c.in_ok-i.ensures in
    let kb : c.len.result ≡ length a.blocks = c.len.ensures
    ∙ (blocks ∙ sym (length-map c.args.solved.now.blocks.items block_of)) in
    let kj : c.len-in-Some.result ≡ length a.breaks = c.len-in-Some.ensures
    ∙ (breaks ∙ sym (length-map items break_of)) in
    let km : length c.terms-terms.result.now ≡ length
    (meanings kind_places kind_value ts) = ap length c.terms-terms.ensures.terms
    ∙ sym (length-meanings kind_places kind_value ts) in
    record {
      section = c.loop-s.s;
      term = c.in-Some.i;
      is_section = ls;
      is_term = told.is_term;
      line_is = c.line_of_base-line.ensures
          ∙ (ap (λ z. line_at z c.len-in-Some.result (length c.terms-terms.result.now)
          c.loop-s.s + (c.in-Some.i + 1)) kb
          ∙ (ap (λ z. line_at (length a.blocks) z (length c.terms-terms.result.now)
          c.loop-s.s + (c.in-Some.i + 1)) kj
          ∙ ap (λ z. line_at (length a.blocks) (length a.breaks) z
          c.loop-s.s + (c.in-Some.i + 1)) km));
      no_base = told.no_base;
      before = λ s i l k e. ⊎_elim
          (λ less. c.loop-s.invariant s i less k)
          (λ (same, lower). subst (λ z. IsBaseAt (meanings kind_places kind_value ts) a z i)
          (sym same) (told.before i lower))
          e;
    }

pub returns : goal.returns
returns c = λ s i l k.
    let items = c.args.solved.now.breaks.items in
    let end = c.loop-s-test.false in
    let breaks = c.args.solved.now.breaks.ok.0 in
    c.loop-s.invariant s i (omega (
      arith,
      l,
      end,
      breaks,
      c.len-s-end.ensures,
      length-map (map break_of items) section_from,
      length-map items break_of,
    )) k
