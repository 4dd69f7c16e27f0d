use Rattle.std.proofs.Common.{ℕ, List, length, map, ℤ, pos, Option, Some, None, sym, ap, ◌∙◌, arith, subst}
use Rattle.std.specs.Prelude.{MatchOption}
use Rattle.std.proofs.lemmas.List.{length-map}
use Rattle.sfm_spec.specs.Bounds.{IsEntry}
use Rattle.sfm_spec.specs.Blocks.{AreBlocks}
use Rattle.sfm_spec.specs.Laws.{AreBreakpoints, Mark}
use Rattle.sfm_spec.specs.Families.{Meaning, Prove, meanings, even_shift, IsLeast, IsGreatest, shifted_at, sized_shift}
use Rattle.sfm_kind.specs.Kinds.{kind_places, kind_value}
use Rattle.sfm_extreme.specs.declared.extremes.Proved.{Proved}
use Rattle.sfm_extreme.specs.declared.grouping.Block.{Block}
use Rattle.sfm_extreme.specs.Blocks.{block_of}
use Rattle.sfm_cert.specs.Answer.{Answer, Form}
use Rattle.sfm_cert.specs.Solved.{form_with}
use Rattle.sfm_check.specs.Truth.{IsTrueHead, section_at}
use Rattle.sfm_check.specs.Due.{due_answer}
use Rattle.sfm_check.specs.Verdict.{IsFirstWrong}
use Rattle.sfm_check.specs.Findings.{IsToldOf, IsTrueMinimum, IsWrongLine, SaysTheSame}
use Rattle.sfm_check.specs.Offers.{elements, meant, said}
use Rattle.sfm_check.proofs.AllSlopes.{all_slopes, marks_kept}
use Rattle.sfm_check.proofs.AtZero.{zero_shift}
use Rattle.sfm_check.proofs.BlockOrder.{blocks_formed}
use Rattle.sfm_check.proofs.Heads.{found_wrong}
use Rattle.sfm_check.proofs.Small.{value_small}
use Rattle.sfm_check.proofs.head.first_wrong_before_slopes.Goals as goal
use Rattle.sfm_check.proofs.head.first_wrong_before_slopes.Goals.{After-deref}

-- what says the same as what is due is true
same_true : (terms : List Meaning) (n : ℕ) (sizes : List ℤ) (a t : Answer)
    → IsTrueHead terms n sizes t → SaysTheSame a t → IsTrueMinimum terms n sizes a
same_true terms n sizes a t h s = record {
  least = subst (IsLeast terms n (pos 1) (sized_shift sizes (pos 0))) (sym s.least) h.least;
  greatest = subst (IsGreatest terms n (pos 1) (sized_shift sizes (pos 0))) (sym s.greatest)
      h.greatest;
  value = s.value ∙ (h.value ∙ ap (shifted_at terms (pos 1) (sized_shift sizes (pos 0)))
      (sym s.least));
  blocks = subst (AreBlocks terms n (pos 1) (sized_shift sizes (pos 0))) (sym s.blocks) h.blocks;
}

-- what is due, by what the bases at 0/1 tell and by all breakpoints
true_due : (terms : List Meaning) (n : ℕ) (sizes : List ℤ) (a : Answer) (p : Proved)
    (due : List Block) (marks : List Mark) → IsToldOf terms n sizes (section_at a 0) p
    → AreBlocks terms n (pos 1) (sized_shift sizes (pos 0)) (map block_of due)
    → AreBreakpoints terms n sizes marks → IsTrueHead terms n sizes (due_answer p due marks)
true_due terms n sizes a p due marks told are slopes = record {
  least = told.least;
  greatest = told.greatest;
  value = told.value;
  blocks = are;
  breaks = subst (AreBreakpoints terms n sizes) (sym (marks_kept marks)) slopes;
}

-- what is told of an answer, against one that is true
judged : (form : Form) (terms : List Meaning) (sizes : List ℤ) (a t : Answer) (r : Option ℕ)
    → IsTrueHead terms (length form.names) sizes t
    → MatchOption r (SaysTheSame a t) (IsWrongLine form a t)
    → MatchOption r (IsTrueMinimum terms (length form.names) sizes a)
    (IsFirstWrong form terms sizes a)
judged form terms sizes a t None h s = same_true terms (length form.names) sizes a t h s
judged form terms sizes a t (Some line) h w = found_wrong form terms sizes a t line h w

pub blocks-requires-clause-bases : goal.blocks-requires-clause-bases
blocks-requires-clause-bases c = rw c.terms.ensures.terms c.requires.told.proved.bases

pub blocks-requires-clause-prove : goal.blocks-requires-clause-prove
blocks-requires-clause-prove c =
    let ms = meant c.args.offer.now in
    let n = elements c.args.offer.now in
    let rows = c.args.offer.now.solved.now.bases in
    let p : Prove ms n (pos 1) (even_shift n (pos 0)) rows = subst (λ z. Prove ms n (pos 1) z rows)
    (zero_shift n c.args.offer.now.sizes.now c.requires.offer.sizes)
    c.requires.told.proved.proves in
    rw (c.terms.ensures.terms, c.names_len.ensures.len) p

-- the blocks that the bases tell are those at the shift by sizes
are_due : (c : After-deref) → AreBlocks (meant c.args.offer.now)
    (elements c.args.offer.now) (pos 1) (sized_shift c.args.offer.now.sizes.now (pos 0))
    (map block_of c.in_ok-due.due.items)
are_due c =
    let ms = meant c.args.offer.now in
    let n = elements c.args.offer.now in
    let due = map block_of c.in_ok-due.due.items in
    let are : AreBlocks ms n (pos 1) (even_shift n (pos 0)) due =
    rw (c.terms.ensures.terms, c.names_len.ensures.len) at c.in_ok-due.ensures.exact in
    subst (λ z. AreBlocks ms n (pos 1) z due)
    (sym (zero_shift n c.args.offer.now.sizes.now c.requires.offer.sizes)) are

pub first_wrong_line-requires-clause-value : goal.first_wrong_line-requires-clause-value
first_wrong_line-requires-clause-value c =
    let told = c.requires.told in
    subst IsEntry (sym told.value) (value_small (elements c.args.offer.now)
    c.args.offer.now.sizes.now c.args.offer.now.instance.now.terms c.args.found.now.least
    c.terms.ensures.bounded
    told.least.minimiser.allowed)

pub first_wrong_line-requires-clause-blocks : goal.first_wrong_line-requires-clause-blocks
first_wrong_line-requires-clause-blocks c =
    let ms = meant c.args.offer.now in
    let n = elements c.args.offer.now in
    let due = c.in_ok-due.due.items in
    let are = are_due (goal.at.first_wrong_line-requires-clause-blocks c).After-deref in
    let shown = ap length c.deref.ensures.value in
    λ i l. rw c.deref.ensures.value
    (blocks_formed ms n (pos 1) (sized_shift c.args.offer.now.sizes.now (pos 0)) (map block_of due)
    are i
    (omega (arith, l, shown, length-map due block_of)))

pub returns : goal.returns
returns c = λ header.
    let ts = c.args.offer.now.instance.now.terms in
    let ms = meanings kind_places kind_value ts in
    let n = elements c.args.offer.now in
    let sizes = c.args.offer.now.sizes.now in
    let due = c.in_ok-due.due.items in
    let a = said c.args.offer.now in
    let (marks, slopes) = all_slopes n ts c.terms.ensures.bounded sizes c.requires.offer.sizes in
    let form = form_with header c.args.offer.now.instance.now in
    let truth = due_answer c.args.found.now due marks in
    let is_true = true_due ms n sizes a c.args.found.now due marks c.requires.told
    (are_due (goal.at.returns c).After-deref) slopes in
    let told : MatchOption c.first_wrong_line.result (SaysTheSame a truth)
    (IsWrongLine form a truth) =
    (let w = c.first_wrong_line.ensures header marks in rw c.deref.ensures.value at w) in
    judged form ms sizes a truth c.first_wrong_line.result is_true told
