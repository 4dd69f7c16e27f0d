-- Whether two texts go together is what the program finds of what it keeps of them.
use Rattle.std.proofs.Common.{◌≡◌, inl, inr, ℕ, ◌+◌, List, length, take, Some, subst, arith}
use Rattle.std.specs.List.{slice_get}
use Rattle.std.proofs.lemmas.Int.{ints}
use Rattle.std.proofs.lemmas.List.{take_all}
use Rattle.std.proofs.lemmas.List.Elements.{All-get_or}
use Rattle.std.proofs.lemmas.Option.{get_or_from_slice_get, slice_get_within}
use Rattle.sfm_kind.specs.declared.kind.Kind.{Kind}
use Rattle.sfm_kind.specs.Instance.{support_of}
use Rattle.sfm_kind.specs.Limits.{total_size_of}
use Rattle.sfm_kind.specs.Meanings.{total_by}
use Rattle.sfm_kind.proofs.Meanings.{kinds-mean, total-size}
use Rattle.sfm_text.specs.declared.reader.Numbered.{Numbered}
use Rattle.sfm_meet.specs.Meetable.{AreMeetable, HasNoNeed, IsNeed}
use Rattle.sfm_due.specs.Lined.{IsFirstLine, IsLined, Lined}
use Rattle.sfm_due.specs.Meanings.{meanings_of}
use Rattle.sfm_due.proofs.Summing.{first-sizes}
use Rattle.sfm_pair.specs.declared.clash.Clash.{Clash}
use Rattle.sfm_pair.specs.declared.clash.Clash.TheVariants.{Ground, LeftNeed, RightNeed, Total}
use Rattle.sfm_pair.specs.Pair.{GoTogether, IsClashOf, IsNeedAt, IsTooMuchAt, NamesClash, clash_line}
use Rattle.sfm_pair.specs.Passing.{IsOver, PassesTogether}
use Rattle.sfm_pair.specs.Sides.{lined_of}
use Rattle.sfm_pair.proofs.Placing.{not-over}

no-need-at : (terms : List Kind) (i : ℕ) (term : Kind) → HasNoNeed terms
    → slice_get terms i ≡ Some term → IsNeed term → ⊥
no-need-at terms i term free at need =
    let there = All-get_or (λ t. IsNeed t → ⊥) terms i term (slice_get_within terms i term at)
    free in
    subst (λ t. IsNeed t → ⊥) (get_or_from_slice_get terms i term term at) there need

-- where no term is a condition, no line is that of the first one
no-need-line : (side : Lined) (line : ℕ) → HasNoNeed side.asked.instance.terms
    → IsFirstLine (IsNeedAt side) side.lines line → ⊥
no-need-line side line free first =
    let (term, at, need) = first.holds in
    no-need-at side.asked.instance.terms first.i term free at need

-- the sizes of all terms, and of the first of them, by what the terms mean
all-sizes : (side : Numbered) → total_by side.instance.terms (meanings_of side.instance.terms)
    ≡ total_size_of side.instance.terms
all-sizes side = total-size side.instance.terms (meanings_of side.instance.terms)
    (kinds-mean side.instance.terms)

sizes-to : (side : Numbered) (i : ℕ)
    → total_by (take (i + 1) side.instance.terms) (meanings_of side.instance.terms) ≡ total_size_of
    (take (i + 1) side.instance.terms)
sizes-to side i = first-sizes side.instance.terms (meanings_of side.instance.terms) (i + 1)
    (kinds-mean side.instance.terms)

-- too much by what the terms mean is too much by what they tell, and the other way round
over-by-much : (l r : Numbered) (i : ℕ) → IsTooMuchAt (lined_of l) (lined_of r) i
    → IsOver (support_of l.instance.terms) (total_size_of l.instance.terms) r.instance.terms i
over-by-much l r i (inl many) = inl many
over-by-much l r i (inr large) = inr (omega (arith, ints, large, all-sizes l, sizes-to r i))

much-by-over : (l r : Numbered) (i : ℕ)
    → IsOver (support_of l.instance.terms) (total_size_of l.instance.terms) r.instance.terms i
    → IsTooMuchAt (lined_of l) (lined_of r) i
much-by-over l r i (inl many) = inl many
much-by-over l r i (inr large) = inr (omega (arith, ints, large, all-sizes l, sizes-to r i))

-- the first line with which there is too much
pub first-too-much : (l r : Numbered) (line : ℕ)
    → PassesTogether (support_of l.instance.terms) (total_size_of l.instance.terms) r.instance.terms
    r.term_lines.items line
    → IsFirstLine (IsTooMuchAt (lined_of l) (lined_of r)) r.term_lines.items line
first-too-much l r line first = record {
  i = first.i;
  line_is = first.line_is;
  holds = much-by-over l r first.i first.holds;
  before = λ j lt much. first.before j lt (over-by-much l r j much);
}

-- where there is not too much in all, no line is that of the first with which there is
not-too-much : (l r : Numbered) (line : ℕ) → length r.term_lines.items ≡ length r.instance.terms
    → AreMeetable l.instance r.instance
    → IsFirstLine (IsTooMuchAt (lined_of l) (lined_of r)) r.term_lines.items line → ⊥
not-too-much l r line counted m first =
    let terms = r.instance.terms in
    let all : take (length terms) terms ≡ terms = take_all (length terms) terms (omega arith) in
    not-over (support_of l.instance.terms) (total_size_of l.instance.terms) terms (length terms)
    first.i
    (rw all m.places) (rw all m.sizes)
    (omega (arith, counted, slice_get_within r.term_lines.items first.i line first.line_is))
    (over-by-much l r first.i first.holds)

-- two instances of which the common vectors can be found go together
pub together : (l r : Numbered) → length r.term_lines.items ≡ length r.instance.terms
    → length l.term_lines.items ≡ length l.instance.terms
    → AreMeetable l.instance r.instance → GoTogether (lined_of l) (lined_of r)
together l r counted _ m Ground line (differ, is) = differ m.same
together l r counted _ m LeftNeed line (same, first) =
    no-need-line (lined_of l) line m.left_free first
together l r counted _ m RightNeed line (same, free, first) =
    no-need-line (lined_of r) line m.right_free first
together l r counted _ m Total line (same, free, free_too, first) =
    not-too-much l r line counted m first

-- a reason that was found names a clash
pub clashes : (left : Lined) (text : List ℕ) (right : Numbered) (clash : Clash) (line : ℕ)
    (written : List ℕ)
    → IsLined text (lined_of right) → IsClashOf left (lined_of right) clash line
    → written ≡ clash_line clash line
    → NamesClash left text written
clashes left text right clash line written lined is_clash named =
    (lined_of right, lined, clash, line, is_clash, named)
