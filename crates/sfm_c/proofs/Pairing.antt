-- What was made for two instances, or for what stands against them, is due for their texts.
use Rattle.std.proofs.Common.{◌≡◌, ℕ, List, length, codes, ap, inl, inr, Result}
use Rattle.std.specs.Prelude.{IfOk}
use Rattle.sfm_base.specs.declared.memory.Memory.{Memory}
use Rattle.sfm_text.specs.Numbered.{AreNumbersOf}
use Rattle.sfm_text.specs.declared.end.TextEnd.{TextEnd}
use Rattle.sfm_text.specs.declared.reader.Numbered.{Numbered}
use Rattle.sfm_text.specs.GoodText.{IsFaultOf, IsRefusalOf, IsTextOf, instance_language}
use Rattle.sfm_meet.specs.Meetable.{AreMeetable}
use Rattle.sfm_due.specs.declared.due.Due.{Due}
use Rattle.sfm_due.specs.declared.status.Status.TheVariants.{Refused}
use Rattle.sfm_due.specs.Lined.{IsLined, Lined}
use Rattle.sfm_due.specs.Owing.{IsMade}
use Rattle.sfm_due.specs.Status.{code_of}
use Rattle.sfm_pair.specs.declared.clash.Clash.{Clash}
use Rattle.sfm_pair.specs.Pair.{IsClashOf, clash_line}
use Rattle.sfm_pair.specs.Sides.{lined_of}
use Rattle.sfm_pair.proofs.Together.{clashes, together}
use Rattle.sfm_c.specs.Calls.{GoesBeside, IsDueBehind, IsDueForLeft, IsDueForRight}
use Rattle.sfm_c.specs.Making.{IsRefusalDue}
use Rattle.sfm_c.proofs.Making.{asks, faulty, made_more, stands}

-- the text of an instance that was read with the numbers of its lines
pub lined : (text : List ℕ) (side : Numbered) → IsTextOf text side.instance
    → AreNumbersOf text side.ground_line side.instance.lines side.term_lines.items
    → IsLined text (lined_of side)
lined text side good numbered = record { asked = asks text side.instance good; numbered = numbered }

-- what is made for an instance is due for its text, which is the left one
pub for_left : (text : List ℕ) (side : Numbered) → IsLined text (lined_of side)
    → (IsDue : Lined → List ℕ → ℕ → Type 0) (result : Result Due Memory)
    → IfOk result (IsMade (IsDue (lined_of side))) → IfOk result (IsMade (IsDueForLeft text IsDue))
for_left text side is IsDue = stands (IsLined text) (codes "left") (IsFaultOf text) IsDue
    (lined_of side) is

-- what is made for two instances that go together is due for the right text behind the left
-- instance
pub for_both : (left right : Numbered) (text : List ℕ)
    → length left.term_lines.items ≡ length left.instance.terms
    → length right.term_lines.items ≡ length right.instance.terms
    → AreMeetable left.instance right.instance
    → IsLined text (lined_of right)
    → (IsDue : Lined → List ℕ → ℕ → Type 0) (result : Result Due Memory)
    → IfOk result (IsMade (IsDue (lined_of right)))
    → IfOk result (IsMade (IsDueForRight (lined_of left) text IsDue))
for_both left right text counted counted_too meetable is IsDue =
    made_more (IsDue (lined_of right)) (IsDueForRight (lined_of left) text IsDue)
    (λ written code due. inl (inl
    (lined_of right, (is, together left right counted_too counted meetable), due)))

-- the line that refuses two instances that do not
pub for_clash : (left right : Numbered) (text : List ℕ) (clash : Clash) (line : ℕ)
    → IsClashOf (lined_of left) (lined_of right) clash line → IsLined text (lined_of right)
    → (IsDue : Lined → List ℕ → ℕ → Type 0) (due : Due)
    → (due.text.items ≡ clash_line clash line) × (due.status ≡ Refused)
    → IsMade (IsDueForRight (lined_of left) text IsDue) due
for_clash left right text clash line found is IsDue due (named, refused) = record {
  owed = inr (
    clashes (lined_of left) text right clash line due.text.items is found named,
    ap code_of refused,
  );
  answered = inr (inr refused);
}

-- the line that refuses the right text
pub for_fault : (left : Lined) (text : List ℕ) (IsDue : Lined → List ℕ → ℕ → Type 0) (end : TextEnd)
    → IsRefusalOf text end → (result : Result Due Memory)
    → IfOk result (IsRefusalDue (codes "right") end)
    → IfOk result (IsMade (IsDueForRight left text IsDue))
for_fault left text IsDue end is result h =
    made_more (IsDueBehind (GoesBeside left text) (codes "right") (IsFaultOf text) IsDue)
    (IsDueForRight left text IsDue)
    (λ written code due. inl due) result
    (faulty instance_language text (GoesBeside left text) (codes "right") IsDue end is result h)
