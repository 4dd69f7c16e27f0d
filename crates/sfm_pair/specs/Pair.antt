-- Two good texts of which the common vectors are asked for: why they may not go together, and what is due where they do.
use Rattle.std.specs.Prelude.{◌≡◌, ◌≢◌, ◌⊎◌, ℕ, ◌+◌, ◌*◌, ◌<◌, ◌^◌, List, length, take, slice_get, Some, codes, ℤ, pos, ◌+ℤ◌, ◌*ℤ◌, ◌<ℤ◌}
use Rattle.sfm_kind.specs.declared.kind.Kind.{Kind}
use Rattle.sfm_kind.specs.Instance.{support_of}
use Rattle.sfm_kind.specs.Meanings.{total_by}
use Rattle.sfm_meet.specs.Common.{IsGreatestCommon}
use Rattle.sfm_meet.specs.Meetable.{IsNeed, HasNoNeed}
use Rattle.sfm_met.specs.MetVerdict.{IsRightMet}
use Rattle.sfm_due.specs.Due.{Question, fault_line}
use Rattle.sfm_due.specs.Lined.{IsFirstLine, IsLined, Lined}
use Rattle.sfm_pair.specs.declared.clash.Clash.{Clash}
use Rattle.sfm_pair.specs.declared.clash.Clash.TheVariants.{Ground, LeftNeed, RightNeed, Total}

-- the term of that line is a condition
abbrev pub IsNeedAt : Lined → ℕ → Type 0
IsNeedAt side i = (term : Kind) × (slice_get side.asked.instance.terms i ≡ Some term) × IsNeed term

-- with the lines of the right up to that one there are more than 16,384 places in all, or sizes that add to more than 10^18, where
-- those of the right count twice
abbrev pub IsTooMuchAt : Lined → Lined → ℕ → Type 0
IsTooMuchAt l r i = (16384 < support_of l.asked.instance.terms + support_of (take (i + 1) r.asked.instance.terms))
    ⊎ (pos (10 ^ 18) <ℤ (total_by l.asked.instance.terms l.asked.meant +ℤ pos 2 *ℤ total_by (take (i + 1) r.asked.instance.terms) r.asked.meant))

-- they do not go together, for this reason, at that line of one of them, and for none of the reasons before it: they are over different
-- grounds; one has a condition; or there is too much in all
abbrev pub IsClashOf : Lined → Lined → Clash → ℕ → Type 0
IsClashOf left right Ground line = (left.asked.instance.names ≢ right.asked.instance.names) × (line ≡ right.ground_line)
IsClashOf left right LeftNeed line = (left.asked.instance.names ≡ right.asked.instance.names) × IsFirstLine (IsNeedAt left) left.lines line
IsClashOf left right RightNeed line = (left.asked.instance.names ≡ right.asked.instance.names)
    × HasNoNeed left.asked.instance.terms × IsFirstLine (IsNeedAt right) right.lines line
IsClashOf left right Total line = (left.asked.instance.names ≡ right.asked.instance.names)
    × HasNoNeed left.asked.instance.terms × HasNoNeed right.asked.instance.terms × IsFirstLine (IsTooMuchAt left right) right.lines line

-- the line that refuses them: the side, the line of its text, and the word of the reason
abbrev pub clash_line : Clash → ℕ → List ℕ
clash_line Ground line = fault_line (codes "right") line (codes "ground")
clash_line LeftNeed line = fault_line (codes "left") line (codes "need")
clash_line RightNeed line = fault_line (codes "right") line (codes "need")
clash_line Total line = fault_line (codes "right") line (codes "total")

-- the written text refuses the right one, which is good by itself and does not go with the left
abbrev pub NamesClash : Lined → List ℕ → List ℕ → Type 0
NamesClash left text written = (right : Lined) × IsLined text right
    × (clash : Clash) × (line : ℕ) × IsClashOf left right clash line × (written ≡ clash_line clash line)

-- nothing stands against them
abbrev pub GoTogether : Lined → Lined → Type 0
GoTogether left right = (clash : Clash) (line : ℕ) → IsClashOf left right clash line → ⊥

-- the written text is right for the two, and its common vector is a greatest one
pub record IsMeeting (left right : Question) (written : List ℕ) : Type 0 where
  pub told : IsRightMet left right written
  pub greatest : IsGreatestCommon left.meant right.meant (length left.instance.names) told.answer.common
