-- What an answer says but for its slopes, together with the slopes.
use Rattle.std.proofs.Common.{ℕ, List, [], length, map, ℤ, refl, subst, sym}
use Rattle.sfm_spec.specs.Families.{Meaning}
use Rattle.sfm_spec.specs.Laws.{AreBreakpoints, Mark}
use Rattle.sfm_cert.specs.Answer.{Answer, Form, mark_of}
use Rattle.sfm_check.specs.Truth.{IsTrueHead}
use Rattle.sfm_check.specs.Due.{break_at}
use Rattle.sfm_check.specs.Verdict.{IsFirstWrong}
use Rattle.sfm_check.specs.Findings.{IsTrueMinimum, IsWrongLine, SaysTheSame}
use Rattle.sfm_check.proofs.AllSlopes.{marks_kept}

-- a line that is wrong against a true answer is wrong
pub found_wrong : (form : Form) (terms : List Meaning) (sizes : List ℤ) (a t : Answer) (line : ℕ)
    → IsTrueHead terms (length form.names) sizes t → IsWrongLine form a t line
    → IsFirstWrong form terms sizes a line
found_wrong form terms sizes a t line h w =
    record {
      truth = t;
      at = w.at;
      is_true = h;
      is_due = w.is_due;
      line_is = w.line_is;
      wrong = w.wrong;
      before = w.before;
    }

-- an answer of which all is true
pub head_true : (terms : List Meaning) (n : ℕ) (sizes : List ℤ) (a : Answer)
    → IsTrueMinimum terms n sizes a → AreBreakpoints terms n sizes (map mark_of a.breaks)
    → IsTrueHead terms n sizes a
head_true terms n sizes a h breaks =
    record {
      least = h.least;
      greatest = h.greatest;
      value = h.value;
      blocks = h.blocks;
      breaks = breaks;
    }

-- the answer with other slopes
pub with_slopes : Answer → List Mark → Answer
with_slopes a marks = record {
  value = a.value;
  least = a.least;
  greatest = a.greatest;
  blocks = a.blocks;
  bases = [];
  breaks = map break_at marks;
}

pub with_slopes-same : (a : Answer) (marks : List Mark) → SaysTheSame a (with_slopes a marks)
unfolding with_slopes
with_slopes-same a marks = record { value = refl; least = refl; greatest = refl; blocks = refl }

pub with_slopes-true : (terms : List Meaning) (n : ℕ) (sizes : List ℤ) (a : Answer)
    (marks : List Mark) → IsTrueMinimum terms n sizes a → AreBreakpoints terms n sizes marks
    → IsTrueHead terms n sizes (with_slopes a marks)
unfolding with_slopes
with_slopes-true terms n sizes a marks h slopes = record {
  least = h.least;
  greatest = h.greatest;
  value = h.value;
  blocks = h.blocks;
  breaks = subst (AreBreakpoints terms n sizes) (sym (marks_kept marks)) slopes;
}
