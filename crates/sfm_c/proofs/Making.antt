-- What was made for what a text stands for, or for its fault, is due for the text; and what goes
-- out of it is what a call gives.
use Rattle.std.proofs.Common.{◌≡◌, ℕ, List, codes, refl, ap, inl, inr, Result, Ok, Err, ◌≤ℤ◌}
use Rattle.std.proofs.lemmas.Result.{IfOk-weaker}
use Rattle.std.specs.Prelude.{IfOk}
use Rattle.sfm_base.specs.declared.memory.Memory.{Memory}
use Rattle.sfm_kind.specs.Instance.{InstanceData}
use Rattle.sfm_kind.specs.Limits.{total_size_of}
use Rattle.sfm_kind.proofs.Meanings.{kinds-mean}
use Rattle.sfm_lines.specs.declared.reason.Reason.{Reason}
use Rattle.sfm_lines.specs.declared.reason.Reason.TheVariants.{Total}
use Rattle.sfm_text.specs.Numbered.{AreNumbersOf}
use Rattle.sfm_text.specs.declared.end.TextEnd.{TextEnd}
use Rattle.sfm_text.specs.Language.{Language, IsFaultIn, IsRefusalIn}
use Rattle.sfm_text.specs.GoodText.{IsFaultOf, IsTextOf}
use Rattle.sfm_due.specs.declared.due.Due.{Due}
use Rattle.sfm_due.specs.declared.status.Status.TheVariants.{Refused}
use Rattle.sfm_due.specs.Due.{IsAsked, Question}
use Rattle.sfm_due.specs.Level.{level_limit}
use Rattle.sfm_due.specs.Sums.{PassesAt}
use Rattle.sfm_due.proofs.Summing.{small-enough, too-large}
use Rattle.sfm_due.specs.Meanings.{question_of}
use Rattle.sfm_due.specs.Owing.{IsMade, refusal, IsLevelled}
use Rattle.sfm_due.specs.Status.{code_of}
use Rattle.sfm_c.specs.Calls.{Gives, IsDone, IsDueBehind, IsDueForInstance, IsDueToLevel}
use Rattle.sfm_c.specs.Making.{GoesOut, IsRefusalDue}

-- what is made is also this
pub made_more : (IsDue IsMore : List ℕ → ℕ → Type 0)
    → ((written : List ℕ) (code : ℕ) → IsDue written code → IsMore written code)
    → (result : Result Due Memory) → IfOk result (IsMade IsDue) → IfOk result (IsMade IsMore)
made_more IsDue IsMore more result h =
    IfOk-weaker result _ _ (λ due made.
    record {
      owed = more due.text.items (code_of due.status) made.owed;
      answered = made.answered;
    }) h

-- a text that stands for something
pub stands : {X : Type 0} (Stands : X → Type 0) (word : List ℕ) (IsFault : ℕ → Reason → Type 0)
    (IsDue : X → List ℕ → ℕ → Type 0) (x : X) → Stands x
    → (result : Result Due Memory) → IfOk result (IsMade (IsDue x))
    → IfOk result (IsMade (IsDueBehind Stands word IsFault IsDue))
stands Stands word IsFault IsDue x is = made_more (IsDue x) (IsDueBehind Stands word IsFault IsDue)
    (λ written code due. inl (x, is, due))

-- a text with a fault
pub faulty : {S X : Type 0} (L : Language S) (text : List ℕ) (Stands : X → Type 0) (word : List ℕ)
    (IsDue : X → List ℕ → ℕ → Type 0) (end : TextEnd) → IsRefusalIn L text end
    → (result : Result Due Memory) → IfOk result (IsRefusalDue word end)
    → IfOk result (IsMade (IsDueBehind Stands word (IsFaultIn L text) IsDue))
faulty L text Stands word IsDue end is result h = IfOk-weaker result _ _ (λ due made. record {
  owed = inr (
    record {
      line = made.line;
      reason = made.reason;
      fault = rw made.is at is;
      named = made.named;
    },
    ap code_of made.refused,
  );
  answered = inr (inr made.refused);
}) h

-- the text of an instance
pub asks : (text : List ℕ) (instance : InstanceData) → IsTextOf text instance
    → IsAsked text (question_of instance)
asks text instance good = record { good = good; means = kinds-mean instance.terms }

-- what is made for the question of an instance is due for its text
pub for_instance : (text : List ℕ) (instance : InstanceData) → IsTextOf text instance
    → (IsDue : Question → List ℕ → ℕ → Type 0)
    → (result : Result Due Memory) → IfOk result (IsMade (IsDue (question_of instance)))
    → IfOk result (IsMade (IsDueForInstance text IsDue))
for_instance text instance good IsDue = stands (IsAsked text) (codes "refused") (IsFaultOf text)
    IsDue (question_of instance) (asks text instance good)

-- what was made and went out is what the call gives
pub gives : (IsDue : List ℕ → ℕ → Type 0) (due : Result Due Memory) (written : List ℕ) (code : ℕ)
    → IfOk due (IsMade IsDue) → GoesOut due written code → Gives IsDue written code
gives IsDue (Ok due) written code made (is, coded) = inl (rw is (rw coded (made.owed)))
gives IsDue (Err memory) written code made (is, coded) = inr (coded, is)

-- a text with a fault of a language, which is one of the faults for which the call refuses
pub faulty_by : {S X : Type 0} (L : Language S) (text : List ℕ) (Stands : X → Type 0)
    (word : List ℕ) (IsFault : ℕ → Reason → Type 0) (IsDue : X → List ℕ → ℕ → Type 0)
    → ((line : ℕ) (reason : Reason) → IsFaultIn L text line reason → IsFault line reason)
    → (end : TextEnd) → IsRefusalIn L text end
    → (result : Result Due Memory) → IfOk result (IsRefusalDue word end)
    → IfOk result (IsMade (IsDueBehind Stands word IsFault IsDue))
faulty_by L text Stands word IsFault IsDue more end is result h =
    IfOk-weaker result _ _ (λ due made. record {
      owed = inr (
        record {
          line = made.line;
          reason = made.reason;
          fault = more made.line made.reason (rw made.is at is);
          named = made.named;
        },
        ap code_of made.refused,
      );
      answered = inr (inr made.refused);
    }) h

-- an instance whose sizes add to too much
pub too_large_due : (text : List ℕ) (instance : InstanceData) (ground : ℕ) (lines : List ℕ)
    (line : ℕ)
    → IsTextOf text instance → AreNumbersOf text ground instance.lines lines
    → PassesAt instance.terms lines line → (due : Due)
    → due.text.items ≡ refusal (codes "refused") line Total → due.status ≡ Refused
    → IsMade (IsDueToLevel text) due
too_large_due text instance ground lines line good numbered passes due named refused = record {
  owed = inr (
    record {
      line = line;
      reason = Total;
      fault = inr (too-large text instance ground lines line good numbered passes, refl);
      named = named;
    },
    ap code_of refused,
  );
  answered = inr (inr refused);
}

-- one whose sizes do not
pub small_due : (text : List ℕ) (instance : InstanceData) → IsTextOf text instance
    → total_size_of instance.terms ≤ℤ level_limit → (result : Result Due Memory)
    → IfOk result (IsMade (IsDone (IsLevelled (question_of instance))))
    → IfOk result (IsMade (IsDueToLevel text))
small_due text instance good small =
    made_more (IsDone (IsLevelled (question_of instance))) (IsDueToLevel text)
    (λ written code due. inl (
      question_of instance,
      (asks text instance good, small-enough instance small),
      due,
    ))
