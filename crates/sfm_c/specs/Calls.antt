-- What a call from C gives for texts: the text that is due, with its code.
use Rattle.std.specs.Prelude.{◌≡◌, ◌⊎◌, ℕ, List, [], codes, Option, ℤ}
use Rattle.std.specs.List.{AllZip}
use Rattle.sfm_kind.specs.Meanings.{IsMeaningOf}
use Rattle.sfm_lines.specs.declared.reason.Reason.{Reason}
use Rattle.sfm_text.specs.Language.{IsFaultIn, IsReadAs}
use Rattle.sfm_text.specs.GoodText.{IsFaultOf}
use Rattle.sfm_side.specs.Side.{ended, side_language}
use Rattle.sfm_side.specs.Sizes.{sizes_form, sizes_of}
use Rattle.sfm_side.specs.Pins.{PinData, pins_form}
use Rattle.sfm_edit.specs.Edits.{Editing, edits_form}
use Rattle.sfm_ask.specs.Pinned.{IsAnswered}
use Rattle.sfm_due.specs.Level.{IsLevelFault}
use Rattle.sfm_due.specs.Owing.{IsLevelled, IsSmallEnough, IsJudgedBySizes, IsWeighed}
use Rattle.sfm_due.specs.Due.{IsAsked, IsJudged, IsSolved, NamesFault, Question}
use Rattle.sfm_due.specs.Lined.{IsLined, Lined}
use Rattle.sfm_pair.specs.Pair.{GoTogether, IsMeeting, NamesClash}
use Rattle.sfm_pair.specs.Sides.{IsMetJudged}

-- the text of which this is said stands for something, for which this is due; or its first fault is
-- named behind a word, with code 2
abbrev pub IsDueBehind : {X : Type 0} → (X → Type 0) → List ℕ → (ℕ → Reason → Type 0)
    → (X → List ℕ → ℕ → Type 0) → List ℕ → ℕ → Type 0
IsDueBehind Stands word IsFault IsDue written code =
    ((x : _) × Stands x × IsDue x written code) ⊎ (NamesFault word IsFault written × (code ≡ 2))

-- what is due behind the text of an instance
abbrev pub IsDueForInstance : List ℕ → (Question → List ℕ → ℕ → Type 0) → List ℕ → ℕ → Type 0
IsDueForInstance text = IsDueBehind (IsAsked text) (codes "refused") (IsFaultOf text)

-- the text gives the elements of what is asked these sizes
abbrev pub GivesSizesOf : Question → List ℕ → List ℤ → Type 0
GivesSizesOf asked text sizes = (given : List (Option ℤ)) × (sizes ≡ sizes_of given)
    × IsReadAs (side_language (sizes_form asked.instance.names)) text (ended given)

-- what is due behind the text of the sizes of an instance's elements
abbrev pub IsDueForSizes : Question → List ℕ → (List ℤ → List ℕ → ℕ → Type 0) → List ℕ → ℕ → Type 0
IsDueForSizes asked text = IsDueBehind (GivesSizesOf asked text) (codes "sizes")
    (IsFaultIn (side_language (sizes_form asked.instance.names)) text)

-- the text pins these elements of what is asked
abbrev pub GivesPinsOf : Question → List ℕ → PinData → Type 0
GivesPinsOf asked text pins = IsReadAs (side_language (pins_form asked.instance.names)) text
    (ended pins)

-- what is due behind the text of pinned elements
abbrev pub IsDueForPins : Question → List ℕ → (PinData → List ℕ → ℕ → Type 0) → List ℕ → ℕ → Type 0
IsDueForPins asked text = IsDueBehind (GivesPinsOf asked text) (codes "pins")
    (IsFaultIn (side_language (pins_form asked.instance.names)) text)

-- the text leads what is asked to this question
abbrev pub LeadsTo : Question → List ℕ → Question → Type 0
LeadsTo asked text edited = (e : Editing) × (edited.instance ≡ e.instance)
    × AllZip IsMeaningOf e.instance.terms edited.meant
    × IsReadAs (side_language (edits_form asked.instance)) text (ended e)

-- what is due behind the text of edits
abbrev pub IsDueForEdits : Question → List ℕ → (Question → List ℕ → ℕ → Type 0) → List ℕ → ℕ
    → Type 0
IsDueForEdits asked text = IsDueBehind (LeadsTo asked text) (codes "edits")
    (IsFaultIn (side_language (edits_form asked.instance)) text)

-- what is due behind the left of two texts of which the common vectors are asked for
abbrev pub IsDueForLeft : List ℕ → (Lined → List ℕ → ℕ → Type 0) → List ℕ → ℕ → Type 0
IsDueForLeft text = IsDueBehind (IsLined text) (codes "left") (IsFaultOf text)

-- the text asks this, which goes together with what the left text asks
abbrev pub GoesBeside : Lined → List ℕ → Lined → Type 0
GoesBeside left text right = IsLined text right × GoTogether left right

-- what is due behind the right text; or, of a good one that does not go together with the left, the
-- reason is named, with code 2
abbrev pub IsDueForRight : Lined → List ℕ → (Lined → List ℕ → ℕ → Type 0) → List ℕ → ℕ → Type 0
IsDueForRight left text IsDue written code =
    IsDueBehind (GoesBeside left text) (codes "right") (IsFaultOf text) IsDue written code
    ⊎ (NamesClash left text written × (code ≡ 2))

-- a text that was asked for, with code 0
abbrev pub IsDone : (List ℕ → Type 0) → List ℕ → ℕ → Type 0
IsDone IsRight written code = IsRight written × (code ≡ 0)

-- a right answer of the instance
abbrev pub IsDueToSolve : List ℕ → List ℕ → ℕ → Type 0
IsDueToSolve text = IsDueForInstance text (λ asked. IsDone (IsSolved asked))

-- the verdict on an answer
abbrev pub IsDueToCheck : List ℕ → List ℕ → List ℕ → ℕ → Type 0
IsDueToCheck text answer = IsDueForInstance text (λ asked. IsJudged asked answer)

-- a right answer of the instance by the sizes
abbrev pub IsDueToWeigh : List ℕ → List ℕ → List ℕ → ℕ → Type 0
IsDueToWeigh text sizes =
    IsDueForInstance text (λ asked. IsDueForSizes asked sizes (λ by. IsDone (IsWeighed asked by)))

-- the verdict on an answer by the sizes
abbrev pub IsDueToCheckWeighed : List ℕ → List ℕ → List ℕ → List ℕ → ℕ → Type 0
IsDueToCheckWeighed text sizes answer = IsDueForInstance text
    (λ asked. IsDueForSizes asked sizes (λ by. IsJudgedBySizes asked by answer))

-- the best set of the instance with the pins
abbrev pub IsDueToAsk : List ℕ → List ℕ → List ℕ → ℕ → Type 0
IsDueToAsk text pins = IsDueForInstance text (λ asked. IsDueForPins asked pins
    (λ p. IsDone (IsAnswered asked.instance.names asked.meant p)))

-- the most level base of the instance, whose sizes are small enough
abbrev pub IsDueToLevel : List ℕ → List ℕ → ℕ → Type 0
IsDueToLevel text = IsDueBehind (λ asked. IsAsked text asked × IsSmallEnough asked)
    (codes "refused")
    (IsLevelFault text) (λ asked. IsDone (IsLevelled asked))

-- a right answer of the instance that the edits lead to
abbrev pub IsDueToEdit : List ℕ → List ℕ → List ℕ → ℕ → Type 0
IsDueToEdit text edits =
    IsDueForInstance text (λ asked. IsDueForEdits asked edits (λ edited. IsDone (IsSolved edited)))

-- a greatest common vector of two instances
abbrev pub IsDueToMeet : List ℕ → List ℕ → List ℕ → ℕ → Type 0
IsDueToMeet left right =
    IsDueForLeft left (λ l. IsDueForRight l right (λ r. IsDone (IsMeeting l.asked r.asked)))

-- the verdict on the text of a common vector of two instances
abbrev pub IsDueToMet : List ℕ → List ℕ → List ℕ → List ℕ → ℕ → Type 0
IsDueToMet left right answer =
    IsDueForLeft left (λ l. IsDueForRight l right (λ r. IsMetJudged l.asked r.asked answer))

-- a call gives what is due, with its code, or, with code 5, no byte, as memory ran out
abbrev pub Gives : (List ℕ → ℕ → Type 0) → List ℕ → ℕ → Type 0
Gives IsDue written code = IsDue written code ⊎ ((code ≡ 5) × (written ≡ []))
