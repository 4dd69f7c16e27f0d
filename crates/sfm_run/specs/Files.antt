-- The kinds of files that tasks read.
use Rattle.std.specs.Prelude.{◌≡◌, ◌⊎◌, ℕ, List, codes, ℤ, ◌≤ℤ◌}
use Rattle.std.specs.List.{AllZip}
use Rattle.sfm_kind.specs.Meanings.{IsMeaningOf, total_by}
use Rattle.sfm_text.specs.Language.{IsFaultIn, IsReadAs, text_limit}
use Rattle.sfm_text.specs.GoodText.{instance_language}
use Rattle.sfm_side.specs.Side.{SideForm, ended, side_language}
use Rattle.sfm_side.specs.Sizes.{sizes_form, sizes_of}
use Rattle.sfm_side.specs.Pins.{PinData, pins_form}
use Rattle.sfm_edit.specs.Edits.{edits_form}
use Rattle.sfm_cert.specs.Grammar.{answer_limit}
use Rattle.sfm_due.specs.Due.{IsAsked, NamesFault, Question}
use Rattle.sfm_due.specs.Level.{IsLevelFault, level_limit}
use Rattle.sfm_due.specs.Lined.{IsLined, Lined}
use Rattle.sfm_pair.specs.Pair.{GoTogether, NamesClash}
use Rattle.sfm_run.specs.Task.{File}

-- a file with a text, what a good one stands for, and how another is refused
abbrev pub text_file : {X : Type 0} → List ℕ → (List ℕ → X → Type 0) → (List ℕ → List ℕ → Type 0) → File X
text_file name Stands Refuses = record { name = name; limit = text_limit; Stands = Stands; Refuses = Refuses }

-- a file with a text beside an instance, which that word refuses, and what is told on of what the text says
abbrev pub side_file : {D X : Type 0} → List ℕ → SideForm D → (D → X → Type 0) → List ℕ → File X
side_file word form Tells name = text_file name (λ text x. (d : _) × IsReadAs (side_language form) text (ended d) × Tells d x)
    (λ text written. NamesFault word (IsFaultIn (side_language form) text) written)

-- a file with the sizes of the elements
abbrev pub sizes_file : Question → List ℕ → File (List ℤ)
sizes_file asked = side_file (codes "sizes") (sizes_form asked.instance.names) (λ given sizes. sizes ≡ sizes_of given)

-- a file with pinned elements
abbrev pub pins_file : Question → List ℕ → File PinData
pins_file asked = side_file (codes "pins") (pins_form asked.instance.names) (λ p pins. pins ≡ p)

-- a file with edits of an instance, which asks for the instance that they lead to
abbrev pub edits_file : Question → List ℕ → File Question
edits_file asked = side_file (codes "edits") (edits_form asked.instance) (λ e edited.
    (edited.instance ≡ e.instance) × AllZip IsMeaningOf e.instance.terms edited.meant)

-- a file with an instance of which the most level base is found
abbrev pub level_file : List ℕ → File Question
level_file name = text_file name (λ text asked. IsAsked text asked × (total_by asked.instance.terms asked.meant ≤ℤ level_limit))
    (λ text written. NamesFault (codes "refused") (IsLevelFault text) written)

-- the left of two files of which the common vectors are asked for
abbrev pub left_file : List ℕ → File Lined
left_file name = text_file name IsLined (λ text written. NamesFault (codes "left") (IsFaultIn instance_language text) written)

-- the right one, which has to go together with the left
abbrev pub right_file : Lined → List ℕ → File Lined
right_file left name = text_file name (λ text right. IsLined text right × GoTogether left right)
    (λ text written. NamesFault (codes "right") (IsFaultIn instance_language text) written ⊎ NamesClash left text written)

-- a file with an answer, of which no text is refused: a verdict says what is wrong with it
abbrev pub answer_file : List ℕ → File (List ℕ)
answer_file name = record { name = name; limit = answer_limit; Stands = λ text x. x ≡ text; Refuses = λ text written. ⊥ }
