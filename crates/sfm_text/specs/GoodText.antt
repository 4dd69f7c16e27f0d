-- Which texts are good instance texts and the instance that each stands for, and the first fault of a text that is not good.
use Rattle.std.specs.Prelude.{◌≡◌, ℕ, List, [], map}
use Rattle.std.specs.List.{FoldsTo}
use Rattle.sfm_kind.specs.Instance.{InstanceData}
use Rattle.sfm_kind.specs.declared.version.Version.TheVariants.{First}
use Rattle.sfm_text.specs.declared.end.TextEnd.{TextEnd}
use Rattle.sfm_lines.specs.declared.reason.Reason.{Reason}
use Rattle.sfm_lines.specs.declared.stage.Stage.TheVariants.{Header, Ended}
use Rattle.sfm_lines.specs.Lines.{content_of}
use Rattle.sfm_lines.specs.Reading.{State, HasReason, Takes}
use Rattle.sfm_lines.specs.ReadParts.{state_at}
pub use Rattle.sfm_text.specs.Language.{text_limit, is_long, is_faulty, is_short}
use Rattle.sfm_text.specs.Language.{Language, IsFirstOf, IsReadAs, HasFaultyLineIn, IsFaultIn, IsRefusalIn}

-- how an instance text is read: up to the line `end`; before the first content line the header is due
abbrev pub instance_language : Language State
instance_language = record {
  start = record { stage = Header; version = First; names = []; terms = []; lines = [] };
  Takes = Takes;
  IsFirst = λ s line reason. IsFirstOf (HasReason s line) reason;
  IsEnd = λ s. s.stage ≡ Ended;
}

-- the content lines lead from the start to the end, with the version, the names, the terms and the lines of the instance
abbrev pub IsTextOf : List ℕ → InstanceData → Type 0
IsTextOf text instance = IsReadAs instance_language text (state_at Ended instance)

-- the first content line with a reason, all before it being good
abbrev pub HasFaultyLine : List ℕ → ℕ → Reason → Type 0
HasFaultyLine text number reason = HasFaultyLineIn instance_language text number reason

-- all content lines are good, and do not come to the end
abbrev pub EndsEarly : List ℕ → Type 0
EndsEarly text = (state : State)
    × FoldsTo instance_language.Takes instance_language.start (map (λ line. line.1) (content_of text)) state
    × (instance_language.IsEnd state → ⊥)

-- the first fault of a text: at line 0 that it is too long, or else at a line the first reason that it has there, or
-- behind the last line that it ends too early
abbrev pub IsFaultOf : List ℕ → ℕ → Reason → Type 0
IsFaultOf text number reason = IsFaultIn instance_language text number reason

-- a refusal names the first fault; out of memory says nothing
abbrev pub IsRefusalOf : List ℕ → TextEnd → Type 0
IsRefusalOf text end = IsRefusalIn instance_language text end
