-- A language of lines: which texts are good and the state that each leads to, and the first fault of a text that is not good.
use Rattle.std.specs.Prelude.{◌≡◌, ℕ, ◌+◌, ◌<◌, ◌≤◌, List, ◌∷◌, ◌++◌, length, map}
use Rattle.std.specs.List.{All, FoldsTo}
use Rattle.sfm_text.specs.declared.end.TextEnd.{TextEnd}
use Rattle.sfm_text.specs.declared.end.TextEnd.TheVariants.{Refused, Memory}
use Rattle.sfm_lines.specs.declared.reason.Reason.{Reason}
use Rattle.sfm_lines.specs.declared.reason.Reason.TheVariants.{Long, Short}
use Rattle.sfm_lines.specs.Lines.{lines_of, content_of}
use Rattle.sfm_lines.specs.Reading.{reasons}

-- the most bytes of a text
abbrev pub text_limit : ℕ
text_limit = 16777216

-- a language of lines: the state before the first content line, the states that a good line leads from and to, the first reason of a
-- line that is not good, and the states at which a text may end
pub record Language (S : Type 0) : Type 1 where
  pub start : S
  pub Takes : S → List ℕ → S → Type 0
  pub IsFirst : S → List ℕ → Reason → Type 0
  pub IsEnd : S → Type 0

-- the reason holds, and none that comes before it
pub record IsFirstOf (Has : Reason → Type 0) (reason : Reason) : Type 0 where
  pub holds : Has reason
  pub first : (before behind : List Reason) → reasons ≡ before ++ reason ∷ behind → All (λ earlier. Has earlier → ⊥) before

-- the content lines lead from the start to the state
pub record IsReadAs {S : Type 0} (L : Language S) (text : List ℕ) (s : S) : Type 0 where
  pub short : length text ≤ text_limit
  pub lines : FoldsTo L.Takes L.start (map (λ line. line.1) (content_of text)) s

-- the first content line with a reason, all before it being good
pub record HasFaultyLineIn {S : Type 0} (L : Language S) (text : List ℕ) (number : ℕ) (reason : Reason) : Type 0 where
  pub before : List (ℕ × List ℕ)
  pub line : List ℕ
  pub after : List (ℕ × List ℕ)
  pub state : S
  pub content : content_of text ≡ before ++ (number, line) ∷ after
  pub good : FoldsTo L.Takes L.start (map (λ line. line.1) before) state
  pub fault : L.IsFirst state line reason

-- the first fault of a text: at line 0 that it is too long, or else at a line the first reason that it has there, or
-- behind the last line, where all are good and do not come to the end, that it ends too early
pub data IsFaultIn {S : Type 0} (L : Language S) (text : List ℕ) (number : ℕ) (reason : Reason) : Type 0 where
  is_long : number ≡ 0 → reason ≡ Long → text_limit < length text → IsFaultIn L text number reason
  is_faulty : length text ≤ text_limit → HasFaultyLineIn L text number reason → IsFaultIn L text number reason
  is_short : number ≡ length (lines_of text) + 1 → reason ≡ Short → length text ≤ text_limit → ((state : S) × FoldsTo L.Takes L.start (map (λ line. line.1) (content_of text)) state × (L.IsEnd state → ⊥))
      → IsFaultIn L text number reason

-- a refusal names the first fault; out of memory says nothing
abbrev pub IsRefusalIn : {S : Type 0} → Language S → List ℕ → TextEnd → Type 0
IsRefusalIn L text (Refused number reason) = IsFaultIn L text number reason
IsRefusalIn L text Memory = Unit {0}
