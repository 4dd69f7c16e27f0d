-- A line that does not begin with `end` is judged as a term line alone exactly as in a text.
use Rattle.std.proofs.Common.{◌≡◌, ◌≢◌, inl, inr, ℕ, ◌<◌, ◌≤◌, Bool, true, false, List, [], ◌∷◌, length, slice_get, Some, codes, bytes_eq, ap, sym, ◌∙◌, arith, Result, Ok, Err, MatchResult, MatchBool}
use Rattle.std.proofs.lemmas.Bool.{false≢true}
use Rattle.std.proofs.lemmas.Option.{same_Some, slice_get_within}
use Rattle.std.proofs.lemmas.Slice.Eq.{bytes_eq-Decides}
use Rattle.std.specs.List.{Any}
use Rattle.sfm_kind.specs.Instance.{InstanceData}
use Rattle.sfm_lines.specs.declared.line_fault.LineEnd.{LineEnd}
use Rattle.sfm_lines.specs.declared.line_fault.LineEnd.TheVariants.{Fault, Memory}
use Rattle.sfm_lines.specs.declared.reason.Reason.{Reason}
use Rattle.sfm_lines.specs.declared.reason.Reason.TheVariants.{Long, Bytes, Word}
use Rattle.sfm_lines.specs.declared.stage.Stage.TheVariants.{Terms}
use Rattle.sfm_lines.specs.declared.word.TermWord.{TermWord}
use Rattle.sfm_lines.specs.Lines.{tokens_of}
use Rattle.sfm_lines.specs.Words.{word_text}
use Rattle.sfm_lines.specs.Reading.{HasReason, Takes, IsBadByte, IsLineRefusal, Adds, AddsTerm, reason_order}
use Rattle.sfm_lines.specs.ReadParts.{state_at, IsLineOf}
use Rattle.sfm_text.specs.Judging.{BeginsEnd, IsOutcome}
use Rattle.sfm_text.specs.Adding.{HasAsTerm, IsNoTerm, IsTermRefusal, IsTermAdded}
use Rattle.sfm_lines.proofs.WordLines.{not-end}

-- the line does not begin with `end`
abbrev pub IsNotLast : List ℕ → Type 0
IsNotLast line = BeginsEnd (tokens_of line) → ⊥

-- a term line does not
pub term-not-last : (line : List ℕ) (word : TermWord) (rest : List (List ℕ))
    → tokens_of line ≡ word_text word ∷ rest → IsNotLast line
term-not-last line word rest is (other, e) =
    let both : word_text word ∷ rest ≡ codes "end" ∷ other = sym is ∙ e in
    let same : word_text word ≡ codes "end" = cc in
    not-end word same

module _ (i : InstanceData) (line : List ℕ) where
  as-term : (reason : Reason) → HasReason (state_at Terms i) line reason → HasAsTerm i line reason
  as-term Word h = h.1
  as-term _ h = h

  module _ (more : IsNotLast line) where
    as-line : (reason : Reason) → HasAsTerm i line reason → HasReason (state_at Terms i) line reason
    as-line Word h = ((λ rest e. more (rest, e)), h)
    as-line _ h = h

    pub term-refused : (end : LineEnd) → IsLineRefusal (state_at Terms i) line end
        → IsTermRefusal i line end
    term-refused (Fault reason) f =
        record {
          holds = as-term reason f.holds;
          first = λ earlier lt h. f.first earlier lt (as-line earlier h);
        }
    term-refused Memory f = tt

    pub line-refused : (end : LineEnd) → IsTermRefusal i line end
        → IsLineRefusal (state_at Terms i) line end
    line-refused (Fault reason) f =
        record {
          holds = as-line reason f.holds;
          first = λ earlier lt h. f.first earlier lt (as-term earlier h);
        }
    line-refused Memory f = tt

    pub term-added : (new : InstanceData) → Takes (state_at Terms i) line (state_at Terms new)
        → IsTermAdded i line new
    term-added new takes = record {
      good = λ reason h. takes.good reason (as-line reason h);
      adds = at takes.adds;
    } where
      at : Adds Terms (state_at Terms i) (tokens_of line) (state_at Terms new)
          → AddsTerm (state_at Terms i) (tokens_of line) (state_at Terms new)
      at (inl (last, is)) = absurd (more ([], last))
      at (inr adds) = adds

  pub line-added : (new : InstanceData) → IsTermAdded i line new
      → Takes (state_at Terms i) line (state_at Terms new)
  line-added new added = record {
    good = λ reason h. added.good reason (as-term reason h);
    adds = inr added.adds;
  }

  -- a bad byte comes before all else
  pub term-bytes : Any IsBadByte line → IsNoTerm i line Bytes
  term-bytes bad = record { holds = bad; first = none } where
    none : (earlier : Reason) → reason_order earlier < 1 → HasAsTerm i line earlier → ⊥
    none Long lt h = h
    none _ lt h = absurd (omega (arith, lt))

  -- then comes the word
  pub term-word : (Any IsBadByte line → ⊥)
      → ((word : TermWord) (rest : List (List ℕ)) → tokens_of line ≢ word_text word ∷ rest)
      → IsNoTerm i line Word
  term-word good wrong = record { holds = wrong; first = none } where
    none : (earlier : Reason) → reason_order earlier < 2 → HasAsTerm i line earlier → ⊥
    none Long lt h = h
    none Bytes lt h = good h
    none _ lt h = absurd (omega (arith, lt))

-- so what comes of the tokens of a term line comes of the line
pub judged-as : (i new : InstanceData) (line : List ℕ) (word : TermWord) (rest : List (List ℕ))
    (result : Result (Unit {0}) LineEnd) → IsLineOf line (word_text word ∷ rest)
    → IsOutcome (state_at Terms i) (word_text word ∷ rest) result (state_at Terms new)
    → MatchResult result (λ _. IsTermAdded i line new) (IsTermRefusal i line)
judged-as i new line word rest (Ok u) is outcome =
    term-added i line (term-not-last line word rest is.tokens_are) new (outcome line is)
judged-as i new line word rest (Err end) is outcome =
    term-refused i line (term-not-last line word rest is.tokens_are) end (outcome line is)

-- whether the first token is `end`
pub last-by : (tokens : List (List ℕ)) (word : List ℕ) (b : Bool) → slice_get tokens 0 ≡ Some word
    → b ≡ bytes_eq word (codes "end") → MatchBool b (BeginsEnd tokens) (BeginsEnd tokens → ⊥)
last-by [] word b first is = cc
last-by (token ∷ rest) word true first is =
    let same : token ≡ word = same_Some token word first in
    let end : word ≡ codes "end" = (bytes_eq-Decides word (codes "end")).0 (sym is) in
    (rest, ap (λ (t : List ℕ). t ∷ rest) (same ∙ end))
last-by (token ∷ rest) word false first is = λ (other, e).
    let same : token ≡ word = same_Some token word first in
    let end : token ≡ codes "end" = cc in
    false≢true (is ∙ (bytes_eq-Decides word (codes "end")).1 (sym same ∙ end))

-- the line has no token but the first
pub one-token : (tokens : List (List ℕ)) → length tokens ≤ 1 → BeginsEnd tokens
    → tokens ≡ codes "end" ∷ []
one-token tokens few ([], e) = e
one-token tokens few (other ∷ rest, e) = absurd (omega (arith, few, ap length e))

-- it has more
pub more-tokens : (tokens : List (List ℕ)) (word : List ℕ) → slice_get tokens 1 ≡ Some word
    → (rest : List (List ℕ)) → tokens ≡ codes "end" ∷ rest → rest ≢ []
more-tokens tokens word second rest e none =
    let within = slice_get_within tokens 1 word second in
    absurd (omega (arith, within, ap length e, ap length none))

-- and what comes of a line that is not the last comes of it in a text
pub line-judged : (i new : InstanceData) (line : List ℕ) → IsNotLast line
    → (result : Result (Unit {0}) LineEnd)
    → MatchResult result (λ _. IsTermAdded i line new) (IsTermRefusal i line)
    → MatchResult result (λ _. Takes (state_at Terms i) line (state_at Terms new))
    (IsLineRefusal (state_at Terms i) line)
line-judged i new line more (Ok u) h = line-added i line new h
line-judged i new line more (Err end) h = line-refused i line more end h
