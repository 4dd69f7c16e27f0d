-- How many content lines a good text has: the header, the ground line, the term lines, and the line
-- `end`.
use Rattle.std.proofs.Common.{◌≡◌, ℕ, ◌+◌, ◌<◌, List, [], ◌∷◌, ◌++◌, length, refl, sym, ap, subst, ◌∙◌, inl, inr, arith}
use Rattle.std.specs.Prelude.{is_some, if◌then◌else◌}
use Rattle.std.specs.List.{FoldsTo}
use Rattle.std.proofs.lemmas.List.{length_push, length-map}
use Rattle.sfm_kind.specs.Instance.{InstanceData, terms_in}
use Rattle.sfm_lines.specs.declared.stage.Stage.{Stage}
use Rattle.sfm_lines.specs.declared.stage.Stage.TheVariants.{Header, Ground, Terms, Ended}
use Rattle.sfm_lines.specs.Lines.{content_of, tokens_of}
use Rattle.sfm_lines.specs.Reading.{State, start, Adds, Takes}
use Rattle.sfm_lines.specs.ReadParts.{state_at}
use Rattle.sfm_text.specs.declared.reader.Numbered.{Numbered}
use Rattle.sfm_text.specs.declared.reader.Reader.{Reader}
use Rattle.sfm_text.specs.Standing.{bytes_of, Progress, progress_of, LeadsTo, IsToldBy}
use Rattle.sfm_text.specs.Numbered.{AreNumbersOf, for_terms}
use Rattle.sfm_text.proofs.ForTerms.{length-for_terms}

-- how many lines have led to a stage, with so many term lines
abbrev lines_by : Stage → ℕ → ℕ
lines_by Header count = 0
lines_by Ground count = 1
lines_by Terms count = 2 + count
lines_by Ended count = 3 + count

abbrev lines_to : State → ℕ
lines_to s = lines_by s.stage (length s.lines)

-- a line is one more
takes-one : (s : State) (line : List ℕ) (t : State) → Takes s line t → lines_to t ≡ lines_to s + 1
takes-one s line t takes = at s.stage refl takes.adds
  where
    at : (stage : Stage) → s.stage ≡ stage → Adds stage s (tokens_of line) t
        → lines_to t ≡ lines_to s + 1
    at Header is (version, tokens, adds) = rw (adds, is) refl
    at Ground is (names, tokens, adds) = rw (adds, is) refl
    at Terms is (inl (last, adds)) = rw (adds, is) (omega arith)
    at Terms is (inr (term, weights, says, terms, are, adds)) =
        rw (adds, is)
        (omega (arith, length_push s.lines (if is_some weights then length terms else 0)))
    at Ended is adds = absurd adds

folds-count : (lines : List (List ℕ)) (s t : State) → FoldsTo Takes s lines t
    → lines_to t ≡ lines_to s + length lines
folds-count [] s t h = omega (arith, ap lines_to h)
folds-count (line ∷ lines) s t (r, takes, h) =
    omega (arith, takes-one s line r takes, folds-count lines r t h)

-- so many lines has a text that comes to its end
pub content-count : (text : List ℕ) (s : State) → FoldsTo Takes start (bytes_of (content_of text)) s
    → s.stage ≡ Ended → length (content_of text) ≡ 3 + length s.lines
content-count text s h ended =
    let count : lines_to s ≡ 0 + length (bytes_of (content_of text)) = folds-count
    (bytes_of (content_of text)) start s h in
    let last : lines_to s ≡ 3 + length
    s.lines = ap (λ (stage : Stage). lines_by stage (length s.lines)) ended in
    omega (arith, count, last, length-map (content_of text) (λ (l : ℕ × List ℕ). l.1))

module _ (text : List ℕ) (p : Progress) (lead : LeadsTo text p)
    (ended : p.state.stage ≡ Ended) where
  count : length p.numbers ≡ 3 + length p.state.lines
  count = omega (
    arith,
    ap length lead.numbers,
    length-map (content_of text) (λ (l : ℕ × List ℕ). l.0),
    content-count text p.state lead.good ended,
  )

  -- they are not fewer than three
  pub not-few : length p.numbers < 3 → ⊥
  not-few few = omega (arith, count, few)

  -- of those between them each is the number of a term line
  pub told-numbers : (ground : ℕ) (between terms : List ℕ)
      → (header : ℕ) × (last : ℕ) × (p.numbers ≡ header ∷ ground ∷ (between ++ last ∷ []))
      → terms ≡ for_terms p.state.lines between → AreNumbersOf text ground p.state.lines terms
  told-numbers ground between terms (header, last, is) repeated =
      (header, between, last, sym lead.numbers ∙ is, repeated)

  pub told-count : (ground : ℕ) (between : List ℕ)
      → (header : ℕ) × (last : ℕ) × (p.numbers ≡ header ∷ ground ∷ (between ++ last ∷ []))
      → length between ≡ length p.state.lines
  told-count ground between (header, last, is) =
      omega (arith, count, ap length is, length_push between last)

-- what is told at the end of a text, of what its lines have led to
pub told-by : (text : List ℕ) (reader : Reader) (r : Numbered) (between : List ℕ)
    → LeadsTo text (progress_of reader)
    → reader.reading.stage ≡ Ended → r.instance ≡ reader.reading.instance
    → terms_in r.instance.lines ≡ length r.instance.terms
    → (header : ℕ) × (last : ℕ)
    × (reader.numbers.items ≡ header ∷ r.ground_line ∷ (between ++ last ∷ []))
    → r.term_lines.items ≡ for_terms r.instance.lines between
    → IsToldBy text r
told-by text reader r between lead ended same lined split repeated =
    let here : r.term_lines.items ≡ for_terms reader.reading.instance.lines between = repeated
    ∙ ap (λ (i : InstanceData). for_terms i.lines between) same in
    let one : length between ≡ length r.instance.lines = told-count text (progress_of reader) lead
    ended r.ground_line between split ∙ ap (λ (i : InstanceData). length i.lines) (sym same) in
    record {
      lines = subst (λ (i : InstanceData). FoldsTo Takes start (bytes_of (content_of text))
          (state_at Ended i)) (sym same)
          (subst (λ (stage : Stage). FoldsTo Takes start (bytes_of (content_of text))
          (state_at stage reader.reading.instance)) ended lead.good);
      numbers = subst (λ (i : InstanceData). AreNumbersOf text r.ground_line i.lines
          r.term_lines.items) (sym same)
          (told-numbers text (progress_of reader) lead ended r.ground_line between
          r.term_lines.items split here);
      counted = ap length repeated ∙ (length-for_terms r.instance.lines between one ∙ lined);
    }
