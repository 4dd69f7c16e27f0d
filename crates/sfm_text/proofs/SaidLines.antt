-- What has been read of a line without weights is said of the line with them, and its first reason
-- is that of this line.
use Rattle.std.proofs.Common.{◌≡◌, ◌≢◌, ◌⊎◌, inl, inr, ℕ, List, [], ◌∷◌, codes, Option, None, Result, Ok, Err, IfOk, IfErr, ℤ, refl, sym, ap, subst, ◌∙◌, arith}
use Rattle.std.specs.List.{All}
use Rattle.std.proofs.lemmas.List.Elements.{All-nil}
use Rattle.sfm_kind.specs.Instance.{InstanceData}
use Rattle.sfm_kind.specs.declared.kind.Kind.{Kind}
use Rattle.sfm_kind.specs.declared.version.Version.TheVariants.{Second}
use Rattle.sfm_lines.specs.declared.line_fault.LineEnd.{LineEnd}
use Rattle.sfm_lines.specs.declared.line_fault.LineEnd.TheVariants.{Fault, Memory}
use Rattle.sfm_lines.specs.declared.reason.Reason.{Reason}
use Rattle.sfm_lines.specs.declared.reason.Reason.TheVariants.{Long, Bytes, Word, Shape, Number, Name, Twice, Law, Total, Short}
use Rattle.sfm_lines.specs.declared.stage.Stage.TheVariants.{Terms}
use Rattle.sfm_lines.specs.declared.word.TermWord.{TermWord}
use Rattle.sfm_lines.specs.declared.word.TermWord.TheVariants.{RankWord}
use Rattle.sfm_lines.specs.Lines.{tokens_of}
use Rattle.sfm_lines.specs.Words.{word_text}
use Rattle.sfm_lines.specs.Weights.{IsPlainLine, IsUnweighed, IsWeightText, AreWeights}
use Rattle.sfm_lines.specs.Reading.{HasPlain, reason_order}
use Rattle.sfm_lines.specs.PlainLines.{FirstPlain}
use Rattle.sfm_lines.specs.ReadParts.{state_at, IsLineOf, IsTermRead}
use Rattle.sfm_lines.proofs.WordLines.{word_text-same, not-end}
use Rattle.sfm_passes.specs.GroupPasses.{IsRefusedBy}
use Rattle.sfm_text.specs.Weighed.{IsTermSaid, IsRankRead, IsLineRefusedBy, IsPastShape}
use Rattle.sfm_text.proofs.BareLines.{bare-line}
use Rattle.sfm_text.proofs.StageReasons.{none-below}
use Rattle.sfm_text.proofs.WeighedLines.{HasWrongWeight, first-shape, first-wrong, none-said, first-said}

-- what stands in the place of no weight is none
none-wrong : HasWrongWeight [] → ⊥
none-wrong (k, entry, lt, at, wrong) = absurd (omega (arith, lt))

all-right : (entries : List (List ℕ × Option (List ℕ)))
    → All (λ entry. (value : ℤ) × IsWeightText entry.1 value) entries
    → HasWrongWeight entries → ⊥
all-right entries all (k, entry, lt, at, wrong) =
    let (value, is) = all k entry lt in
    wrong value (subst (λ (e : List ℕ × Option (List ℕ)). IsWeightText e.1 value) at is)

-- ---- a line whose elements have no weights

module _ (i : InstanceData) (word : TermWord) (rest : List (List ℕ))
    (plain : i.version ≡ Second → word ≢ RankWord) where
  here : IsPlainLine i.version (word_text word ∷ rest) (word_text word ∷ rest) []
  here = inr (
    λ other second e.
        let both : word_text word ∷ rest ≡ word_text RankWord ∷ other = e in
        let same : word_text word ≡ word_text RankWord = cc in
        plain second (word_text-same word RankWord same),
    refl,
    refl,
  )

  pub said-plain : (term : Kind) → IsTermRead i word rest term
      → IsTermSaid i (word_text word ∷ rest) term None
  said-plain term read = record {
    says = (
      word_text word ∷ rest,
      [],
      here,
      read.stands,
      All-nil (λ (entry : List ℕ × Option (List ℕ)). entry.1 ≡ None),
    );
    good = λ line reason is. none-said i word rest (word_text word ∷ rest) [] here line is
        none-wrong line is (λ earlier lt. read.good line earlier is lt) reason;
  }

  pub refused-plain : (end : LineEnd) → IsRefusedBy i word rest end
      → IsLineRefusedBy i (word_text word ∷ rest) end
  refused-plain (Fault reason) refused line is =
      first-said i word rest (word_text word ∷ rest) [] here line is none-wrong line is reason
      (refused line is)
  refused-plain Memory refused line is = tt

-- ---- a rank line of the second version

-- a first reason that is not its shape comes behind it
past-first : (i : InstanceData) (bare : List ℕ) (tokens : List (List ℕ)) → IsLineOf bare tokens
    → (reason : Reason)
    → FirstPlain (state_at Terms i) bare reason → reason ≢ Shape
    → HasPlain (state_at Terms i) (tokens_of bare) Shape → ⊥
past-first i bare tokens same Shape f other h = other refl
past-first i bare tokens same Number f other h = f.first Shape (omega arith) h
past-first i bare tokens same Name f other h = f.first Shape (omega arith) h
past-first i bare tokens same Twice f other h = f.first Shape (omega arith) h
past-first i bare tokens same Law f other h = f.first Shape (omega arith) h
past-first i bare tokens same Bytes f other h = same.good_bytes f.holds
past-first i bare tokens same Long f other h = f.holds
past-first i bare tokens same Word f other h = f.holds
past-first i bare tokens same Total f other h = f.holds
past-first i bare tokens same Short f other h = f.holds

-- it has the shape of none where it cannot be cut
pub refused-uncut : (i : InstanceData) (rest : List (List ℕ)) → i.version ≡ Second
    → ((plain : List (List ℕ)) (entries : List (List ℕ × Option (List ℕ)))
    → IsUnweighed rest plain entries → ⊥)
    → IsLineRefusedBy i (word_text RankWord ∷ rest) (Fault Shape)
refused-uncut i rest second none line is = record {
  holds = (not-end-line, λ plain entries are. absurd (at plain entries are));
  first = none-below (state_at Terms i) line 3 (λ lt. is.good_bytes)
      (λ lt h. h.1 RankWord rest is.tokens_are) (λ lt. absurd (omega (arith, lt)))
      (λ lt. absurd (omega (arith, lt))) (λ lt. absurd (omega (arith, lt)))
      (λ lt. absurd (omega (arith, lt))) (λ lt. absurd (omega (arith, lt)))
      (λ lt. absurd (omega (arith, lt)));
}
  where
    not-end-line : tokens_of line ≢ codes "end" ∷ []
    not-end-line e =
        let both : word_text RankWord ∷ rest ≡ codes "end" ∷ [] = sym is.tokens_are ∙ e in
        let same : word_text RankWord ≡ codes "end" = cc in
        not-end RankWord same

    at : (plain : List (List ℕ)) (entries : List (List ℕ × Option (List ℕ)))
        → IsPlainLine i.version (tokens_of line) plain entries → ⊥
    at plain entries (inl (other, bare, version, cut, h, e)) =
        let both : word_text RankWord ∷ other ≡ word_text RankWord ∷ rest = sym cut
        ∙ is.tokens_are in
        let same : other ≡ rest = cc in
        none bare entries (subst (λ (t : List (List ℕ)). IsUnweighed t bare entries) same h)
    at plain entries (inr (other, e, empty)) = other rest second is.tokens_are

-- a reason is the shape, or another
shape-or : (reason : Reason) → (reason ≡ Shape) ⊎ (reason ≢ Shape)
shape-or Shape = inl refl
shape-or Long = inr (λ e. omega (arith, ap reason_order e))
shape-or Bytes = inr (λ e. omega (arith, ap reason_order e))
shape-or Word = inr (λ e. omega (arith, ap reason_order e))
shape-or Number = inr (λ e. omega (arith, ap reason_order e))
shape-or Name = inr (λ e. omega (arith, ap reason_order e))
shape-or Twice = inr (λ e. omega (arith, ap reason_order e))
shape-or Law = inr (λ e. omega (arith, ap reason_order e))
shape-or Total = inr (λ e. omega (arith, ap reason_order e))
shape-or Short = inr (λ e. omega (arith, ap reason_order e))

module _ (i : InstanceData) (rest plain : List (List ℕ)) (entries : List (List ℕ × Option (List ℕ)))
    (second : i.version ≡ Second) (cut : IsUnweighed rest plain entries) where
  cut-here : IsPlainLine i.version (word_text RankWord ∷ rest) (word_text RankWord ∷ plain) entries
  cut-here = inl (rest, plain, second, refl, cut, refl)

  -- what has come past its shape has one
  past-read : (line : List ℕ) → IsLineOf line (word_text RankWord ∷ rest) → (term : Kind)
      → IsTermRead i RankWord plain term
      → HasPlain (state_at Terms i) (word_text RankWord ∷ plain) Shape → ⊥
  past-read line is term read h =
      let (bare, same) = bare-line line rest plain entries is cut in
      read.good bare Shape same (omega arith) (rw same.tokens_are h)

  past-refused : (line : List ℕ) → IsLineOf line (word_text RankWord ∷ rest) → (reason : Reason)
      → IsRefusedBy i RankWord plain (Fault reason) → reason ≢ Shape
      → HasPlain (state_at Terms i) (word_text RankWord ∷ plain) Shape → ⊥
  past-refused line is reason refused other h =
      let (bare, same) = bare-line line rest plain entries is cut in
      past-first i bare (word_text RankWord ∷ plain) same reason (refused bare same) other
      (rw same.tokens_are h)

  -- so what is no weight is its first reason
  pub refused-wrong : (read : Result Kind LineEnd) → IfOk read (IsTermRead i RankWord plain)
      → IfErr read (IsRefusedBy i RankWord plain) → IsPastShape read
      → HasWrongWeight entries → IsLineRefusedBy i (word_text RankWord ∷ rest) (Fault Number)
  refused-wrong (Ok term) told refused past wrong line is =
      first-wrong i RankWord rest (word_text RankWord ∷ plain) entries cut-here line is
      (past-read line is term told) wrong
  refused-wrong (Err (Fault reason)) told refused past wrong line is =
      first-wrong i RankWord rest (word_text RankWord ∷ plain) entries cut-here line is
      (past-refused line is reason refused past) wrong
  refused-wrong (Err Memory) told refused past wrong line is = absurd past

  -- its shape comes before the weights
  pub refused-shape : IsRefusedBy i RankWord plain (Fault Shape)
      → IsLineRefusedBy i (word_text RankWord ∷ rest) (Fault Shape)
  refused-shape refused line is =
      let (bare, same) = bare-line line rest plain entries is cut in
      let f = refused bare same in
      first-shape i RankWord rest (word_text RankWord ∷ plain) entries cut-here line is
      (rw same.tokens_are at f.holds)

  -- with weights alone where they should stand it is refused as without them
  pub refused-right : (HasWrongWeight entries → ⊥) → (end : LineEnd)
      → IsRefusedBy i RankWord plain end → IsLineRefusedBy i (word_text RankWord ∷ rest) end
  refused-right right (Fault reason) refused line is =
      let (bare, same) = bare-line line rest plain entries is cut in
      first-said i RankWord rest (word_text RankWord ∷ plain) entries cut-here line is right bare
      same reason (refused bare same)
  refused-right right Memory refused line is = tt

  -- so it is refused as without them where it has not come past its shape, and where its weights
  -- are right
  pub kept-refused : (read : Result Kind LineEnd) → IfErr read (IsRefusedBy i RankWord plain)
      → (IsPastShape read → All (λ entry. (value : ℤ) × IsWeightText entry.1 value) entries)
      → IfErr read (IsLineRefusedBy i (word_text RankWord ∷ rest))
  kept-refused (Ok term) refused right = tt
  kept-refused (Err Memory) refused right = λ line is. tt
  kept-refused (Err (Fault reason)) refused right = at (shape-or reason)
    where
      at : (reason ≡ Shape) ⊎ (reason ≢ Shape)
          → IsLineRefusedBy i (word_text RankWord ∷ rest) (Fault reason)
      at (inl e) = subst (λ (r : Reason). IsLineRefusedBy i (word_text RankWord ∷ rest) (Fault r))
          (sym e)
          (refused-shape (subst (λ (r : Reason). IsRefusedBy i RankWord plain (Fault r)) e refused))
      at (inr other) = refused-right (all-right entries (right other)) (Fault reason) refused

  pub kept-read : (read : Result Kind LineEnd) → IfOk read (IsTermRead i RankWord plain)
      → (IsPastShape read → All (λ entry. (value : ℤ) × IsWeightText entry.1 value) entries)
      → IfOk read (λ term. (entries : List (List ℕ × Option (List ℕ)))
      × IsRankRead i rest plain entries term)
  kept-read (Ok term) told right =
      (entries, record { unweighed = cut; read = told; right = right tt })
  kept-read (Err end) told right = tt

  -- and else says its term with these weights
  pub said-weighed : (term : Kind) (weights : Option (List ℤ)) → IsTermRead i RankWord plain term
      → All (λ entry. (value : ℤ) × IsWeightText entry.1 value) entries → AreWeights entries weights
      → IsTermSaid i (word_text RankWord ∷ rest) term weights
  said-weighed term weights read right are = record {
    says = (word_text RankWord ∷ plain, entries, cut-here, read.stands, are);
    good = λ line reason is.
        let (bare, same) = bare-line line rest plain entries is cut in
        none-said i RankWord rest (word_text RankWord ∷ plain) entries cut-here line is
        (all-right entries right) bare same (λ earlier lt. read.good bare earlier same lt)
        reason;
  }

-- what has been read of one, by these weights
pub said-read : (i : InstanceData) (rest plain : List (List ℕ)) (term : Kind)
    (weights : Option (List ℤ)) → i.version ≡ Second
    → (read : (entries : List (List ℕ × Option (List ℕ))) × IsRankRead i rest plain entries term)
    → AreWeights read.0 weights
    → IsTermSaid i (word_text RankWord ∷ rest) term weights
said-read i rest plain term weights second (entries, read) are =
    said-weighed i rest plain entries second read.unweighed term weights read.read read.right are
