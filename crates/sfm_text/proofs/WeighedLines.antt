-- The reasons of a term line are those of its line without weights, but for what stands in the
-- place of a weight.
use Rattle.std.proofs.Common.{◌≡◌, ◌≢◌, ◌⊎◌, inl, inr, ℕ, ◌<◌, ◌≤◌, List, [], ◌∷◌, codes, Option, ℤ, refl, sym, ap, subst, ◌∙◌, arith}
use Rattle.std.specs.List.{Any}
use Rattle.sfm_kind.specs.Instance.{InstanceData}
use Rattle.sfm_lines.specs.declared.reason.Reason.{Reason}
use Rattle.sfm_lines.specs.declared.reason.Reason.TheVariants.{Long, Bytes, Word, Shape, Number, Name, Twice, Law, Total, Short}
use Rattle.sfm_lines.specs.declared.stage.Stage.TheVariants.{Terms}
use Rattle.sfm_lines.specs.declared.word.TermWord.{TermWord}
use Rattle.sfm_lines.specs.Lines.{tokens_of}
use Rattle.sfm_lines.specs.Words.{word_text}
use Rattle.sfm_lines.specs.Weights.{IsPlainLine, IsWeightText}
use Rattle.sfm_lines.specs.Reading.{HasReason, HasPlain, FirstReason, reason_order}
use Rattle.sfm_lines.specs.PlainLines.{HasPlainly, FirstPlain}
use Rattle.sfm_lines.specs.ReadParts.{state_at, IsLineOf}
use Rattle.sfm_lines.proofs.WordLines.{not-end}
use Rattle.sfm_weights.proofs.Lines.{plain-same}
use Rattle.sfm_text.proofs.StageReasons.{none-below}

-- what stands in the place of a weight is none
abbrev pub HasWrongWeight : List (List ℕ × Option (List ℕ)) → Type 0
HasWrongWeight entries = Any (λ entry. (value : ℤ) → IsWeightText entry.1 value → ⊥) entries

-- a reason of a term line, by its line without weights
abbrev pub IsSaid : InstanceData → List (List ℕ) → Reason → Type 0
IsSaid i tokens reason = (plain : List (List ℕ)) × (entries : List (List ℕ × Option (List ℕ)))
    × IsPlainLine i.version tokens plain entries
    × (HasPlain (state_at Terms i) plain reason ⊎ ((reason ≡ Number) × HasWrongWeight entries))

module _ (i : InstanceData) (line plain : List (List ℕ)) (entries : List (List ℕ × Option (List ℕ)))
    (are : IsPlainLine i.version line plain entries) where
  said : (reason : Reason) → HasPlain (state_at Terms i) plain reason → IsSaid i line reason
  said reason h = (plain, entries, are, inl h)

  wrong-said : HasWrongWeight entries → IsSaid i line Number
  wrong-said wrong = (plain, entries, are, inr (refl, wrong))

  -- and it is one of that line, where each weight is one
  of-said : (reason : Reason) → (HasWrongWeight entries → ⊥) → IsSaid i line reason
      → HasPlain (state_at Terms i) plain reason
  of-said reason right (p, q, other, inl h) =
      subst (λ (t : List (List ℕ)). HasPlain (state_at Terms i) t reason)
      (plain-same i.version line p plain q entries other are).0 h
  of-said reason right (p, q, other, inr (e, wrong)) =
      absurd (right (subst HasWrongWeight (plain-same i.version line p plain q entries other are).1
      wrong))

  shape-said : HasPlain (state_at Terms i) plain Shape
      → (p : List (List ℕ)) (q : List (List ℕ × Option (List ℕ))) → IsPlainLine i.version line p q
      → HasPlain (state_at Terms i) p Shape
  shape-said h p q other = subst (λ (t : List (List ℕ)). HasPlain (state_at Terms i) t Shape)
      (sym (plain-same i.version line p plain q entries other are).0) h

module _ (i : InstanceData) (word : TermWord) (rest plain : List (List ℕ))
    (entries : List (List ℕ × Option (List ℕ)))
    (are : IsPlainLine i.version (word_text word ∷ rest) plain entries) (line : List ℕ)
    (is : IsLineOf line (word_text word ∷ rest)) where
  here : IsPlainLine i.version (tokens_of line) plain entries
  here = rw is.tokens_are are

  no-word : HasReason (state_at Terms i) line Word → ⊥
  no-word h = h.1 word rest is.tokens_are

  no-shape : (HasPlain (state_at Terms i) plain Shape → ⊥) → HasReason (state_at Terms i) line Shape
      → ⊥
  no-shape none h = none (h.1 plain entries here)

  not-last : tokens_of line ≢ codes "end" ∷ []
  not-last e =
      let both : word_text word ∷ rest ≡ codes "end" ∷ [] = sym is.tokens_are ∙ e in
      let same : word_text word ≡ codes "end" = cc in
      not-end word same

  -- the shape comes first
  pub first-shape : HasPlain (state_at Terms i) plain Shape
      → FirstReason (state_at Terms i) line Shape
  first-shape h = record {
    holds = (not-last, shape-said i (tokens_of line) plain entries here h);
    first = none-below (state_at Terms i) line 3 (λ lt. is.good_bytes) (λ lt. no-word)
        (λ lt. absurd (omega (arith, lt))) (λ lt. absurd (omega (arith, lt)))
        (λ lt. absurd (omega (arith, lt))) (λ lt. absurd (omega (arith, lt)))
        (λ lt. absurd (omega (arith, lt))) (λ lt. absurd (omega (arith, lt)));
  }

  -- then what is no weight
  pub first-wrong : (HasPlain (state_at Terms i) plain Shape → ⊥) → HasWrongWeight entries
      → FirstReason (state_at Terms i) line Number
  first-wrong none wrong = record {
    holds = wrong-said i (tokens_of line) plain entries here wrong;
    first = none-below (state_at Terms i) line 4 (λ lt. is.good_bytes) (λ lt. no-word)
        (λ lt. no-shape none) (λ lt. absurd (omega (arith, lt))) (λ lt. absurd (omega (arith, lt)))
        (λ lt. absurd (omega (arith, lt))) (λ lt. absurd (omega (arith, lt)))
        (λ lt. absurd (omega (arith, lt)));
  }

  module _ (right : HasWrongWeight entries → ⊥) where
    -- no reason below the k-th but those of the line without weights
    none-plain : (k : ℕ) → k ≤ 8 → (3 < k → HasPlain (state_at Terms i) plain Shape → ⊥)
        → (4 < k → HasPlain (state_at Terms i) plain Number → ⊥)
        → (5 < k → HasPlain (state_at Terms i) plain Name → ⊥)
        → (6 < k → HasPlain (state_at Terms i) plain Twice → ⊥)
        → (7 < k → HasPlain (state_at Terms i) plain Law → ⊥)
        → (reason : Reason) → reason_order reason < k → HasReason (state_at Terms i) line reason → ⊥
    none-plain k few shape number name twice law =
        none-below (state_at Terms i) line k (λ lt. is.good_bytes) (λ lt. no-word)
        (λ lt. no-shape (shape lt))
        (λ lt h. number lt (of-said i (tokens_of line) plain entries here Number right h))
        (λ lt h. name lt (of-said i (tokens_of line) plain entries here Name right h))
        (λ lt h. twice lt (of-said i (tokens_of line) plain entries here Twice right h))
        (λ lt h. law lt (of-said i (tokens_of line) plain entries here Law right h))
        (λ lt. absurd (omega (arith, lt, few)))

    module _ (bare : List ℕ) (same : IsLineOf bare plain) where
      at-bare : (reason : Reason) → HasPlain (state_at Terms i) plain reason
          → HasPlain (state_at Terms i) (tokens_of bare) reason
      at-bare reason h = rw same.tokens_are h

      -- no reason at all
      pub none-said : ((reason : Reason) → reason_order reason < 8
          → HasPlainly (state_at Terms i) bare reason → ⊥) → (reason : Reason)
          → reason_order reason < 8 → HasReason (state_at Terms i) line reason → ⊥
      none-said none = none-plain 8 (omega arith)
          (λ lt h. none Shape (omega arith) (at-bare Shape h))
          (λ lt h. none Number (omega arith) (at-bare Number h))
          (λ lt h. none Name (omega arith) (at-bare Name h))
          (λ lt h. none Twice (omega arith) (at-bare Twice h))
          (λ lt h. none Law (omega arith) (at-bare Law h))

      before : (k : ℕ) → k ≤ 8 → ((earlier : Reason) → reason_order earlier < k
          → HasPlainly (state_at Terms i) bare earlier → ⊥) → (reason : Reason)
          → reason_order reason < k → HasReason (state_at Terms i) line reason → ⊥
      before k few none = none-plain k few (λ lt h. none Shape lt (at-bare Shape h))
          (λ lt h. none Number lt (at-bare Number h)) (λ lt h. none Name lt (at-bare Name h))
          (λ lt h. none Twice lt (at-bare Twice h)) (λ lt h. none Law lt (at-bare Law h))

      of-bare : (reason : Reason) → HasPlain (state_at Terms i) (tokens_of bare) reason
          → HasPlain (state_at Terms i) plain reason
      of-bare reason h = rw same.tokens_are at h

      -- the first reason of the line without weights
      pub first-said : (reason : Reason) → FirstPlain (state_at Terms i) bare reason
          → FirstReason (state_at Terms i) line reason
      first-said Shape f = first-shape (of-bare Shape f.holds)
      first-said Number f = record {
        holds = said i (tokens_of line) plain entries here Number
            (of-bare Number f.holds);
        first = before 4 (omega arith) f.first;
      }
      first-said Name f = record {
        holds = said i (tokens_of line) plain entries here Name
            (of-bare Name f.holds);
        first = before 5 (omega arith) f.first;
      }
      first-said Twice f = record {
        holds = said i (tokens_of line) plain entries here Twice
            (of-bare Twice f.holds);
        first = before 6 (omega arith) f.first;
      }
      first-said Law f = record {
        holds = said i (tokens_of line) plain entries here Law
            (of-bare Law f.holds);
        first = before 7 (omega arith) f.first;
      }
      first-said Bytes f = absurd (same.good_bytes f.holds)
      first-said Long f = absurd f.holds
      first-said Word f = absurd f.holds
      first-said Total f = absurd f.holds
      first-said Short f = absurd f.holds
