-- What the header, the ground line and the last line lead to, and the reasons that they have.
use Rattle.std.proofs.Common.{◌≡◌, ◌≢◌, ◌⊎◌, Option, ℤ, ℕ, ◌<◌, ◌≤◌, List, [], ◌∷◌, length, get_or, map, Bor, codes, refl, sym, ap, ◌∙◌, inl, inr, arith}
use Rattle.std.specs.List.{All, Any}
use Rattle.std.proofs.lemmas.List.Elements.{All-get_or}
use Rattle.sfm_spec.specs.Names.{IsName}
use Rattle.sfm_kind.specs.Instance.{InstanceData}
use Rattle.sfm_kind.specs.declared.version.Version.{Version}
use Rattle.sfm_kind.specs.declared.version.Version.TheVariants.{First, Second}
use Rattle.sfm_lines.specs.declared.reason.Reason.{Reason}
use Rattle.sfm_lines.specs.declared.reason.Reason.TheVariants.{Long, Bytes, Word, Shape, Number, Name, Twice, Law, Total}
use Rattle.sfm_lines.specs.declared.stage.Stage.TheVariants.{Header, Ground, Terms, Ended}
use Rattle.sfm_lines.specs.declared.word.TermWord.{TermWord}
use Rattle.sfm_lines.specs.declared.word.TermWord.TheVariants.{RankWord}
use Rattle.sfm_lines.specs.Lines.{tokens_of}
use Rattle.sfm_lines.specs.Parts.{LineParts, IsSeparator, HaveNoSeparator}
use Rattle.sfm_lines.specs.Versions.{header_tokens}
use Rattle.sfm_lines.specs.Words.{word_text}
use Rattle.sfm_lines.specs.TermLines.{StandsTwice}
use Rattle.sfm_lines.specs.Reading.{State, HasReason, HasPlain, FirstReason, Takes, HasTermLine, reason_order}
use Rattle.sfm_lines.specs.Weights.{IsPlainLine, IsWeightText}
use Rattle.sfm_lines.specs.ReadParts.{state_at, IsLineOf}
use Rattle.sfm_lines.proofs.Colons.{none-any}
use Rattle.sfm_lines.proofs.TermReasons.{none-before}
use Rattle.sfm_passes.proofs.Passed.{all-more}
use Rattle.sfm_lines.proofs.WordLines.{not-end}

-- none of the reasons below the k-th
pub none-below : (s : State) (line : List ℕ) (k : ℕ) → (1 < k → HasReason s line Bytes → ⊥)
    → (2 < k → HasReason s line Word → ⊥) → (3 < k → HasReason s line Shape → ⊥)
    → (4 < k → HasReason s line Number → ⊥) → (5 < k → HasReason s line Name → ⊥)
    → (6 < k → HasReason s line Twice → ⊥) → (7 < k → HasReason s line Law → ⊥)
    → (8 < k → HasReason s line Total → ⊥) → (reason : Reason) → reason_order reason < k
    → HasReason s line reason → ⊥
none-below s line k bytes word shape number name twice law total =
    none-before (HasReason s line) k (λ h. h) bytes word shape number name twice law total (λ h. h)

order-below : (reason : Reason) → reason_order reason < 10
order-below Long = omega arith
order-below _ = omega arith

-- the same tokens
pub line-as : (line : List ℕ) (a b : List (List ℕ)) → a ≡ b → IsLineOf line a → IsLineOf line b
line-as line a b e is = record { tokens_are = is.tokens_are ∙ e; good_bytes = is.good_bytes }

-- one text
pub one-text : (texts : List (Bor (List ℕ))) (d : Bor (List ℕ)) (x : List ℕ) → length texts ≡ 1
    → (get_or texts 0 d).now ≡ x → map (λ t. t.now) texts ≡ x ∷ []
one-text [] d x n e = absurd (omega arith)
one-text (a ∷ []) d x n e = ap (λ (l : List ℕ). l ∷ []) e
one-text (a ∷ b ∷ texts) d x n e = absurd (omega arith)

-- the word of the ground line is no mark
pub ground-unmarked : (names : List (List ℕ)) → HaveNoSeparator names
    → HaveNoSeparator (codes "ground" ∷ names)
ground-unmarked names unmarked = all-more (λ token. IsSeparator token → ⊥) (codes "ground") names _
    refl no-mark unmarked
  where
    no-mark : IsSeparator (codes "ground") → ⊥
    no-mark (inl e) = absurd (omega (arith, ap length e))
    no-mark (inr e) = absurd (omega (arith, ap length e))

-- no reason at all
pub none-at-all : (s : State) (line : List ℕ) → (HasReason s line Bytes → ⊥)
    → (HasReason s line Word → ⊥) → (HasReason s line Shape → ⊥) → (HasReason s line Number → ⊥)
    → (HasReason s line Name → ⊥) → (HasReason s line Twice → ⊥) → (HasReason s line Law → ⊥)
    → (HasReason s line Total → ⊥) → (reason : Reason) → HasReason s line reason → ⊥
none-at-all s line bytes word shape number name twice law total reason =
    none-below s line 10 (λ lt. bytes) (λ lt. word) (λ lt. shape) (λ lt. number) (λ lt. name)
    (λ lt. twice) (λ lt. law) (λ lt. total) reason (order-below reason)

-- each header begins with the same word
header-word : (version : Version) → (rest : List (List ℕ))
    × (header_tokens version ≡ codes "sfm" ∷ rest)
header-word First = (codes "1" ∷ [], refl)
header-word Second = (codes "2" ∷ [], refl)

module _ (i : InstanceData) (line : List ℕ) where
  -- the header
  pub header-good : (version : Version) → IsLineOf line (header_tokens version)
      → Takes (state_at Header i) line
      (record { stage = Ground; version = version; names = []; terms = []; lines = [] })
  header-good version is =
      let (rest, begins) = header-word version in
      record {
        good = none-at-all (state_at Header i) line is.good_bytes
            (λ h. h rest (is.tokens_are ∙ begins)) (λ h. h version is.tokens_are) (λ h. h) (λ h. h)
            (λ h. h) (λ h. h) (λ h. h);
        adds = (version, is.tokens_are, refl);
      }

  module _ (names : List (List ℕ)) (is : IsLineOf line (codes "ground" ∷ names)) where
    names-same : (rest : List (List ℕ)) → tokens_of line ≡ codes "ground" ∷ rest → rest ≡ names
    names-same rest e =
        let both : codes "ground" ∷ rest ≡ codes "ground" ∷ names = sym e ∙ is.tokens_are in
        cc

    -- the ground line, with a mark among its tokens
    pub ground-shape : Any IsSeparator (codes "ground" ∷ names)
        → FirstReason (state_at Ground i) line Shape
    ground-shape marks = record {
      holds = rw is.tokens_are marks;
      first = none-below (state_at Ground i) line 3 (λ lt h. is.good_bytes h)
          (λ lt h. h names is.tokens_are) (λ lt. absurd (omega arith)) (λ lt. absurd (omega arith))
          (λ lt. absurd (omega arith)) (λ lt. absurd (omega arith)) (λ lt. absurd (omega arith))
          (λ lt. absurd (omega arith));
    }

    module _ (unmarked : HaveNoSeparator (codes "ground" ∷ names)) where
      no-mark : HasReason (state_at Ground i) line Shape → ⊥
      no-mark h = none-any IsSeparator (codes "ground" ∷ names) unmarked (rw is.tokens_are at h)

      pub ground-name : Any (λ text. IsName text → ⊥) names
          → FirstReason (state_at Ground i) line Name
      ground-name wrong = record {
        holds = (names, is.tokens_are, wrong);
        first = none-below (state_at Ground i) line 5 (λ lt h. is.good_bytes h)
            (λ lt h. h names is.tokens_are) (λ lt h. no-mark h) (λ lt h. h)
            (λ lt. absurd (omega arith)) (λ lt. absurd (omega arith)) (λ lt. absurd (omega arith))
            (λ lt. absurd (omega arith));
      }

      module _ (forms : All IsName names) where
        no-name : HasReason (state_at Ground i) line Name → ⊥
        no-name (rest, e, (k, text, lt, at, wrong)) =
            let same : rest ≡ names = names-same rest e in
            let all : All IsName rest = rw same forms in
            wrong (rw at at (All-get_or IsName rest k text lt all))

        pub ground-twice : StandsTwice names → FirstReason (state_at Ground i) line Twice
        ground-twice twice = record {
          holds = (names, is.tokens_are, twice);
          first = none-below (state_at Ground i) line 6 (λ lt h. is.good_bytes h)
              (λ lt h. h names is.tokens_are) (λ lt h. no-mark h) (λ lt h. h) (λ lt h. no-name h)
              (λ lt. absurd (omega arith)) (λ lt. absurd (omega arith))
              (λ lt. absurd (omega arith));
        }

        module _ (once : StandsTwice names → ⊥) where
          no-twice : HasReason (state_at Ground i) line Twice → ⊥
          no-twice (rest, e, twice) = once (rw (names-same rest e) at twice)

          pub ground-total : 256 < length names → FirstReason (state_at Ground i) line Total
          ground-total many = record {
            holds = (names, is.tokens_are, many);
            first = none-below (state_at Ground i) line 8 (λ lt h. is.good_bytes h)
                (λ lt h. h names is.tokens_are) (λ lt h. no-mark h) (λ lt h. h) (λ lt h. no-name h)
                (λ lt h. no-twice h) (λ lt h. h) (λ lt. absurd (omega arith));
          }

          pub ground-good : length names ≤ 256
              → Takes (state_at Ground i) line
              (record { stage = Terms; version = i.version; names = names; terms = []; lines = [] })
          ground-good few = record {
            good = none-at-all (state_at Ground i) line is.good_bytes (λ h. h names is.tokens_are)
                no-mark (λ h. h) no-name no-twice (λ h. h)
                (λ (rest, e, many).
                absurd (omega (arith, many, few, ap length (names-same rest e))));
            adds = (names, is.tokens_are, refl);
          }

  module _ (rest : List (List ℕ)) (is : IsLineOf line (codes "end" ∷ rest)) where
    -- the last line is no term line
    no-term-line : (word : TermWord) (rest' : List (List ℕ))
        → tokens_of line ≡ word_text word ∷ rest' → ⊥
    no-term-line word rest' e =
        let both : word_text word ∷ rest' ≡ codes "end" ∷ rest = sym e ∙ is.tokens_are in
        let same : word_text word ≡ codes "end" = cc in
        not-end word same

    -- and is its own line without weights
    pub end-plain : (version : Version) (plain : List (List ℕ))
        (entries : List (List ℕ × Option (List ℕ)))
        → IsPlainLine version (tokens_of line) plain entries → plain ≡ tokens_of line
    end-plain version plain entries (inl (rest', bare, second, cut, h, is)) =
        absurd (no-term-line RankWord rest' cut)
    end-plain version plain entries (inr (none, is, empty)) = is

    pub end-shape : rest ≢ [] → FirstReason (state_at Terms i) line Shape
    end-shape more = record {
      holds = (
        λ e. let both : codes "end" ∷ rest ≡ codes "end" ∷ [] = sym is.tokens_are
            ∙ e in let none : rest ≡ [] = cc in more none,
        λ plain entries are word rest' parts shaped. no-term-line word rest'
            (sym (end-plain i.version plain entries are) ∙ shaped.0),
      );
      first = none-below (state_at Terms i) line 3 (λ lt h. is.good_bytes h)
          (λ lt h. h.0 rest is.tokens_are) (λ lt. absurd (omega arith)) (λ lt. absurd (omega arith))
          (λ lt. absurd (omega arith)) (λ lt. absurd (omega arith)) (λ lt. absurd (omega arith))
          (λ lt. absurd (omega arith));
    }

    no-parts : (P : TermWord → List (List ℕ) → LineParts → Type 0) (plain : List (List ℕ))
        → plain ≡ tokens_of line → HasTermLine plain P → ⊥
    no-parts P plain e (word, rest', parts, shaped, p) = no-term-line word rest' (sym e ∙ shaped.0)

    no-entries : (version : Version) (plain : List (List ℕ))
        (entries : List (List ℕ × Option (List ℕ)))
        → IsPlainLine version (tokens_of line) plain entries
        → Any (λ entry. (value : ℤ) → IsWeightText entry.1 value → ⊥) entries → ⊥
    no-entries version plain entries (inl (rest', bare, second, cut, h, is)) any =
        absurd (no-term-line RankWord rest' cut)
    no-entries version plain entries (inr (none, is, empty)) (k, e, lt, at, wrong) =
        absurd (omega (arith, lt, ap length empty))

    -- so it has no reason of a term line
    no-mid : (reason : Reason) → ((plain : List (List ℕ)) → plain ≡ tokens_of line
        → HasPlain (state_at Terms i) plain reason → ⊥)
        → (plain : List (List ℕ)) × (entries : List (List ℕ × Option (List ℕ)))
        × IsPlainLine i.version (tokens_of line) plain entries
        × (HasPlain (state_at Terms i) plain reason
        ⊎ ((reason ≡ Number) × Any (λ entry. (value : ℤ) → IsWeightText entry.1 value → ⊥)
        entries)) → ⊥
    no-mid reason none (plain, entries, are, inl h) =
        none plain (end-plain i.version plain entries are) h
    no-mid reason none (plain, entries, are, inr (e, wrong)) =
        no-entries i.version plain entries are wrong

    pub end-good : rest ≡ [] → Takes (state_at Terms i) line (state_at Ended i)
    end-good none =
        let tokens : tokens_of line ≡ codes "end" ∷ [] = is.tokens_are
        ∙ ap (λ (r : List (List ℕ)). codes "end" ∷ r) none in
        record {
          good = none-at-all (state_at Terms i) line is.good_bytes (λ h. h.0 rest is.tokens_are)
              (λ h. h.0 tokens) (no-mid Number (no-parts _)) (no-mid Name (no-parts _))
              (no-mid Twice (no-parts _)) (no-mid Law (no-parts _))
              (λ (term, weights, (plain, entries, are, stands, w), much). no-term-line stands.word
              stands.rest (sym (end-plain i.version plain entries are) ∙ stands.shaped.0));
          adds = inl (tokens, refl);
        }
