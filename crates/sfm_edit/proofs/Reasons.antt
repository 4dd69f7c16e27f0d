-- The reasons of a line of edits: which is the first where it is not taken, and that it has none
-- where it is. Those of what stands behind `add` are those that it has as a term line.
use Rattle.std.proofs.Common.{◌≡◌, ◌≢◌, inl, inr, ℕ, ◌<◌, ◌≤◌, List, [], ◌∷◌, ◌++◌, ◌-◌, length, get_or, codes, replicate, Option, None, refl, sym, ap, subst, ◌∙◌, arith}
use Rattle.std.specs.Prelude.{Result, Ok, Err, MatchResult}
use Rattle.std.specs.List.{Any, remove}
use Rattle.std.specs.Result.{IsErrAnd}
use Rattle.sfm_kind.specs.declared.kind.Kind.{Kind}
use Rattle.sfm_kind.specs.declared.version.Version.{Version}
use Rattle.sfm_kind.specs.Instance.{InstanceData}
use Rattle.sfm_lines.specs.declared.line_fault.LineEnd.{LineEnd}
use Rattle.sfm_lines.specs.declared.line_fault.LineEnd.TheVariants.{Fault, Memory}
use Rattle.sfm_lines.specs.declared.reason.Reason.{Reason}
use Rattle.sfm_lines.specs.declared.reason.Reason.TheVariants.{Long, Bytes, Word, Shape, Number, Name, Twice, Law, Total, Short}
use Rattle.sfm_lines.specs.declared.stage.Stage.TheVariants.{Terms}
use Rattle.sfm_lines.specs.Lines.{tokens_of}
use Rattle.sfm_lines.specs.Parts.{IsSeparator}
use Rattle.sfm_lines.specs.Words.{word_text}
use Rattle.sfm_lines.specs.Reading.{IsBadByte, HasTermReason, reason_order}
use Rattle.sfm_lines.specs.ReadParts.{state_at}
use Rattle.sfm_text.specs.Adding.{HasAsTerm, IsTermRefusal, IsTermAdded}
use Rattle.sfm_text.specs.Language.{IsFirstOf}
use Rattle.sfm_text.proofs.Orders.{first_listed}
use Rattle.sfm_side.specs.Frame.{IsFramed}
use Rattle.sfm_edit.specs.Edits.{Editing, without_terms, without_line, IsDrop, IsLineNumber, HasAdded, HasEdit, edits_form}
use Rattle.sfm_edit.specs.EditLines.{IsEdited, IsEditRefusal}

-- lists with the same first token and the same rest
pub same-rest : (word : List ℕ) (a b : List (List ℕ)) → word ∷ a ≡ word ∷ b → a ≡ b
same-rest word a b e = cc

-- the words differ
pub drop-no-add : (a b : List (List ℕ)) → codes "drop" ∷ a ≡ codes "add" ∷ b → ⊥
drop-no-add a b e = let word : codes "drop" ≡ codes "add" = cc in omega (arith, ap length word)

pub end-no-drop : (a b : List (List ℕ)) → codes "end" ∷ a ≡ codes "drop" ∷ b → ⊥
end-no-drop a b e = let word : codes "end" ≡ codes "drop" = cc in omega (arith, ap length word)

pub end-no-add : (a b : List (List ℕ)) → codes "end" ∷ a ≡ codes "add" ∷ b → ⊥
end-no-add a b e =
    let word : codes "end" ≡ codes "add" = cc in
    let first : 101 ≡ 97 = ap (λ (l : List ℕ). get_or l 0 0) word in
    omega (arith, first)

-- where an answer is that of an error, what is told of the error is told of the answer
pub on-refusal : {A : Type 0} (Q : A → Type 0) (P : LineEnd → Type 0) (result : Result A LineEnd)
    (end : LineEnd) → IsErrAnd result (λ e. e ≡ end) → P end → MatchResult result Q P
on-refusal Q P (Ok a) end is p = absurd is
on-refusal Q P (Err e) end is p = subst P (sym is) p

-- an instance under edits, part by part
abbrev editing : Version → List (List ℕ) → List Kind → List ℕ → List (Option ℕ) → Editing
editing version names terms lines kept =
    record {
      instance = record { version = version; names = names; terms = terms; lines = lines };
      kept = kept;
    }

same-editing : (a b : Editing) → a.instance.version ≡ b.instance.version
    → a.instance.names ≡ b.instance.names
    → a.instance.terms ≡ b.instance.terms → a.instance.lines ≡ b.instance.lines → a.kept ≡ b.kept
    → a ≡ b
same-editing a b version names terms lines kept =
    ap (λ v. editing v a.instance.names a.instance.terms a.instance.lines a.kept) version
    ∙ (ap (λ n. editing b.instance.version n a.instance.terms a.instance.lines a.kept) names
    ∙ (ap (λ t. editing b.instance.version b.instance.names t a.instance.lines a.kept) terms
    ∙ (ap (λ l. editing b.instance.version b.instance.names b.instance.terms l a.kept) lines
    ∙ ap (λ k. editing b.instance.version b.instance.names b.instance.terms b.instance.lines k)
    kept)))

-- no term line has a reason that is said of no tokens
no-other : (instance : InstanceData) (tokens : List (List ℕ)) → (HasAdded instance tokens Long → ⊥)
    × (HasAdded instance tokens Bytes → ⊥) × (HasAdded instance tokens Short → ⊥)
no-other instance tokens = (long, bytes, short) where
  long : HasAdded instance tokens Long → ⊥
  long (rest, is, (plain, entries, line, inl h)) = h
  long (rest, is, (plain, entries, line, inr (number, h))) = absurd (cc)

  bytes : HasAdded instance tokens Bytes → ⊥
  bytes (rest, is, (plain, entries, line, inl h)) = h
  bytes (rest, is, (plain, entries, line, inr (number, h))) = absurd (cc)

  short : HasAdded instance tokens Short → ⊥
  short (rest, is, (plain, entries, line, inl h)) = h
  short (rest, is, (plain, entries, line, inr (number, h))) = absurd (cc)

-- the reasons of the form are none that the frame tells, and of the end no more than that it is no
-- edit
pub edits-framed : (instance : InstanceData) → IsFramed (edits_form instance)
edits-framed instance = record { plain = plain; ends = ends } where
  plain : (e : Editing) (tokens : List (List ℕ)) (reason : Reason) → HasEdit e tokens reason
      → (reason ≢ Long) × (reason ≢ Bytes) × (reason ≢ Short)
  plain e tokens Long h = absurd ((no-other e.instance tokens).0 h)
  plain e tokens Bytes h = absurd ((no-other e.instance tokens).1 h)
  plain e tokens Short h = absurd ((no-other e.instance tokens).2 h)
  plain e tokens _ h = (λ e. absurd (cc), λ e. absurd (cc), λ e. absurd (cc))

  ends : (e : Editing) (reason : Reason) → HasEdit e (codes "end" ∷ []) reason
      → reason_order reason ≤ 3
  ends e Word h = omega arith
  ends e Shape h = omega arith
  ends e Number (inl (text, is, none)) = absurd (end-no-drop [] (text ∷ []) is.0)
  ends e Number (inr (rest, is, h)) = absurd (end-no-add [] rest is)
  ends e _ h = absurd (end-no-add [] h.0 h.1)

-- a line with neither word
pub edit-other : (e : Editing) (tokens : List (List ℕ))
    → ((rest : List (List ℕ)) → tokens ≢ codes "drop" ∷ rest)
    → ((rest : List (List ℕ)) → tokens ≢ codes "add" ∷ rest) → IsFirstOf (HasEdit e tokens) Word
edit-other e tokens no_drop no_add =
    first_listed (HasEdit e tokens) Word (no_drop, λ word rest. no_add (word_text word ∷ rest)) none
  where
    none : (reason : Reason) → reason_order reason < 2 → HasEdit e tokens reason → ⊥
    none Long lt h = (no-other e.instance tokens).0 h
    none Bytes lt h = (no-other e.instance tokens).1 h
    none _ lt h = omega (arith, lt)

-- no token is no word
pub empty-other : (word : List ℕ) (tokens : List (List ℕ)) → tokens ≡ []
    → (rest : List (List ℕ)) → tokens ≢ word ∷ rest
empty-other word tokens none rest is = omega (arith, ap length is, ap length none)

-- another first token is not that word
pub first-other : (word first : List ℕ) (tokens more : List (List ℕ)) → tokens ≡ first ∷ more
    → first ≢ word → (rest : List (List ℕ)) → tokens ≢ word ∷ rest
first-other word first tokens more cut other rest is =
    let both : first ∷ more ≡ word ∷ rest = sym cut ∙ is in
    let same : first ≡ word = cc in
    other same

-- ---- what stands behind `drop`

-- nothing
pub drop-empty : (tokens : List (List ℕ)) → tokens ≡ [] → (text : List ℕ)
    → IsDrop (codes "drop" ∷ tokens) text → ⊥
drop-empty tokens none text (is, other) = omega (arith, ap length is, ap length none)

-- more than one token
pub drop-more : (tokens more : List (List ℕ)) (first : List ℕ) → tokens ≡ first ∷ more
    → 0 < length more → (text : List ℕ) → IsDrop (codes "drop" ∷ tokens) text → ⊥
drop-more tokens more first cut some text (is, other) =
    omega (arith, ap length is, ap length cut, some)

-- a mark
pub drop-mark : (tokens more : List (List ℕ)) (first : List ℕ) → tokens ≡ first ∷ more
    → IsSeparator first → (text : List ℕ) → IsDrop (codes "drop" ∷ tokens) text → ⊥
drop-mark tokens more first cut mark text (is, other) =
    let both : first ∷ more ≡ text ∷ [] = sym cut ∙ same-rest (codes "drop") tokens (text ∷ [])
    is in
    let same : first ≡ text = cc in
    other (subst IsSeparator same mark)

-- one token, which is no mark
pub drop-one : (tokens more : List (List ℕ)) (first : List ℕ) → tokens ≡ first ∷ more → more ≡ []
    → (IsSeparator first → ⊥) → IsDrop (codes "drop" ∷ tokens) first
drop-one tokens more first cut none other = (
  ap (λ (l : List (List ℕ)). codes "drop" ∷ l)
      (cut ∙ ap (λ (l : List (List ℕ)). first ∷ l) none),
  other,
)

-- ---- a line that begins with `drop`

module _ (e : Editing) (rest : List (List ℕ)) where
  -- none of the reasons before the k-th
  before : (k : ℕ) → (3 < k → HasEdit e (codes "drop" ∷ rest) Shape → ⊥)
      → (4 < k → HasEdit e (codes "drop" ∷ rest) Number → ⊥)
      → (reason : Reason) → reason_order reason < k
      → HasEdit e (codes "drop" ∷ rest) reason → ⊥
  before k shape number Word lt h = h.0 rest refl
  before k shape number Shape lt h = shape lt h
  before k shape number Number lt h = number lt h
  before k shape number _ lt h = drop-no-add rest h.0 h.1

  -- not one token behind the word, or a mark
  pub drop-shape : ((text : List ℕ) → IsDrop (codes "drop" ∷ rest) text → ⊥)
      → IsFirstOf (HasEdit e (codes "drop" ∷ rest)) Shape
  drop-shape none = first_listed (HasEdit e (codes "drop" ∷ rest)) Shape (inl (rest, refl, none))
      (before 3 (λ lt. absurd (omega (arith, lt))) (λ lt. absurd (omega (arith, lt))))

  module _ (text : List ℕ) (is : IsDrop (codes "drop" ∷ rest) text) where
    no-shape : HasEdit e (codes "drop" ∷ rest) Shape → ⊥
    no-shape (inl (other, at, none)) = none text is
    no-shape (inr (other, at, h)) = drop-no-add rest other at

    -- the token is the number of no line
    pub drop-number : ((i : ℕ) → IsLineNumber (length e.instance.lines) text i → ⊥)
        → IsFirstOf (HasEdit e (codes "drop" ∷ rest)) Number
    drop-number none = first_listed (HasEdit e (codes "drop" ∷ rest)) Number (inl (text, is, none))
        (before 4 (λ lt. no-shape) (λ lt. absurd (omega (arith, lt))))

    -- it is that of a line
    taken : (i : ℕ) → IsLineNumber (length e.instance.lines) text i
        → IsEdited e (codes "drop" ∷ rest) (without_line e i)
    taken i number = record {
      good = λ reason. before 10 (λ lt. no-shape) (λ lt. no-number) reason (below reason);
      says = inl (text, i, is, number, refl);
    }
      where
        below : (reason : Reason) → reason_order reason < 10
        below Long = omega arith
        below _ = omega arith

        no-number : HasEdit e (codes "drop" ∷ rest) Number → ⊥
        no-number (inl (other, at, none)) =
            let both : other ∷ [] ≡ text ∷ [] = same-rest (codes "drop") (other ∷ []) (text ∷ [])
            (sym at.0 ∙ is.0) in
            let same : other ≡ text = cc in
            (rw same at none) i number
        no-number (inr (other, at, h)) = drop-no-add rest other at

    pub drop-taken : (i : ℕ) (f : Editing) → IsLineNumber (length e.instance.lines) text i
        → f.instance.version ≡ e.instance.version → f.instance.names ≡ e.instance.names
        → f.instance.terms ≡ without_terms e.instance.lines i e.instance.terms
        → f.instance.lines ≡ remove e.instance.lines i
        → f.kept ≡ without_terms e.instance.lines i e.kept → IsEdited e (codes "drop" ∷ rest) f
    drop-taken i f number version names terms lines kept =
        subst (IsEdited e (codes "drop" ∷ rest))
        (sym (same-editing f (without_line e i) version names terms lines kept))
        (taken i number)

-- ---- a line that begins with `add`, with a line of these bytes behind it

module _ (e : Editing) (line : List ℕ) (good : Any IsBadByte line → ⊥) where
  -- what has the line as a term line, the whole has as an edit
  as-edit : (reason : Reason) → HasAsTerm e.instance line reason
      → HasEdit e (codes "add" ∷ tokens_of line) reason
  as-edit Long h = absurd h
  as-edit Short h = absurd h
  as-edit Bytes h = absurd (good h)
  as-edit Word h = (
    λ rest is. drop-no-add rest (tokens_of line) (sym is),
    λ word rest is. h word rest (same-rest (codes "add") (tokens_of line) (word_text word ∷ rest)
        is),
  )
  as-edit Shape h = inr (tokens_of line, refl, h)
  as-edit Number h = inr (tokens_of line, refl, h)
  as-edit _ h = (tokens_of line, refl, h)

  -- and the other way round
  behind-add : (reason : Reason) → HasAdded e.instance (codes "add" ∷ tokens_of line) reason
      → HasTermReason (state_at Terms e.instance) (tokens_of line) reason
  behind-add reason (rest, is, h) =
      subst (λ (tokens : List (List ℕ)). HasTermReason (state_at Terms e.instance) tokens reason)
      (sym (same-rest (codes "add") (tokens_of line) rest is)) h

  as-term : (reason : Reason) → HasEdit e (codes "add" ∷ tokens_of line) reason
      → HasAsTerm e.instance line reason
  as-term Long h = absurd ((no-other e.instance (codes "add" ∷ tokens_of line)).0 h)
  as-term Short h = absurd ((no-other e.instance (codes "add" ∷ tokens_of line)).2 h)
  as-term Bytes h = absurd ((no-other e.instance (codes "add" ∷ tokens_of line)).1 h)
  as-term Word h = λ word rest is. h.1 word rest (ap (λ (l : List (List ℕ)). codes "add" ∷ l) is)
  as-term Shape (inl (rest, is, none)) = absurd (drop-no-add rest (tokens_of line) (sym is))
  as-term Shape (inr h) = behind-add Shape h
  as-term Number (inl (text, is, none)) =
      absurd (drop-no-add (text ∷ []) (tokens_of line) (sym is.0))
  as-term Number (inr h) = behind-add Number h
  as-term Name h = behind-add Name h
  as-term Twice h = behind-add Twice h
  as-term Law h = behind-add Law h
  as-term Total h = behind-add Total h

  -- so its first reason is the first
  pub add-refused : (end : LineEnd) → IsTermRefusal e.instance line end
      → IsEditRefusal e (codes "add" ∷ tokens_of line) end
  add-refused (Fault reason) h = first_listed (HasEdit e (codes "add" ∷ tokens_of line)) reason
      (as-edit reason h.holds)
      (λ earlier lt has. h.first earlier lt (as-term earlier has))
  add-refused Memory h = tt

  -- and its terms are added
  pub add-taken : (new : InstanceData) → IsTermAdded e.instance line new
      → IsEdited e (codes "add" ∷ tokens_of line)
      (record {
        instance = new;
        kept = e.kept ++ replicate
            (length new.terms - length e.instance.terms) None;
      })
  add-taken new h = record {
    good = λ reason has. h.good reason (as-term reason has);
    says = inr (tokens_of line, refl, h.adds, refl);
  }
