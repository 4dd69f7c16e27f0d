-- Two instances under edits that differ only in how their terms are kept: no reason tells them
-- apart, and a line leads from two such to two such.
use Rattle.std.proofs.Common.{◌≡◌, ◌≢◌, inl, inr, ℕ, zero, suc, ◌+◌, ◌-◌, List, [], ◌∷◌, ◌++◌, length, take, drop, codes, replicate, Option, None, AllPairs, pos, refl, sym, ap, subst, ◌∙◌, arith}
use Rattle.std.specs.List.{AllZip, remove}
use Rattle.std.proofs.lemmas.Int.{ints}
use Rattle.sfm_base.specs.NumberText.{IsNumber}
use Rattle.sfm_kind.specs.declared.kind.Kind.{Kind}
use Rattle.sfm_kind.specs.Instance.{terms_in}
use Rattle.sfm_lines.specs.declared.reason.Reason.{Reason}
use Rattle.sfm_lines.specs.declared.reason.Reason.TheVariants.{Long, Bytes, Word, Shape, Number, Name, Twice, Law, Total, Short}
use Rattle.sfm_lines.specs.declared.stage.Stage.TheVariants.{Terms}
use Rattle.sfm_lines.specs.Reading.{State, Says}
use Rattle.sfm_lines.specs.ReadParts.{state_at}
use Rattle.sfm_lines.proofs.Numbers.{number-same}
use Rattle.sfm_text.specs.OneTerm.{AreOneTerm}
use Rattle.sfm_text.proofs.Alike.{Alike, term-alike}
use Rattle.sfm_text.proofs.SameLines.{AllZip-append, lines-same}
use Rattle.sfm_edit.specs.Edits.{Editing, without_terms, without_line, HasAdded, HasEdit, Drops, AddsLine}
use Rattle.sfm_edit.specs.EditLines.{Edits}
use Rattle.sfm_edit.proofs.Keeping.{grown-by}
use Rattle.sfm_edit.proofs.Reasons.{same-rest, drop-no-add, end-no-drop, end-no-add}

-- the same names, terms that are one by one the same, and the same places of the kept ones
pub record AreAlike (e f : Editing) : Type 0 where
  pub instance : Alike (state_at Terms e.instance) (state_at Terms f.instance)
  pub kept : e.kept ≡ f.kept

-- ---- each is alike to itself

one-term : (term : Kind) → AreOneTerm term term
one-term term = record {
  places = refl;
  values = λ part len. refl;
  size = refl;
  starts = λ q. refl;
  meanings = λ meant. (λ h. h, λ h. h);
}

same-terms : (terms : List Kind) → AllZip AreOneTerm terms terms
same-terms [] = tt
same-terms (term ∷ terms) = (one-term term, same-terms terms)

pub alike-itself : (e : Editing) → AllPairs (λ a b. a ≢ b) e.instance.names → AreAlike e e
alike-itself e distinct = record {
  instance = record {
    stage = refl;
    version = refl;
    names = refl;
    terms = same-terms e.instance.terms;
    lines = refl;
    distinct = distinct;
  };
  kept = refl;
}

-- ---- the reasons

added-alike : (e f : Editing) (tokens : List (List ℕ)) (reason : Reason) → AreAlike e f
    → HasAdded e.instance tokens reason → HasAdded f.instance tokens reason
added-alike e f tokens reason same (rest, is, h) = (
  rest,
  is,
  term-alike (state_at Terms e.instance) (state_at Terms f.instance) rest reason
      same.instance h,
)

-- what a line has over the one, it has over the other
pub has-alike : (e f : Editing) (tokens : List (List ℕ)) (reason : Reason) → AreAlike e f
    → HasEdit e tokens reason → HasEdit f tokens reason
has-alike e f tokens Word same h = h
has-alike e f tokens Shape same (inl h) = inl h
has-alike e f tokens Shape same (inr h) = inr (added-alike e f tokens Shape same h)
has-alike e f tokens Number same (inl (text, is, none)) =
    let count : length e.instance.lines ≡ length f.instance.lines = ap length same.instance.lines in
    inl (text, is, λ i (lt, number). none i (omega (arith, lt, count), number))
has-alike e f tokens Number same (inr h) = inr (added-alike e f tokens Number same h)
has-alike e f tokens Long same h = added-alike e f tokens Long same h
has-alike e f tokens Bytes same h = added-alike e f tokens Bytes same h
has-alike e f tokens Name same h = added-alike e f tokens Name same h
has-alike e f tokens Twice same h = added-alike e f tokens Twice same h
has-alike e f tokens Law same h = added-alike e f tokens Law same h
has-alike e f tokens Total same h = added-alike e f tokens Total same h
has-alike e f tokens Short same h = added-alike e f tokens Short same h

-- ---- what a line leads to

AllZip-take : {X Y : Type 0} (R : X → Y → Type 0) (n : ℕ) (xs : List X) (ys : List Y)
    → AllZip R xs ys → AllZip R (take n xs) (take n ys)
AllZip-take R zero xs ys h = tt
AllZip-take R (suc n) [] [] h = tt
AllZip-take R (suc n) [] (y ∷ ys) h = absurd h
AllZip-take R (suc n) (x ∷ xs) [] h = absurd h
AllZip-take R (suc n) (x ∷ xs) (y ∷ ys) h = (h.0, AllZip-take R n xs ys h.1)

AllZip-drop : {X Y : Type 0} (R : X → Y → Type 0) (n : ℕ) (xs : List X) (ys : List Y)
    → AllZip R xs ys → AllZip R (drop n xs) (drop n ys)
AllZip-drop R zero xs ys h = h
AllZip-drop R (suc n) [] [] h = tt
AllZip-drop R (suc n) [] (y ∷ ys) h = absurd h
AllZip-drop R (suc n) (x ∷ xs) [] h = absurd h
AllZip-drop R (suc n) (x ∷ xs) (y ∷ ys) h = AllZip-drop R n xs ys h.1

without-alike : (e f : Editing) (i : ℕ) → AreAlike e f
    → AreAlike (without_line e i) (without_line f i)
without-alike e f i same =
    let lines = same.instance.lines in
    let first = terms_in (take i e.instance.lines) in
    let next = terms_in (take (suc i) e.instance.lines) in
    let terms : AllZip AreOneTerm (without_terms e.instance.lines i e.instance.terms)
    (without_terms e.instance.lines i f.instance.terms) =
    AllZip-append AreOneTerm (take first e.instance.terms) (drop next e.instance.terms)
    (take first f.instance.terms) (drop next f.instance.terms)
    (AllZip-take AreOneTerm first e.instance.terms f.instance.terms same.instance.terms)
    (AllZip-drop AreOneTerm next e.instance.terms f.instance.terms same.instance.terms) in
    record {
      instance = record {
        stage = refl;
        version = same.instance.version;
        names = same.instance.names;
        terms = subst (λ (l : List ℕ).
            AllZip AreOneTerm (without_terms e.instance.lines i e.instance.terms)
            (without_terms l i f.instance.terms)) lines terms;
        lines = ap (λ (l : List ℕ). remove l i) lines;
        distinct = same.instance.distinct;
      };
      kept = ap (λ (l : List ℕ). without_terms l i e.kept) lines
          ∙ ap (without_terms f.instance.lines i) same.kept;
    }

drops-alike : (e f : Editing) (tokens : List (List ℕ)) (a b : Editing) → AreAlike e f
    → Drops e tokens a → Drops f tokens b → AreAlike a b
drops-alike e f tokens a b same (text, i, is, (lt, number), to)
    (text', i', is', (lt', number'), to') =
    let rest : text ∷ [] ≡ text' ∷ [] = same-rest (codes "drop") (text ∷ []) (text' ∷ [])
    (sym is.0 ∙ is'.0) in
    let one : text ≡ text' = cc in
    let value : pos (i + 1) ≡ pos (i' + 1) = number-same text' (pos (i + 1)) (pos (i' + 1))
    (subst (λ (t : List ℕ). IsNumber t (pos (i + 1))) one number) number' in
    let place : i ≡ i' = omega (arith, ints, value) in
    let second : b ≡ without_line f i = to' ∙ ap (without_line f) (sym place) in
    rw (to, second) (without-alike e f i same)

adds-alike : (e f : Editing) (tokens : List (List ℕ)) (a b : Editing) → AreAlike e f
    → AddsLine e tokens a → AddsLine f tokens b → AreAlike a b
adds-alike e f tokens a b same (rest, is, (s, v, says, xs, are, to), kept)
    (rest', is', (t, w, says', ys, are', to'), kept') =
    let one : rest' ≡ rest = same-rest (codes "add") rest' rest (sym is' ∙ is) in
    let second : Says e.instance.version e.instance.names rest t
    w = rw (one, ← same.instance.version, ← same.instance.names) at says' in
    let (agree, weights, counts) = lines-same e.instance.version e.instance.names rest s t v w xs ys
    same.instance.distinct says second are are' in
    let more : length a.instance.terms - length e.instance.terms ≡ length xs = grown-by
    e.instance.terms xs a.instance.terms (ap (λ (u : State). u.terms) to) in
    let more' : length b.instance.terms - length f.instance.terms ≡ length ys = grown-by
    f.instance.terms ys b.instance.terms (ap (λ (u : State). u.terms) to') in
    record {
      instance = rw (to, to') (record {
        stage = refl;
        version = same.instance.version;
        names = same.instance.names;
        terms = AllZip-append AreOneTerm e.instance.terms xs f.instance.terms ys same.instance.terms
            agree;
        lines = rw (same.instance.lines, weights, counts) refl;
        distinct = same.instance.distinct;
      });
      kept = kept ∙ (ap (λ (l : List (Option ℕ)).
          l ++ replicate (length a.instance.terms - length e.instance.terms) None) same.kept
          ∙ (ap (λ n. f.kept ++ replicate n None) (more ∙ (counts ∙ sym more')) ∙ sym kept'));
    }

pub edits-alike : (e f : Editing) (tokens : List (List ℕ)) (a b : Editing) → AreAlike e f
    → Edits e tokens a → Edits f tokens b → AreAlike a b
edits-alike e f tokens a b same (inl h) (inl g) = drops-alike e f tokens a b same h g
edits-alike e f tokens a b same (inl h) (inr g) =
    absurd (drop-no-add (h.0 ∷ []) g.0 (sym h.2.0 ∙ g.1))
edits-alike e f tokens a b same (inr g) (inl h) =
    absurd (drop-no-add (h.0 ∷ []) g.0 (sym h.2.0 ∙ g.1))
edits-alike e f tokens a b same (inr h) (inr g) = adds-alike e f tokens a b same h g

-- the end is no edit
pub end-no-edit : (e a : Editing) (tokens : List (List ℕ)) → tokens ≡ codes "end" ∷ []
    → Edits e tokens a → ⊥
end-no-edit e a tokens last (inl h) = end-no-drop [] (h.0 ∷ []) (sym last ∙ h.2.0)
end-no-edit e a tokens last (inr h) = end-no-add [] h.0 (sym last ∙ h.1)
