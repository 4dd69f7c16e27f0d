-- What a term asks of its numbers and places is what has been read of its line, and the term of a
-- word is that of the line.
use Rattle.std.proofs.Common.{◌≡◌, ℕ, List, length, Option, Some, None, MatchOption, ℤ, subst}
use Rattle.std.proofs.lemmas.Result.{IfOk-weaker}
use Rattle.sfm_spec.specs.Terms.{IsSubmodular}
use Rattle.sfm_spec.specs.Kinds.{table_value}
use Rattle.sfm_concave.specs.ConcaveLaws.{RisesAt}
use Rattle.sfm_kind.specs.declared.kind.Kind.{Kind}
use Rattle.sfm_lines.specs.Parts.{LineParts}
use Rattle.sfm_lines.specs.ReadParts.{AreGiven, AreReady, IsTermOf, parts_of}
use Rattle.sfm_lines.specs.Words.{BreaksLaw}
use Rattle.sfm_lines.specs.declared.word.TermWord.{TermWord}
use Rattle.sfm_lines.specs.declared.word.TermWord.TheVariants.{TableWord, ConcaveWord}
use Rattle.sfm_lines.proofs.ReadLines.{given}
use Rattle.sfm_lines.proofs.terms.make_term.Goals as goal

-- the term of a table, or none where its numbers break its law
table-made : (parts : LineParts) (values : List ℤ) (places : List ℕ) (r : Option Kind)
    → length places ≡ length parts.elements
    → MatchOption r (IsSubmodular (length places) (table_value values) → ⊥)
    (λ term. ((p : LineParts) → IsTermOf TableWord p values places term)
    × IsSubmodular (length places) (table_value values))
    → MatchOption r (BreaksLaw TableWord parts values)
    (λ term. IsTermOf TableWord parts values places term
    × (BreaksLaw TableWord parts values → ⊥))
table-made parts values places None same h =
    subst (λ (n : ℕ). IsSubmodular n (table_value values) → ⊥) same h
table-made parts values places (Some term) same (made, law) =
    (made parts, λ none. none (subst (λ (n : ℕ). IsSubmodular n (table_value values)) same law))

-- that of a concave function
concave-made : (parts : LineParts) (values : List ℤ) (places : List ℕ) (r : Option Kind)
    → MatchOption r ((at : ℕ) × RisesAt values at)
    (λ term. ((p : LineParts) → IsTermOf ConcaveWord p values places term)
    × (((at : ℕ) × RisesAt values at) → ⊥))
    → MatchOption r (BreaksLaw ConcaveWord parts values)
    (λ term. IsTermOf ConcaveWord parts values places term
    × (BreaksLaw ConcaveWord parts values → ⊥))
concave-made parts values places None h = h
concave-made parts values places (Some term) (made, none) = (made parts, none)

-- what the term of that word takes of a line
of-word : {word other : TermWord} {parts : LineParts} {values : List ℤ} {places : List ℕ}
    → word ≡ other → AreReady word parts values places → AreGiven other values places
of-word {word} {other} {parts} {values} {places} same ready =
    given other parts values places (rw same at ready.read)

pub weight_term-requires : goal.weight_term-requires
weight_term-requires c = of-word c.in-WeightWord.is c.requires

pub cut_term-requires : goal.cut_term-requires
cut_term-requires c = of-word c.in-CutWord.is c.requires

pub need_term-requires : goal.need_term-requires
need_term-requires c = (c.args.values.now, of-word c.in-NeedWord.is c.requires)

pub cover_term-requires : goal.cover_term-requires
cover_term-requires c = of-word c.in-CoverWord.is c.requires

pub table_term-requires : goal.table_term-requires
table_term-requires c = of-word c.in-TableWord.is c.requires

pub concave_term-requires : goal.concave_term-requires
concave_term-requires c = of-word c.in-ConcaveWord.is c.requires

pub returns-in_ok-weight_term-in-WeightWord : goal.returns-in_ok-weight_term-in-WeightWord
returns-in_ok-weight_term-in-WeightWord c =
    rw c.in-WeightWord.is (
      c.in_ok-weight_term-in-WeightWord.ensures (parts_of c.args.parts.now),
      λ broken. broken,
    )

pub returns-in-CutWord : goal.returns-in-CutWord
returns-in-CutWord c = rw c.in-CutWord.is
    (c.cut_term.ensures (parts_of c.args.parts.now), λ broken. broken)

pub returns-in-NeedWord : goal.returns-in-NeedWord
returns-in-NeedWord c = rw c.in-NeedWord.is
    (c.need_term.ensures c.args.values.now (parts_of c.args.parts.now), λ broken. broken)

pub returns-in_ok-cover_term-in-CoverWord : goal.returns-in_ok-cover_term-in-CoverWord
returns-in_ok-cover_term-in-CoverWord c =
    rw c.in-CoverWord.is (
      c.in_ok-cover_term-in-CoverWord.ensures (parts_of c.args.parts.now),
      λ broken. broken,
    )

pub returns-in-TableWord : goal.returns-in-TableWord
returns-in-TableWord c =
    rw c.in-TableWord.is (IfOk-weaker c.table_term.result _ _
    (λ r h. table-made (parts_of c.args.parts.now) c.args.values.now c.args.places.now r
    c.requires.read.elements h) c.table_term.ensures)

pub returns-in-ConcaveWord : goal.returns-in-ConcaveWord
returns-in-ConcaveWord c = rw c.in-ConcaveWord.is
    (IfOk-weaker c.concave_term.result _ _
    (λ r h. concave-made (parts_of c.args.parts.now) c.args.values.now c.args.places.now r h)
    c.concave_term.ensures)
