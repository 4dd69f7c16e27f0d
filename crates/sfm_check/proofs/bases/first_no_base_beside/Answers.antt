use Rattle.std.proofs.Common.{◌≡◌, ℕ, ◌<◌, ◌^◌, List, [], length, map, ℤ, pos, ◌≤ℤ◌, Option, Some, None, IfSome, get_or, ⊎_elim, sym, subst, arith}
use Rattle.std.specs.List.{All}
use Rattle.std.proofs.lemmas.Bool.{both_ways, cases_lt}
use Rattle.std.proofs.lemmas.List.{length-map}
use Rattle.sfm_spec.specs.Bounds.{IsFactor}
use Rattle.sfm_spec.specs.Families.{Meaning, meanings}
use Rattle.sfm_spec.specs.Terms.{times, IsBase}
use Rattle.sfm_spec.specs.Walks.{term_at, base_at}
use Rattle.sfm_kind.specs.declared.kind.Kind.{Kind}
use Rattle.sfm_kind.specs.Kinds.{kind_places, kind_value, kind_size}
use Rattle.sfm_cert.specs.Form.{AreFormedRows}
use Rattle.sfm_law.specs.Based.{IsBased}
use Rattle.sfm_law.proofs.Lists.{length-meanings, meanings-at}
use Rattle.sfm_check.specs.Findings.{AreBasesIn}
use Rattle.sfm_check.proofs.Forming.{row_count, row_width}
use Rattle.sfm_check.proofs.bases.first_no_base_beside.Goals as goal

-- there is a row for the term
row_there : (ts : List Kind) (rows : List (List ℤ)) (i : ℕ)
    → AreFormedRows (map (λ term. length (kind_places term)) ts) rows → i < length ts
    → i < length rows
row_there ts rows i formed l =
    omega (
      arith,
      l,
      row_count (map (λ term. length (kind_places term)) ts) rows formed,
      length-map ts (λ term. length (kind_places term)),
    )

-- what is said of a section holds of the one before, if there is one
said : {A : Type 0} {P Q : A → Type 0} (o : Option A) → ((b : A) → P b → Q b) → IfSome o P
    → IfSome o Q
said None f h = tt
said (Some b) f h = f b h

-- a row that is known to be a base, with all numbers within the bounds
based : (ts : List Kind) (q : ℤ) (rows : List (List ℤ)) (i : ℕ) (t : Kind)
    → All (λ term. kind_size term ≤ℤ pos (10 ^ 18)) ts → IsFactor q
    → AreFormedRows (map (λ term. length (kind_places term)) ts) rows
    → AreBasesIn (meanings kind_places kind_value ts) q rows → i < length ts → t ≡ get_or ts i t
    → IsBased kind_places kind_value kind_size t q (base_at rows i)
based ts q rows i t bounded factor formed bases l is = record {
  factor = factor;
  entries = row_width ts rows i t formed l is;
  bounded = rw (← is) at (bounded i t l);
  small = formed.small i [] (row_there ts rows i formed l);
  base = subst (λ (z : Meaning). IsBase (times q z.value) (base_at rows i))
      (meanings-at kind_places kind_value ts i t l is)
      (bases i (let count = length-meanings kind_places kind_value ts in omega (arith, l, count)));
}

pub is_base_in-requires-clause-row : goal.is_base_in-requires-clause-row
is_base_in-requires-clause-row c = row_there c.args.terms.now c.args.section.now.bases.now
    c.loop-i.i c.requires.rows c.loop-i-test.true

pub is_base_in-requires-clause-entries : goal.is_base_in-requires-clause-entries
is_base_in-requires-clause-entries c = row_width c.args.terms.now c.args.section.now.bases.now
    c.loop-i.i c.index-terms-i.result c.requires.rows c.loop-i-test.true c.index-terms-i.is

pub is_base_in-requires-clause-small : goal.is_base_in-requires-clause-small
is_base_in-requires-clause-small c =
    let rows = c.args.section.now.bases.now in c.requires.rows.small c.loop-i.i []
    (row_there c.args.terms.now rows c.loop-i.i c.requires.rows c.loop-i-test.true)

pub is_base_in-requires-clause-known : goal.is_base_in-requires-clause-known
is_base_in-requires-clause-known c =
    let ts = c.args.terms.now in
    let i = c.loop-i.i in
    said c.args.before
    (λ b (factor, formed, bases). (
      row_there ts b.now.bases.now i formed c.loop-i-test.true,
      based ts b.now.den b.now.bases.now i c.index-terms-i.result c.requires.bounded factor formed
          bases c.loop-i-test.true c.index-terms-i.is,
    ))
    c.requires.known

pub returns-then-not-branch : goal.returns-then-not-branch
returns-then-not-branch c =
    let ts = c.args.terms.now in
    let i = c.loop-i.i in
    let q = c.args.section.now.den in
    let rows = c.args.section.now.bases.now in
    let m = meanings-at kind_places kind_value ts i c.index-terms-i.result c.loop-i-test.true
    c.index-terms-i.is in
    let count = length-meanings kind_places kind_value ts in
    record {
      is_term = let l = c.loop-i-test.true in omega (arith, l, count);
      no_base = λ b. both_ways c.in_ok-is_base_in.field-0 c.if-not-branch.true
          (c.in_ok-is_base_in.ensures.1
          (subst (λ (z : Meaning). IsBase (times q z.value) (base_at rows i)) m b));
      before = c.loop-i.invariant;
    }

pub loop-i-preserved : goal.loop-i-preserved
loop-i-preserved c = λ j l.
    let i = c.loop-i.i in
    let ts = c.args.terms.now in
    let q = c.args.section.now.den in
    let rows = c.args.section.now.bases.now in
    let m = meanings-at kind_places kind_value ts i c.index-terms-i.result c.loop-i-test.true
    c.index-terms-i.is in
    let here = c.in_ok-is_base_in.ensures.0 c.if-not-branch.false in
    let at : IsBase (times q (term_at (meanings kind_places kind_value ts) i).value)
    (base_at rows i) = subst (λ (z : Meaning). IsBase (times q z.value) (base_at rows i))
    (sym m) here in
    ⊎_elim
    (λ lt. c.loop-i.invariant j lt)
    (λ ge. let is : i ≡ j = omega arith in subst (λ k.
    IsBase (times q (term_at (meanings kind_places kind_value ts) k).value) (base_at rows k)) is
    at)
    (cases_lt j i)

pub returns : goal.returns
returns c = λ i l.
    let count = length-meanings kind_places kind_value c.args.terms.now in
    let end = c.loop-i-test.false in
    c.loop-i.invariant i (omega (arith, l, count, end))
