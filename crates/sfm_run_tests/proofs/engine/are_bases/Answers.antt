use Rattle.std.proofs.Common.{◌≡◌, List, length, ℤ, pos, ⊎_elim, sym, ap, ◌∙◌, subst, arith}
use Rattle.std.proofs.lemmas.Bool.{cases_lt}
use Rattle.sfm_spec.specs.Families.{Meaning, meanings}
use Rattle.sfm_spec.specs.Terms.{times, IsBase}
use Rattle.sfm_spec.specs.Walks.{term_at, base_at}
use Rattle.sfm_kind.specs.Kinds.{kind_places, kind_value}
use Rattle.sfm_law.proofs.Lists.{length-meanings, meanings-at}
use Rattle.sfm_check.proofs.Forming.{row_width, section_bases}
use Rattle.sfm_run_tests.proofs.engine.are_bases.Goals as goal

pub is_base-requires-clause-entries : goal.is_base-requires-clause-entries
is_base-requires-clause-entries c =
    ap length c.row.ensures ∙ row_width c.args.terms.now c.args.rows.now c.loop-i.i
    c.index-terms-i.result c.requires.rows c.loop-i-test.true c.index-terms-i.is

pub loop-i-preserved : goal.loop-i-preserved
loop-i-preserved c = λ j l.
    let i = c.loop-i.i in
    let ts = c.args.terms.now in
    let m = meanings-at kind_places kind_value ts i c.index-terms-i.result c.loop-i-test.true
    c.index-terms-i.is in
    let here = c.in_ok-is_base.ensures.told.0 c.if-not-branch.false in
    let here' : IsBase (times (pos 1) (kind_value c.index-terms-i.result))
    (base_at c.args.rows.now i) =
    subst (λ (x : List ℤ). IsBase (times (pos 1) (kind_value c.index-terms-i.result)) x)
    c.row.ensures here in
    let at : IsBase (times (pos 1) (term_at (meanings kind_places kind_value ts) i).value)
    (base_at c.args.rows.now i) =
    subst (λ (z : Meaning). IsBase (times (pos 1) z.value) (base_at c.args.rows.now i)) (sym m)
    here' in
    ⊎_elim
    (λ lt. c.loop-i.invariant j lt)
    (λ ge. let is : i ≡ j = omega arith in subst (λ k.
    IsBase (times (pos 1) (term_at (meanings kind_places kind_value ts) k).value)
    (base_at c.args.rows.now k)) is at)
    (cases_lt j i)

pub returns : goal.returns
returns c = λ t.
    let ts = c.args.terms.now in
    let count = length-meanings kind_places kind_value ts in
    let end = c.loop-i-test.false in
    section_bases (pos 1) ts c.args.rows.now c.requires.rows
    (λ i l. c.loop-i.invariant i (omega (arith, l, count, end)))
