use Rattle.std.proofs.Common.{◌≢◌, ℕ, ◌-◌, ◌<◌, ◌^◌, length, get_or, pos, ◌≤ℤ◌, arith}
use Rattle.sfm_spec.specs.Families.{meanings}
use Rattle.sfm_kind.specs.declared.kind.Kind.{Kind}
use Rattle.sfm_kind.specs.Kinds.{kind_places, kind_value, kind_size}
use Rattle.sfm_cert.specs.Solved.{form_of}
use Rattle.sfm_check.specs.Findings.{AreBasesIn}
use Rattle.sfm_check.proofs.Forming.{IsFormedSection, formed_parts, small_sizes}
use Rattle.sfm_check.proofs.bases.first_no_base_at.Goals.{After-section_of-section, After-section_of-before}
use Rattle.sfm_check.proofs.bases.first_no_base_at.Goals as goal

-- the section is of good form
section : (c : After-section_of-section)
    → IsFormedSection (form_of c.args.instance.now).widths
    (record {
      num = c.section_of-section.result.num;
      den = c.section_of-section.result.den;
      bases = c.section_of-section.result.bases.now;
    })
section c = formed_parts c.requires.formed c.requires.at c.section_of-section.ensures

-- no term is too large to be asked
sizes : (c : After-section_of-section) → (k : ℕ) (d : Kind) → k < length c.args.instance.now.terms
    → kind_size (get_or c.args.instance.now.terms k d) ≤ℤ pos (10 ^ 18)
sizes c = small_sizes (length c.args.instance.now.names) c.args.instance.now.terms
    c.terms-terms.ensures.bounded

-- and so is the one before
earlier : (c : After-section_of-before) → c.args.s ≢ 0
    → IsFormedSection (form_of c.args.instance.now).widths
    (record {
      num = c.section_of-before.result.num;
      den = c.section_of-before.result.den;
      bases = c.section_of-before.result.bases.now;
    })
earlier c some = formed_parts c.requires.formed (let l = c.requires.at in omega (arith, l))
    c.section_of-before.ensures

-- whose rows are bases
bases : (c : After-section_of-before) → c.args.s ≢ 0
    → AreBasesIn (meanings kind_places kind_value c.args.instance.now.terms)
    c.section_of-before.result.den c.section_of-before.result.bases.now
bases c some = λ i l. let e = c.section_of-before.ensures in rw (e.den_is, e.rows_are) at
    (c.requires.before (c.args.s - 1) i (omega (arith, some)) l)

pub first_no_base_beside-requires-clause-bounded : goal.first_no_base_beside-requires-clause-bounded
first_no_base_beside-requires-clause-bounded c =
    rw c.terms-terms.ensures.terms
    (sizes (goal.at.first_no_base_beside-requires-clause-bounded c).After-section_of-section)

pub first_no_base_beside-requires-2-clause-factor
    : goal.first_no_base_beside-requires-2-clause-factor
first_no_base_beside-requires-2-clause-factor c =
    (section (goal.at.first_no_base_beside-requires-2-clause-factor
    c).After-section_of-section).factor

pub first_no_base_beside-requires-2-clause-bounded
    : goal.first_no_base_beside-requires-2-clause-bounded
first_no_base_beside-requires-2-clause-bounded c =
    rw c.terms-terms.ensures.terms
    (sizes (goal.at.first_no_base_beside-requires-2-clause-bounded c).After-section_of-section)

pub first_no_base_beside-requires-2-clause-rows : goal.first_no_base_beside-requires-2-clause-rows
first_no_base_beside-requires-2-clause-rows c =
    rw c.terms-terms.ensures.terms
    (section (goal.at.first_no_base_beside-requires-2-clause-rows c).After-section_of-section).rows

pub first_no_base_beside-requires-2-clause-known : goal.first_no_base_beside-requires-2-clause-known
first_no_base_beside-requires-2-clause-known c =
    let at = (goal.at.first_no_base_beside-requires-2-clause-known c).After-section_of-before in
    let some = c.if-s-eq0.false in
    let e = earlier at some in
    rw c.terms-terms.ensures.terms (e.factor, e.rows, bases at some)
