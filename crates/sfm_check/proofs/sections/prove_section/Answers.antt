use Rattle.std.proofs.Common.{◌≡◌, ◌^◌, length, arith, subst, sym, ap, ◌∙◌, FitsSigned}
use Rattle.std.proofs.lemmas.List.{length-map}
use Rattle.std.proofs.lemmas.Int.{ints, to_z-of_z}
use mir.Syntax.{w128}
use Rattle.sfm_spec.specs.Families.{Prove, sized_shift}
use Rattle.sfm_extreme.specs.declared.extremes.Certified.TheVariants.{Proved as Proves}
use Rattle.sfm_extreme.specs.Certified.{IsAnswer}
use Rattle.sfm_check.specs.Truth.{Section, section_at}
use Rattle.sfm_check.specs.Findings.{IsToldOf}
use Rattle.sfm_check.specs.Offers.{elements, meant, said}
use Rattle.sfm_sizes.proofs.Sized.{sized-small}
use Rattle.sfm_check.proofs.Forming.{formed_parts, part_bases, same_section}
use Rattle.sfm_check.proofs.sections.prove_section.Goals as goal
use Rattle.sfm_check.proofs.sections.prove_section.Goals.{After-section_of-section, After-deref}

pub shift_by-requires-clause-sizes : goal.shift_by-requires-clause-sizes
shift_by-requires-clause-sizes c = rw c.requires.offer.sizes.places c.requires.offer.sizes

pub shift_by-requires-clause-small : goal.shift_by-requires-clause-small
shift_by-requires-clause-small c =
    let f = formed_parts c.requires.offer.formed c.requires.at c.section_of-section.ensures in
    let entry = f.entry in
    let fn : FitsSigned w128 c.section_of-section.result.num = omega (arith, ints, entry) in
    simp to_z-of_z entry

-- the denominator fits its type
fits_den : (c : After-section_of-section) → FitsSigned w128 c.section_of-section.result.den
fits_den c =
    let factor = (formed_parts c.requires.offer.formed c.requires.at
    c.section_of-section.ensures).factor in
    omega (arith, ints, factor)

-- the shift is p for each unit of size
shift : (c : After-deref) → c.deref.result.now ≡ sized_shift c.args.offer.now.sizes.now
    c.section_of-section.result.num
shift c =
    let f = formed_parts c.requires.offer.formed c.requires.at c.section_of-section.ensures in
    let entry = f.entry in
    let fn : FitsSigned w128 c.section_of-section.result.num = omega (arith, ints, entry) in
    c.deref.ensures.value ∙ simp to_z-of_z at c.in_ok-shift.ensures

pub certify_at-requires-clause-each : goal.certify_at-requires-clause-each
certify_at-requires-clause-each c =
    let is = shift (goal.at.certify_at-requires-clause-each c).After-deref in
    ap length is ∙ (length-map c.args.offer.now.sizes.now _
    ∙ (c.requires.offer.sizes.places ∙ sym c.names_len.ensures.len))

pub certify_at-requires-clause-shifts : goal.certify_at-requires-clause-shifts
certify_at-requires-clause-shifts c =
    let f = formed_parts c.requires.offer.formed c.requires.at c.section_of-section.ensures in
    let entry = f.entry in
    let is = shift (goal.at.certify_at-requires-clause-shifts c).After-deref in
    rw is (sized-small (10 ^ 30) (elements c.args.offer.now) c.args.offer.now.sizes.now
    c.section_of-section.result.num entry c.requires.offer.sizes)

pub certify_at-requires-clause-small : goal.certify_at-requires-clause-small
certify_at-requires-clause-small c =
    (formed_parts c.requires.offer.formed c.requires.at c.section_of-section.ensures).rows.small

pub certify_at-requires-clause-bases : goal.certify_at-requires-clause-bases
certify_at-requires-clause-bases c =
    let fd = fits_den (goal.at.certify_at-requires-clause-bases c).After-section_of-section in
    rw c.terms.ensures.terms (simp to_z-of_z
    (part_bases c.args.offer.now.instance.now c.requires.offer.formed
    c.requires.bases c.requires.at c.section_of-section.ensures))

pub returns : goal.returns
returns c = λ p.
    let fd = fits_den (goal.at.returns c).After-section_of-section in
    let is = shift (goal.at.returns c).After-deref in
    let found = c.in_ok-found.ensures.exact in
    let raw = rw (c.in-NotOptimal.is, c.terms.ensures.terms, c.names_len.ensures.len, is) at
    found in
    let never = simp to_z-of_z at raw.1 in
    let parts = c.section_of-section.ensures in
    never (rw (parts.num_is, parts.den_is, parts.rows_are) at p.proves)

pub returns-in-Proved : goal.returns-in-Proved
returns-in-Proved c =
    let ms = meant c.args.offer.now in
    let n = elements c.args.offer.now in
    let sizes = c.args.offer.now.sizes.now in
    let num = c.section_of-section.result.num in
    let den = c.section_of-section.result.den in
    let rows = c.section_of-section.result.bases.now in
    let fd = fits_den (goal.at.returns-in-Proved c).After-section_of-section in
    let is = shift (goal.at.returns-in-Proved c).After-deref in
    let bases = part_bases c.args.offer.now.instance.now c.requires.offer.formed c.requires.bases
    c.requires.at
    c.section_of-section.ensures in
    let exact = rw (c.in-Proved.is, c.terms.ensures.terms, c.names_len.ensures.len, is)
    at c.in_ok-found.ensures.exact in
    let proves : Prove ms n den (sized_shift sizes num) rows = simp to_z-of_z at (exact.0 tt) in
    let answer = rw (c.in-Proved.is, c.terms.ensures.terms, c.names_len.ensures.len, is)
    at c.in_ok-found.ensures.answer in
    let found = c.in-Proved.found in
    let told : IsAnswer ms n den (sized_shift sizes num) rows (Proves found) =
    simp to_z-of_z at answer in
    let plain : Section = record { num = num; den = den; bases = rows } in
    let here : IsToldOf ms n sizes plain found = record {
      proved = record { bases = bases; proves = proves };
      least = told.0;
      greatest = told.1;
      value = told.2;
    } in
    let at = section_at (said c.args.offer.now) c.args.s in
    let same : at ≡ plain = same_section at num den rows c.section_of-section.ensures in
    subst (λ (z : Section). IsToldOf ms n sizes z found) (sym same) here

pub certify_at-requires-clause-factor : goal.certify_at-requires-clause-factor
certify_at-requires-clause-factor c =
    let fd = fits_den (goal.at.certify_at-requires-clause-factor c).After-section_of-section in
    simp to_z-of_z (formed_parts c.requires.offer.formed c.requires.at
    c.section_of-section.ensures).factor
