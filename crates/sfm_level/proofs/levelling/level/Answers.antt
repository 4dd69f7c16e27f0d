use Rattle.std.proofs.Common.{◌≡◌, ◌*◌, ◌^◌, length, pos, ◌≤ℤ◌, refl, sym, ap, ◌∙◌, arith, rules, FitsSigned}
use Rattle.std.proofs.lemmas.Int.{ints, to_z-of_z}
use mir.Syntax.{w128}
use Rattle.sfm_spec.specs.Families.{meanings}
use Rattle.sfm_kind.specs.Kinds.{kind_places, kind_value}
use Rattle.sfm_cert.specs.Solved.{form_of}
use Rattle.sfm_squares.specs.Level.{squares}
use Rattle.sfm_level.specs.Sums.{sums_of}
use Rattle.sfm_level.proofs.Forms.{told_formed, told_true}
use Rattle.sfm_level.proofs.Values.{sums_are, sums_only}
use Rattle.sfm_level.proofs.levelling.level.Goals as goal
use Rattle.sfm_level.proofs.levelling.level.Goals.{After-deref}

-- what the bases add up to
summed : (c : After-deref) → c.in_ok-vector.vector.items ≡ sums_of
    (meanings kind_places kind_value c.terms-terms.result.now) c.names_len-n.result
    c.in_ok-bases.bases
summed c =
    let are = c.in_ok-vector.ensures in
    sums_only (meanings kind_places kind_value c.terms-terms.result.now) c.names_len-n.result
    c.in_ok-bases.bases c.in_ok-vector.vector.items
    (record { places = are.places; exact = are.exact })

-- the squares are few
near : (c : After-deref) → squares c.deref.result.now ≤ℤ pos (11 * 10 ^ 28)
near c =
    let ts = meanings kind_places kind_value c.terms-terms.result.now in
    let n = c.names_len-n.result in
    let bases = c.in_ok-bases.bases in
    rw (c.deref.ensures.value ∙ summed c)
    (c.in_ok-bases.ensures.squares (sums_of ts n bases) (sums_are ts n bases))

pub squares_of-requires : goal.squares_of-requires
squares_of-requires c = let few = near c in omega (arith, ints, few)

pub returns-clause-is_true : goal.returns-clause-is_true
returns-clause-is_true c =
    let ts = meanings kind_places kind_value c.terms-terms.result.now in
    let r = c.in_ok-bases.ensures in
    let fs : FitsSigned w128 c.squares_of.result = search rules in
    let sum : c.squares_of.result ≡ squares c.from_vec.result
    = c.squares_of.ensures ∙ ap squares (c.deref.ensures.value ∙ sym c.from_vec.ensures) in
    simp to_z-of_z (rw (← c.terms-terms.ensures.terms, ← c.names_len-n.ensures.len)
    (told_true ts c.names_len-n.result c.in_ok-bases.bases c.from_vec.result c.squares_of.result
    r.bases r.level (c.from_vec.ensures ∙ summed (goal.at.returns-clause-is_true c).After-deref)
    sum))

pub returns-clause-formed : goal.returns-clause-formed
returns-clause-formed c =
    let ts = meanings kind_places kind_value c.terms-terms.result.now in
    let r = c.in_ok-bases.ensures in
    let fs : FitsSigned w128 c.squares_of.result = search rules in
    let same : c.deref.result.now ≡ c.from_vec.result
    = c.deref.ensures.value ∙ sym c.from_vec.ensures in
    let sum : c.squares_of.result ≡ squares c.from_vec.result
    = c.squares_of.ensures ∙ ap squares same in
    let few = rw same at (near (goal.at.returns-clause-formed c).After-deref) in
    let count : length c.from_vec.result ≡ length c.args.instance.now.names
    = ap length (c.from_vec.ensures ∙ summed (goal.at.returns-clause-formed c).After-deref)
    ∙ ((sums_are ts c.names_len-n.result c.in_ok-bases.bases).places ∙ c.names_len-n.ensures.len) in
    simp to_z-of_z (told_formed (form_of c.args.instance.now) c.args.instance.now.terms
    c.in_ok-bases.bases c.from_vec.result c.squares_of.result refl
    (rw c.terms-terms.ensures.terms at r.bases) r.small count sum few)
