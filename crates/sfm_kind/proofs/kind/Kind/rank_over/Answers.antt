-- Each kind of rank has its own way to tell it.
use Rattle.std.proofs.Common.{◌≡◌, ◌∙◌, pos, ap, rules, FitsSigned}
use Rattle.std.specs.Int.{int_min}
use Rattle.std.proofs.lemmas.Int.{to_z-of_z}
use mir.Syntax.{w128}
use Rattle.sfm_spec.specs.Sets.{size}
use Rattle.sfm_spec.specs.Kinds.{IsWithinCaps, IsForest, IsMatchable}
use Rattle.sfm_law.proofs.Entries.{count_bits}
use Rattle.sfm_law.proofs.Fits.{given_fits}
use Rattle.sfm_kind.proofs.Parted.{uniform-over, ranks-over}
use Rattle.sfm_kind.proofs.kind.Kind.rank_over.Goals as goal

pub returns-in-Uniform : goal.returns-in-Uniform
returns-in-Uniform c =
    let term = c.in-Uniform.term in
    let fc : FitsSigned w128 term.cap = given_fits _ term.cap_given in
    let fm : FitsSigned w128 c.min.result = record { sfits = c.min.type_inv } in
    let value : c.min.result ≡ int_min (pos (size c.args.keep.now))
    term.cap = (simp to_z-of_z at c.min.ensures.value)
    ∙ ap (λ z. int_min z term.cap)
    (count_bits c.size.result (search rules) ∙ ap pos c.size.ensures) in
    rw c.in-Uniform.is (simp to_z-of_z
    (rw value (uniform-over term.cap c.args.keep.now term.cap_low)))

pub returns-in-Laminar : goal.returns-in-Laminar
returns-in-Laminar c = rw c.in-Laminar.is
    (ranks-over (IsWithinCaps c.in-Laminar.term.groups) c.args.keep.now c.rank.result
    c.rank.ensures.greatest)

pub returns-in-Graphic : goal.returns-in-Graphic
returns-in-Graphic c = rw c.in-Graphic.is
    (ranks-over (IsForest c.in-Graphic.term.ends) c.args.keep.now c.rank-in-Graphic.result
    c.rank-in-Graphic.ensures.greatest)

pub returns-in-Transversal : goal.returns-in-Transversal
returns-in-Transversal c = rw c.in-Transversal.is
    (ranks-over (IsMatchable c.in-Transversal.term.entries) c.args.keep.now
    c.rank-in-Transversal.result c.rank-in-Transversal.ensures.greatest)
