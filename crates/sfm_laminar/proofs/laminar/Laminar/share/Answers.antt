use Rattle.std.proofs.Common.{◌∙◌, false, length, get_or, ap, sym, FitsSigned}
use Rattle.std.proofs.lemmas.Int.{to_z-of_z}
use mir.Syntax.{w128}
use Rattle.sfm_rank.proofs.Terms.{share-in, share-out}
use Rattle.sfm_laminar.specs.LaminarLaws.{basis_of}
use Rattle.sfm_laminar.proofs.Kept.{length-basis}
use Rattle.sfm_laminar.proofs.laminar.Laminar.share.Goals as goal

pub contains-requires : goal.contains-requires
contains-requires c =
    let s = c.args.self.now in
    rw (s.based, length-basis (length s.places) s.groups s.grouped) c.requires.place

pub returns-then-not-contains : goal.returns-then-not-contains
returns-then-not-contains c =
    let s = c.args.self.now in
    let out = ap (λ t. get_or t c.args.j false) (sym s.based)
    ∙ (sym c.contains.ensures ∙ c.if-not-contains.true) in
    sym (share-out c.args.q s.w (basis_of (length s.places) s.groups) c.args.j out)

pub returns : goal.returns
returns c =
    let s = c.args.self.now in
    let fq : FitsSigned w128 c.args.q = c.ranges.q in
    let fm : FitsSigned w128 c.place_most.result = record { sfits = c.place_most.type_inv } in
    let most = simp to_z-of_z at c.place_most.ensures.value in
    let has = ap (λ t. get_or t c.args.j false) (sym s.based)
    ∙ (sym c.contains.ensures ∙ c.if-not-contains.false) in
    simp to_z-of_z
    (most ∙ sym (share-in c.args.q s.w (basis_of (length s.places) s.groups) c.args.j has))
