use Rattle.std.proofs.Common.{get_or, pos, sym, ap, FitsSigned}
use Rattle.std.proofs.lemmas.Int.{to_z-of_z}
use Rattle.std.proofs.lemmas.List.Elements.{All-get_or}
use mir.Syntax.{w128}
use Rattle.sfm_spec.specs.Bounds.{IsGiven}
use Rattle.sfm_law.proofs.Fits.{given_fits}
use Rattle.sfm_simple.specs.Subsets.{binary-members}
use Rattle.sfm_simple.proofs.breach.listed.Goals as goal

pub returns-clause-value : goal.returns-clause-value
returns-clause-value c =
    let r = c.requires in
    let values = c.args.values.now in
    let f : FitsSigned w128 (get_or values c.args.s (pos 0)) = given_fits _
    (All-get_or IsGiven values c.args.s (pos 0) (rw r.counted r.number) r.given) in
    simp to_z-of_z (ap (λ i. get_or values i (pos 0))
    (sym (binary-members c.args._k c.args.s r.number)))
