use Rattle.std.proofs.Common.{◌<◌, ◌≤◌, ◌-◌, ◌∙◌, length, get_or, pos, refl, sym, ap, arith}
use Rattle.std.proofs.lemmas.Int.{to_z-of_z}
use Rattle.std.proofs.lemmas.List.Elements.{All-get_or}
use mir.Syntax.{w128}
use Rattle.sfm_spec.specs.Bounds.{IsGiven}
use Rattle.sfm_law.proofs.Fits.{given_fits}
use Rattle.sfm_concave.proofs.Increments.{number-listed}
use Rattle.sfm_concave.proofs.concave.Concave.number.Goals as goal
use Rattle.sfm_concave.proofs.concave.Concave.number.Goals.{After-as_slice}

pub returns-then-count-eq0-clause-value : goal.returns-then-count-eq0-clause-value
returns-then-count-eq0-clause-value c = rw c.if-count-eq0.true refl

-- the place that is read is there
there : (c : After-as_slice) → (1 ≤ c.args.count)
    × (c.args.count - 1 < length c.args.self.now.values)
there c = let some = c.if-count-eq0.false in (omega (arith, some), omega (arith, some, c.requires))

-- and what is read there is given
given : (c : After-as_slice) → IsGiven (get_or c.as_slice.result.now (c.args.count - 1) (pos 0))
given c = rw c.as_slice.ensures
    (All-get_or IsGiven c.args.self.now.values (c.args.count - 1) (pos 0) (there c).1
    c.args.self.now.given)

pub bounds-as_slice-count : goal.bounds-as_slice-count
bounds-as_slice-count c = rw c.as_slice.ensures (there c).1

pub returns-clause-value : goal.returns-clause-value
returns-clause-value c =
    let s = c.args.self.now in
    let before = (goal.at.returns-clause-value c).After-as_slice in
    to_z-of_z w128 _ (given_fits _ (given before))
    ∙ (ap (λ z. get_or z (c.args.count - 1) (pos 0)) c.as_slice.ensures
    ∙ sym (number-listed s.values c.args.count (there before).0))

pub returns-clause-given : goal.returns-clause-given
returns-clause-given c =
    let is = given (goal.at.returns-clause-given c).After-as_slice in
    rw (to_z-of_z w128 _ (given_fits _ is)) is
