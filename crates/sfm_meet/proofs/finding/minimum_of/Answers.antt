use Rattle.std.proofs.Common.{◌≡◌, ap, ◌∙◌}
use Rattle.sfm_spec.specs.Families.{meanings}
use Rattle.sfm_sides.specs.Sides.{side_places, side_value}
use Rattle.sfm_meet.specs.Both.{both_terms}
use Rattle.sfm_meet.proofs.SideTerms.{sides, sides_mean, sides_bounded, right_sizes}
use Rattle.sfm_meet.proofs.finding.minimum_of.Goals as goal
use Rattle.sfm_meet.proofs.finding.minimum_of.Goals.{After-deref}

listed : (c : After-deref) → c.deref.result.now ≡ sides c.args.left.now c.args.right.now
listed c = c.deref.ensures.value ∙ c.in_ok-sides.ensures

-- what the sides mean
meant : (c : After-deref) → meanings side_places side_value c.deref.result.now ≡ both_terms
    c.args.left.now c.args.right.now
meant c = ap (meanings side_places side_value) (listed c)
    ∙ sides_mean c.args.left.now c.args.right.now

pub sides_of-requires : goal.sides_of-requires
sides_of-requires c = right_sizes c.args.left.now c.args.right.now c.requires.sizes

pub lowest-requires : goal.lowest-requires
lowest-requires c =
    let r = c.requires in
    rw (listed c) (sides_bounded c.args.n c.args.left.now c.args.right.now r.left r.right r.places
    r.sizes)

pub returns-clause-bases : goal.returns-clause-bases
returns-clause-bases c = rw (meant (goal.at.returns-clause-bases c).After-deref) at
    c.lowest.ensures.bases

pub returns-clause-small : goal.returns-clause-small
returns-clause-small c = c.lowest.ensures.small

pub returns-clause-least : goal.returns-clause-least
returns-clause-least c = rw (meant (goal.at.returns-clause-least c).After-deref) at
    c.lowest.ensures.least

pub returns-clause-proves : goal.returns-clause-proves
returns-clause-proves c = rw (meant (goal.at.returns-clause-proves c).After-deref) at
    c.lowest.ensures.proves
