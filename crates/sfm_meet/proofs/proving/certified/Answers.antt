use Rattle.std.proofs.Common.{◌≡◌, ◌^◌, map, pos, ap, ◌∙◌, arith}
use Rattle.std.proofs.lemmas.Int.{ints}
use Rattle.std.proofs.lemmas.List.Elements.{All-append}
use Rattle.std.specs.List.{All}
use Rattle.sfm_spec.specs.Bounds.{IsEntry}
use Rattle.sfm_spec.specs.Families.{meanings}
use Rattle.sfm_flip.specs.Flipped.{negated}
use Rattle.sfm_sides.specs.Sides.{side_places, side_value}
use Rattle.sfm_meet.specs.Both.{both_terms}
use Rattle.sfm_meet.proofs.Meeting.{sides_bases}
use Rattle.sfm_meet.proofs.SideTerms.{sides, sides_mean, sides_bounded, right_sizes, kinds_are_terms}
use Rattle.sfm_meet.proofs.Small.{negated-small}
use Rattle.sfm_meet.specs.Told.{side_terms}
use Rattle.sfm_meet.proofs.proving.certified.Goals as goal
use Rattle.sfm_meet.proofs.proving.certified.Goals.{After-deref}

listed : (c : After-deref) → c.deref.result.now ≡ sides c.args.left.now c.args.right.now
listed c = c.deref.ensures.value ∙ c.in_ok-sides.ensures

meant : (c : After-deref) → meanings side_places side_value c.deref.result.now ≡ both_terms
    c.args.left.now c.args.right.now
meant c = ap (meanings side_places side_value) (listed c)
    ∙ sides_mean c.args.left.now c.args.right.now

pub sides_of-requires : goal.sides_of-requires
sides_of-requires c = right_sizes c.args.left.now c.args.right.now c.requires.sizes

pub joined-requires : goal.joined-requires
joined-requires c = c.requires.right_small

pub certify-requires-clause-bounded : goal.certify-requires-clause-bounded
certify-requires-clause-bounded c =
    let r = c.requires in
    rw (listed (goal.at.certify-requires-clause-bounded c).After-deref)
    (sides_bounded c.args.n c.args.left.now c.args.right.now r.bounded_left r.bounded_right
    r.places r.sizes)

pub certify-requires-clause-bases : goal.certify-requires-clause-bases
certify-requires-clause-bases c =
    let r = c.requires in
    rw (meant (goal.at.certify-requires-clause-bases c).After-deref, c.in_ok-rows.ensures)
    (sides_bases (pos 1) (omega (arith, ints)) c.args.n (side_terms c.args.left.now)
    (side_terms c.args.right.now)
    c.args.bases.now.left c.args.bases.now.right
    (kinds_are_terms c.args.n c.args.right.now r.bounded_right.placed) r.left r.right)

pub certify-requires-clause-small : goal.certify-requires-clause-small
certify-requires-clause-small c =
    let r = c.requires in
    rw c.in_ok-rows.ensures (All-append (λ x. All IsEntry x) c.args.bases.now.left
    (map negated c.args.bases.now.right) r.left_small
    (negated-small (10 ^ 30) c.args.bases.now.right r.right_small))

pub returns-in-Proved-clause-least : goal.returns-in-Proved-clause-least
returns-in-Proved-clause-least c =
    let d = (goal.at.returns-in-Proved-clause-least c).After-deref in
    let answer = rw (c.in-Proved.is, meant d) at c.in_ok-proved.ensures.answer in
    answer.0

pub returns-in-Proved-clause-proves : goal.returns-in-Proved-clause-proves
returns-in-Proved-clause-proves c =
    let d = (goal.at.returns-in-Proved-clause-proves c).After-deref in
    let exact = rw (c.in-Proved.is, meant d, c.in_ok-rows.ensures) at
    c.in_ok-proved.ensures.exact in
    exact.0 tt

pub returns-clause-unproved : goal.returns-clause-unproved
returns-clause-unproved c =
    let d = (goal.at.returns-clause-unproved c).After-deref in
    let exact = rw (c.in-NotOptimal.is, meant d, c.in_ok-rows.ensures) at
    c.in_ok-proved.ensures.exact in
    exact.1
