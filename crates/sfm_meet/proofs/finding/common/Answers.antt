use Rattle.std.proofs.Common.{◌≡◌, ◌^◌, List, length, map, take, drop, ℤ, pos, rules, ap, ◌∙◌, FitsSigned}
use Rattle.std.specs.List.{All}
use Rattle.std.proofs.lemmas.Int.{to_z-of_z}
use Rattle.std.proofs.lemmas.List.Elements.{All-take, All-drop}
use mir.Syntax.{w128}
use Rattle.sfm_spec.specs.Bounds.{IsAtMost, IsEntry, total_of}
use Rattle.sfm_spec.specs.Families.{AreBases}
use Rattle.sfm_kind.specs.Limits.{AreInBounds}
use Rattle.sfm_flip.specs.Flipped.{negated}
use Rattle.sfm_meet.specs.Both.{both_terms}
use Rattle.sfm_meet.specs.Common.{IsGreatestCommon}
use Rattle.sfm_meet.specs.Met.{IsTrueMet}
use Rattle.sfm_meet.specs.Told.{side_terms}
use Rattle.sfm_meet.proofs.Small.{rows-wider, negated-small}
use Rattle.sfm_meet.proofs.Found.{count_fits, left_bases, right_bases, found_all}
use Rattle.sfm_meet.proofs.finding.common.Goals as goal
use Rattle.sfm_meet.proofs.finding.common.Goals.{In_ok-found, In_ok-common}

abbrev IsNear : List ℤ → Type 0
IsNear x = All (IsAtMost (10 ^ 25)) x

right_bounded : (c : In_ok-found)
    → AreInBounds (length c.args.left.now.names) c.args.right.now.terms
right_bounded c = rw c.requires.same c.terms-rights.ensures.bounded

-- the bases that were found, by the terms of the instances
bases_found : (c : In_ok-found)
    → AreBases (pos 1) (both_terms c.args.left.now.terms c.args.right.now.terms)
    c.in_ok-found.found.bases
bases_found c = rw (c.terms-lefts.ensures.terms, c.terms-rights.ensures.terms) at
    c.in_ok-found.ensures.bases

-- what is told of what was found
told : (c : In_ok-common) → let l = c.args.left.now in let r = c.args.right.now in let z =
    c.in_ok-found.found.bases in
    IsTrueMet (side_terms l.terms) (side_terms r.terms) (length l.names) (record {
      value = total_of c.in_ok-common.common;
      members = c.in_ok-found.found.members;
      common = c.in_ok-common.common;
      left = take (length l.terms) z;
      right = map negated (drop (length l.terms) z);
    })
    × IsGreatestCommon (side_terms l.terms) (side_terms r.terms) (length l.names)
    c.in_ok-common.common
    × IsEntry (total_of c.in_ok-common.common) × All IsEntry c.in_ok-common.common
told c =
    let l = c.args.left.now in
    let r = c.args.right.now in
    let q = c.requires in
    let e = c.in_ok-found.ensures in
    let bounded : AreInBounds (length l.names) r.terms = rw q.same c.terms-rights.ensures.bounded in
    let bases = rw (c.terms-lefts.ensures.terms, c.terms-rights.ensures.terms) at e.bases in
    let least = rw (
      c.terms-lefts.ensures.terms,
      c.terms-rights.ensures.terms,
      c.names_len-n.ensures.len,
    ) at e.least in
    let proves = rw (
      c.terms-lefts.ensures.terms,
      c.terms-rights.ensures.terms,
      c.names_len-n.ensures.len,
    ) at e.proves in
    let smaller = rw (
      c.in_ok-bases.ensures.left,
      c.in_ok-bases.ensures.right,
      c.terms-lefts.ensures.terms,
    ) at c.in_ok-common.ensures.each in
    found_all l.terms r.terms (length l.names) c.terms-lefts.ensures.bounded bounded q.left_free
    q.right_free
    c.in_ok-found.found.bases c.in_ok-found.found.members c.in_ok-common.common bases e.small least
    proves
    c.in_ok-common.ensures.count smaller

pub minimum_of-requires-clause-left : goal.minimum_of-requires-clause-left
minimum_of-requires-clause-left c = rw (c.names_len-n.ensures.len, c.terms-lefts.ensures.terms)
    c.terms-lefts.ensures.bounded

pub minimum_of-requires-clause-right : goal.minimum_of-requires-clause-right
minimum_of-requires-clause-right c =
    let bounded : AreInBounds (length c.args.left.now.names)
    c.args.right.now.terms = rw c.requires.same c.terms-rights.ensures.bounded in
    rw (c.names_len-n.ensures.len, c.terms-rights.ensures.terms) bounded

pub minimum_of-requires-clause-places : goal.minimum_of-requires-clause-places
minimum_of-requires-clause-places c = rw (c.terms-lefts.ensures.terms, c.terms-rights.ensures.terms)
    c.requires.places

pub minimum_of-requires-clause-sizes : goal.minimum_of-requires-clause-sizes
minimum_of-requires-clause-sizes c = rw (c.terms-lefts.ensures.terms, c.terms-rights.ensures.terms)
    c.requires.sizes

pub apart-requires-clause-count : goal.apart-requires-clause-count
apart-requires-clause-count c =
    let d = (goal.at.apart-requires-clause-count c).In_ok-found in
    let r = c.requires in
    rw c.terms-lefts.ensures.terms
    (count_fits c.args.left.now.terms c.args.right.now.terms (length c.args.left.now.names)
    c.terms-lefts.ensures.bounded (right_bounded d) r.left_free r.right_free
    c.in_ok-found.found.bases (bases_found d))

pub apart-requires-clause-small : goal.apart-requires-clause-small
apart-requires-clause-small c = rows-wider c.in_ok-found.found.bases c.in_ok-found.ensures.small

pub smaller_sums-requires-clause-same : goal.smaller_sums-requires-clause-same
smaller_sums-requires-clause-same c = c.requires.same

pub smaller_sums-requires-clause-left : goal.smaller_sums-requires-clause-left
smaller_sums-requires-clause-left c =
    let d = (goal.at.smaller_sums-requires-clause-left c).In_ok-found in
    let r = c.requires in
    rw (c.in_ok-bases.ensures.left, c.terms-lefts.ensures.terms)
    (left_bases c.args.left.now.terms c.args.right.now.terms (length c.args.left.now.names)
    c.terms-lefts.ensures.bounded (right_bounded d) r.left_free r.right_free
    c.in_ok-found.found.bases (bases_found d))

pub smaller_sums-requires-clause-right : goal.smaller_sums-requires-clause-right
smaller_sums-requires-clause-right c =
    let d = (goal.at.smaller_sums-requires-clause-right c).In_ok-found in
    let r = c.requires in
    rw (c.in_ok-bases.ensures.right, c.terms-lefts.ensures.terms)
    (right_bases c.args.left.now.terms c.args.right.now.terms (length c.args.left.now.names)
    c.terms-lefts.ensures.bounded (right_bounded d) r.left_free r.right_free
    c.in_ok-found.found.bases (bases_found d))

pub smaller_sums-requires-clause-left_small : goal.smaller_sums-requires-clause-left_small
smaller_sums-requires-clause-left_small c =
    let z = c.in_ok-found.found.bases in
    let k = length c.terms-lefts.result.now in
    rw c.in_ok-bases.ensures.left
    (rows-wider (take k z) (All-take IsNear k z c.in_ok-found.ensures.small))

pub smaller_sums-requires-clause-right_small : goal.smaller_sums-requires-clause-right_small
smaller_sums-requires-clause-right_small c =
    let z = c.in_ok-found.found.bases in
    let k = length c.terms-lefts.result.now in
    rw c.in_ok-bases.ensures.right (rows-wider (map negated (drop k z))
    (negated-small (10 ^ 25) (drop k z) (All-drop IsNear k z c.in_ok-found.ensures.small)))

pub sum_of-value-requires-clause-small : goal.sum_of-value-requires-clause-small
sum_of-value-requires-clause-small c =
    rw c.as_slice.ensures (told (goal.at.sum_of-value-requires-clause-small c).In_ok-common).3

pub returns-clause-is_true : goal.returns-clause-is_true
returns-clause-is_true c =
    let d = (goal.at.returns-clause-is_true c).In_ok-common in
    let fs : FitsSigned w128 c.sum_of-value.result = search rules in
    let sum : c.sum_of-value.result ≡ total_of c.in_ok-common.common = c.sum_of-value.ensures
    ∙ ap total_of c.as_slice.ensures in
    let met = (told d).0 in
    simp to_z-of_z (rw (
      sum,
      c.in_ok-bases.ensures.left,
      c.in_ok-bases.ensures.right,
      c.terms-lefts.ensures.terms,
    ) met)

pub returns-clause-greatest : goal.returns-clause-greatest
returns-clause-greatest c = (told (goal.at.returns-clause-greatest c).In_ok-common).1

pub returns-clause-value : goal.returns-clause-value
returns-clause-value c =
    let d = (goal.at.returns-clause-value c).In_ok-common in
    let fs : FitsSigned w128 c.sum_of-value.result = search rules in
    let sum : c.sum_of-value.result ≡ total_of c.in_ok-common.common = c.sum_of-value.ensures
    ∙ ap total_of c.as_slice.ensures in
    simp to_z-of_z (rw sum (told d).2)

pub returns-clause-common : goal.returns-clause-common
returns-clause-common c = (told (goal.at.returns-clause-common c).In_ok-common).3

pub returns-clause-left : goal.returns-clause-left
returns-clause-left c =
    let z = c.in_ok-found.found.bases in
    let k = length c.terms-lefts.result.now in
    rw c.in_ok-bases.ensures.left
    (rows-wider (take k z) (All-take IsNear k z c.in_ok-found.ensures.small))

pub returns-clause-right : goal.returns-clause-right
returns-clause-right c =
    let z = c.in_ok-found.found.bases in
    let k = length c.terms-lefts.result.now in
    rw c.in_ok-bases.ensures.right (rows-wider (map negated (drop k z))
    (negated-small (10 ^ 25) (drop k z) (All-drop IsNear k z c.in_ok-found.ensures.small)))
