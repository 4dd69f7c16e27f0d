-- The groups are the least of those of the line, and one that crosses another is told by the term.
use Rattle.std.proofs.Common.{length, ◌∙◌, arith}
use Rattle.sfm_kind.specs.declared.kind.Kind.TheVariants.{Laminar}
use Rattle.sfm_laminar.specs.Groups.{IsGroup, IsBelow}
use Rattle.sfm_lines.specs.declared.word.RankKind.TheVariants.{LaminarRank}
use Rattle.sfm_lines.specs.RankLines.{groups_of}
use Rattle.sfm_lines.specs.ReadParts.{parts_of}
use Rattle.sfm_lines.proofs.LeastGroups.{least-each, least-caps, crossing-from, crossing-for}
use Rattle.sfm_lines.proofs.Members.{groups-below, groups-sound}
use Rattle.sfm_lines.proofs.RankTerms.{of-rank}
use Rattle.sfm_lines.proofs.ReadLines.{kept-at}
use Rattle.sfm_lines.proofs.groups.laminar_term.Goals as goal

pub with_kept-requires-clause-sound : goal.with_kept-requires-clause-sound
with_kept-requires-clause-sound c =
    let groups = groups_of c.args.values.now (parts_of c.args.parts.now) in
    rw (c.deref.ensures.value, c.in_ok-groups.ensures)
    (least-each IsGroup groups (groups-sound c.args.values.now (parts_of c.args.parts.now)
    c.requires.each c.requires.given.low c.requires.given.small))

pub with_kept-requires-clause-below : goal.with_kept-requires-clause-below
with_kept-requires-clause-below c =
    let groups = groups_of c.args.values.now (parts_of c.args.parts.now) in
    rw (c.deref.ensures.value, c.in_ok-groups.ensures)
    (least-each (IsBelow (length c.args.places.now)) groups
    (groups-below c.args.values.now (parts_of c.args.parts.now) (length c.args.places.now)
    c.requires.named))

pub returns-in-Some : goal.returns-in-Some
returns-in-Some c =
    let values = c.args.values.now in
    let parts = parts_of c.args.parts.now in
    let made = rw c.in-Some.is at c.in_ok-made.ensures in
    let kept = c.deref.ensures.value ∙ c.in_ok-groups.ensures in (
      record {
        same_places = made.0;
        made = of-rank LaminarRank parts values (Laminar c.in-Some.laminar) c.requires.rank (
          made.1 ∙ kept-at values 0 (omega (arith, c.requires.each)) c.requires.given.small,
          λ t. rw (made.2 ∙ kept) (least-caps (groups_of values parts) t),
        );
      },
      λ cross. let (i, j, h) = crossing-for (groups_of values parts) cross in made.3 i j
          (rw kept h),
    )

pub returns : goal.returns
returns c =
    let groups = groups_of c.args.values.now (parts_of c.args.parts.now) in
    crossing-from groups (rw (c.deref.ensures.value, c.in_ok-groups.ensures) at rw c.in-None.is at
    c.in_ok-made.ensures)
