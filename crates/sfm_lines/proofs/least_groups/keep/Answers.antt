use Rattle.std.proofs.Common.{◌≡◌, sym, ◌∙◌, ap, arith}
use Rattle.std.proofs.lemmas.Int.{ints}
use Rattle.std.proofs.lemmas.List.{get_or_default}
use Rattle.sfm_spec.specs.Kinds.{Group}
use Rattle.sfm_laminar.specs.Crossing.{group_at, no_group}
use Rattle.sfm_lines.specs.CutParts.{IsFirstWith}
use Rattle.sfm_lines.proofs.LeastGroups.{with-none, with-lesser, with-greater}
use Rattle.sfm_lines.proofs.least_groups.keep.Goals as goal
use Rattle.sfm_lines.proofs.least_groups.keep.Goals.{In-Some, After-cap-in-Some}

-- the group that is kept and has the same members
first : (c : In-Some) → IsFirstWith c.args.group.members c.args.groups.now.items c.in-Some.i
first c = rw (sym c.members.ensures, sym c.deref.ensures.value) c.in-Some.ensures

-- and its cap
cap : (c : After-cap-in-Some) → IsFirstWith c.args.group.members c.args.groups.now.items c.in-Some.i
    → c.cap-in-Some.result ≡ (group_at c.args.groups.now.items c.in-Some.i).cap
cap c h = c.cap-in-Some.ensures
    ∙ ap (λ (g : Group). g.cap) (c.index.ensures
    ∙ get_or_default c.args.groups.now.items c.in-Some.i c.index.result.now no_group h.within)

pub returns-then-cap : goal.returns-then-cap
returns-then-cap c =
    let at = goal.at.returns-then-cap c in
    let same = first at.In-Some in
    sym (with-lesser c.args.groups.now.items c.args.group c.in-Some.i same
    (omega (
      arith,
      ints,
      c.if-cap.true,
      c.cap.ensures,
      cap at.After-cap-in-Some same,
      c.cap.type_inv,
      c.cap-in-Some.type_inv,
    )))

pub returns-else-cap : goal.returns-else-cap
returns-else-cap c =
    let at = goal.at.returns-else-cap c in
    let same = first at.In-Some in
    sym (with-greater c.args.groups.now.items c.args.group c.in-Some.i same
    (omega (
      arith,
      ints,
      c.if-cap.false,
      c.cap.ensures,
      cap at.After-cap-in-Some same,
      c.cap.type_inv,
      c.cap-in-Some.type_inv,
    )))

pub returns-in_ok-push-in-None : goal.returns-in_ok-push-in-None
returns-in_ok-push-in-None c = c.in_ok-push-in-None.ensures.items
    ∙ sym (with-none c.args.groups.now.items c.args.group
    (rw (sym c.members.ensures, sym c.deref.ensures.value) c.in-None.ensures))
