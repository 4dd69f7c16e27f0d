use Rattle.std.proofs.Common.{◌≡◌, ◌∙◌, ◌∷◌, [], ◌++◌, length, ap, arith}
use Rattle.std.proofs.lemmas.Bool.{both_ways}
use Rattle.sfm_laminar.specs.Indexes.{holders}
use Rattle.sfm_laminar.proofs.Holders.{holders_with, holders_without}
use Rattle.sfm_laminar.proofs.index.holders_of.Goals as goal
use Rattle.sfm_laminar.proofs.index.holders_of.Goals.{then-lists+in_ok-push, else-lists}

pub loop-i-preserved : goal.loop-i-preserved
loop-i-preserved c =
    let groups = c.args.groups.now in
    let i = c.loop-i.i in
    let e = c.args.e in
    let inv = c.loop-i.invariant in
    let has = rw (c.members.ensures, c.group.ensures.group) at c.lists.ensures in
    elim c.if-lists.branch [
      | then-lists+in_ok-push w ↦ rw (w.numbers-is, w.in_ok-push.ensures.items)
          (ap (λ es. es ++ i ∷ []) inv ∙ holders_with groups e i (has.0 w.if-lists.true))
      | else-lists w ↦ rw w.numbers-is
          (inv ∙ holders_without groups e i
          (λ h. both_ways c.lists.result w.if-lists.false (has.1 h)))
    ]

pub returns : goal.returns
returns c =
    let n : c.loop-i.i ≡ length c.args.groups.now = omega (
      arith,
      c.loop-i-test.false,
      c.len-i-end.ensures,
      c.loop-i.auto.i-end,
    ) in
    c.loop-i.invariant ∙ ap (λ m. holders c.args.groups.now c.args.e m) n
