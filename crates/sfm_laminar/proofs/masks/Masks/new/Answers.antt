use Rattle.std.proofs.Common.{◌≡◌, ◌∙◌, Bool, List, [], ap, length, arith}
use Rattle.sfm_laminar.specs.Crossing.{no_group, group_at}
use Rattle.sfm_laminar.specs.Masks.{mask}
use Rattle.sfm_laminar.proofs.Made.{made_more}
use Rattle.sfm_laminar.proofs.masks.Masks.new.Goals as goal

pub mask_of-requires-clause-ascending : goal.mask_of-requires-clause-ascending
mask_of-requires-clause-ascending c =
    rw (c.members.ensures, c.group-group.ensures.group) c.group-group.ensures.sound.ascending

pub mask_of-requires-clause-below : goal.mask_of-requires-clause-below
mask_of-requires-clause-below c =
    rw (c.members.ensures, c.group-group.ensures.group)
    (c.requires.below c.loop-i.i no_group (omega (arith, c.loop-i-test.true, c.len-i-end.ensures)))

pub loop-i-preserved : goal.loop-i-preserved
loop-i-preserved c =
    let members = c.members.ensures ∙ ap (λ g. g.members) c.group-group.ensures.group in
    rw c.in_ok-push.ensures.items
    (made_more (List Bool) [] (λ p. mask c.args.k (group_at c.args.groups.now p).members)
    c.loop-i.i _ _ c.loop-i.invariant
    (c.in_ok-mask_of.ensures ∙ ap (λ es. mask c.args.k es) members))

pub returns : goal.returns
returns c =
    let inv = c.loop-i.invariant in
    let n : c.loop-i.i ≡ length c.args.groups.now = omega (
      arith,
      c.loop-i-test.false,
      c.loop-i.auto.i-end,
    ) in
    record { places = inv.places ∙ n; sets = λ p lt. inv.each p (omega (arith, lt, n)) }
