use Rattle.std.proofs.Common.{length, arith}
use Rattle.sfm_reach.proofs.Options.{match_none}
use Rattle.sfm_exchange.proofs.Levelling.{first_level, levels_closed, first_found, levelling_more, fewer_left}
use Rattle.sfm_exchange.proofs.Leading.{next_to}
use Rattle.sfm_exchange.proofs.Signing.{others_left}
use Rattle.sfm_exchange.proofs.levels.find_levels.Goals as goal

pub loop-left-init : goal.loop-left-init
loop-left-init c =
    let items = c.in_ok-push.ensures.items in
    let cleared = c.clear.ensures.items in
    rw (items, cleared) (first_level (length c.args._z.now) c.args._unions.now c.args._z.now
    c.args.signs.now.over c.remove_all.new.self c.requires.signs.above
    (others_left c.args._z.now c.args.signs.now c.remove_all.new.self c.requires.signs
    c.remove_all.ensures))

pub returns-then-is_empty : goal.returns-then-is_empty
returns-then-is_empty c =
    let inv = c.loop-left.invariant in
    levels_closed inv (next_to c.requires.few c.requires.turned inv c.next_level-level.ensures)
    (c.is_empty.ensures.empty c.if-is_empty.true)

pub returns-in-Some : goal.returns-in-Some
returns-in-Some c =
    let inv = c.loop-left.invariant in
    let common = c.in-Some.ensures in
    rw c.in_ok-push-2.ensures.items
    (first_found inv (next_to c.requires.few c.requires.turned inv c.next_level-level.ensures)
    c.in-Some.first common.1 ((c.requires.signs.below c.in-Some.first).0 common.2).1)

pub loop-left-smaller : goal.loop-left-smaller
loop-left-smaller c =
    let inv = c.loop-left.invariant in
    let (p, one) = c.is_empty.ensures.some c.if-is_empty.false in
    fewer_left inv (next_to c.requires.few c.requires.turned inv c.next_level-level.ensures) p one

pub loop-left-preserved : goal.loop-left-preserved
loop-left-preserved c =
    let inv = c.loop-left.invariant in
    let to = next_to c.requires.few c.requires.turned inv c.next_level-level.ensures in
    let none = match_none c.first_common.result _ _ c.first_common.ensures c.in_default.not-Some in
    rw c.in_ok-push-2.ensures.items
    (levelling_more inv to (λ p bit under.
    none p bit ((c.requires.signs.below p).1
    (let l = to.below p bit in omega (arith, l), under))))
