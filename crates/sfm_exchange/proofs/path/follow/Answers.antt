use Rattle.std.proofs.Common.{◌≡◌, ◌+◌, ◌-◌, ap, ◌∙◌, arith}
use Rattle.sfm_reach.specs.Bits.{bit_in, set_at}
use Rattle.sfm_exchange.proofs.path.follow.Goals as goal

pub descend-requires-clause-parted : goal.descend-requires-clause-parted
descend-requires-clause-parted g c =
    let l = c.requires.first.levelled in record { below = l.below; apart = l.apart }

pub descend-requires-clause-first : goal.descend-requires-clause-first
descend-requires-clause-first g c =
    record { some = c.requires.first.levelled.some; last = c.requires.first.last }

-- from each level links lead into the one below
pub unreachable-requires : goal.unreachable-requires
unreachable-requires g c =
    let levels = c.args.levels.now in
    let stuck = rw c.in-Some.is at c.in_ok-descend.ensures.end in
    let some = stuck.some in
    let level_in = stuck.level_in in
    let k = c.in-Some.field-0.level - 1 in
    let up : k + 1 ≡ c.in-Some.field-0.level = omega (arith, some) in
    stuck.none k up (c.requires.first.levelled.leads k c.in-Some.field-0.place
    (omega (arith, up, level_in))
    (ap (λ j. bit_in (set_at levels j) c.in-Some.field-0.place) up ∙ stuck.has))
