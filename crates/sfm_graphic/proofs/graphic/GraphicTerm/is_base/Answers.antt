use Rattle.std.proofs.Common.{◌*ℤ◌}
use Rattle.sfm_law.proofs.Fits.{product_low}
use Rattle.sfm_matroid.proofs.AnyRank.{even_and, not_even}
use Rattle.sfm_graphic.proofs.Kept.{graphic_kept}
use Rattle.sfm_matroid.proofs.Passed.{can_add, cap_passed}
use Rattle.sfm_graphic.proofs.GraphicBases.{base_by_entries, end_amounts, tails_tell}
use Rattle.sfm_graphic.proofs.graphic.GraphicTerm.is_base.Goals as goal

pub returns-then-not-adds_up-clause-told : goal.returns-then-not-adds_up-clause-told
returns-then-not-adds_up-clause-told c =
    let s = c.args.self.now in
    not_even _ _ _ _ _ _ c.ranges.q s.given
    (base_by_entries s c.args.q c.requires.factor c.args.x.now c.requires.entries) _
    (rw s.based at c.adds_up.ensures.told) c.if-not-adds_up.true

pub returns-clause-told : goal.returns-clause-told
returns-clause-told c =
    let s = c.args.self.now in
    let test = rw (cap_passed c.args.q s.w c.requires.factor s.given c.cap_of.result
    c.cap_of.ensures.value) at c.in_ok-passed.ensures in
    even_and _ _ _ _ _ _ c.ranges.q s.given
    (base_by_entries s c.args.q c.requires.factor c.args.x.now c.requires.entries) _
    (rw s.based at c.adds_up.ensures.told) c.if-not-adds_up.false _ _ test
    (tails_tell s (c.args.q *ℤ s.w) c.args.x.now
    (product_low c.args.q s.w c.requires.factor s.low))

pub adds_up-requires : goal.adds_up-requires
adds_up-requires c = let s = c.args.self.now in can_add _ _ _ _ _ c.requires.factor s.given s.low
    s.few (graphic_kept s) c.requires.entries c.requires.small

pub passes_tails-requires : goal.passes_tails-requires
passes_tails-requires c = let cap = c.cap_of.ensures in end_amounts c.args.self.now c.cap_of.result
    cap.low cap.high c.args.x.now c.requires.entries
    (c.adds_up.ensures.amounts c.if-not-adds_up.false)
