use Rattle.std.proofs.Common.{◌∙◌, ◌*ℤ◌, sym}
use Rattle.sfm_law.proofs.Fits.{product_low}
use Rattle.sfm_matroid.proofs.AnyRank.{even_and, not_even}
use Rattle.sfm_matroid.proofs.Frames.{some_above}
use Rattle.sfm_matroid.proofs.Kept.{transversal_kept}
use Rattle.sfm_matroid.proofs.Passed.{can_add, cap_passed, capacity_passed}
use Rattle.sfm_matroid.proofs.TransversalBases.{base_by_entries, slots_tell}
use Rattle.sfm_matroid.proofs.transversal.TransversalTerm.is_base.Goals as goal

pub adds_up-requires : goal.adds_up-requires
adds_up-requires c = let s = c.args.self.now in can_add _ _ _ _ _ c.requires.factor s.given s.low
    s.few (transversal_kept s) c.requires.entries c.requires.small

pub returns-then-not-adds_up-clause-told : goal.returns-then-not-adds_up-clause-told
returns-then-not-adds_up-clause-told c =
    let s = c.args.self.now in
    let (m, below) = some_above s.entries in
    let is = base_by_entries s c.args.q m below c.requires.factor c.args.x.now c.requires.entries in
    not_even _ _ _ _ _ _ c.ranges.q s.given is _ (rw s.based at c.adds_up.ensures.told)
    c.if-not-adds_up.true

pub can_meet-requires : goal.can_meet-requires
can_meet-requires c =
    let s = c.args.self.now in
    let cap = c.cap_of.ensures in
    rw s.framed (record {
      sized = c.requires.entries ∙ sym s.same_count;
      amounts = c.adds_up.ensures.amounts c.if-not-adds_up.false;
      bounded = capacity_passed c.cap_of.result cap.low cap.high;
    })

pub returns-clause-told : goal.returns-clause-told
returns-clause-told c =
    let s = c.args.self.now in
    let q = c.args.q in
    let x = c.args.x.now in
    let (m, below, test) = rw (
      s.framed,
      cap_passed q s.w c.requires.factor s.given c.cap_of.result c.cap_of.ensures.value,
    ) at
    c.in_ok-told.ensures in
    let is = base_by_entries s q m below c.requires.factor x c.requires.entries in
    let all = slots_tell s m below (q *ℤ s.w) (product_low q s.w c.requires.factor s.low) x
    c.requires.entries (c.adds_up.ensures.amounts c.if-not-adds_up.false) in
    even_and _ _ _ _ _ _ c.ranges.q s.given is _ (rw s.based at c.adds_up.ensures.told)
    c.if-not-adds_up.false c.in_ok-told.told _ test all
