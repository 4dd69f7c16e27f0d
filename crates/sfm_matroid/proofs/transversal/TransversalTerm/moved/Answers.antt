use Rattle.std.proofs.Common.{◌≡◌, ℕ, List, length, replicate, ℤ, ◌*ℤ◌, ◌∙◌, refl}
use Rattle.sfm_spec.specs.Terms.{exchanged}
use Rattle.sfm_spec.proofs.Sums.{length-exchanged}
use Rattle.sfm_law.proofs.Rooms.{base_within_room}
use Rattle.sfm_matroid.proofs.AnyRank.{can_move}
use Rattle.sfm_matroid.proofs.TransversalBases.{IsHeldBase, held_base}
use Rattle.sfm_matroid.proofs.Fits.{capped_amounts}
use Rattle.sfm_matroid.proofs.Beside.{not_near}
use Rattle.sfm_matroid.proofs.SlotNotes.{slots_moved}
use Rattle.sfm_matroid.specs.Amounts.{IsBeside}
use Rattle.sfm_matroid.specs.Notes.{slot_demands}
use Rattle.sfm_matroid.specs.declared.pair.SplitPair.{SplitPair}
use Rattle.sfm_matroid.specs.declared.splits.SlotSplit.{SlotSplit}
use Rattle.sfm_matroid.proofs.transversal.TransversalTerm.moved.Goals.{After-deref-2}
use Rattle.sfm_matroid.proofs.transversal.TransversalTerm.moved.Goals as goal

-- what the split is brought to, and what is there for it
record IsBrought (entries : List (List ℕ)) (m : ℕ) (c : ℤ) (x y demands capacities : List ℤ)
    (pair : SplitPair) : Type 0 where
  base : IsHeldBase entries m c y
  demands_are : demands ≡ y
  capacities_are : capacities ≡ replicate m c
  over : IsBeside (slot_demands entries m c x) pair.kept.demand

brought : (c : After-deref-2) → IsBrought c.args.self.now.entries c.requires.noted.m
    (c.args.at.now.q *ℤ c.args.self.now.w) c.args.at.now.x.now
    (exchanged c.args.at.now.x.now c.args.swap.now.u c.args.swap.now.v c.args.swap.now.a)
    c.deref.result.now c.deref-2.result.now c.swap.new.self
brought c =
    let r = c.requires in
    let b = r.based in
    let can = r.can in
    let n = r.noted in
    let at = c.args.at.now in
    record {
      base = held_base c.args.self.now at.q n.m n.below b.factor _
          (length-exchanged at.x.now _ _ _ ∙ b.entries)
          (base_within_room _ b.base can.from can.onto can.apart can.low can.room);
      demands_are = c.deref.ensures.value ∙ c.in_ok-after.ensures;
      capacities_are = c.deref-2.ensures.value ∙ n.holds;
      over = rw ((rw c.if-branch.false at c.in_ok-exchange.ensures.kept) ∙ n.split) at
          c.swap.ensures.kept;
    }

pub moved-requires : goal.moved-requires
moved-requires c =
    let r = c.requires in
    let s = c.args.self.now in
    let at = c.args.at.now in
    can_move (length s.places) _ _
    (λ y sized base. (held_base s at.q r.noted.m r.noted.below r.based.factor y sized
    base).capped) at.x.now r.based.entries r.based.base _ _ _ r.can

pub exchange-requires-clause-can : goal.exchange-requires-clause-can
exchange-requires-clause-can c =
    let r = c.requires in
    let s = c.args.self.now in
    let at = c.args.at.now in
    rw r.noted.split (can_move (length s.places) _ _
    (λ y sized base. (held_base s at.q r.noted.m r.noted.below r.based.factor y sized
    base).capped) at.x.now r.based.entries r.based.base _ _ _ r.can)

pub exchange-requires-clause-near : goal.exchange-requires-clause-near
exchange-requires-clause-near c = (_, c.requires.noted.near)

pub returns-then-branch : goal.returns-then-branch
returns-then-branch c =
    let n = c.requires.noted in
    let told = c.in_ok-exchange.ensures in
    record {
      m = n.m;
      below = n.below;
      holds = n.holds;
      split = rw n.split at ((rw c.if-branch.true at told.kept) _ n.near);
      spare = told.spare;
      near = not_near c.exchange.new.self _ told.near;
    }

pub bring_split-requires-clause-amounts : goal.bring_split-requires-clause-amounts
bring_split-requires-clause-amounts c =
    let h = brought c in rw h.demands_are (capped_amounts _ _ h.base.capped)

pub bring_split-requires-clause-bounded : goal.bring_split-requires-clause-bounded
bring_split-requires-clause-bounded c = let h = brought c in rw h.capacities_are h.base.bounded

pub bring_split-requires-clause-met : goal.bring_split-requires-clause-met
bring_split-requires-clause-met c =
    let h = brought c in rw (h.demands_are, h.over.lists, h.capacities_are) h.base.met

pub returns : goal.returns
returns c =
    let s = c.args.self.now in
    let n = c.requires.noted in
    let h = brought (goal.at.returns c).After-deref-2 in
    let note : SlotSplit = record {
      pair = record {
        kept = c.bring_split.new.kept;
        spare = c.swap.new.self.spare;
        near = c.swap.new.self.near;
      };
      capacities =
          c.args.note.now.capacities;
    } in
    let at = c.args.at.now in
    slots_moved s.entries n.m (at.q *ℤ s.w) n.below at.x.now _ (length-exchanged at.x.now _ _ _)
    c.swap.new.self h.over c.swap.ensures.spare note c.bring_split.result n.holds refl
    c.swap.ensures.near
    (rw (h.demands_are, h.over.lists, h.capacities_are) at c.bring_split.ensures)
