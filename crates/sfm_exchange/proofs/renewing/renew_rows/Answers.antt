use Rattle.std.proofs.Common.{◌∙◌, refl, ap, length, length-set, arith}
use Rattle.std.proofs.lemmas.Int.{ints}
use Rattle.sfm_spec.specs.Terms.{times}
use Rattle.sfm_spec.proofs.Scaled.{family-times, submodular-times}
use Rattle.sfm_reach.specs.Bits.{bit_in}
use Rattle.sfm_exchange.specs.Renewed.{AreRenewed}
use Rattle.sfm_exchange.proofs.AtOnce.{exchange_asked, lead_to_s, of_others}
use Rattle.sfm_exchange.proofs.Changes.{changes_all, changes_anew, changes_grown}
use Rattle.sfm_exchange.proofs.Claiming.{IsRenewing, exchange_more, exchange_still, neither}
use Rattle.sfm_exchange.proofs.Sharing.{changes_shared, claims_shared, shared_inside, shared_lead}
use Rattle.sfm_exchange.proofs.renewing.renew_rows.Given as given
use Rattle.sfm_exchange.proofs.renewing.renew_rows.Goals as goal
use Rattle.sfm_exchange.proofs.renewing.renew_rows.Goals.{After-depending-changed, After-settle_raised-changes}

-- the exchange, and the places that depended on the last place of the step
renewing : (g : given.Over) (c : After-depending-changed g)
    → let at = c.args.at.now in IsRenewing (g.T.Term.places at.term.now)
    (times at.base.q (g.T.Term.value_of at.term.now)) c.args.hop.u c.args.hop.v
    c.requires.before.before at.base.x.now
    c.args.claimed.now c.depending-changed.result c.args.rows.now
renewing g c =
    let term = c.args.at.now.term.now in
    let r = c.requires in
    let b = r.based in
    record {
      raising = record {
        distinct = b.placed.distinct;
        family = family-times _ c.args.at.now.base.q _ (g.met.T.Term.family term);
        law = submodular-times _ c.args.at.now.base.q _ (omega (arith, ints, b.based.factor.low))
            (g.met.T.Term.submodular term);
        raised = rw (← b.based.entries) r.before.pair.from;
        lowered = rw (← b.based.entries) r.before.pair.onto;
        apart = r.before.pair.apart;
        entries = b.based.entries;
        base = b.based.base;
        moved = r.before.came;
      };
      claims = r.before.claims;
      count = r.rows ∙ b.based.entries;
      all = rw (c.elements-places.ensures, c.as_slice.ensures) at c.depending-changed.ensures;
    }

-- where the row of s has t still: what the rows are that took it in
taken_in : (g : given.Over) (c : After-settle_raised-changes g)
    → let at = c.args.at.now in let places = g.T.Term.places at.term.now in let f = times at.base.q
    (g.T.Term.value_of at.term.now) in let rows = c.args.rows.now in
    IsRenewing places f c.args.hop.u c.args.hop.v c.requires.before.before at.base.x.now
    c.args.claimed.now c.depending-changed.result rows
    → AreRenewed places f at.base.x.now c.settle_raised-changes.new.claimed
    c.settle_raised-changes.result rows c.take_in_raised.new.rows
taken_in g c r =
    let shown = c.elements-places.ensures in
    let hs = c.in_ok-of_s.ensures in
    let taken = rw (shown, hs.same) at c.take_in_raised.ensures.taken in
    let made = rw shown at c.settle_raised-changes.ensures in
    rw taken.put (record {
      claims = exchange_still r _ hs.row _ taken.joined (rw shown at (c.if-contains.ensures.0 refl))
          _ made.claimed;
      changes = changes_grown r _ hs.row c.settle_raised-changes.result _ _ taken.joined made.anew
          made.grown;
    })

pub returns-then-contains-clause-raised : goal.returns-then-contains-clause-raised
returns-then-contains-clause-raised g c =
    let q = goal.at.returns-then-contains-clause-raised g c in
    taken_in g q.After-settle_raised-changes (renewing g q.After-depending-changed)

pub returns-then-is_within-clause-raised : goal.returns-then-is_within-clause-raised
returns-then-is_within-clause-raised g c =
    let q = goal.at.returns-then-is_within-clause-raised g c in
    let r = renewing g q.After-depending-changed in
    let anew = rw c.elements-places.ensures at c.settle_raised-changes.ensures.anew in
    let had = rw c.row-before.ensures at (c.if-is_within.ensures.0 refl) in
    let all = c.all_grown.ensures in
    let taken = taken_in g q.After-settle_raised-changes r in
    record {
      claims = taken.claims;
      changes = changes_all r _ c.in_ok-of_s.ensures.row c.settle_raised-changes.result anew
          c.all_grown.result all.grown all.anew had taken;
    }

pub ask_rows-requires-clause-leads : goal.ask_rows-requires-clause-leads
ask_rows-requires-clause-leads g c = λ u l one.
    let r = renewing g (goal.at.ask_rows-requires-clause-leads g c).After-depending-changed in
    let out = rw c.elements-places.ensures at c.remove.ensures in
    lead_to_s r (c.asks_at_once.ensures c.if-asks_at_once.true) u
    (rw (← c.requires.based.based.entries) l) (of_others _ _ _ out.out out.others _ one)

pub returns-then-asks_at_once-clause-raised : goal.returns-then-asks_at_once-clause-raised
returns-then-asks_at_once-clause-raised g c =
    let r = renewing g (goal.at.returns-then-asks_at_once-clause-raised g
    c).After-depending-changed in
    let hs = c.in_ok-of_s.ensures in
    let nothing = c.asks_at_once.ensures c.if-asks_at_once.true in
    let out = rw c.elements-places.ensures at c.remove.ensures in
    let asked = rw (c.set.ensures, hs.same) at c.in_ok-anew.ensures.asked in
    let put = rw c.elements-places.ensures at c.insert.ensures in
    record {
      claims = exchange_asked r nothing _ hs.row _ out.out out.others _ _ asked;
      changes = changes_anew r _ hs.row _ nothing _ out.out out.others _ _ asked c.no_bits.ensures
          put.put put.others;
    }

pub returns-clause-raised : goal.returns-clause-raised
returns-clause-raised g c =
    let r = renewing g (goal.at.returns-clause-raised g c).After-depending-changed in
    let shown = c.elements-places.ensures in
    let hs = c.in_ok-of_s.ensures in
    let taken = rw (shown, hs.same, c.row-before.ensures) at c.take_in_raised-2.ensures.taken in
    let made = rw shown at c.settle_raised-changes-2.ensures in
    let still = exchange_more r _ hs.row _ taken.joined _
    (λ e ne none. neither c.args.claimed.now c.depending-changed.result e
    (bit_in c.settle_raised-changes-2.new.claimed e)
    (made.claimed e ne ∙ c.union_with.ensures e) none) in
    let grown = changes_grown r _ hs.row c.settle_raised-changes-2.result _ _ taken.joined made.anew
    made.grown in
    let told = c.shared_places-shared.ensures in
    let after = rw (shown, taken.put) at c.settle_shared.ensures in
    record {
      claims = claims_shared _ _ _ _ _ after.rows r.raising
          (record { within = r.raising.raised; place_is = refl; row_is = hs.row })
          (shared_lead r _ _ told) _ _ after.claimed still;
      changes = changes_shared _ _ _ _ _ after.rows _ _ _ after.grown after.anew
          (shared_inside r _ _ told) grown;
    }

pub depending-changed-requires-clause-placed : goal.depending-changed-requires-clause-placed
depending-changed-requires-clause-placed g c = rw c.elements-places.ensures c.requires.based.placed

pub depending-changed-requires-clause-rows : goal.depending-changed-requires-clause-rows
depending-changed-requires-clause-rows g c =
    rw (c.as_slice.ensures, c.elements-places.ensures)
    (c.requires.rows ∙ c.requires.based.based.entries)

pub depending-changed-requires-clause-lowered : goal.depending-changed-requires-clause-lowered
depending-changed-requires-clause-lowered g c =
    rw (c.elements-places.ensures, ← c.requires.based.based.entries) c.requires.before.pair.onto

pub contains-requires : goal.contains-requires
contains-requires g c = let b = c.requires.based in rw c.elements-places.ensures
    (b.placed.below c.args.hop.v (rw (← b.based.entries) c.requires.before.pair.onto))

pub take_in_raised-requires-clause-placed : goal.take_in_raised-requires-clause-placed
take_in_raised-requires-clause-placed g c = rw c.elements-places.ensures c.requires.based.placed

pub take_in_raised-requires-clause-rows : goal.take_in_raised-requires-clause-rows
take_in_raised-requires-clause-rows g c = rw (c.in_ok-of_s.ensures.same, c.elements-places.ensures)
    (c.requires.rows ∙ c.requires.based.based.entries)

pub take_in_raised-requires-clause-local : goal.take_in_raised-requires-clause-local
take_in_raised-requires-clause-local g c =
    rw (c.elements-places.ensures, ← c.requires.based.based.entries) c.requires.before.pair.from

pub take_in_raised-requires-clause-place : goal.take_in_raised-requires-clause-place
take_in_raised-requires-clause-place g c = let b = c.requires.based in rw c.elements-places.ensures
    (b.placed.below c.args.hop.u (rw (← b.based.entries) c.requires.before.pair.from))

pub settle_raised-changes-requires : goal.settle_raised-changes-requires
settle_raised-changes-requires g c = let b = c.requires.based in rw c.elements-places.ensures
    (b.placed.below c.args.hop.u (rw (← b.based.entries) c.requires.before.pair.from))

pub ask_rows-requires-clause-raised : goal.ask_rows-requires-clause-raised
ask_rows-requires-clause-raised g c =
    let b = c.requires.based in
    record {
      within = rw (← b.based.entries) c.requires.before.pair.from;
      place_is = rw c.elements-places.ensures refl;
      row_is = c.in_ok-of_s.ensures.row;
    }

pub ask_rows-requires-clause-rows : goal.ask_rows-requires-clause-rows
ask_rows-requires-clause-rows g c = ap length c.set.ensures
    ∙ (length-set c.row_by.new.rows c.args.hop.u c.in_ok-of_s.of_s
    ∙ (ap length c.in_ok-of_s.ensures.same ∙ c.requires.rows))

pub take_in_raised-requires-2-clause-placed : goal.take_in_raised-requires-2-clause-placed
take_in_raised-requires-2-clause-placed g c = rw c.elements-places.ensures c.requires.based.placed

pub take_in_raised-requires-2-clause-rows : goal.take_in_raised-requires-2-clause-rows
take_in_raised-requires-2-clause-rows g c =
    rw (c.in_ok-of_s.ensures.same, c.elements-places.ensures)
    (c.requires.rows ∙ c.requires.based.based.entries)

pub take_in_raised-requires-2-clause-local : goal.take_in_raised-requires-2-clause-local
take_in_raised-requires-2-clause-local g c =
    rw (c.elements-places.ensures, ← c.requires.based.based.entries) c.requires.before.pair.from

pub take_in_raised-requires-2-clause-place : goal.take_in_raised-requires-2-clause-place
take_in_raised-requires-2-clause-place g c =
    let b = c.requires.based in rw c.elements-places.ensures
    (b.placed.below c.args.hop.u (rw (← b.based.entries) c.requires.before.pair.from))

pub settle_raised-changes-requires-2 : goal.settle_raised-changes-requires-2
settle_raised-changes-requires-2 g c = let b = c.requires.based in rw c.elements-places.ensures
    (b.placed.below c.args.hop.u (rw (← b.based.entries) c.requires.before.pair.from))

pub settle_shared-requires-clause-placed : goal.settle_shared-requires-clause-placed
settle_shared-requires-clause-placed g c = rw c.elements-places.ensures c.requires.based.placed

pub settle_shared-requires-clause-place : goal.settle_shared-requires-clause-place
settle_shared-requires-clause-place g c = let b = c.requires.based in rw c.elements-places.ensures
    (b.placed.below c.args.hop.u (rw (← b.based.entries) c.requires.before.pair.from))

pub settle_shared-requires-clause-rows : goal.settle_shared-requires-clause-rows
settle_shared-requires-clause-rows g c = c.take_in_raised-2.ensures.count
    ∙ rw (c.in_ok-of_s.ensures.same, c.elements-places.ensures)
    (c.requires.rows ∙ c.requires.based.based.entries)

pub returns-then-contains-clause-rows : goal.returns-then-contains-clause-rows
returns-then-contains-clause-rows g c = c.take_in_raised.ensures.count
    ∙ ap length c.in_ok-of_s.ensures.same

pub returns-then-asks_at_once-clause-rows : goal.returns-then-asks_at_once-clause-rows
returns-then-asks_at_once-clause-rows g c = c.in_ok-anew.ensures.asked.count
    ∙ (ap length c.set.ensures ∙ (length-set c.row_by.new.rows c.args.hop.u c.in_ok-of_s.of_s
    ∙ ap length c.in_ok-of_s.ensures.same))

pub returns-clause-rows : goal.returns-clause-rows
returns-clause-rows g c = c.settle_shared.ensures.rows.count
    ∙ (c.take_in_raised-2.ensures.count ∙ ap length c.in_ok-of_s.ensures.same)

pub bounds-places-hop : goal.bounds-places-hop
bounds-places-hop g c = rw (c.elements-places.ensures, ← c.requires.based.based.entries)
    c.requires.before.pair.from

pub bounds-places-hop-2 : goal.bounds-places-hop-2
bounds-places-hop-2 g c = rw (c.elements-places.ensures, ← c.requires.based.based.entries)
    c.requires.before.pair.onto

pub set-requires : goal.set-requires
set-requires g c = rw (c.in_ok-of_s.ensures.same, c.requires.rows) c.requires.before.pair.from

pub remove-requires : goal.remove-requires
remove-requires g c = let b = c.requires.based in rw c.elements-places.ensures
    (b.placed.below c.args.hop.u (rw (← b.based.entries) c.requires.before.pair.from))

pub insert-requires : goal.insert-requires
insert-requires g c = let b = c.requires.based in rw c.elements-places.ensures
    (b.placed.below c.args.hop.u (rw (← b.based.entries) c.requires.before.pair.from))
