-- In the term u is lowered and v raised at the negated base, and this exchange is owed; where
-- nothing is moved, all stays.
use Rattle.std.proofs.Common.{◌≡◌, ◌∙◌, sym, ap, length, pos, ◌≤ℤ◌, arith}
use Rattle.std.proofs.lemmas.Int.{ints}
use Rattle.sfm_spec.specs.Terms.{times, exchanged}
use Rattle.sfm_spec.proofs.Sums.{length-exchanged}
use Rattle.sfm_kind.specs.Kinds.{kind_places, kind_value}
use Rattle.sfm_flip.specs.FlipLaws.{exchanged-negated}
use Rattle.sfm_flip.specs.Flipped.{negated}
use Rattle.sfm_kind.proofs.Passed.{factor_kept, amount_kept}
use Rattle.sfm_flip.proofs.Turning.{written_back}
use Rattle.sfm_flip.proofs.Bases.{based_from, base_of, can_from}
use Rattle.sfm_flip.proofs.KnownRows.{exchanged-nothing, owed_after}
use Rattle.sfm_flip.proofs.flip.FlipTerm.moved.Goals as goal

pub moved-requires-clause-based : goal.moved-requires-clause-based
moved-requires-clause-based c =
    let s = c.args.self.now in
    let at = c.args.at.now in
    let r = c.requires in
    rw (
      factor_kept _ r.based.factor,
      c.as_slice-x.ensures ∙ (c.in_ok-settle.ensures.base ∙ r.noted.0),
      c.self.view_is,
    )
    (based_from s at.q at.x.now r.based)

pub moved-requires-clause-can : goal.moved-requires-clause-can
moved-requires-clause-can c =
    let s = c.args.self.now in
    let at = c.args.at.now in
    let swap = c.args.swap.now in
    let r = c.requires in
    rw (
      factor_kept _ r.based.factor,
      amount_kept _ r.can.low r.can.high,
      c.as_slice-x.ensures ∙ (c.in_ok-settle.ensures.base ∙ r.noted.0),
      c.self.view_is,
    )
    (can_from s at.q at.x.now r.based swap.u swap.v swap.a r.can)

pub exchange-requires-clause-small : goal.exchange-requires-clause-small
exchange-requires-clause-small c =
    let at = c.args.at.now in
    rw (c.as_mut_slice.ensures.value ∙ (c.in_ok-settle.ensures.base ∙ c.requires.noted.0))
    (based_from c.args.self.now at.q at.x.now c.requires.based).small

pub exchange-requires-clause-base : goal.exchange-requires-clause-base
exchange-requires-clause-base c =
    let s = c.args.self.now in
    let at = c.args.at.now in
    let r = c.requires in
    rw (
      factor_kept _ r.based.factor,
      c.as_mut_slice.ensures.value
          ∙ (c.in_ok-settle.ensures.base ∙ r.noted.0),
      c.self.view_is,
    )
    (based_from s at.q at.x.now r.based).base

pub exchange-requires-clause-room : goal.exchange-requires-clause-room
exchange-requires-clause-room c =
    let s = c.args.self.now in
    let at = c.args.at.now in
    let swap = c.args.swap.now in
    let r = c.requires in
    rw (
      factor_kept _ r.based.factor,
      amount_kept _ r.can.low r.can.high,
      c.as_mut_slice.ensures.value ∙ (c.in_ok-settle.ensures.base ∙ r.noted.0),
      c.self.view_is,
    )
    (can_from s at.q at.x.now r.based swap.u swap.v swap.a r.can).room

pub returns : goal.returns
returns c =
    let s = c.args.self.now in
    let at = c.args.at.now in
    let swap = c.args.swap.now in
    let r = c.requires in
    let x = at.x.now in
    let note = c.settle.new.note in
    let k : note.base ≡ negated x = c.in_ok-settle.ensures.base ∙ r.noted.0 in
    let e : c.as_mut_slice.result.now ≡ negated x = c.as_mut_slice.ensures.value ∙ k in
    let b = based_from s at.q x r.based in
    let can = can_from s at.q x r.based swap.u swap.v swap.a r.can in
    let turn = exchanged-negated x swap.v swap.u swap.a r.can.onto r.can.from can.apart in
    let m = rw (amount_kept _ r.can.low r.can.high, e) at c.exchange.ensures.moved in
    let len : length c.exchange.new.x ≡ length note.base = ap length c.exchange.ensures.moved
    ∙ (length-exchanged c.as_mut_slice.result.now swap.v swap.u _
    ∙ ap length c.as_mut_slice.ensures.value) in
    let fits = rw (
      factor_kept _ r.based.factor,
      amount_kept _ r.can.low r.can.high,
      c.as_slice-x.ensures ∙ k,
      c.self.view_is,
    ) at c.in_ok-moved.ensures in
    let some : pos 1 ≤ℤ swap.a = omega (arith, ints, r.can.low, c.if-a-eq0.false) in
    let had = rw (factor_kept _ r.based.factor, c.self.view_is) at c.in_ok-settle.ensures.settled in
    let claims = rw k at had.claims in
    let owed = owed_after (kind_places s) (times at.q (kind_value s)) (negated x) swap.v swap.u
    swap.a note.claimed note.rows b.base can.from can.onto can.apart some claims in
    rw (written_back c.exchange.new.x note.base len)
    (m ∙ turn, record { inner = rw m fits; count = had.count; rows = rw m owed })

pub settle-requires-clause-based : goal.settle-requires-clause-based
settle-requires-clause-based c =
    let s = c.args.self.now in
    let at = c.args.at.now in
    let r = c.requires in
    rw (factor_kept _ r.based.factor, r.noted.0, c.self.view_is) (base_of s at.q at.x.now r.based)

pub returns-then-a-eq0 : goal.returns-then-a-eq0
returns-then-a-eq0 c =
    let r = c.requires in
    let x = c.args.at.now.x.now in
    let swap = c.args.swap.now in
    let none : swap.a ≡ pos 0 = omega (arith, ints, c.if-a-eq0.true) in
    let same : exchanged x swap.u swap.v swap.a ≡ x = ap (exchanged x swap.u swap.v) none
    ∙ exchanged-nothing x swap.u swap.v r.can.from r.can.onto r.can.apart in
    (r.noted.0 ∙ ap negated (sym same), r.noted.1)
