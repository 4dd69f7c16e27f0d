use Rattle.std.proofs.Common.{◌∙◌, length, ap, arith, FitsSigned}
use Rattle.std.proofs.lemmas.Int.{ints, to_z-of_z}
use mir.Syntax.{w128}
use Rattle.sfm_term_tests.proofs.trial.behind.Goals as goal

pub exchange-requires-clause-entries : goal.exchange-requires-clause-entries
exchange-requires-clause-entries g c =
    ap length (c.deref_mut.ensures.value ∙ c.in_ok-y.ensures.items) ∙ c.requires.based.entries

pub exchange-requires-clause-small : goal.exchange-requires-clause-small
exchange-requires-clause-small g c = rw (c.deref_mut.ensures.value, c.in_ok-y.ensures.items)
    c.requires.based.small

pub exchange-requires-clause-from : goal.exchange-requires-clause-from
exchange-requires-clause-from g c = rw (c.deref_mut.ensures.value, c.in_ok-y.ensures.items)
    c.requires.can.from

pub exchange-requires-clause-onto : goal.exchange-requires-clause-onto
exchange-requires-clause-onto g c = rw (c.deref_mut.ensures.value, c.in_ok-y.ensures.items)
    c.requires.can.onto

pub exchange-requires-clause-base : goal.exchange-requires-clause-base
exchange-requires-clause-base g c =
    let fq : FitsSigned w128 c.args.at.now.q = omega (arith, ints, c.requires.based.factor) in
    rw (to_z-of_z w128 c.args.at.now.q fq, c.deref_mut.ensures.value, c.in_ok-y.ensures.items)
    c.requires.based.base

pub exchange-requires-clause-room : goal.exchange-requires-clause-room
exchange-requires-clause-room g c =
    let fq : FitsSigned w128 c.args.at.now.q = omega (arith, ints, c.requires.based.factor) in
    let fa : FitsSigned w128 c.args.swap.now.a = omega (
      arith,
      ints,
      c.requires.can.low,
      c.requires.can.high,
    ) in
    rw (
      to_z-of_z w128 c.args.at.now.q fq,
      to_z-of_z w128 c.args.swap.now.a fa,
      c.deref_mut.ensures.value,
      c.in_ok-y.ensures.items,
    ) c.requires.can.room
