use Rattle.std.proofs.Common.{◌≡◌, List, ℤ, ◌++◌, ◌∷◌, [], length, sym, ap, subst, arith, FitsSigned}
use Rattle.std.proofs.lemmas.Int.{to_z-of_z}
use mir.Syntax.{w128}
use Rattle.sfm_cert.proofs.AnswerLines.{entry_fits}
use Rattle.std.proofs.lemmas.List.{length_push}
use Rattle.sfm_readback.proofs.Needs.{NumbersSoFar, numbers_begin, numbers_more, numbers_none, numbers_left, numbers_end, not_empty, is_empty_nil}
use Rattle.sfm_readback.proofs.numbers.numbers_into.Goals as goal

pub loop-init : goal.loop-init
loop-init c = (
  rw c.clear.ensures.items (numbers_begin c.args.count c.args.bytes.now),
  rw c.clear.ensures.items,
)

pub returns-in_default : goal.returns-in_default
returns-in_default c =
    numbers_none c.args.count c.args.bytes.now c.loop.numbers.items c.loop.rest.now
    c.loop.invariant.0 (omega (arith, c.loop.invariant.1, c.loop-test.true))
    c.in_default.ensures

pub loop-preserved : goal.loop-preserved
loop-preserved c =
    let r = c.in-Some.ensures in
    let a = c.in-Some.a in
    let f : FitsSigned w128 a = entry_fits a r.0 in
    let pushed : c.push.new.self.items ≡ c.loop.numbers.items ++ a ∷ [] = simp to_z-of_z at
    c.in_ok-push.ensures.items in (
      subst (λ (x : List ℤ). NumbersSoFar c.args.count c.args.bytes.now x c.in-Some.more.now)
          (sym pushed)
          (numbers_more c.args.count c.args.bytes.now c.loop.numbers.items a c.loop.rest.now
          c.in-Some.more.now c.loop.invariant.0 r.0 r.1 r.2),
      omega (arith, length_push c.loop.numbers.items a, ap length pushed, c.loop.invariant.1),
    )

pub returns-then-not-is_empty : goal.returns-then-not-is_empty
returns-then-not-is_empty c =
    numbers_left c.args.count c.args.bytes.now c.loop.numbers.items c.loop.rest.now
    c.loop.invariant.0 (omega (
      arith,
      c.loop.invariant.1,
      c.loop-test.false,
      c.loop.auto.counter-end,
    )) (not_empty _ _ c.is_empty.ensures c.if-not-is_empty.true)

pub returns : goal.returns
returns c = (
  omega (arith, c.loop.invariant.1, c.loop-test.false, c.loop.auto.counter-end),
  c.loop.invariant.0.small,
  numbers_end c.args.count c.args.bytes.now c.loop.numbers.items c.loop.rest.now c.loop.invariant.0
      (is_empty_nil _ _ c.is_empty.ensures c.if-not-is_empty.false),
)
