use Rattle.std.proofs.Common.{◌≡◌, ◌∙◌, length, ap, refl, arith, false, get_or}
use Rattle.std.proofs.lemmas.List.{length-replicate}
use Rattle.sfm_laminar.specs.Grown.{grown}
use Rattle.sfm_laminar.proofs.Counted.{grown-out}
use Rattle.sfm_laminar.proofs.growing.grow.Goals as goal

pub loop-e-init : goal.loop-e-init
loop-e-init c =
    let k = length c.args.s.now in
    rw (c.in_ok-t.ensures, c.len.ensures)
    (record {
      places = length-replicate k false;
      grown = refl;
      counted = c.in_ok-counts.ensures k;
    })

pub take-requires-clause-out : goal.take-requires-clause-out
take-requires-clause-out c =
    let inv = c.loop-e.invariant in
    ap (λ t. get_or t c.loop-e.e false) inv.grown
    ∙ grown-out (length c.args.s.now) c.args.groups.now c.args.s.now c.loop-e.e
    c.requires.grouped (omega (arith, c.loop-e.auto.e-end, c.len.ensures))

pub take-requires-clause-grouped : goal.take-requires-clause-grouped
take-requires-clause-grouped c = c.requires.grouped

pub take-requires-clause-indexed : goal.take-requires-clause-indexed
take-requires-clause-indexed c = c.requires.indexed

pub take-requires-clause-counted : goal.take-requires-clause-counted
take-requires-clause-counted c = rw c.deref_mut.ensures.value c.loop-e.invariant.counted

pub take-requires-clause-place : goal.take-requires-clause-place
take-requires-clause-place c = omega (arith, c.loop-e-test.true, c.len-e-end.ensures)

pub returns : goal.returns
returns c =
    let s = c.args.s.now in
    let all : c.loop-e.e ≡ length
    s = omega (arith, c.loop-e.auto.e-end, c.loop-e-test.false, c.len-e-end.ensures) in
    c.loop-e.invariant.grown ∙ ap (grown (length s) c.args.groups.now s) all
