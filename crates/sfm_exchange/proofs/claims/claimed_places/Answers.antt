use Rattle.std.proofs.Common.{◌≡◌, ⊎_elim, ap, ◌∙◌, sym, arith}
use Rattle.std.proofs.lemmas.Bool.{cases_lt}
use Rattle.std.proofs.lemmas.List.{get_or_past}
use Rattle.sfm_reach.specs.Bits.{bit_in, blank_bits, set_at}
use Rattle.sfm_reach.proofs.Words.{bit_in-lt, within_words}
use Rattle.sfm_exchange.proofs.claims.claimed_places.Goals as goal

pub loop-set-init : goal.loop-set-init
loop-set-init c = λ j e l. absurd (omega (arith, l))

pub loop-set-preserved : goal.loop-set-preserved
loop-set-preserved c = λ j e l one.
    let sets = c.args.sets.now in
    let i = c.loop-set.set-index in
    let m = c.union_with.ensures e in
    let a = bit_in-lt c.loop-set.all e in
    let b = bit_in-lt (set_at sets i) e in
    ⊎_elim
    (λ less. let had = c.loop-set.invariant j e less one in omega (arith, m, a, b, had))
    (λ ge.
    let here : j ≡ i = omega (arith, ge, l) in
    let this : bit_in (set_at sets i) e ≡ 1 = ap (λ k. bit_in (set_at sets k) e) (sym here) ∙ one in
    omega (arith, m, a, b, this))
    (cases_lt j i)

pub returns : goal.returns
returns c = λ j e one.
    let sets = c.args.sets.now in
    ⊎_elim
    (λ there. c.loop-set.invariant j e there one)
    (λ past. absurd (let z = ap (λ b. bit_in b e)
    (get_or_past sets j blank_bits (omega (arith, past, c.loop-set-test.false)))
    ∙ within_words blank_bits e (omega arith) in omega (arith, z, one)))
    (cases_lt j c.loop-set.set-index)
