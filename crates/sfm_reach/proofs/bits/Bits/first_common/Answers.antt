use Rattle.std.proofs.Common.{◌≡◌, ◌≢◌, ⊎_elim, ℕ, ◌<◌, ◌/◌, ◌^◌, get_or, rules, arith}
use Rattle.std.proofs.lemmas.Bool.{cases_lt}
use Rattle.std.proofs.lemmas.Nat.{and_le_l}
use Rattle.sfm_reach.specs.Bits.{bit_in}
use Rattle.sfm_reach.proofs.Words.{apart_by_words, within_words, common_first}
use Rattle.sfm_reach.proofs.bits.Bits.first_common.Goals as goal

pub returns-then-common-ne0 : goal.returns-then-common-ne0
returns-then-common-ne0 c =
    let s = c.args.self.now in
    let o = c.args.other.now in
    let k = c.loop-k.k in
    let fits : get_or s.words k 0 < 2 ^ 64 = search rules in
    let le = and_le_l (get_or s.words k 0) (get_or o.words k 0) in
    let (below, a, b, least) = common_first s o k c.if-common-ne0.true (omega (arith, fits, le)) in
    let earlier : (e : ℕ) → e / 64 < k → bit_in s e ≡ 1
    → bit_in o e ≢ 1 = λ e l. apart_by_words s o e (c.loop-k.invariant (e / 64) l) in (
      omega (arith, below, c.loop-k-test.true),
      a,
      b,
      (λ e l. ⊎_elim (λ lt. earlier e lt) (λ ge. least e (omega (arith, ge, l, below)) l)
          (cases_lt (e / 64) k)),
    )

pub returns : goal.returns
returns c = λ e hs ho.
    let s = c.args.self.now in
    let o = c.args.other.now in
    ⊎_elim (λ l. apart_by_words s o e
    (c.loop-k.invariant (e / 64) (omega (arith, l, c.loop-k-test.false))) hs ho)
    (λ past. let z = within_words s e (omega arith) in absurd (omega (arith, z, hs)))
    (cases_lt (e / 64) 4)
