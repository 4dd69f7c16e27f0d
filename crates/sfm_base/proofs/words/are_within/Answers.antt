use Rattle.std.proofs.Common.{◌≡◌, ◌<◌, ◌≤◌, ◌^◌, ℕ, ⊎_elim, ◌/◌, ◌%◌, length, get_or, ap, rules, arith}
use Rattle.std.proofs.lemmas.Bool.{cases_lt}
use Rattle.std.proofs.lemmas.Nat.Bits.{bit_at_and}
use Rattle.std.specs.Int.{bit_at}
use Rattle.std.specs.Int.Bits.{bit_and}
use Rattle.sfm_base.specs.Words.{bit_of}
use Rattle.sfm_base.proofs.Members.{past_words, word_within}
use Rattle.sfm_base.proofs.words.are_within.Goals as goal

pub returns-then-words-k : goal.returns-then-words-k
returns-then-words-k c =
    let s = c.args.words.now in
    let o = c.args.other.now in
    let fits : get_or s c.loop-k.k 0 < 2 ^ 64 = search rules in
    (λ t. absurd (cc), λ h. absurd (c.if-words-k.true (word_within s o c.loop-k.k fits h)))

pub returns : goal.returns
returns c = (λ _. within, λ _. search rules) where
  within : (e : ℕ) → bit_of c.args.words.now e ≤ bit_of c.args.other.now e
  within e = ⊎_elim
      (λ l.
      let x = get_or c.args.words.now (e / 64) 0 in
      let y = get_or c.args.other.now (e / 64) 0 in
      let i = bit_at_and x y (e % 64) in
      let d : bit_at (bit_and x y) (e % 64) ≡ bit_at x (e % 64) = ap (λ z. bit_at z (e % 64))
      (c.loop-k.invariant (e / 64) (omega (arith, l, c.loop-k-test.false))) in
      omega (arith, i, d))
      (λ past. let a = past_words c.args.words.now e past in omega (arith, a))
      (cases_lt (e / 64) (length c.args.words.now))
