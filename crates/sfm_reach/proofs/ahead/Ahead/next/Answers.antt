use Rattle.std.proofs.Common.{◌≡◌, ℕ, sym, ap, ◌∙◌, arith}
use Rattle.std.proofs.lemmas.Nat.Bits.{bit_at-trailing_zeros, bit_at_clear_same, bit_at_clear_other}
use Rattle.std.specs.Int.{trailing_zeros}
use mir.Syntax.{w64}
use Rattle.sfm_reach.specs.Bits.{bit_in, left_of}
use Rattle.sfm_reach.proofs.Picking.{left_next, left_none, left_taken, taken_same}
use Rattle.sfm_reach.proofs.ahead.Ahead.next.Goals as goal

pub loop-word-preserved : goal.loop-word-preserved
loop-word-preserved c = (
  omega (arith, c.loop-word.invariant.0, c.if-k-eq3.false),
  (λ e. left_next c.self.inside.places.now c.loop-word.k e
      ∙ rw c.loop-word-test.true at (c.loop-word.invariant.1 e)),
)

pub returns-then-k-eq3 : goal.returns-then-k-eq3
returns-then-k-eq3 c = λ e.
    let none = left_none c.self.inside.places.now e (omega (arith, c.self.invariant.1)) in
    let same = rw (c.loop-word-test.true, c.if-k-eq3.true) at (c.loop-word.invariant.1 e) in
    ap (λ s. bit_in s e) (sym c.self.view_is) ∙ (sym same ∙ none)

pub returns : goal.returns
returns c =
    let s = c.self.inside.places.now in
    let k = c.loop-word.k in
    let w = c.loop-word.word in
    let (low, one, least) = bit_at-trailing_zeros w64 w (omega (arith, c.loop-word-test.false))
    (omega (arith, c.loop-word.auto.word-fits)) in
    let same : (e : ℕ) → bit_in (left_of s k w) e ≡ bit_in c.args.self.now e = λ e.
    c.loop-word.invariant.1 e ∙ ap (λ s. bit_in s e) c.self.view_is in
    let t = trailing_zeros w64 w in
    taken_same _ _ _ _ same (left_taken s k w _ t c.loop-word.invariant.0 low one
    (bit_at_clear_same w64 w t low) (bit_at_clear_other w64 w t low))
