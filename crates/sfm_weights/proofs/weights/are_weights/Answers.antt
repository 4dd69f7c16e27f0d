use Rattle.std.proofs.Common.{ℕ, List, Option, ℤ, inl}
use Rattle.sfm_lines.specs.Lines.{tokens_of}
use Rattle.sfm_lines.specs.Weights.{IsWeightText}
use Rattle.sfm_weights.proofs.Entries.{left-all, left-next, left-wrong, left-none, line-entries, at-semicolon}
use Rattle.sfm_weights.proofs.weights.are_weights.Goals as goal

abbrev Wrong : List ℕ × Option (List ℕ) → Type 0
Wrong entry = (value : ℤ) → IsWeightText entry.1 value → ⊥

abbrev Right : List ℕ × Option (List ℕ) → Type 0
Right entry = (value : ℤ) × IsWeightText entry.1 value

pub loop-token-init : goal.loop-token-init
loop-token-init c = λ plain entries h. left-all Wrong Right entries _ h.behind
    (line-entries (tokens_of c.args.line.now) (tokens_of c.elements_behind-left.result.now) plain
    entries c.elements_behind-left.ensures h)

pub returns-then-is_semicolon : goal.returns-then-is_semicolon
returns-then-is_semicolon c = λ plain entries h.
    left-none Wrong Right entries (tokens_of c.loop-token.left.now)
    (at-semicolon _ c.in-Some.token.now (tokens_of c.in-Some.behind.now) c.in-Some.ensures.cut
    c.if-is_semicolon.ensures) (c.loop-token.invariant plain entries h)

pub returns-then-not-is_weight : goal.returns-then-not-is_weight
returns-then-not-is_weight c = λ plain entries h.
    left-wrong Wrong Right entries (tokens_of c.loop-token.left.now) c.in-Some.token.now
    (tokens_of c.in-Some.behind.now) c.in-Some.ensures.cut c.if-is_semicolon.ensures
    (c.loop-token.invariant plain entries h) c.if-not-is_weight.ensures

pub loop-token-preserved : goal.loop-token-preserved
loop-token-preserved c = λ plain entries h.
    left-next Wrong Right entries (tokens_of c.loop-token.left.now) c.in-Some.token.now
    (tokens_of c.in-Some.behind.now) c.in-Some.ensures.cut c.if-is_semicolon.ensures
    (c.loop-token.invariant plain entries h) c.if-not-is_weight.ensures

pub returns : goal.returns
returns c = λ plain entries h. left-none Wrong Right entries (tokens_of c.loop-token.left.now)
    (inl c.in_default.ensures.cut) (c.loop-token.invariant plain entries h)
