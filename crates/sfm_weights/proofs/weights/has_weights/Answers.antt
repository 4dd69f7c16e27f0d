use Rattle.std.proofs.Common.{◌≡◌, ℕ, List, Option, None, inl}
use Rattle.std.specs.Prelude.{IsSome}
use Rattle.sfm_lines.specs.Lines.{tokens_of}
use Rattle.sfm_weights.proofs.Entries.{left-all, left-next, left-wrong, left-none, line-entries, at-semicolon}
use Rattle.sfm_weights.proofs.weights.has_weights.Goals as goal

abbrev Wrong : List ℕ × Option (List ℕ) → Type 0
Wrong entry = IsSome entry.1

abbrev Right : List ℕ × Option (List ℕ) → Type 0
Right entry = entry.1 ≡ None

pub loop-token-init : goal.loop-token-init
loop-token-init c = λ plain entries h. left-all Wrong Right entries _ h.behind
    (line-entries (tokens_of c.args.line.now) (tokens_of c.elements_behind-left.result.now) plain
    entries c.elements_behind-left.ensures h)

pub returns-then-is_semicolon : goal.returns-then-is_semicolon
returns-then-is_semicolon c = λ plain entries h.
    left-none Wrong Right entries (tokens_of c.loop-token.left.now)
    (at-semicolon _ c.in-Some.token.now (tokens_of c.in-Some.behind.now) c.in-Some.ensures.cut
    c.if-is_semicolon.ensures) (c.loop-token.invariant plain entries h)

pub returns-then-has_weight : goal.returns-then-has_weight
returns-then-has_weight c = λ plain entries h.
    left-wrong Wrong Right entries (tokens_of c.loop-token.left.now) c.in-Some.token.now
    (tokens_of c.in-Some.behind.now) c.in-Some.ensures.cut c.if-is_semicolon.ensures
    (c.loop-token.invariant plain entries h) c.if-has_weight.ensures

pub loop-token-preserved : goal.loop-token-preserved
loop-token-preserved c = λ plain entries h.
    left-next Wrong Right entries (tokens_of c.loop-token.left.now) c.in-Some.token.now
    (tokens_of c.in-Some.behind.now) c.in-Some.ensures.cut c.if-is_semicolon.ensures
    (c.loop-token.invariant plain entries h) c.if-has_weight.ensures

pub returns : goal.returns
returns c = λ plain entries h. left-none Wrong Right entries (tokens_of c.loop-token.left.now)
    (inl c.in_default.ensures.cut) (c.loop-token.invariant plain entries h)
