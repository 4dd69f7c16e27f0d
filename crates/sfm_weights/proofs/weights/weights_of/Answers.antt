use Rattle.std.proofs.Common.{inl, to_z, of_z}
use Rattle.std.specs.Int.{w128}
use Rattle.sfm_lines.specs.Lines.{tokens_of}
use Rattle.sfm_weights.proofs.Entries.{line-entries, at-semicolon, read-none, read-one, read-all}
use Rattle.sfm_weights.proofs.Texts.{kept-weight}
use Rattle.sfm_weights.proofs.weights.weights_of.Goals as goal

pub loop-token-init : goal.loop-token-init
loop-token-init c = λ plain entries h all.
    rw c.new-weights.ensures.items
    (read-none entries (tokens_of c.elements_behind-left.result.now) h.behind
    (line-entries (tokens_of c.args.line.now) (tokens_of c.elements_behind-left.result.now)
    plain entries c.elements_behind-left.ensures h))

pub returns-then-is_semicolon : goal.returns-then-is_semicolon
returns-then-is_semicolon c = λ plain entries h all. (
  c.if-not-has_weights.ensures plain entries h,
  read-all entries (tokens_of c.loop-token.left.now) c.loop-token.weights.items
      (at-semicolon _ c.in-Some.token.now (tokens_of c.in-Some.behind.now) c.in-Some.ensures.cut
      c.if-is_semicolon.ensures) (c.loop-token.invariant plain entries h all),
)

pub loop-token-preserved : goal.loop-token-preserved
loop-token-preserved c = λ plain entries h all.
    rw c.in_ok-push.ensures.items
    (read-one entries (tokens_of c.loop-token.left.now) c.loop-token.weights.items
    c.in-Some.token.now (tokens_of c.in-Some.behind.now)
    (to_z w128 (of_z w128 c.weight_of.result)) c.in-Some.ensures.cut c.if-is_semicolon.ensures
    all
    (λ entry value is w. kept-weight entry.1 c.weight_of.result value w
    (c.weight_of.ensures entry value is w)) (c.loop-token.invariant plain entries h all))

pub returns : goal.returns
returns c = λ plain entries h all. (
  c.if-not-has_weights.ensures plain entries h,
  read-all entries (tokens_of c.loop-token.left.now) c.loop-token.weights.items
      (inl c.in_default.ensures.cut) (c.loop-token.invariant plain entries h all),
)
