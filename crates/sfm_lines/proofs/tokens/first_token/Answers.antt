use Rattle.std.proofs.Common.{refl, ℕ, ◌∙◌, length-drop, arith}
use Rattle.std.proofs.lemmas.List.{length-take}
use Rattle.sfm_lines.proofs.FirstTokens.{token-first, token-behind, token-last, token-none}
use Rattle.sfm_lines.proofs.FirstCuts.{nothing-skipped, skipped-blank, first-cut, last-cut}
use Rattle.sfm_lines.proofs.Cuts.{not_empty, none-count}
use Rattle.sfm_lines.proofs.tokens.first_token.Goals as goal

pub returns-then-end-gt0-clause-cut : goal.returns-then-end-gt0-clause-cut
returns-then-end-gt0-clause-cut c = c.loop-end.invariant.tokens
    ∙ token-first c.loop-end.left.now c.loop-end.end c.loop-end.invariant.first c.loop-end-test.true
    c.if-end-gt0.true

pub loop-end-preserved : goal.loop-end-preserved
loop-end-preserved c =
    let inv = c.loop-end.invariant in
    record {
      tokens = inv.tokens ∙ token-behind c.loop-end.left.now c.loop-end.end inv.first
          c.loop-end-test.true c.if-end-gt0.false;
      first = c.blank_place-end-in-loop-end.ensures;
      skipped = skipped-blank c.args.line.now c.loop-end.left.now c.loop-end.end inv.skipped
          inv.first c.loop-end-test.true c.if-end-gt0.false;
      shorter = omega (
        arith,
        inv.shorter,
        c.loop-end-test.true,
        length-take {A = ℕ},
        length-drop {A = ℕ},
      );
    }

pub loop-end-init : goal.loop-end-init
loop-end-init c = record {
  tokens = refl;
  first = c.blank_place-end.ensures;
  skipped = nothing-skipped c.args.line.now;
  shorter = omega arith;
}

pub returns-then-end-gt0-clause-placed : goal.returns-then-end-gt0-clause-placed
returns-then-end-gt0-clause-placed c =
    first-cut c.loop-end.left.now c.loop-end.end c.loop-end.invariant.first c.loop-end-test.true
    c.if-end-gt0.true c.args.line.now c.loop-end.invariant.skipped

pub returns-clause-placed : goal.returns-clause-placed
returns-clause-placed c = last-cut c.args.line.now c.loop-end.left.now
    (c.loop-end.invariant.tokens ∙ token-last c.loop-end.left.now c.loop-end.end
    c.loop-end.invariant.first c.loop-end-test.false (not_empty _ c.if-is_empty.ensures))

pub returns-then-is_empty-clause-cut : goal.returns-then-is_empty-clause-cut
returns-then-is_empty-clause-cut c = c.loop-end.invariant.tokens
    ∙ token-none c.loop-end.left.now (omega (arith, none-count _ c.if-is_empty.ensures))

pub returns-clause-cut : goal.returns-clause-cut
returns-clause-cut c = c.loop-end.invariant.tokens ∙ token-last c.loop-end.left.now c.loop-end.end
    c.loop-end.invariant.first c.loop-end-test.false (not_empty _ c.if-is_empty.ensures)
