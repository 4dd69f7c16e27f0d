use Rattle.std.proofs.Common.{codes, sym, arith}
use Rattle.std.proofs.lemmas.Slice.Eq.{bytes_eq-Decides}
use Rattle.sfm_passes.proofs.PieceCuts.{nothing-passed, one-passed, piece-ends, none-passed}
use Rattle.sfm_passes.proofs.piece_cut.semicolon_cut.Goals as goal

pub loop-token-init : goal.loop-token-init
loop-token-init c = record { passed = nothing-passed c.args.line.now; shorter = omega arith }

pub loop-token-preserved : goal.loop-token-preserved
loop-token-preserved c =
    let inv = c.loop-token.invariant in
    record {
      passed = one-passed c.args.line.now c.loop-token.left.now c.in-Some.token.now
          c.in-Some.behind.now inv.passed c.in-Some.ensures.placed c.in-Some.ensures.cut
          (sym c.if-is_semicolon_token.ensures);
      shorter = omega (arith, inv.shorter, c.in-Some.ensures.shorter);
    }

pub returns-then-is_semicolon_token-clause-cut : goal.returns-then-is_semicolon_token-clause-cut
returns-then-is_semicolon_token-clause-cut c =
    piece-ends c.args.line.now c.loop-token.left.now c.in-Some.token.now c.in-Some.behind.now
    c.loop-token.invariant.passed c.in-Some.ensures.cut
    ((bytes_eq-Decides c.in-Some.token.now (codes ";")).0 (sym c.if-is_semicolon_token.ensures))

pub returns-clause-cut : goal.returns-clause-cut
returns-clause-cut c = none-passed c.args.line.now c.loop-token.left.now
    c.loop-token.invariant.passed c.in_default.ensures.cut
