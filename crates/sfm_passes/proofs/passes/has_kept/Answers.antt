use Rattle.std.proofs.Common.{Contains}
use Rattle.sfm_lines.specs.Lines.{texts_of}
use Rattle.sfm_passes.proofs.Passed.{any-here, any-behind, all-more, all-none}
use Rattle.sfm_passes.proofs.passes.has_kept.Goals as goal

pub loop-token-init : goal.loop-token-init
loop-token-init c = record { some = λ any. any; none = λ all. all }

pub returns-then-is_kept : goal.returns-then-is_kept
returns-then-is_kept c = c.loop-token.invariant.some
    (any-here (Contains (texts_of c.args.kept.now.keys)) _ _ _ c.in-Some.ensures.cut
    c.if-is_kept.ensures)

pub loop-token-preserved : goal.loop-token-preserved
loop-token-preserved c = record {
  some = λ any. c.loop-token.invariant.some
      (any-behind (Contains (texts_of c.args.kept.now.keys)) _ _ _ c.in-Some.ensures.cut any);
  none = λ all. c.loop-token.invariant.none
      (all-more (λ token. Contains (texts_of c.args.kept.now.keys) token → ⊥) _ _ _
      c.in-Some.ensures.cut c.if-is_kept.ensures all);
}

pub returns : goal.returns
returns c = c.loop-token.invariant.none
    (all-none (λ token. Contains (texts_of c.args.kept.now.keys) token → ⊥) _
    c.in_default.ensures.cut)
