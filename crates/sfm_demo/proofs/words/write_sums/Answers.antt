use Rattle.std.proofs.Common.{◌≡◌, ◌+◌, ◌-◌, ◌∙◌, FitsSigned, arith}
use Rattle.std.proofs.lemmas.Int.{ints, to_z-of_z}
use mir.Syntax.{w64}
use Rattle.sfm_demo.proofs.Pieces.{falling_more, falling_after_more, falling_all, falling_after_all}
use Rattle.sfm_demo.proofs.words.write_sums.Goals as goal

pub loop-i-preserved : goal.loop-i-preserved
loop-i-preserved c = record {
  text = falling_more _ _ _ _ _ _ (c.args.count - c.loop-i._i) (c.args.count - (c.loop-i._i + 1)) _
      _ (omega arith) (omega (arith, ints)) (omega (arith, ints)) c.draw.ensures.after
      c.in_ok-write.ensures.bytes ∙ c.loop-i.invariant.text;
  state = falling_after_more _ _ _ _ (c.args.count - c.loop-i._i) (c.args.count - (c.loop-i._i + 1))
      _ _ (omega arith) (omega (arith, ints)) (omega (arith, ints)) c.draw.ensures.after
      ∙ c.loop-i.invariant.state;
  increment_low = omega (arith, ints);
  increment_high = omega (arith, ints);
  sum_low = omega (arith, ints);
  sum_high = omega (arith, ints);
}

pub returns : goal.returns
returns c =
    let f : FitsSigned w64 c.args.first = omega (arith, ints) in
    let none : c.args.count - c.loop-i._i ≡ 0 = omega arith in
    record {
      text = falling_all _ _ _ _ (c.args.count - c.loop-i._i) _ none
          (simp to_z-of_z at c.loop-i.invariant.text);
      after = falling_after_all _ _ (c.args.count - c.loop-i._i) _ _ none
          (simp to_z-of_z at c.loop-i.invariant.state);
    }
