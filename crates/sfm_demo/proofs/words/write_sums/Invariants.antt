use Rattle.std.proofs.Common.{◌≡◌, ◌-◌, ◌+◌, ◌*◌, ◌++◌, pos, neg_ℤ, ◌≤ℤ◌}
use Rattle.std.specs.String.{string_bytes}
use Rattle.sfm_demo.specs.DemoText.{falling}
use Rattle.sfm_demo.proofs.words.write_sums.Given as goal

abbrev pub invariant-loop-i : goal.invariant-loop-i
invariant-loop-i l = record {
  text : string_bytes l.out ++ (falling (l.count - l._i) l.sum l.increment l.draws).value
      ≡ string_bytes l.initial.out ++ (falling l.count l.initial.sum l.initial.increment
      l.initial.draws).value;
  state : (falling (l.count - l._i) l.sum l.increment l.draws).state
      ≡ (falling l.count l.initial.sum l.initial.increment l.initial.draws).state;
  increment_low : neg_ℤ (pos (150 * l._i)) ≤ℤ l.increment;
  increment_high : l.increment ≤ℤ pos 600;
  sum_low : neg_ℤ (pos (1500 * l._i)) ≤ℤ l.sum;
  sum_high : l.sum ≤ℤ pos (600 * (l._i + 1));
}
