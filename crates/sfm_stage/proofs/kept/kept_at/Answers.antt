use Rattle.std.proofs.Common.{inl}
use Rattle.sfm_walk.proofs.Resting.{rest_is}
use Rattle.sfm_stage.proofs.kept.kept_at.Goals as goal

pub returns : goal.returns
returns c = λ terms bases are.
    let low = c.in_ok-lower.ensures in
    let high = c.in_ok-higher.ensures in
    let lower = rest_is are low.places low.exact in
    let higher = rest_is (rw c.requires.same are) high.places high.exact in
    record {
      lower = record { places = lower.places; told = λ e l. inl (lower.exact e l) };
      higher = higher;
      below = rw c.deref.ensures.value at c.signs_of-below.ensures;
      above = rw c.deref-2.ensures.value at c.signs_of-above.ensures;
    }
