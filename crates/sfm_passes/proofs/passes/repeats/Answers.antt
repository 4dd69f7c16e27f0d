-- A token stands twice among those that are kept, or among those and behind them, or behind them
-- alone.
use Rattle.std.proofs.Common.{◌≡◌, Bor, ℕ, List, [], ◌∷◌, length, refl, ap, ◌∙◌, arith}
use Rattle.std.proofs.lemmas.Bool.{false≢true}
use Rattle.sfm_lines.specs.Lines.{texts_of}
use Rattle.sfm_passes.specs.Passes.{texts_between}
use Rattle.sfm_passes.proofs.KeptTokens.{one-once, twice-both, twice-rest, twice-behind-kept}
use Rattle.sfm_passes.proofs.passes.repeats.Goals as goal

pub loop-first-init : goal.loop-first-init
loop-first-init c = record { down = λ t. t; up = λ t. t }

pub keep-requires : goal.keep-requires
keep-requires c =
    let keys : texts_of c.insert.new.self.keys ≡ c.in-Some.first.now
    ∷ [] = ap (λ (ks : List (Bor (List ℕ))). texts_of ks)
    (rw c.clear.ensures.empty at c.in_ok-insert.ensures.keys) in
    rw keys (one-once c.in-Some.first.now)

pub returns-in_default-2 : goal.returns-in_default-2
returns-in_default-2 c =
    let keys : texts_of c.insert.new.self.keys ≡ c.in-Some.first.now
    ∷ [] = ap (λ (ks : List (Bor (List ℕ))). texts_of ks)
    (rw c.clear.ensures.empty at c.in_ok-insert.ensures.keys) in
    let twice = rw keys at rw c.in_default-2.is at c.in_ok-rest.ensures in
    (λ e. c.loop-first.invariant.up (rw c.in-Some.ensures.cut twice), λ h. refl)

pub returns-then-has_kept : goal.returns-then-has_kept
returns-then-has_kept c =
    let keys : texts_of c.insert.new.self.keys ≡ c.in-Some.first.now
    ∷ [] = ap (λ (ks : List (Bor (List ℕ))). texts_of ks)
    (rw c.clear.ensures.empty at c.in_ok-insert.ensures.keys) in
    let kept = rw keys at rw c.in-Some-2.is at c.in_ok-rest.ensures in (
      λ e. c.loop-first.invariant.up
          (rw (c.in-Some.ensures.cut ∙ kept.0.cut)
          (twice-both (texts_of c.keep.new.kept.keys)
          (texts_between c.args.separator c.in-Some-2.rest.now) c.if-has_kept.ensures)),
      λ h. refl,
    )

pub loop-first-preserved : goal.loop-first-preserved
loop-first-preserved c =
    let keys : texts_of c.insert.new.self.keys ≡ c.in-Some.first.now
    ∷ [] = ap (λ (ks : List (Bor (List ℕ))). texts_of ks)
    (rw c.clear.ensures.empty at c.in_ok-insert.ensures.keys) in
    let kept = rw keys at rw c.in-Some-2.is at c.in_ok-rest.ensures in
    let whole = c.in-Some.ensures.cut ∙ kept.0.cut in
    record {
      down = λ t. twice-behind-kept (texts_of c.keep.new.kept.keys)
          (texts_between c.args.separator c.in-Some-2.rest.now) kept.0.once c.if-has_kept.ensures
          (rw whole at (c.loop-first.invariant.down t));
      up = λ t. c.loop-first.invariant.up
          (rw whole (twice-rest (texts_of c.keep.new.kept.keys)
          (texts_between c.args.separator c.in-Some-2.rest.now) t));
    }

pub returns : goal.returns
returns c = (
  λ e. absurd (false≢true e),
  λ h. let t = c.loop-first.invariant.down
      h in absurd (omega (arith, t.3, ap length c.in_default.ensures.cut)),
)
