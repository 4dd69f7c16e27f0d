-- One row more is a true one, if it has the place.
use Rattle.std.proofs.Common.{◌≡◌, ◌≢◌, ◌⊎◌, ℕ, ◌+◌, List, ℤ, subst, sym, ◌∙◌, inl, inr, arith}
use Rattle.std.proofs.lemmas.Bool.{cases_eq}
use Rattle.sfm_spec.specs.Terms.{SetFunction, times}
use Rattle.sfm_reach.specs.declared.bits.Bits.{Bits}
use Rattle.sfm_reach.specs.Bits.{bit_in, set_at}
use Rattle.sfm_reach.specs.Reach.{IsRow}
use Rattle.sfm_kind.specs.Kinds.{kind_places, kind_value}
use Rattle.sfm_kind.proofs.Passed.{factor_kept}
use Rattle.sfm_flip.specs.Known.{AreTrueAt}
use Rattle.sfm_flip.proofs.note.ask_claims.Goals as goal

true_more : (places : List ℕ) (f : SetFunction) (x : List ℤ) (before after : List Bits)
    (place k : ℕ) → AreTrueAt places f x before place k
    → ((w : ℕ) → w ≢ k → set_at after w ≡ set_at before w)
    → (bit_in (set_at after k) place ≡ 1 → IsRow places f x k (set_at after k))
    → AreTrueAt places f x after place (k + 1)
true_more places f x before after place k h others told v lv = at (cases_eq v k) where
  Goal : ℕ → Bits → Type 0
  Goal v row = bit_in row place ≡ 1 → IsRow places f x v row

  at : (v ≡ k) ⊎ (v ≢ k) → Goal v (set_at after v)
  at (inl same) = subst (λ w. Goal w (set_at after w)) (sym same) told
  at (inr ne) = subst (Goal v) (sym (others v ne)) (h v (omega (arith, lv, ne)))

pub loop-v-preserved : goal.loop-v-preserved
loop-v-preserved c =
    let kind = c.args.term.now in
    let factor = factor_kept _ c.requires.based.based.factor in
    let inv = rw factor at c.loop-v.invariant in
    let e = rw factor at c.in_ok-ask_claim.ensures in
    record {
      base = e.base ∙ inv.base;
      settled = c.in_ok-ask_claim.ensures.settled;
      told = rw factor (true_more (kind_places kind) (times c.args.q (kind_value kind))
          c.args.note.now.base c.loop-v.note.rows c.ask_claim.new.note.rows c.args.place c.loop-v.v
          inv.told e.others (rw inv.base at e.told));
    }

pub returns-clause-told : goal.returns-clause-told
returns-clause-told c =
    let inv = rw (factor_kept _ c.requires.based.based.factor) at c.loop-v.invariant in
    λ v lv. inv.told v (omega (arith, lv, c.loop-v-test.false, c.len-v-end.ensures))
