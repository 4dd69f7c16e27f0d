-- One place more is told.
use Rattle.std.proofs.Common.{◌≡◌, ◌≢◌, ◌⊎◌, ◌↔◌, ℕ, ◌+◌, ◌<◌, Bool, true, false, List, length, get_or, set, ap, inl, inr, ◌∙◌, arith, get_or-set_same, get_or-set_other, length-set}
use Rattle.std.proofs.lemmas.Bool.{cases_eq}
use Rattle.sfm_spec.specs.Sets.{Has}
use Rattle.sfm_reach.specs.Bits.{bit_in, set_at}
use Rattle.sfm_flip.proofs.note.put_column.Goals as goal

told_more : (s : List Bool) (k : ℕ) (b : Bool) (P : ℕ → Type 0) → k < length s → (b ≡ true) ↔ P k
    → ((i : ℕ) → i < k → Has s i ↔ P i) → (i : ℕ) → i < k + 1 → Has (set s k b) i ↔ P i
told_more s k b P l new old i li = at (cases_eq i k) where
  at : (i ≡ k) ⊎ (i ≢ k) → Has (set s k b) i ↔ P i
  at (inl same) = rw (same, get_or-set_same s k b false l) new
  at (inr ne) = rw (get_or-set_other s k i b false ne) (old i (omega (arith, li, ne)))

pub loop-v-preserved : goal.loop-v-preserved
loop-v-preserved c =
    let inv = c.loop-v.invariant in
    let rows = c.args.rows.now in
    let place = get_or c.args.places.now c.args.u 0 in
    record {
      places = ap length c.put.ensures
          ∙ (length-set c.loop-v.to c.loop-v.v c.contains.result ∙ inv.places);
      column = rw c.put.ensures (told_more c.loop-v.to c.loop-v.v c.contains.result
          (λ i. bit_in (set_at rows i) place ≡ 1) (omega arith) c.contains.ensures inv.column);
    }

pub returns-clause-column : goal.returns-clause-column
returns-clause-column c = λ v lv. c.loop-v.invariant.column v
    (omega (arith, lv, c.loop-v-test.false, c.requires.count))
