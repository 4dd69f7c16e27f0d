use Rattle.std.proofs.Common.{◌≡◌, ◌≢◌, ⊎_elim, ℕ, ◌+◌, ◌<◌, List, false, length, get_or, set, refl, sym, subst, ◌∙◌, arith, get_or-set_same, get_or-set_other, length-set}
use Rattle.std.proofs.lemmas.Bool.{both_ways, cases_eq}
use Rattle.sfm_reach.specs.declared.bits.Bits.{Bits}
use Rattle.sfm_reach.specs.Bits.{bit_in, blank_bits, set_at}
use Rattle.sfm_exchange.specs.Renewed.{AreJoined, IsJoined}
use Rattle.sfm_exchange.proofs.RowsAfter.{joined_by}
use Rattle.sfm_exchange.proofs.renewing.join_rows.Goals as goal
use Rattle.sfm_exchange.proofs.renewing.join_rows.Goals.{then-contains, else-contains}

-- one row joined more
joined_more : (places : List ℕ) (changed more : Bits) (to k : ℕ) (before mid : List Bits)
    (row : Bits) → AreJoined places changed more to k before mid → k < length mid
    → bit_in changed (get_or places k 0) ≡ 1
    → IsJoined (set_at mid k) more to (get_or places k 0) row
    → AreJoined places changed more to (k + 1) before (set mid k row)
joined_more places changed more to k before mid row h l one is = record {
  count = length-set mid k row ∙ h.count;
  joined = λ u lu here. ⊎_elim
      (λ same. subst (λ v. IsJoined (set_at before v) more to (get_or places v 0)
      (set_at (set mid k row) v)) (sym same)
      (rw (get_or-set_same mid k row blank_bits l) (rw (h.ahead k (omega arith)) at is)))
      (λ ne. rw (get_or-set_other mid k u row blank_bits ne)
      (h.joined u (omega (arith, lu, ne)) here))
      (cases_eq u k);
  others = λ u lu none. get_or-set_other mid k u row blank_bits (λ same. none (rw same one))
      ∙ h.others u lu none;
  ahead = λ u le. get_or-set_other mid k u row blank_bits (λ same. omega (arith, same, le))
      ∙ h.ahead u (omega (arith, le));
}

-- and one that stays
joined_past : (places : List ℕ) (changed more : Bits) (to k : ℕ) (before mid : List Bits)
    → AreJoined places changed more to k before mid → bit_in changed (get_or places k 0) ≢ 1
    → AreJoined places changed more to (k + 1) before mid
joined_past places changed more to k before mid h none = record {
  count = h.count;
  joined = λ u lu here. h.joined u
      (⊎_elim (λ same. absurd (none (rw (← same) here))) (λ ne. omega (arith, lu, ne))
      (cases_eq u k)) here;
  others = h.others;
  ahead = λ u le. h.ahead u (omega (arith, le));
}

pub join-requires-clause-place : goal.join-requires-clause-place
join-requires-clause-place c =
    omega (arith, c.loop-u.invariant.count, c.requires.rows, c.loop-u-test.true)

pub loop-u-preserved : goal.loop-u-preserved
loop-u-preserved c =
    let places = c.args.places.now in
    let k = c.loop-u.u in
    let h = c.loop-u.invariant in
    elim c.if-contains.branch [
      | then-contains w ↦
          let (row, put, is) = w.join.ensures in
          let more = joined_by (set_at c.loop-u.rows k) c.args.more.now c.insert.new.self row
          c.args.to (get_or places k 0) c.insert.ensures.put c.insert.ensures.others is in
          rw (w.rows-is, put) (joined_more places c.args.changed.now c.args.more.now c.args.to k
          c.args.rows.now c.loop-u.rows row h
          (omega (arith, h.count, c.requires.rows, c.loop-u-test.true))
          (w.if-contains.ensures.0 refl) more)
      | else-contains w ↦ rw w.rows-is
          (joined_past places c.args.changed.now c.args.more.now c.args.to k c.args.rows.now
          c.loop-u.rows h (λ one. both_ways false refl (w.if-contains.ensures.1 one)))
    ]
