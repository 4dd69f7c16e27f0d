use Rattle.std.proofs.Common.{◌≡◌, ◌≢◌, ⊎_elim, ℕ, ◌+◌, ◌<◌, List, false, length, get_or, set, refl, sym, subst, ◌∙◌, arith, get_or-set_same, get_or-set_other, length-set, set-set}
use Rattle.std.proofs.lemmas.Bool.{both_ways, cases_eq}
use Rattle.sfm_reach.specs.declared.bits.Bits.{Bits}
use Rattle.sfm_reach.specs.Bits.{bit_in, blank_bits, set_at}
use Rattle.sfm_exchange.specs.declared.renewing.Raised.{Raised}
use Rattle.sfm_exchange.specs.Renewed.{AreShared, IsJoined}
use Rattle.sfm_exchange.proofs.RowsAfter.{joined_by}
use Rattle.sfm_exchange.proofs.renewing.share_row.Goals as goal
use Rattle.sfm_exchange.proofs.renewing.share_row.Goals.{then-contains, else-contains}

-- one row shared more
shared_more : (places : List ℕ) (shared : Bits) (raised : Raised) (k : ℕ) (before mid : List Bits)
    (row : Bits) → AreShared places shared raised k before mid → k < length mid
    → bit_in shared (get_or places k 0) ≡ 1
    → IsJoined raised.row raised.row raised.place (get_or places k 0) row
    → AreShared places shared raised (k + 1) before (set mid k row)
shared_more places shared raised k before mid row h l one is = record {
  count = length-set mid k row ∙ h.count;
  shared_is = λ u lu here. ⊎_elim
      (λ same. subst (λ v. IsJoined raised.row raised.row raised.place (get_or places v 0)
      (set_at (set mid k row) v)) (sym same) (rw (get_or-set_same mid k row blank_bits l) is))
      (λ ne. rw (get_or-set_other mid k u row blank_bits ne)
      (h.shared_is u (omega (arith, lu, ne)) here))
      (cases_eq u k);
  others = λ u lu none. get_or-set_other mid k u row blank_bits (λ same. none (rw same one))
      ∙ h.others u lu none;
}

-- and one that stays
shared_past : (places : List ℕ) (shared : Bits) (raised : Raised) (k : ℕ) (before mid : List Bits)
    → AreShared places shared raised k before mid → bit_in shared (get_or places k 0) ≢ 1
    → AreShared places shared raised (k + 1) before mid
shared_past places shared raised k before mid h none = record {
  count = h.count;
  shared_is = λ u lu here. h.shared_is u
      (⊎_elim (λ same. absurd (none (rw (← same) here))) (λ ne. omega (arith, lu, ne))
      (cases_eq u k)) here;
  others = h.others;
}

pub set-requires : goal.set-requires
set-requires c = omega (arith, c.loop-u.invariant.count, c.requires.rows, c.loop-u-test.true)

pub join-requires-clause-place : goal.join-requires-clause-place
join-requires-clause-place c =
    rw c.set.ensures (omega (
      arith,
      length-set c.loop-u.rows c.loop-u.u c.args.raised.now.row,
      c.loop-u.invariant.count,
      c.requires.rows,
      c.loop-u-test.true,
    ))

pub loop-u-preserved : goal.loop-u-preserved
loop-u-preserved c =
    let places = c.args.places.now in
    let k = c.loop-u.u in
    let h = c.loop-u.invariant in
    elim c.if-contains.branch [
      | then-contains w ↦
          let raised = c.args.raised.now in
          let l : k < length c.loop-u.rows = omega (
            arith,
            h.count,
            c.requires.rows,
            c.loop-u-test.true,
          ) in
          let (row, put, is) = rw w.set.ensures at w.join.ensures in
          let own = rw (get_or-set_same c.loop-u.rows k raised.row blank_bits l) at is in
          rw (w.rows-is, put ∙ set-set c.loop-u.rows k raised.row row)
          (shared_more places c.args.shared.now raised k c.args.rows.now c.loop-u.rows row h l
          (w.if-contains.ensures.0 refl)
          (joined_by raised.row raised.row c.insert.new.self row raised.place (get_or places k 0)
          c.insert.ensures.put c.insert.ensures.others own))
      | else-contains w ↦ rw w.rows-is
          (shared_past places c.args.shared.now c.args.raised.now k c.args.rows.now c.loop-u.rows h
          (λ one. both_ways false refl (w.if-contains.ensures.1 one)))
    ]

pub returns-then-is_empty : goal.returns-then-is_empty
returns-then-is_empty c = record {
  count = refl;
  shared_is = λ u lu here. absurd (c.is_empty.ensures.empty c.if-is_empty.true
      (get_or c.args.places.now u 0) here);
  others = λ u lu none. refl;
}
