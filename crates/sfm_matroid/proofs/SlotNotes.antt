-- The splits over slots that are kept beside a base.
use Rattle.std.proofs.Common.{◌≡◌, ℕ, ◌<◌, List, length, replicate, ℤ, Result, Ok, Err, OnOk, None, refl}
use Rattle.std.specs.List.{All}
use Rattle.sfm_matroid.specs.Amounts.{IsBeside}
use Rattle.sfm_matroid.specs.declared.pair.SplitPair.{SplitPair}
use Rattle.sfm_matroid.specs.declared.splits.SlotSplit.{SlotSplit}
use Rattle.sfm_matroid.specs.Notes.{slot_demands, AreBeside, IsSlotSplit}
use Rattle.sfm_matroid.proofs.Beside.{beside_back, beside_next, spare_beside, not_near}

-- brought to other entries, where there was memory for it
pub slots_moved : (entries : List (List ℕ)) (m : ℕ) (c : ℤ) → All (All (λ v. v < m)) entries
    → (x y : List ℤ) → length y ≡ length x → (before : SplitPair)
    → IsBeside (slot_demands entries m c x) before.kept.demand → AreBeside before
    → (note : SlotSplit) {E : Type 0} (result : Result (Unit {0}) E)
    → note.capacities.items ≡ replicate m c → note.pair.spare ≡ before.spare
    → note.pair.near ≡ None
    → OnOk result (note.pair.kept.demand ≡ slot_demands entries m c y)
    → OnOk result (IsSlotSplit entries c y note)
slots_moved entries m c below x y sized before over spare note (Ok done) holds same none is =
    let back = beside_back (slot_demands entries m c x) before.kept.demand over in
    let h : IsBeside before.kept.demand note.pair.kept.demand = rw is
    (beside_next before.kept.demand (slot_demands entries m c x) (slot_demands entries m c y)
    back (record { lists = refl; places = sized; slots = refl })) in
    record {
      m = m;
      below = below;
      holds = holds;
      split = is;
      spare = spare_beside before note.pair same h spare;
      near = not_near note.pair _ none;
    }
slots_moved entries m c below x y sized before over spare note (Err end) holds same none is = tt
