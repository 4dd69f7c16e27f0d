-- The split with a root that is kept beside a base, and a spare one.
use Rattle.std.proofs.Common.{None, ◌≡◌, ℕ, List, length, ℤ, refl, sym, ◌∙◌}
use Rattle.sfm_spec.specs.Kinds.{Edge}
use Rattle.sfm_matroid.specs.Amounts.{IsBeside}
use Rattle.sfm_matroid.specs.declared.pair.SplitPair.{SplitPair}
use Rattle.sfm_graphic.specs.declared.rooted.RootSplit.{RootSplit}
use Rattle.sfm_matroid.proofs.Beside.{spare_beside, not_near}
use Rattle.sfm_graphic.proofs.Numbering.{length-vertices}
use Rattle.sfm_graphic.specs.Notes.{end_demands, AreOverEnds, IsRootSplit}
use Rattle.sfm_matroid.specs.Notes.{AreBeside}

module _ (edges : List Edge) (m : ℕ) where
  -- a split of entries is one of whatever amounts
  pub over_any : (c : ℤ) (x : List ℤ) (note : RootSplit) → length x ≡ length edges
      → IsRootSplit edges m c x note → AreOverEnds edges m note.pair
  over_any c x note sized h =
      record {
        kept = rw h.split
            (record { places = sized; lists = refl; vertices = length-vertices m c note.root });
        spare = h.spare;
      }

  -- and so is one beside it
  pub over_beside : (before after : SplitPair) → AreOverEnds edges m before
      → IsBeside before.kept.demand after.kept.demand → AreBeside after → AreOverEnds edges m after
  over_beside before after over h spare = record {
    kept = record {
      places = h.places ∙ over.kept.places;
      lists = h.lists ∙ over.kept.lists;
      vertices = h.slots ∙ over.kept.vertices;
    };
    spare = spare;
  }

  -- the split of entries, to which another one was brought
  pub note_brought : (c : ℤ) (x : List ℤ) (before : SplitPair) (note : RootSplit)
      → length x ≡ length edges → AreOverEnds edges m before → note.pair.spare ≡ before.spare
      → note.pair.near ≡ None → note.pair.kept.demand ≡ end_demands edges m c x note.root
      → IsRootSplit edges m c x note
  note_brought c x before note sized over same none is =
      let h : IsBeside before.kept.demand note.pair.kept.demand = rw is
      (record {
        lists = sym over.kept.lists;
        places = sized ∙ sym over.kept.places;
        slots = length-vertices m c note.root ∙ sym over.kept.vertices;
      }) in
      record {
        split = is;
        spare = spare_beside before note.pair same h over.spare;
        near = not_near note.pair _ none;
      }
