-- Splits of bases m times: so much is over vertices that hold m times as much, and is within the
-- bounds, as m times the base is.
use Rattle.std.proofs.Common.{None, ◌≡◌, ℕ, List, length, map, set, replicate, ℤ, pos, ◌*ℤ◌, ap, ◌∙◌}
use Rattle.std.proofs.Math.IntN.{*ℤ-zero}
use Rattle.std.proofs.lemmas.List.{map-set}
use Rattle.sfm_spec.specs.Bounds.{IsFactor}
use Rattle.sfm_spec.specs.Kinds.{Edge}
use Rattle.sfm_spec.specs.Terms.{times, IsBase}
use Rattle.sfm_graphic.specs.Graphs.{graphic_value}
use Rattle.sfm_matroid.specs.Notes.{AreBeside, CanMultiply, demands_times}
use Rattle.sfm_graphic.specs.Notes.{end_demands, graphic_fits}
use Rattle.sfm_graphic.specs.Numbered.{end_lists, numbered, vertex_capacities, vertex_count}
use Rattle.sfm_graphic.specs.declared.graphic.Graphic.{Graphic}
use Rattle.sfm_matroid.proofs.Beside.{not_near}
use Rattle.sfm_graphic.specs.declared.rooted.RootSplit.{RootSplit}
use Rattle.sfm_matroid.proofs.Fits.{capped_amounts}
use Rattle.sfm_matroid.proofs.Multiples.{replicate-times}
use Rattle.sfm_graphic.proofs.GraphicBases.{capped_base}
use Rattle.sfm_graphic.proofs.Numbering.{vertices_bounded}

module _ (m q w : ℤ) where
  -- vertices that hold q·w each, of which one holds nothing
  vertices-times : (n a : ℕ) → map (λ b. m *ℤ b)
      (vertex_capacities n (q *ℤ w) a) ≡ vertex_capacities n ((m *ℤ q) *ℤ w) a
  vertices-times n a =
      map-set (λ b. m *ℤ b) (replicate n (q *ℤ w)) a (pos 0)
      ∙ (ap (λ z. set (map (λ b. m *ℤ b) (replicate n (q *ℤ w))) a z) (*ℤ-zero m)
      ∙ ap (λ l. set l a (pos 0)) (replicate-times m q w n))

  -- demands of edges m times
  ends-times : (edges : List Edge) (n : ℕ) (x : List ℤ) (a : ℕ)
      → demands_times m (end_demands edges n (q *ℤ w) x a) ≡ end_demands edges n ((m *ℤ q) *ℤ w)
      (map (λ b. m *ℤ b) x) a
  ends-times edges n x a =
      ap (λ l. record { demands = map (λ b. m *ℤ b) x; lists = end_lists edges; capacities = l })
      (vertices-times n a)

-- what is kept beside a base can be multiplied, where m times the base is one
pub graphic_multiply : (s : Graphic) (m q : ℤ) (x : List ℤ) (note : RootSplit)
    → graphic_fits s.w s.ends note q x → IsFactor m → IsFactor (m *ℤ q)
    → length (map (λ a. m *ℤ a) x) ≡ length s.places
    → IsBase (times (m *ℤ q) (graphic_value s.w s.ends)) (map (λ a. m *ℤ a) x)
    → CanMultiply m note.pair.kept.demand
graphic_multiply s m q x note h few factor sized base =
    let all = capped_base s (m *ℤ q) factor (map (λ a. m *ℤ a) x) sized base in
    let n = vertex_count s.ends in
    rw h.split (record {
      low = few.low;
      amounts = capped_amounts _ _ all;
      bounded = rw (vertices-times m q s.w n note.root)
          (vertices_bounded n ((m *ℤ q) *ℤ s.w) note.root all.low all.high);
    })

-- and m times as much fits that
pub graphic_multiplied : (s : Graphic) (m q : ℤ) (x : List ℤ) (note made : RootSplit)
    → graphic_fits s.w s.ends note q x
    → made.pair.kept.demand ≡ demands_times m note.pair.kept.demand → made.root ≡ note.root
    → AreBeside made.pair → made.pair.near ≡ None
    → graphic_fits s.w s.ends made (m *ℤ q) (map (λ a. m *ℤ a) x)
graphic_multiplied s m q x note made h kept root spare none = record {
  split = rw root
      (kept ∙ (ap (demands_times m) h.split
      ∙ ends-times m q s.w (numbered s.ends) (vertex_count s.ends) x note.root));
  spare = spare;
  near = not_near made.pair _ none;
}
