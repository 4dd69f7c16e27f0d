-- Bases of a graphic term by the tests of its code.
use Rattle.std.proofs.Common.{◌≡◌, ◌↔◌, ℕ, ◌<◌, ◌^◌, List, [], length, ℤ, pos, ◌*ℤ◌, ◌≤ℤ◌, to_z, of_z, sym, ap, ◌∙◌}
use Rattle.std.specs.List.{All}
use mir.Syntax.{w128}
use Rattle.sfm_assign.specs.Splits.{IsAmount}
use Rattle.sfm_spec.specs.Bounds.{IsFactor}
use Rattle.sfm_spec.specs.Terms.{times, IsBase}
use Rattle.sfm_spec.specs.Kinds.{Edge, IsForest}
use Rattle.sfm_law.proofs.Fits.{product_low}
use Rattle.sfm_rank.proofs.Bases.{IsTold, base_told, told_base}
use Rattle.sfm_graphic.specs.Cuts.{IsWithinEnds}
use Rattle.sfm_graphic.specs.Graphs.{graphic_rank, graphic_value, graphic_size}
use Rattle.sfm_graphic.specs.Ends.{edges_of}
use Rattle.sfm_matroid.specs.Amounts.{AreCapped}
use Rattle.sfm_graphic.specs.Notes.{AreEndAmounts}
use Rattle.sfm_graphic.specs.Numbered.{PassesTails, numbered, vertex_count}
use Rattle.sfm_graphic.specs.declared.graphic.Graphic.{Graphic}
use Rattle.sfm_matroid.proofs.Fits.{capped}
use Rattle.sfm_graphic.proofs.Numbers.{length-numbered, numbered_below}
use Rattle.sfm_graphic.proofs.OneTest.{tails_enough}
use Rattle.sfm_graphic.proofs.Passed.{end_amounts_passed}
use Rattle.sfm_graphic.specs.Forests.{forest-matroid, graphic-ranks}
use Rattle.sfm_graphic.proofs.MatroidTests.{numbered_tests}

module _ (k : ℕ) (q w : ℤ) (edges : List Edge) (same : length edges ≡ k) (low : pos 0 ≤ℤ (q *ℤ w))
    (x : List ℤ) (kx : length x ≡ k) where
  sized : length x ≡ length edges
  sized = kx ∙ sym same

  -- a base by its entries, and back
  pub graphic_told : IsBase (times q (graphic_value w edges)) x
      → IsTold (q *ℤ w) (q *ℤ graphic_size w edges)
      ((a : ℕ) → a < vertex_count edges
      → IsWithinEnds (numbered edges) (vertex_count edges) (q *ℤ w) x a) x
  graphic_told = base_told (length edges) (vertex_count edges) q w low (IsForest edges)
      (graphic_rank edges) (forest-matroid edges) (graphic-ranks edges)
      (λ a x. IsWithinEnds (numbered edges) (vertex_count edges) (q *ℤ w) x a)
      (numbered_tests edges q w low) x sized

  pub told_graphic : IsTold (q *ℤ w) (q *ℤ graphic_size w edges)
      ((a : ℕ) → a < vertex_count edges
      → IsWithinEnds (numbered edges) (vertex_count edges) (q *ℤ w) x a) x
      → IsBase (times q (graphic_value w edges)) x
  told_graphic = told_base (length edges) (vertex_count edges) q w low (IsForest edges)
      (graphic_rank edges) (forest-matroid edges) (graphic-ranks edges)
      (λ a x. IsWithinEnds (numbered edges) (vertex_count edges) (q *ℤ w) x a)
      (numbered_tests edges q w low) x sized

  pub base_within_cap : IsBase (times q (graphic_value w edges)) x
      → All (λ a. (pos 0 ≤ℤ a) × (a ≤ℤ (q *ℤ w))) x
  base_within_cap base = (graphic_told base).within

  pub base_tests : IsBase (times q (graphic_value w edges)) x → (a : ℕ) → a < vertex_count edges
      → IsWithinEnds (numbered edges) (vertex_count edges) (q *ℤ w) x a
  base_tests base = (graphic_told base).met

-- a base of a term by its entries
pub base_by_entries : (s : Graphic) (q : ℤ) → IsFactor q → (x : List ℤ) → length x ≡ length s.places
    → IsBase (times q (graphic_value s.w s.ends)) x
    ↔ IsTold (q *ℤ s.w) (q *ℤ graphic_size s.w s.ends)
    ((a : ℕ) → a < vertex_count s.ends
    → IsWithinEnds (numbered s.ends) (vertex_count s.ends) (q *ℤ s.w) x a) x
base_by_entries s q factor x sized =
    let low = product_low q s.w factor s.low in (
      graphic_told (length s.places) q s.w s.ends s.same_count low x sized,
      told_graphic (length s.places) q s.w s.ends s.same_count low x sized,
    )

pub capped_base : (s : Graphic) (q : ℤ) → IsFactor q → (x : List ℤ) → length x ≡ length s.places
    → IsBase (times q (graphic_value s.w s.ends)) x → AreCapped (q *ℤ s.w) x
capped_base s q factor x sized base =
    capped q s.w factor s.low s.given x
    (base_within_cap (length s.places) q s.w s.ends s.same_count (product_low q s.w factor s.low) x
    sized base)

-- the tests of the tails are enough, by the numbers of the ends as they are kept
pub tails_tell : (s : Graphic) (c : ℤ) (x : List ℤ) → pos 0 ≤ℤ c
    → PassesTails (edges_of s.graph.ends) s.graph.vertices c x
    ↔ ((a : ℕ) → a < vertex_count s.ends
    → IsWithinEnds (numbered s.ends) (vertex_count s.ends) c x a)
tails_tell s c x low = rw (s.of_ends, s.counted) (
  (λ within. tails_enough (numbered s.ends) (vertex_count s.ends) (numbered_below s.ends []) c
      low x within),
  (λ h a lt tail. h a lt),
)

-- entries of a term are as many as its edges
pub edges_sized : (s : Graphic) (x : List ℤ) → length x ≡ length s.places
    → length x ≡ length (numbered s.ends)
edges_sized s x sized = sized ∙ (sym s.same_count ∙ sym (length-numbered s.ends []))

-- and amounts of the edges that are kept, where a number is passed on
pub end_amounts : (s : Graphic) (c : ℤ) → pos 0 ≤ℤ c → c ≤ℤ pos (10 ^ 24) → (x : List ℤ)
    → length x ≡ length s.places → All IsAmount x
    → AreEndAmounts (edges_of s.graph.ends) (to_z w128 (of_z w128 c)) x
end_amounts s c low high x sized amounts =
    end_amounts_passed (edges_of s.graph.ends) c x
    (record {
      sized = edges_sized s x sized ∙ sym (ap length s.of_ends);
      amounts = amounts;
      low = low;
      high = high;
    })
