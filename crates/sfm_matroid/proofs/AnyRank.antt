-- What graphic and transversal terms share: facts of a factor times any weighted rank, by numbers
-- as they are passed on in 128 bits.
use Rattle.std.proofs.Common.{◌≡◌, ◌↔◌, ◌∙◌, ◌^◌, IsTrue, ℕ, Bool, true, false, List, length, ℤ, pos, ◌*ℤ◌, ◌≤ℤ◌, to_z, of_z, FitsSigned}
use Rattle.std.specs.List.{All}
use Rattle.std.proofs.lemmas.Int.{to_z-of_z}
use mir.Syntax.{w128}
use Rattle.sfm_spec.specs.Bounds.{IsAtMost, IsGiven, total_of}
use Rattle.sfm_spec.specs.Terms.{SetFunction, IsBase, exchanged}
use Rattle.sfm_spec.proofs.Sums.{length-exchanged}
use Rattle.sfm_law.specs.Based.{CanSwap}
use Rattle.sfm_law.proofs.Fits.{given_fits, rank_fits}
use Rattle.sfm_law.proofs.Rooms.{base_within_room}
use Rattle.sfm_rank.specs.Terms.{at_places}
use Rattle.sfm_rank.proofs.Bases.{IsTold, told_by, told_uneven}
use Rattle.sfm_matroid.specs.Amounts.{AreCapped, CanMove}
use Rattle.sfm_matroid.proofs.Fits.{capped_amounts}

-- a test of bases that goes through the entries and their sum, and where these are passed through
-- the rest
module _ (IsIt AreMet : Type 0) (q w n : ℤ) (x : List ℤ) (fq : FitsSigned w128 q)
    (given : IsGiven w) (is : IsIt ↔ IsTold (q *ℤ w) (q *ℤ (w *ℤ n)) AreMet x) (even : Bool)
    (told : IsTrue even
    ↔ (All (λ a. (pos 0 ≤ℤ a) × (a ≤ℤ (to_z w128 (of_z w128 q) *ℤ to_z w128 (of_z w128 w)))) x
    × (total_of x ≡ (to_z w128 (of_z w128 q) *ℤ (to_z w128 (of_z w128 w) *ℤ n))))) where
  plain : IsTrue even ↔ (All (λ a. (pos 0 ≤ℤ a) × (a ≤ℤ (q *ℤ w))) x
      × (total_of x ≡ (q *ℤ (w *ℤ n))))
  plain = let fw : FitsSigned w128 w = given_fits w given in simp to_z-of_z at told

  pub not_even : even ≡ false → IsTrue false ↔ IsIt
  not_even = told_uneven IsIt AreMet (q *ℤ w) (q *ℤ (w *ℤ n)) x is.0 is.1 even plain

  pub even_and : even ≡ true → (met : Bool) (Passes : Type 0) → IsTrue met ↔ Passes
      → Passes ↔ AreMet → IsTrue met ↔ IsIt
  even_and holds met Passes test all = told_by IsIt AreMet (q *ℤ w) (q *ℤ (w *ℤ n)) x is.0 is.1 even
      plain holds met ((λ t. all.0 (test.0 t)), (λ h. test.1 (all.1 h)))

-- w for each member of a set
pub worth_passed : (w n : ℤ) → IsGiven w → (r : ℤ) → IsAtMost (10 ^ 21) r
    → r ≡ (to_z w128 (of_z w128 w) *ℤ n) → to_z w128 (of_z w128 r) ≡ (w *ℤ n)
worth_passed w n given r small is =
    let fw : FitsSigned w128 w = given_fits w given in
    to_z-of_z w128 r (rank_fits r small) ∙ simp to_z-of_z at is

-- q·w at the members of a set
pub start_passed : (q w : ℤ) → FitsSigned w128 q → IsGiven w → (set basis : List Bool) → set ≡ basis
    → (x : List ℤ) → x ≡ at_places (to_z w128 (of_z w128 q) *ℤ to_z w128 (of_z w128 w)) set
    → x ≡ at_places (q *ℤ w) basis
start_passed q w fq given set basis same x is =
    let fw : FitsSigned w128 w = given_fits w given in
    rw same at (simp to_z-of_z at is)

-- the entries of a base, and of that which an exchange leads to
module _ (k : ℕ) (f : SetFunction) (c : ℤ)
    (capped : (y : List ℤ) → length y ≡ k → IsBase f y → AreCapped c y) (x : List ℤ)
    (kx : length x ≡ k) (base : IsBase f x) (u v : ℕ) (a : ℤ) (can : CanSwap f x u v a) where
  pub exchanged_places : length (exchanged x u v a) ≡ k
  exchanged_places = length-exchanged x u v a ∙ kx

  pub exchanged_base : IsBase f (exchanged x u v a)
  exchanged_base = base_within_room a base can.from can.onto can.apart can.low can.room

  pub can_move : CanMove x u v a
  can_move = record {
    from = can.from;
    onto = can.onto;
    apart = can.apart;
    before = capped_amounts c x (capped x kx base);
    after = capped_amounts c (exchanged x u v a)
        (capped (exchanged x u v a) exchanged_places exchanged_base);
  }
