-- The steps of a walk, one after the other, along levels.
use Rattle.std.proofs.Common.{◌≡◌, ◌⊎◌, ℕ, zero, suc, ◌+◌, ◌<◌, ◌≤◌, Bool, true, false, List, [], ◌∷◌, ◌++◌, length, nat_eq, if◌then◌else◌, refl, ap, arith, inl, inr}
use Rattle.std.proofs.lemmas.Bool.{cases_eq, eq-eqb, ne_eqb}
use Rattle.sfm_spec.specs.Families.{Meaning}
use Rattle.sfm_spec.specs.Labels.{FallsAlong, step_code}
use Rattle.sfm_spec.specs.Walks.{Step, last_of}
use Rattle.sfm_reach.specs.declared.bits.Bits.{Bits}
use Rattle.sfm_exchange.specs.declared.path.Hop.{Hop}
use Rattle.sfm_reach.specs.Bits.{bit_in, set_at}
use Rattle.sfm_exchange.specs.Levels.{depth_of}
use Rattle.sfm_reach.specs.Reach.{table_at}
use Rattle.sfm_exchange.specs.Hops.{IsHop, IsTold, AreHops, AreLeast, steps_of, step_of}

pub steps_of-push : (hops : List Hop) (hop : Hop)
    → steps_of (hops ++ hop ∷ []) ≡ steps_of hops ++ step_of hop ∷ []
steps_of-push [] hop = refl
steps_of-push (h ∷ hops) hop = ap (λ s. step_of h ∷ s) (steps_of-push hops hop)

pub length-steps_of : (hops : List Hop) → length (steps_of hops) ≡ length hops
length-steps_of [] = refl
length-steps_of (h ∷ hops) = ap suc (length-steps_of hops)

pub hops_push : (terms : List Meaning) (tables : List (List Bits)) (from : ℕ) (hops : List Hop)
    (hop : Hop) → AreHops terms tables from hops → IsHop terms (last_of from (steps_of hops)) hop
    → bit_in (set_at (table_at tables hop.term) hop.u) hop.to ≡ 1
    → AreHops terms tables from (hops ++ hop ∷ [])
hops_push terms tables from [] hop h is bit = (is, bit, tt)
hops_push terms tables from (x ∷ hops) hop h is bit =
    (h.0, h.1, hops_push terms tables x.to hops hop h.2 is bit)

pub falls_push : (d : ℕ → ℕ) (from : ℕ) (steps : List Step) (step : Step) → FallsAlong d from steps
    → d (last_of from steps) ≡ d step.to + 1 → FallsAlong d from (steps ++ step ∷ [])
falls_push d from [] step h e = (e, tt)
falls_push d from (s ∷ steps) step h e = (h.0, falls_push d s.to steps step h.1 e)

pub least_push : (terms : List Meaning) (tables : List (List Bits)) (d : ℕ → ℕ) (from : ℕ)
    (hops : List Hop) (hop : Hop) → AreLeast terms tables d from hops
    → ((other : Step) → IsTold terms tables (last_of from (steps_of hops)) other
    → d (last_of from (steps_of hops)) ≡ d other.to + 1
    → step_code terms (step_of hop) ≤ step_code terms other)
    → AreLeast terms tables d from (hops ++ hop ∷ [])
least_push terms tables d from [] hop h least = (least, tt)
least_push terms tables d from (x ∷ hops) hop h least =
    (h.0, least_push terms tables d x.to hops hop h.1 least)

-- a place of a level is no deeper than it
pub depth_le : (levels : List Bits) (k e : ℕ) → k < length levels → bit_in (set_at levels k) e ≡ 1
    → depth_of levels e ≤ k
depth_le [] k e l h = absurd (omega arith)
depth_le (s ∷ levels) zero e l h = rw (eq-eqb (bit_in s e) 1 h) (omega arith)
depth_le (s ∷ levels) (suc k) e l h =
    at (nat_eq (bit_in s e) 1) (depth_le levels k e (omega arith) h) where
      at : (b : Bool) → depth_of levels e ≤ k → (if b then 0 else suc (depth_of levels e)) ≤ suc k
      at true r = omega arith
      at false r = omega arith

-- the level at a place's depth has it
pub depth_has : (levels : List Bits) (e : ℕ) → depth_of levels e < length levels
    → bit_in (set_at levels (depth_of levels e)) e ≡ 1
depth_has [] e l = absurd (omega arith)
depth_has (s ∷ levels) e l = at (cases_eq (bit_in s e) 1) l (depth_has levels e) where
  at : (bit_in s e ≡ 1) ⊎ (bit_in s e ≡ 1 → ⊥) → depth_of (s ∷ levels) e < suc (length levels)
      → (depth_of levels e < length levels → bit_in (set_at levels (depth_of levels e)) e ≡ 1)
      → bit_in (set_at (s ∷ levels) (depth_of (s ∷ levels) e)) e ≡ 1
  at (inl h) l r = rw (eq-eqb (bit_in s e) 1 h) h
  at (inr ne) l r = let no = ne_eqb (bit_in s e) 1 ne in let l' = rw no at l in rw no
      (r (omega (arith, l')))

-- no place is deeper than all levels
pub depth_bound : (levels : List Bits) (e : ℕ) → depth_of levels e ≤ length levels
depth_bound [] e = omega arith
depth_bound (s ∷ levels) e = at (nat_eq (bit_in s e) 1) (depth_bound levels e) where
  at : (b : Bool) → depth_of levels e ≤ length levels
      → (if b then 0 else suc (depth_of levels e)) ≤ suc (length levels)
  at true r = omega arith
  at false r = omega arith

-- a place of the level k has depth k
pub depth_is : (levels : List Bits)
    → ((j k e : ℕ) → j < length levels → k < length levels → bit_in (set_at levels j) e ≡ 1
    → bit_in (set_at levels k) e ≡ 1 → j ≡ k)
    → (k e : ℕ) → k < length levels → bit_in (set_at levels k) e ≡ 1 → depth_of levels e ≡ k
depth_is levels apart k e l h =
    let le = depth_le levels k e l h in
    let lt : depth_of levels e < length levels = omega (arith, le, l) in
    apart (depth_of levels e) k e lt l (depth_has levels e lt) h
