-- A group with the members of an earlier one is crossed by no earlier one, where no earlier two
-- cross.
use Rattle.std.proofs.Common.{◌≡◌, ℕ, ◌<◌, ◌≤◌, List, length, sym, subst, arith, ⊎_elim}
use Rattle.std.proofs.lemmas.Bool.{cases_lt}
use Rattle.sfm_spec.specs.Kinds.{Group}
use Rattle.sfm_laminar.specs.Crossing.{group_at, ListsAll, ListsSome, AreCrossing, IsCrossing}
use Rattle.sfm_laminar.specs.Groups.{IsRepeated}

turned : (g h : Group) → AreCrossing g h → AreCrossing h g
turned g h x = let (e, a, b) = x.shared in record {
  shared = (e, b, a);
  first_beyond = x.second_beyond;
  second_beyond = x.first_beyond;
}

-- the second group told by its members alone
with_members : (g h k : Group) → AreCrossing g h → k.members ≡ h.members → AreCrossing g k
with_members g h k x same = record {
  shared = subst (λ (es : List ℕ). ListsSome g.members es) (sym same) x.shared;
  first_beyond = subst (λ (es : List ℕ). ListsAll es g.members → ⊥) (sym same) x.first_beyond;
  second_beyond = subst (λ (es : List ℕ). ListsAll g.members es → ⊥) (sym same) x.second_beyond;
}

pub repeated_crosses_none : (groups : List Group) (j : ℕ) → j < length groups
    → ((a b : ℕ) → b < j → IsCrossing groups a b → ⊥) → IsRepeated groups j → (i : ℕ) → i < j
    → IsCrossing groups i j → ⊥
repeated_crosses_none groups j lj none (e, le, same) i li x = ⊎_elim
    (λ (l : i < e). none i e le (record {
      order = l;
      in_range = omega (arith, le, lj);
      cross = crosses;
    }))
    (λ (ge : e ≤ i). ⊎_elim
    (λ (l : e < i). none e i li (record {
      order = l;
      in_range = omega (arith, li, lj);
      cross = turned (group_at groups i) (group_at groups e) crosses;
    }))
    (λ (le : i ≤ e). let at : i ≡ e = omega (arith, ge, le) in let y = rw at at
    crosses in y.second_beyond (λ p c. c))
    (cases_lt e i))
    (cases_lt i e) where
      crosses : AreCrossing (group_at groups i) (group_at groups e)
      crosses = with_members (group_at groups i) (group_at groups j) (group_at groups e) x.cross
          same
