-- Places that can give something to another: by what a search tells of all at once.
use Rattle.std.proofs.Common.{◌≡◌, ◌≢◌, ◌↔◌, ℕ, ◌<◌, Bool, List, length, get_or, ℤ, pos, ◌≤ℤ◌, ◌<ℤ◌, sym, arith}
use Rattle.std.proofs.lemmas.Int.{ints}
use Rattle.sfm_spec.specs.Sets.{Has, empty_set}
use Rattle.sfm_spec.specs.Terms.{SetFunction, HasRoom, exchanged}
use Rattle.sfm_spec.proofs.Lattice.{none_in_empty}
use Rattle.sfm_law.specs.Room.{IsReach}
use Rattle.sfm_assign.specs.Splits.{CanBeMet, Demands}
use Rattle.sfm_assign.specs.Lenders.{IsLender}
use Rattle.sfm_matroid.specs.Givers.{IsGiver, IsRowIn}

module _ (d : Demands) (c : ℤ) (u : ℕ) where
  -- where u has as much as any may have, none gives to it
  pub none_give : (n : ℕ) → c ≤ℤ get_or d.demands u (pos 0) → IsRowIn d c u (empty_set n)
  none_give n full v lt = (
    (λ has. absurd (none_in_empty n v has)),
    (λ h. let l = h.0.1 in absurd (omega (arith, ints, l, full))),
  )

  -- where it has less, those that can lend give
  pub lenders_give : get_or d.demands u (pos 0) <ℤ c → (to : List Bool)
      → length to ≡ length d.demands
      → ((v : ℕ) → v < length to → Has to v ↔ IsLender d.demands d.lists d.capacities u v)
      → IsRowIn d c u to
  lenders_give less to sized lend v lt =
      let each = lend v (omega (arith, lt, sized)) in (
        (λ has. let l = each.0 has in let asks =
            l.asks in ((l.other, less, omega (arith, ints, asks)), l.met)),
        (λ h. let some = h.0.2 in each.1
            (record { other = h.0.0; asks = omega (arith, ints, some); met = h.1 })),
      )

-- a row is the reach, if u has room to exactly those that give to it
pub reach_row : (f : SetFunction) (d : Demands) (c : ℤ) (u : ℕ) (to : List Bool)
    → length to ≡ length d.demands → IsRowIn d c u to
    → ((v : ℕ) → v < length d.demands → u ≢ v → IsGiver d.demands c u v
    → CanBeMet (exchanged d.demands u v (pos 1)) d.lists d.capacities → HasRoom f d.demands u v)
    → ((v : ℕ) → v < length d.demands → u ≢ v → HasRoom f d.demands u v → IsGiver d.demands c u v
    × CanBeMet (exchanged d.demands u v (pos 1)) d.lists d.capacities)
    → IsReach f d.demands u to
reach_row f d c u to places row gives given = record {
  places = places;
  exact = λ v lt. (
    (λ has. let (giver, can) = (row v lt).0
        has in (giver.0, gives v lt (λ is. giver.0 (sym is)) giver can)),
    (λ (ne, room). (row v lt).1 (given v lt (λ is. ne (sym is)) room)),
  );
}
