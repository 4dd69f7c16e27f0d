-- The graph whose rows are true: what holds of it where some may be claimed.
use Rattle.std.proofs.Common.{◌≡◌, ℕ, List, length, ℤ, pos, ◌≤ℤ◌}
use Rattle.sfm_law.specs.declared.term.Term.{Ghosts}
use Rattle.sfm_spec.specs.Terms.{IsFamily, IsSubmodular}
use Rattle.sfm_spec.specs.Families.{meanings, AreTerms}
use Rattle.sfm_exchange.specs.declared.graph.Graph.{Graph}
use Rattle.sfm_exchange.specs.Graph.{IsWhole}
use Rattle.sfm_reach.specs.Unions.{HaveRows}
use Rattle.sfm_exchange.proofs.ClaimedGraphs.{whole_claimed}
use Rattle.sfm_exchange.proofs.ClaimedGraphs as claimed

module _ {X N : Type 0} {T : Ghosts X N} {terms : List X} {n : ℕ} {q : ℤ} {graph : Graph N}
    (h : IsWhole T terms n q graph) where
  -- at a factor that is not negative
  pub low : pos 0 ≤ℤ q
  low = claimed.low (whole_claimed h)

  -- as many meanings as terms
  pub counted : length (meanings T.places T.value_of terms) ≡ length terms
  counted = claimed.counted (whole_claimed h)

  -- as many bases
  pub base_count : length graph.bases ≡ length terms
  base_count = claimed.base_count (whole_claimed h)

  -- and there is a union for each place
  pub unions_count : length graph.unions.items ≡ n
  unions_count = claimed.unions_count (whole_claimed h)

  -- there is a row for each spot
  pub spot_rows : HaveRows graph.rows.items graph.spots.items
  spot_rows = claimed.spot_rows (whole_claimed h)

  -- the terms are what the laws ask of terms
  pub are_terms : ((x : X) → IsFamily (length (T.places x)) (T.value_of x))
      → ((x : X) → IsSubmodular (length (T.places x)) (T.value_of x))
      → AreTerms n (meanings T.places T.value_of terms)
  are_terms family law = claimed.are_terms (whole_claimed h) family law
