-- What the search for the breakpoints keeps.
use Rattle.std.specs.Prelude.{◌≡◌, ℕ, List, pos, length, map}
use Rattle.sfm_law.specs.declared.term.Term.{Ghosts}
use Rattle.sfm_exchange.specs.Graph.{IsClaimed, IsShaped}
use Rattle.sfm_slope.specs.declared.search.Search.{Search}

-- all graphs are of the terms over n places, the first one at the first bases of the terms
-- themselves, the warm one at bases of 64 times the terms, the cold one at whatever was left in it;
-- a shift has a number for each place
pub record IsSearch {X N : Type 0} (T : Ghosts X N) (terms : List X) (n : ℕ)
    (search : Search N) : Type 0 where
  pub first : IsClaimed T terms n (pos 1) search.first
  pub begins : search.first.bases ≡ map (λ term. T.start_of term (pos 1)) terms
  pub warm : IsClaimed T terms n (pos 64) search.warm
  pub cold : IsShaped T terms n search.cold
  pub shift : length search.shift.items ≡ n
