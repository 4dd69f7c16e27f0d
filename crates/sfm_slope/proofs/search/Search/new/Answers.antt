use Rattle.std.proofs.Common.{List, ℤ, ◌^◌, pos, ◌∙◌, rules, arith}
use Rattle.std.specs.List.{All}
use Rattle.std.proofs.lemmas.Int.{ints}
use Rattle.sfm_spec.specs.Bounds.{IsAtMost, IsFactor}
use Rattle.sfm_exchange.proofs.ClaimedGraphs.{shaped, whole_claimed}
use Rattle.sfm_slope.proofs.search.Search.new.Goals as goal

-- 1 is a factor
one : IsFactor (pos 1)
one = record { low = omega (arith, ints); high = omega (arith, ints) }

-- the first bases are small
small : (rows : List (List ℤ)) → All (λ x. All (IsAtMost (10 ^ 19)) x) rows
    → All (λ x. All (IsAtMost (10 ^ 21)) x) rows
small rows h = λ k d l i e lt.
    let b = h k d l i e lt in record {
      low = omega (arith, ints, b.low);
      high = omega (arith, ints, b.high);
    }

pub returns : goal.returns
returns g c =
    record {
      first = whole_claimed (record {
        bounded = c.requires.bounded;
        factor = one;
        exact = c.in_ok-first.ensures.graph;
      });
      begins = c.in_ok-first.ensures.bases ∙ c.in_ok-first_rows.ensures.starts;
      warm = c.in_ok-warm.ensures.graph;
      cold = shaped c.in_ok-cold.ensures.graph;
      shift = search rules;
    }

pub graph_by-requires-clause-other : goal.graph_by-requires-clause-other
graph_by-requires-clause-other g c =
    whole_claimed (record {
      bounded = c.requires.bounded;
      factor = one;
      exact = c.in_ok-first.ensures.graph;
    })

pub graph_by-requires-clause-small : goal.graph_by-requires-clause-small
graph_by-requires-clause-small g c =
    rw c.in_ok-first.ensures.bases
    (small c.in_ok-first_rows.field-0 c.in_ok-first_rows.ensures.small)

pub graph_by-requires-2-clause-factor : goal.graph_by-requires-2-clause-factor
graph_by-requires-2-clause-factor g c = one

pub graph_by-requires-2-clause-other : goal.graph_by-requires-2-clause-other
graph_by-requires-2-clause-other g c =
    whole_claimed (record {
      bounded = c.requires.bounded;
      factor = one;
      exact = c.in_ok-first.ensures.graph;
    })

pub graph_by-requires-2-clause-small : goal.graph_by-requires-2-clause-small
graph_by-requires-2-clause-small g c =
    rw c.in_ok-first.ensures.bases
    (small c.in_ok-first_rows.field-0 c.in_ok-first_rows.ensures.small)

pub first_rows-requires : goal.first_rows-requires
first_rows-requires g c = record { sizes = c.requires.bounded.small }

pub graph_at-requires-clause-factor : goal.graph_at-requires-clause-factor
graph_at-requires-clause-factor g c = one

pub graph_at-requires-clause-bases : goal.graph_at-requires-clause-bases
graph_at-requires-clause-bases g c = c.in_ok-first_rows.ensures.bases

pub graph_at-requires-clause-small : goal.graph_at-requires-clause-small
graph_at-requires-clause-small g c =
    let h = c.in_ok-first_rows.ensures.small in
    λ k d l i e lt. let b = h k d l i e
    lt in record { low = omega (arith, ints, b.low); high = omega (arith, ints, b.high) }
