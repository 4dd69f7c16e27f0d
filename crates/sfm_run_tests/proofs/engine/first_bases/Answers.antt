use Rattle.std.proofs.Common.{◌^◌, length, map, get_or, pos, ◌≤ℤ◌}
use Rattle.std.specs.List.{All}
use Rattle.std.proofs.lemmas.List.{length-replicate, length-map, get_or-map}
use Rattle.std.proofs.lemmas.List.Elements.{All-map}
use Rattle.sfm_spec.specs.Sets.{empty_set}
use Rattle.sfm_kind.specs.Kinds.{kind_places, kind_size, kind-bounded, kind-submodular}
use Rattle.sfm_law.proofs.Lists.{below-total}
use Rattle.sfm_run_tests.proofs.engine.first_bases.Goals as goal

pub start_rows-requires-clause-bounded : goal.start_rows-requires-clause-bounded
start_rows-requires-clause-bounded c =
    let ts = c.args.instance.now.terms in
    let sizes = below-total (map kind_size ts) (pos (10 ^ 18))
    (All-map (λ a. pos 0 ≤ℤ a) kind_size ts (λ k d l.
    let x = get_or ts k d in
    (kind-bounded x (empty_set (length (kind_places x))) (pos 0)
    (length-replicate (length (kind_places x)) _) (kind-submodular x).at_empty).1))
    c.terms.ensures.bounded.small in
    let each : All (λ x. kind_size x ≤ℤ pos (10 ^ 18)) ts = λ k d l.
    let b = sizes k (pos 0) (rw length-map l) in
    rw (← get_or-map kind_size ts k d (pos 0) l) b in
    rw c.terms.ensures.terms each
