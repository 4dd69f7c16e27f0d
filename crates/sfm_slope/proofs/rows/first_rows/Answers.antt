use Rattle.std.proofs.Common.{pos, refl, arith}
use Rattle.std.proofs.lemmas.Int.{ints}
use Rattle.sfm_walk.proofs.Starting.{starts_plain}
use Rattle.sfm_slope.proofs.Starts.{sizes-small}
use Rattle.sfm_slope.proofs.rows.first_rows.Goals as goal

pub start_rows-requires-clause-bounded : goal.start_rows-requires-clause-bounded
start_rows-requires-clause-bounded g c =
    let t = g.T.Term in
    let m = g.met.T.Term in
    sizes-small t.places t.value_of t.size_of m.bounded (λ x. (m.submodular x).at_empty)
    c.args.terms.now c.requires.sizes

pub returns-clause-small : goal.returns-clause-small
returns-clause-small g c =
    let t = g.T.Term in
    let m = g.met.T.Term in
    let each = sizes-small t.places t.value_of t.size_of m.bounded (λ x. (m.submodular x).at_empty)
    c.args.terms.now c.requires.sizes in
    let s = starts_plain t.size_of t.start_of (pos 1)
    (λ x. m.starts_small x (pos 1) (omega (arith, ints))) refl c.args.terms.now each in
    rw c.in_ok-rows.ensures.starts
    (λ k d l i e lt. let b = s k d l i e
    lt in record { low = omega (arith, ints, b.low); high = omega (arith, ints, b.high) })
