use Rattle.std.proofs.Common.{FitsSigned}
use Rattle.std.proofs.lemmas.Bool.{false≢true}
use Rattle.std.proofs.lemmas.Int.{to_z-of_z}
use mir.Syntax.{w128}
use Rattle.sfm_exchange.proofs.ClaimedGraphs.{arcs_alone}
use Rattle.sfm_exchange.proofs.Still.{still_begun}
use Rattle.sfm_exchange.proofs.claims.settle_place.Goals as goal

pub returns-then-contains-clause-exact : goal.returns-then-contains-clause-exact
returns-then-contains-clause-exact g c =
    let fq : FitsSigned w128 c.args.q = c.ranges.q in simp to_z-of_z at c.ask_place.ensures.exact

pub returns-clause-still : goal.returns-clause-still
returns-clause-still g c = still_begun c.requires.ready.claimed

pub returns-clause-settled : goal.returns-clause-settled
returns-clause-settled g c = λ k l one.
    false≢true (rw c.if-contains.false at (c.contains.ensures.1 (c.requires.claimed _ _ one)))

pub returns-clause-exact : goal.returns-clause-exact
returns-clause-exact g c = arcs_alone c.requires.ready.claimed c.args.e c.requires.place
    (λ k l one. false≢true (rw c.if-contains.false at
    (c.contains.ensures.1 (c.requires.claimed _ _ one))))
