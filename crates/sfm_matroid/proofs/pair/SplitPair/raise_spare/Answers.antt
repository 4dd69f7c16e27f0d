use Rattle.std.proofs.Common.{Some, refl, sym, ◌∙◌, rules, FitsSigned}
use Rattle.std.proofs.lemmas.Int.{to_z-of_z}
use Rattle.std.proofs.lemmas.Option.{none-some, same_Some}
use mir.Syntax.{w128}
use Rattle.sfm_matroid.proofs.Beside.{grown_beside, spare_there}
use Rattle.sfm_matroid.proofs.Exchanges.{near_there}
use Rattle.sfm_matroid.proofs.pair.SplitPair.raise_spare.Goals as goal

pub fill-requires : goal.fill-requires
fill-requires c = c.requires.spare

pub raise-requires-clause-raise : goal.raise-requires-clause-raise
raise-requires-clause-raise c = c.requires.raise

pub raise-requires-clause-beside : goal.raise-requires-clause-beside
raise-requires-clause-beside c =
    let (k, is, beside) = c.in_ok-fill.ensures in rw (same_Some _ _ (sym is ∙ c.in-Some.is)) at
    beside

pub raise-requires-clause-held : goal.raise-requires-clause-held
raise-requires-clause-held c = c.requires.held

pub unreachable-requires : goal.unreachable-requires
unreachable-requires c = let (k, is, beside) = c.in_ok-fill.ensures in none-some k
    (sym c.in-None.is ∙ is)

pub returns-clause-most : goal.returns-clause-most
returns-clause-most c =
    let fm : FitsSigned w128 c.in_ok-most-in-Some.most = search rules in
    simp to_z-of_z c.in_ok-most-in-Some.ensures.most

pub returns-clause-spare : goal.returns-clause-spare
returns-clause-spare c =
    let p = c.args.pull.now in
    let d = c.args.self.now.kept.demand in
    let grown = grown_beside d d.demands p.v c.args.held.now p.u _ c.requires.held in
    spare_there (record {
      kept = c.args.self.now.kept;
      spare = Some c.raise.new.second;
      near = Some (record { u = p.u; v = p.v });
    }) _ refl (rw c.in_ok-most-in-Some.ensures.grown grown)

pub returns-clause-near : goal.returns-clause-near
returns-clause-near c = λ n k e f.
    let d = c.args.self.now.kept.demand in
    let fm : FitsSigned w128 c.in_ok-most-in-Some.most = search rules in
    near_there d c.args.held.now _ n c.raise.new.second k e f
    (_, _, c.in_ok-most-in-Some.ensures.grown)
