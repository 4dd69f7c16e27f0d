use Rattle.sfm_pair.specs.Sides.{lined_of}
use Rattle.sfm_pair.proofs.Together.{together}
use Rattle.sfm_run.proofs.Opening.{tells_clash}
use Rattle.sfm_run.proofs.open.beside.Goals as goal

pub returns-in-Some-clause-told : goal.returns-in-Some-clause-told
returns-in-Some-clause-told c = λ text lined. tells_clash (lined_of c.args.left.now) text
    c.args.right c.in-Some.clash c.in-Some.line c.clashing.result lined
    c.in-Some.ensures c.clashing.ensures

pub returns-in-None-clause-told : goal.returns-in-None-clause-told
returns-in-None-clause-told c =
    λ text lined. (
      lined,
      together c.args.left.now c.args.right c.requires.right c.requires.left
          c.in-None.ensures,
    )
