use Rattle.std.proofs.Common.{◌∷◌, [], append_assoc}
use Rattle.std.specs.Prelude.{codes}
use Rattle.std.specs.Fmt.{decimal}
use Rattle.sfm_extreme.specs.Blocks.{block_of}
use Rattle.sfm_cert.specs.Answer.{listed}
use Rattle.sfm_cert.specs.LineLists.{counted}
use Rattle.sfm_cert.proofs.Pieces.{six}
use Rattle.sfm_cert.proofs.put.put_block.Goals as goal

pub returns : goal.returns
returns g c =
    let block = block_of c.args.block.now in
    simp append_assoc (six g.O.Out.after g.met.O.Out.joined _ _ _ _ _ _ _ (codes "block ")
    (decimal c.args.number) (listed c.args.instance.now.names block.members) (codes " :")
    (counted block.needs) (10 ∷ [])
    c.put.ensures c.put_count.ensures c.put_names.ensures c.put-2.ensures
    (rw c.deref.ensures.value at c.put_counts.ensures) c.put_byte.ensures)
