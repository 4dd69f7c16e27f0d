use Rattle.std.proofs.Common.{◌∙◌, false}
use Rattle.std.proofs.lemmas.List.{length-replicate}
use Rattle.sfm_laminar.proofs.Slacking.{union-nothing}
use Rattle.sfm_laminar.proofs.slacks.put_set.Goals as goal

pub union_with-requires : goal.union_with-requires
union_with-requires c = rw c.clear.ensures (length-replicate _ false ∙ c.requires)

pub returns : goal.returns
returns c = rw (c.union_with.ensures, c.clear.ensures) (union-nothing _ _ c.requires)
