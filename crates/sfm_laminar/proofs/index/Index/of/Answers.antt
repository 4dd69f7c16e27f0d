use Rattle.std.proofs.Common.{◌∙◌, []}
use Rattle.std.proofs.lemmas.List.{get_or_default}
use Rattle.sfm_laminar.proofs.Counted.{holders_listed}
use Rattle.sfm_laminar.proofs.index.Index.of.Goals as goal

pub returns : goal.returns
returns c = λ k groups ok.
    let kept = (rw c.self.view_is at c.index-holders.ensures)
    ∙ get_or_default c.args.self.now c.args.e _ [] c.requires in
    rw (c.as_slice.ensures.value, c.holders.view_is, kept)
    (holders_listed k groups c.args.self.now c.args.e ok c.requires)
