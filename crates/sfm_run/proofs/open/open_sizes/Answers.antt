use Rattle.std.proofs.Common.{◌≡◌, codes}
use Rattle.sfm_side.specs.Sizes.{sizes_form, sizes_of}
use Rattle.sfm_run.specs.Preparing.{items_of}
use Rattle.sfm_run.proofs.Opening.{opens_long}
use Rattle.sfm_run.proofs.open.open_sizes.Goals as goal

pub returns-in-None-clause-opened : goal.returns-in-None-clause-opened
returns-in-None-clause-opened g c =
    opens_long items_of (codes "sizes") (sizes_form c.args.instance.now.names)
    (λ given sizes. sizes ≡ sizes_of given) c.args.file.now _ _ c.faulty.result
    c.in_ok-text.ensures.kept (rw c.in-None.is at c.in_ok-text.ensures.read)
    c.faulty.ensures
