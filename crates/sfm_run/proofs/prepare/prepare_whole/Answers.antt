use Rattle.std.proofs.Common.{sym, ap, subst}
use Rattle.sfm_words.specs.Command.{command_of}
use Rattle.sfm_run.specs.Preparing.{Prepares, settled}
use Rattle.sfm_run.specs.Tasks.{task_of}
use Rattle.sfm_run.proofs.prepare.prepare_whole.Goals as goal

pub prepare_demo-requires : goal.prepare_demo-requires
prepare_demo-requires g c = c.requires c.in-Demo.seed (ap command_of c.in-Demo.is)

pub returns-in-Demo : goal.returns-in-Demo
returns-in-Demo g c =
    let shelf = g.S.Shelf.state c.args.shelf.now in
    subst (λ command. Prepares (task_of (command_of command)) shelf shelf
    (settled c.prepare_demo.result))
    (sym c.in-Demo.is) (c.prepare_demo.ensures shelf)
