use Rattle.std.specs.Prelude.{codes}
use Rattle.sfm_cert.proofs.AnyHeader.{formed_any}
use Rattle.sfm_cert.proofs.write.write_weighed.Goals as goal

pub write_with-requires-clause-formed : goal.write_with-requires-clause-formed
write_with-requires-clause-formed c =
    formed_any c.args.instance.now (codes "answer 1") (codes "weighed 1") c.requires.formed
