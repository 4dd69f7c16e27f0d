use Rattle.std.proofs.Common.{refl}
use Rattle.sfm_text.specs.GoodText.{instance_language}
use Rattle.sfm_text.proofs.Alike.{Alike, instances-kept}
use Rattle.sfm_text.proofs.Readings.{good-or-faulty, faults-once}
use Rattle.sfm_text.proofs.laws.one_fault.Goals as goal

pub returns-clause-not_both : goal.returns-clause-not_both
returns-clause-not_both c = λ instance line reason good. good-or-faulty instance_language Alike
    instances-kept c.args._text.now _ line reason good refl

pub returns-clause-first : goal.returns-clause-first
returns-clause-first c = faults-once instance_language Alike instances-kept c.args._text.now
