use Rattle.std.proofs.Common.{ap, length, refl, ◌∙◌}
use Rattle.std.proofs.lemmas.List.{length-replicate}
use Rattle.sfm_assign.proofs.kept.Beside.new.Goals as goal

pub returns-clause-asking : goal.returns-clause-asking
returns-clause-asking c = ap length c.in_ok-asking.ensures ∙ length-replicate _ _

pub returns-clause-counted : goal.returns-clause-counted
returns-clause-counted c = refl
