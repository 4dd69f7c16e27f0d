use Rattle.sfm_lines.proofs.LeastGroups.{least-caps, crossing-from, crossing-for}
use Rattle.sfm_text.proofs.laws.least_groups_suffice.Goals as goal

pub returns-clause-caps : goal.returns-clause-caps
returns-clause-caps c = least-caps

pub returns-clause-crossings : goal.returns-clause-crossings
returns-clause-crossings c = λ groups. (crossing-from groups, crossing-for groups)
