use Rattle.std.proofs.Common.{sym}
use Rattle.sfm_weights.proofs.Texts.{weight-is}
use Rattle.sfm_weights.proofs.entry.weight_of.Goals as goal

pub returns-in-Some : goal.returns-in-Some
returns-in-Some c = λ entry value h w. weight-is c.weight.result entry.1 c.in-Some.text.now
    (c.in-Some.ensures entry h) c.weight.ensures c.unwrap_or.result value c.unwrap_or.ensures w

pub returns-in-None : goal.returns-in-None
returns-in-None c = λ entry value h w. sym (rw (c.in-None.ensures entry h) at w)
