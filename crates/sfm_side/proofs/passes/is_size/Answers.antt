use Rattle.std.proofs.Common.{refl}
use Rattle.std.proofs.lemmas.Option.{none-some}
use Rattle.sfm_side.proofs.passes.is_size.Goals as goal

pub returns-in-Some : goal.returns-in-Some
returns-in-Some c = (_, (c.in-Some.ensures _).0 refl)

pub returns-in-None : goal.returns-in-None
returns-in-None c = λ (value, h). none-some value ((c.in-None.ensures value).1 h)
