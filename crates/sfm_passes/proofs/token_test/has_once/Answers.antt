use Rattle.sfm_passes.proofs.token_test.has_once.Goals as goal

pub returns-in-Some : goal.returns-in-Some
returns-in-Some c = (_, _, c.in-Some.ensures)

pub returns-in-None : goal.returns-in-None
returns-in-None c = c.in-None.ensures
