use Rattle.std.proofs.Common.{◌∙◌, refl, sym}
use Rattle.std.proofs.lemmas.Bool.{false≢true}
use Rattle.sfm_simple.proofs.PairRooms.{reach_other, reach_none}
use Rattle.sfm_simple.proofs.pair.put_other.Goals as goal

pub returns-then-is_open-clause-reached : goal.returns-then-is_open-clause-reached
returns-then-is_open-clause-reached c f x two is =
    rw (c.insert.ensures, c.clear.ensures)
    (reach_other f x two c.args.u _ c.requires.from (c.requires.two ∙ sym two) c.args.room is
    (c.if-is_open.ensures.0 refl))

pub returns-else-is_open-clause-reached : goal.returns-else-is_open-clause-reached
returns-else-is_open-clause-reached c f x two is =
    rw c.clear.ensures (reach_none f x two c.args.u _ c.requires.from (c.requires.two ∙ sym two)
    c.args.room is (λ o. false≢true (c.if-is_open.ensures.1 o)))
