use Rattle.sfm_graphic.specs.Numbered.{numbered, vertex_count}
use Rattle.sfm_graphic.proofs.Noted.{over_beside}
use Rattle.sfm_graphic.proofs.graphic.Graphic.take_spare.Goals as goal

pub returns-then-has_near : goal.returns-then-has_near
returns-then-has_near c = let s = c.args.self.now in over_beside (numbered s.ends)
    (vertex_count s.ends) c.args.note.now.pair _ c.requires.over c.swap.ensures.kept
    c.swap.ensures.spare
