use Rattle.std.proofs.Common.{◌∙◌, [], ◌*ℤ◌, sym}
use Rattle.sfm_graphic.specs.Numbered.{numbered, vertex_count}
use Rattle.sfm_graphic.proofs.Noted.{over_any}
use Rattle.sfm_graphic.proofs.Numbers.{length-numbered}
use Rattle.sfm_graphic.proofs.graphic.Graphic.root_near.Goals as goal

pub bring-requires-clause-over : goal.bring-requires-clause-over
bring-requires-clause-over c =
    let r = c.requires in
    let s = c.args.self.now in
    over_any (numbered s.ends) (vertex_count s.ends) (c.args.at.now.q *ℤ s.w) c.args.at.now.x.now
    c.args.note.now (r.base.sized ∙ (sym s.same_count ∙ sym (length-numbered s.ends [])))
    r.noted
