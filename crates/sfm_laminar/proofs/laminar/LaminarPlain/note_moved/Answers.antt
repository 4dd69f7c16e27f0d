use Rattle.std.proofs.Common.{◌∙◌, length, drop, ap, sym}
use Rattle.std.proofs.lemmas.List.{take_at}
use Rattle.sfm_law.proofs.Fits.{product_high}
use Rattle.sfm_laminar.proofs.Slacking.{slacks_small, slacks_moved}
use Rattle.sfm_laminar.proofs.laminar.LaminarPlain.note_moved.Goals as goal

pub move_slacks-requires-clause-small : goal.move_slacks-requires-clause-small
move_slacks-requires-clause-small c =
    let r = c.requires in
    let s = c.args.self.now in
    rw c.deref_mut.ensures.value (slacks_small _ _ s.w s.groups r.factor.low s.low s.grouped _
    r.entries s.few (product_high _ _ r.factor s.given) r.base _ r.noted.0)

pub returns : goal.returns
returns c =
    let r = c.requires in
    let s = c.args.self.now in
    let kept = c.args.note.now.slacks in
    let z = c.move_slacks.new.slacks in
    let e = c.deref_mut.ensures.value in
    let same = c.move_slacks.ensures.places ∙ ap length e in (
      rw (take_at z (drop (length z) kept.items) kept.len (same ∙ sym kept.ok.0))
          (slacks_moved _ _ s.w s.groups r.factor.low s.low s.grouped _ r.entries _ _ _ r.can.from
          r.can.onto r.can.apart _ z r.noted.0 same (rw e at c.move_slacks.ensures.moved)),
      c.move_support.ensures,
    )
