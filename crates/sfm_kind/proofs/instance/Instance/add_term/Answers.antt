-- The bounds and the running totals hold with one more term, which is a line of its own.
use Rattle.std.proofs.Common.{[], ◌∷◌, ◌++◌, length}
use Rattle.std.proofs.lemmas.Int.{to_z-of_z}
use Rattle.sfm_kind.specs.Limits.{AreInBounds}
use Rattle.sfm_kind.proofs.Bounds.{kept-added, added-total}
use Rattle.sfm_kind.proofs.instance.Instance.add_term.Goals as goal

pub overflow_add-self-2 : goal.overflow_add-self-2
overflow_add-self-2 c =
    let s = c.self.inside in
    let bounded : AreInBounds (length s.names)
    (s.terms.items ++ c.args.term ∷ []) = rw (← c.self.view_is) at c.requires in
    let sum = added-total s.names s.terms.items s.lines.items c.args.term s.support s.total
    c.self.invariant bounded in
    rw (c.size-size.ensures, sum.is) sum.fits

pub invariant_of-self-2 : goal.invariant_of-self-2
invariant_of-self-2 c =
    let s = c.self.inside in
    let bounded : AreInBounds (length s.names)
    (s.terms.items ++ c.args.term ∷ []) = rw (← c.self.view_is) at c.requires in
    let sum = added-total s.names s.terms.items s.lines.items c.args.term s.support s.total
    c.self.invariant bounded in
    let fits = sum.fits in
    rw (
      c.in_ok-push.ensures.items,
      c.push_reserved.ensures.items,
      c.in_ok-reserve.ensures.items,
      c.elements-places.ensures,
      c.size-size.ensures,
      sum.is,
    )
    (simp to_z-of_z (kept-added s.names s.terms.items s.lines.items c.args.term s.support s.total
    c.self.invariant bounded))
