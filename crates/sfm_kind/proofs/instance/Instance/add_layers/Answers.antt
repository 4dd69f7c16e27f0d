-- The bounds and the running totals hold with the layers of one more line.
use Rattle.std.proofs.Common.{◌++◌, length}
use Rattle.std.proofs.lemmas.Int.{to_z-of_z}
use Rattle.sfm_kind.specs.Instance.{support_of}
use Rattle.sfm_kind.specs.Limits.{AreInBounds, total_size_of}
use Rattle.sfm_kind.proofs.Lined.{AreSums, kept-layered, layered-sums}
use Rattle.sfm_kind.proofs.instance.Instance.add_layers.Goals as goal
use Rattle.sfm_kind.proofs.instance.Instance.add_layers.Goals.{After-into_parts-parts}

-- the bounds with the layers, and the totals
summed : (c : After-into_parts-parts)
    → let s = c.self.inside in let parts = c.into_parts-parts.result.items in AreInBounds
    (length s.names) (s.terms.items ++ parts)
    × AreSums s.support (support_of parts) s.total (total_size_of parts)
summed c =
    let s = c.self.inside in
    let parts = c.into_parts-parts.result.items in
    let bounded : AreInBounds (length s.names)
    (s.terms.items ++ parts) = rw (← c.self.view_is, ← c.into_parts-parts.ensures.items) at
    c.requires in (
      bounded,
      layered-sums s.names s.terms.items parts s.lines.items s.support s.total
          c.self.invariant bounded,
    )

pub size_of-size-requires : goal.size_of-size-requires
size_of-size-requires c =
    let (bounded, sums) = summed (goal.at.size_of-size-requires c).After-into_parts-parts in
    rw c.as_slice-2.ensures.value sums.small

pub overflow_add-self-2 : goal.overflow_add-self-2
overflow_add-self-2 c =
    let (bounded, sums) = summed (goal.at.overflow_add-self-2 c).After-into_parts-parts in
    rw (c.size_of-size.ensures, c.as_slice-2.ensures.value, sums.sum.is) sums.sum.fits

pub invariant_of-self-2 : goal.invariant_of-self-2
invariant_of-self-2 c =
    let s = c.self.inside in
    let parts = c.into_parts-parts.result.items in
    let (bounded, sums) = summed (goal.at.invariant_of-self-2 c).After-into_parts-parts in
    let fits = sums.sum.fits in
    rw (
      c.in_ok-append.ensures.items,
      c.push_reserved.ensures.items,
      c.in_ok-reserve.ensures.items,
      c.count-count.ensures.count,
      ← c.into_parts-parts.ensures.items,
      c.places_in-places.ensures,
      c.as_slice.ensures.value,
      c.size_of-size.ensures,
      c.as_slice-2.ensures.value,
      sums.sum.is,
    )
    (simp to_z-of_z (kept-layered s.names s.terms.items parts s.lines.items s.support s.total
    c.self.invariant bounded c.into_parts-parts.ensures.some))
