-- A term fits exactly where there is room for its places and its size, and its places are below the
-- number of names.
use Rattle.std.proofs.Common.{length, sym, ◌∙◌, FitsSigned, true≢false}
use Rattle.std.proofs.lemmas.Int.{to_z-of_z}
use mir.Syntax.{w128}
use Rattle.sfm_kind.specs.Kinds.{kind_places, kind_size}
use Rattle.sfm_kind.specs.Limits.{HasRoomFor}
use Rattle.sfm_kind.proofs.Bounds.{in_bounds-last, fits_where_below, below_where_fits}
use Rattle.sfm_kind.proofs.instance.Instance.takes.Goals as goal

pub returns-then-has_room : goal.returns-then-has_room
returns-then-has_room c =
    let s = c.self.inside in
    let term = c.args.term.now in
    let n = length s.names in
    let fits : FitsSigned w128 c.size.result = record { sfits = c.size.type_inv } in
    let told = simp to_z-of_z at c.has_room.ensures.0 c.if-has_room.true in
    let room : HasRoomFor s.terms.items (length (kind_places term))
    (kind_size term) = rw (c.elements-places.ensures, c.size.ensures, ← c.self.view_is) at
    told in
    rw (← c.self.view_is) (
      (λ t. fits_where_below n s.terms.items term c.self.invariant.bounded
          (rw (c.elements-places.ensures, c.len.ensures) at c.are_below.ensures.0 t) room),
      (λ h. c.are_below.ensures.1 (rw (c.elements-places.ensures, c.len.ensures)
          (below_where_fits n s.terms.items term h))),
    )

pub returns-else-has_room : goal.returns-else-has_room
returns-else-has_room c =
    let fits : FitsSigned w128 c.size.result = record { sfits = c.size.type_inv } in (
      λ t. absurd (true≢false (sym t ∙ c.if-has_room.false)),
      (λ h. c.has_room.ensures.1 (simp to_z-of_z
          (rw (c.elements-places.ensures, c.size.ensures)
          ((in_bounds-last (length c.args.self.now.names) c.args.self.now.terms c.args.term.now
          h).1)))),
    )
