use Rattle.std.proofs.Common.{refl, FitsSigned}
use Rattle.std.proofs.lemmas.Int.{to_z-of_z}
use Rattle.std.proofs.lemmas.List.{length-map}
use mir.Syntax.{w128}
use Rattle.sfm_slope.proofs.worth.value_at.Goals as goal

pub take_part-requires : goal.take_part-requires
take_part-requires g c = rw c.elements.ensures c.requires.placed

pub value-requires : goal.value-requires
value-requires g c = rw (c.in_ok-take_part.ensures, c.elements.ensures) (length-map _ _)

pub returns : goal.returns
returns g c =
    let fr : FitsSigned w128 c.unwrap_or.result = record { sfits = c.unwrap_or.type_inv } in
    simp to_z-of_z (rw (
      c.unwrap_or.ensures,
      c.in_ok-value.ensures.value,
      c.in_ok-take_part.ensures,
      c.elements.ensures,
    ) refl)
