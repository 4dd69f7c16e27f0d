-- Amounts that fit, as they are passed on in 128 bits.
use Rattle.std.proofs.Common.{List, ℤ, to_z, of_z, sym, subst}
use Rattle.std.proofs.lemmas.Int.{to_z-of_z}
use mir.Syntax.{w128}
use Rattle.sfm_spec.specs.Kinds.{Edge}
use Rattle.sfm_matroid.proofs.Passed.{cap_fits}
use Rattle.sfm_graphic.specs.Notes.{AreEndAmounts}

-- amounts and what each end may hold, passed on
pub end_amounts_passed : (edges : List Edge) (c : ℤ) (x : List ℤ) → AreEndAmounts edges c x
    → AreEndAmounts edges (to_z w128 (of_z w128 c)) x
end_amounts_passed edges c x all =
    subst (λ z. AreEndAmounts edges z x) (sym (to_z-of_z w128 c (cap_fits c all.low all.high))) all
