-- The shift that stands for pins: a set has a penalty less for each element that it must have and
-- has, and a penalty more for each that it must not have and has.
use Rattle.std.specs.Prelude.{Bool, List, [], ◌∷◌, ℤ, pos, ◌-ℤ◌, if◌then◌else◌}

-- the shift of an element that must be in, or out, or both, or neither
abbrev pub shift_for : ℤ → Bool → Bool → ℤ
shift_for penalty is_in is_out =
    (if is_in then penalty else pos 0) -ℤ (if is_out then penalty else pos 0)

-- the shift of each element
abbrev pub shift_of_pins : ℤ → List Bool → List Bool → List ℤ
shift_of_pins penalty [] outside = []
shift_of_pins penalty (is_in ∷ inside) [] = []
shift_of_pins penalty (is_in ∷ inside) (is_out ∷ outside) =
    shift_for penalty is_in is_out ∷ shift_of_pins penalty inside outside
