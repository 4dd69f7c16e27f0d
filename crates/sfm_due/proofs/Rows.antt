-- Bases have the lengths that the form of an answer asks for.
use Rattle.std.proofs.Common.{◌≡◌, List, [], ◌∷◌, length, map, ℤ, refl}
use Rattle.sfm_spec.specs.Families.{AreBases, meanings}
use Rattle.sfm_kind.specs.declared.kind.Kind.{Kind}
use Rattle.sfm_kind.specs.Kinds.{kind_places, kind_value}

-- bases are as long as their terms have elements
pub formed_rows : (q : ℤ) (ts : List Kind) (rows : List (List ℤ))
    → AreBases q (meanings kind_places kind_value ts) rows
    → map length rows ≡ map (λ term. length (kind_places term)) ts
formed_rows q [] [] h = refl
formed_rows q [] (x ∷ rows) h = absurd h
formed_rows q (t ∷ ts) [] h = absurd h
formed_rows q (t ∷ ts) (x ∷ rows) h = let r = formed_rows q ts rows h.2 in let l = h.0 in cc
