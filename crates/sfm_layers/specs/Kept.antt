-- Some places of a list kept, and parts of the kept ones as parts of all.
use Rattle.std.specs.Prelude.{Bool, false, true, List, [], ◌∷◌, if◌then◌else◌}

-- the items of a list whose places are kept
abbrev pub kept : {X : Type 0} → List Bool → List X → List X
kept [] xs = []
kept (b ∷ keep) [] = []
kept (b ∷ keep) (x ∷ xs) = if b then x ∷ kept keep xs else kept keep xs

-- the part of all places that a part of the kept ones is
abbrev pub spread : List Bool → List Bool → List Bool
spread [] s = []
spread (false ∷ keep) s = false ∷ spread keep s
spread (true ∷ keep) [] = false ∷ spread keep []
spread (true ∷ keep) (b ∷ s) = b ∷ spread keep s
