-- Of the groups of a line with the same members one is kept, which stands for all.
use Rattle.std.specs.Prelude.{List, [], ◌∷◌, bytes_eq, if◌then◌else◌}
use Rattle.std.specs.Int.Signed.{le_z}
use Rattle.std.specs.List.{fold}
use Rattle.sfm_spec.specs.Kinds.{Group}

-- the groups with one more: where one of them has the same members, the one with the lesser cap of
-- the two stays in its place, and the earlier where they have one cap
abbrev pub with_group : List Group → Group → List Group
with_group [] g = g ∷ []
with_group (h ∷ groups) g = if bytes_eq h.members g.members then (if le_z h.cap g.cap then h else g)
    ∷ groups else h ∷ with_group groups g

-- of the groups with the same members one with the least cap, in the order in which such members
-- first stand
abbrev pub least_groups : List Group → List Group
least_groups groups = fold with_group [] groups
