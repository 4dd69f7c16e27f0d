-- What is kept beside a base of a term of either side: a note of that side.
use Rattle.std.specs.Prelude.{List, ℤ}
use Rattle.sfm_kind.specs.Kinds.{kind_fits}
use Rattle.sfm_kind.specs.declared.kind.Kind.{Kind}
use Rattle.sfm_flip.specs.Flips.{flip_fits}
use Rattle.sfm_sides.specs.declared.side.SideNote.{SideNote}
use Rattle.sfm_sides.specs.declared.side.SideNote.TheVariants.{Left, Right}

-- a note of a kind that fits the base
abbrev pub left_fits : Kind → SideNote → ℤ → List ℤ → Type 0
left_fits kind (Left note) q x = kind_fits kind note q x
left_fits kind (Right note) q x = ⊥

-- a note of a kind turned round that fits the base
abbrev pub right_fits : Kind → SideNote → ℤ → List ℤ → Type 0
right_fits kind (Left note) q x = ⊥
right_fits kind (Right note) q x = flip_fits kind note q x
