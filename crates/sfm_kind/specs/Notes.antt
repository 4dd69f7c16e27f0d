-- What is kept beside a base of a kind that keeps something: a note of that kind, and nothing less.
use Rattle.std.specs.Prelude.{ℕ, List, ℤ}
use Rattle.sfm_spec.specs.Kinds.{Edge, Group}
use Rattle.sfm_concave.specs.Rankings.{IsRanking}
use Rattle.sfm_laminar.specs.Slacks.{laminar_fits}
use Rattle.sfm_graphic.specs.Notes.{graphic_fits}
use Rattle.sfm_matroid.specs.Notes.{transversal_fits}
use Rattle.sfm_kind.specs.declared.kind.KindNote.{KindNote}
use Rattle.sfm_kind.specs.declared.kind.KindNote.TheVariants.{Nothing, Laminar, Graphic, Transversal, Concave}

-- what the groups of a laminar rank lack
abbrev pub laminar_note_fits : ℤ → List Group → KindNote → ℤ → List ℤ → Type 0
laminar_note_fits w groups Nothing q x = ⊥
laminar_note_fits w groups (Laminar slacks) q x = laminar_fits w groups slacks q x
laminar_note_fits w groups (Graphic split) q x = ⊥
laminar_note_fits w groups (Transversal split) q x = ⊥
laminar_note_fits w groups (Concave ranking) q x = ⊥

-- the split in the test of one vertex of a graphic rank
abbrev pub graphic_note_fits : ℤ → List Edge → KindNote → ℤ → List ℤ → Type 0
graphic_note_fits w edges Nothing q x = ⊥
graphic_note_fits w edges (Laminar slacks) q x = ⊥
graphic_note_fits w edges (Graphic split) q x = graphic_fits w edges split.value q x
graphic_note_fits w edges (Transversal split) q x = ⊥
graphic_note_fits w edges (Concave ranking) q x = ⊥

-- the split in the test of a transversal rank
abbrev pub transversal_note_fits : ℤ → List (List ℕ) → KindNote → ℤ → List ℤ → Type 0
transversal_note_fits w entries Nothing q x = ⊥
transversal_note_fits w entries (Laminar slacks) q x = ⊥
transversal_note_fits w entries (Graphic split) q x = ⊥
transversal_note_fits w entries (Transversal split) q x = transversal_fits w entries split.value q x
transversal_note_fits w entries (Concave ranking) q x = ⊥

-- the entries of a concave term in order
abbrev pub concave_note_fits : KindNote → List ℤ → Type 0
concave_note_fits Nothing x = ⊥
concave_note_fits (Laminar slacks) x = ⊥
concave_note_fits (Graphic split) x = ⊥
concave_note_fits (Transversal split) x = ⊥
concave_note_fits (Concave ranking) x = IsRanking x ranking.sorted.items ranking.sums.items
