-- the terms so far are asked; all notes fit
use Rattle.std.proofs.Common.{◌≡◌, ℕ, ◌<◌, map, length}
use Rattle.sfm_spec.specs.Families.{meanings}
use Rattle.sfm_reach.specs.Reach.{AreNotes, AreSized, IsTable, kept_fits, table_at}
use Rattle.sfm_reach.proofs.asking.ask_all.Given as goal

abbrev pub invariant-loop-i : goal.invariant-loop-i
invariant-loop-i g l = let t = g.T.Term in AreSized (map t.places l.terms) l.rows.items
    × ((i : ℕ) → i < l.i → IsTable (meanings t.places t.value_of l.terms) l.q l.bases i
    (table_at l.rows.items i))
    × (length l.notes.items ≡ length l.terms)
    × AreNotes (kept_fits t.fits) l.q l.terms l.notes.items l.bases
