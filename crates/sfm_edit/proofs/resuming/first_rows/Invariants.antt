use Rattle.std.proofs.Common.{◌≡◌, ℕ, take, map, Option}
use Rattle.std.specs.Prelude.{zip}
use Rattle.sfm_kind.specs.declared.kind.Kind.{Kind}
use Rattle.sfm_edit.specs.Resuming.{first_of}
use Rattle.sfm_edit.proofs.resuming.first_rows.Given as goal

abbrev pub invariant-loop-j : goal.invariant-loop-j
invariant-loop-j l = l.firsts ≡ map (λ (pair : Kind × Option ℕ). first_of l.rows pair.0 pair.1)
    (take l.j (zip l.terms l.kept))
