-- the note is settled and keeps its base, and of the rows so far those that have the place are true
-- ones
use Rattle.std.proofs.Common.{◌≡◌}
use Rattle.sfm_spec.specs.Terms.{times}
use Rattle.sfm_kind.specs.Kinds.{kind_places, kind_value}
use Rattle.sfm_flip.specs.Known.{AreTrueAt, IsSettled}
use Rattle.sfm_flip.proofs.note.ask_claims.Given as goal

abbrev pub invariant-loop-v : goal.invariant-loop-v
invariant-loop-v l = record {
  base : l.note.base ≡ l.initial.note.base;
  settled : IsSettled l.term l.q l.note;
  told : AreTrueAt (kind_places l.term) (times l.q (kind_value l.term)) l.initial.note.base
      l.note.rows l.place l.v;
}
