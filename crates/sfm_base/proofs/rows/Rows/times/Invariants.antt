use Rattle.std.proofs.Common.{◌≡◌, ℤ, ◌*ℤ◌, map, take}
use Rattle.sfm_base.proofs.rows.Rows.times.Given as goal

-- the numbers so far are q times those of the rows
abbrev pub invariant-loop-a : goal.invariant-loop-a
invariant-loop-a l = l.numbers.items ≡ map (λ a. l.q *ℤ a) (take l.a-index l.a-items)
