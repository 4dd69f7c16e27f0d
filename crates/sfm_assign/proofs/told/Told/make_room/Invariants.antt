-- nothing new is told
use Rattle.std.proofs.Common.{◌≡◌, ◌≤◌, ℕ, vec_len}
use Rattle.sfm_assign.specs.Spread.{answer_at, AreListed}
use Rattle.sfm_assign.proofs.told.Told.make_room.Given as goal

abbrev pub invariant-loop : goal.invariant-loop
invariant-loop l = record {
  places : vec_len l.self-inside.answers ≡ l.counter;
  within : vec_len l.self-inside.answers ≤ l.n;
  same : (u : ℕ) → answer_at l.self-inside.answers.items u ≡ answer_at
      l.initial.self-inside.answers.items u;
  listed : AreListed l.self-inside.answers.items l.self-inside.known.items;
}
