use Rattle.std.proofs.Common.{rules, tests, ℕ}
use Rattle.std.specs.Prelude.{◌==◌}
use Rattle.std.proofs.lemmas.Iterator.{YieldsList-from_take}
use Rattle.std.proofs.lemmas.Iterator.Splits.{YieldsList-from_slice_split}
use Rattle.std.proofs.lemmas.Iterator.Consumers.{map_from_collect}
use Rattle.sfm_passes.proofs.entry_line.first_slots.Goals as goal

pub returns : goal.returns
returns c =
    let is = c.take.ensures.source in
    map_from_collect _ c.collect.ensures.ran
    (YieldsList-from_take {s = c.take.result} c.args.count
    (YieldsList-from_slice_split {s = c.take.result.iter} _ (λ (b : ℕ). b == 44) c.args.text.now
    (rw is c.split.ensures.rest) (rw is c.split.ensures.done) (rw is c.split.ensures.closure)
    (λ x r q k. search (rules, tests))) c.take.ensures.count)
