use Rattle.std.proofs.Common.{rules, tests, ℕ}
use Rattle.std.specs.Prelude.{◌==◌}
use Rattle.std.proofs.lemmas.Iterator.{cases_from_all}
use Rattle.std.proofs.lemmas.Iterator.Splits.{YieldsList-from_slice_split}
use Rattle.sfm_spec.specs.Names.{IsName}
use Rattle.sfm_lines.specs.Lines.{pieces_of}
use Rattle.sfm_passes.proofs.LongLabels.{slots-by}
use Rattle.sfm_passes.proofs.token_test.are_slots.Goals as goal

pub returns : goal.returns
returns c =
    slots-by (pieces_of 44 c.args.text.now) c.all.result
    (cases_from_all _ _ c.all.result IsName (λ t. IsName t → ⊥) c.all.ensures.ran
    (YieldsList-from_slice_split _ (λ (b : ℕ). b == 44) c.args.text.now c.split.ensures.rest
    c.split.ensures.done c.split.ensures.closure (λ x r q k. search (rules, tests)))
    (λ x q k. search (rules, tests)) (λ x q k. search (rules, tests)))
