use Rattle.std.proofs.Common.{rules, tests, Bor, List, ℕ}
use Rattle.std.proofs.lemmas.Iterator.Splits.{YieldsList-from_slice_split}
use Rattle.std.proofs.lemmas.Iterator.Consumers.{map_from_collect}
use Rattle.sfm_lines.specs.CutParts.{is_semicolon}
use Rattle.std.proofs.lemmas.Result.{IfOk-weaker}
use Rattle.sfm_lines.proofs.Pieces.{lists-cut}
use Rattle.sfm_lines.proofs.laminar_line.pieces.Goals as goal

pub returns : goal.returns
returns c =
    IfOk-weaker c.collect.result _ _ (λ w h. lists-cut c.args.tokens.now w.items h)
    (map_from_collect _ c.collect.ensures.ran
    (YieldsList-from_slice_split _ (λ (t : Bor (List ℕ)). is_semicolon t.now) c.args.tokens.now
    c.split.ensures.rest c.split.ensures.done c.split.ensures.closure
    (λ x r q k. search (rules, tests))))
