use Rattle.std.proofs.Common.{◌≡◌, ◌∙◌, length, ap}
use Rattle.std.proofs.lemmas.List.{length-replicate}
use Rattle.std.proofs.lemmas.Result.{IfOk-weaker}
use Rattle.sfm_spec.specs.Sets.{whole_set}
use Rattle.sfm_matroid.specs.Slots.{suited}
use Rattle.sfm_matroid.proofs.Frames.{frame_places}
use Rattle.sfm_matroid.proofs.frame.Frame.basis.Goals.{In_ok-all}
use Rattle.sfm_matroid.proofs.frame.Frame.basis.Goals as goal

count : (c : In_ok-all) → length c.demands.result.now ≡ length c.args.self.now
count c = ap length c.demands.ensures.value ∙ frame_places c.args.self.now c.none.result.now.demand
    c.none.ensures.frame

pub matched-requires : goal.matched-requires
matched-requires c = ap length c.in_ok-all.ensures
    ∙ (length-replicate _ _ ∙ count (goal.at.matched-requires c).In_ok-all)

pub returns : goal.returns
returns c =
    let entries = c.args.self.now in
    let all = ap (λ s. suited entries s (length entries))
    (c.in_ok-all.ensures ∙ ap whole_set (count (goal.at.returns c).In_ok-all)) in
    IfOk-weaker c.matched.result _ _ (λ t is. is ∙ all) c.matched.ensures.taken
