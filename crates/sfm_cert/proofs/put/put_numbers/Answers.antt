use Rattle.std.proofs.Common.{◌≡◌, ◌∷◌, get_or, pos, FitsSigned}
use Rattle.std.proofs.lemmas.Int.{to_z-of_z}
use Rattle.std.proofs.lemmas.List.Elements.{All-get_or}
use Rattle.std.specs.Fmt.{signed_decimal}
use Rattle.sfm_spec.specs.Bounds.{IsEntry}
use mir.Syntax.{w128}
use Rattle.sfm_cert.proofs.AnswerLines.{numbered-more, entry_fits}
use Rattle.sfm_cert.proofs.Pieces.{appended}
use Rattle.sfm_cert.proofs.put.put_numbers.Goals as goal

pub loop-a-preserved : goal.loop-a-preserved
loop-a-preserved g c =
    let x = c.args.numbers.now in
    let i = c.loop-a.a-index in
    let f : FitsSigned w128 (get_or x i (pos 0)) = entry_fits _
    (All-get_or IsEntry x i (pos 0) c.loop-a-test.true c.requires) in
    let put : c.put_entry.new.out ≡ g.O.Out.after c.loop-a.out
    (32 ∷ signed_decimal (get_or x i (pos 0))) = simp to_z-of_z at c.put_entry.ensures in
    appended g.O.Out.after g.met.O.Out.joined _ _ _ _ _ _ c.loop-a.invariant put
    (numbered-more x i c.loop-a-test.true)
