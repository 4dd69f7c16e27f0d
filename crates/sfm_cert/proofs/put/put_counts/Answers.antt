use Rattle.std.proofs.Common.{◌≡◌, ◌∷◌, [], get_or}
use Rattle.std.specs.Fmt.{decimal}
use Rattle.sfm_cert.proofs.AnswerLines.{counted-more}
use Rattle.sfm_cert.proofs.Pieces.{both, appended}
use Rattle.sfm_cert.proofs.put.put_counts.Goals as goal

pub loop-n-preserved : goal.loop-n-preserved
loop-n-preserved g c =
    let x = c.args.counts.now in
    let i = c.loop-n.n-index in
    let put : c.put_count.new.out ≡ g.O.Out.after c.loop-n.out (32 ∷ decimal (get_or x i 0)) = both
    g.O.Out.after g.met.O.Out.joined _ _ _ (32 ∷ []) (decimal (get_or x i 0)) c.put_byte.ensures
    c.put_count.ensures in
    appended g.O.Out.after g.met.O.Out.joined _ _ _ _ _ _ c.loop-n.invariant put
    (counted-more x i c.loop-n-test.true)
