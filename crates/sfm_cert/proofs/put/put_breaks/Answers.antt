use Rattle.std.proofs.Common.{◌≡◌, ◌+◌, ◌<◌, ◌∷◌, [], length, get_or, take, map, sym, ap, ◌∙◌, arith}
use Rattle.std.proofs.lemmas.List.{length-map}
use Rattle.sfm_cert.specs.Answer.{slope_line}
use Rattle.sfm_cert.specs.LineLists.{slope_lines}
use Rattle.sfm_cert.specs.Solved.{break_of}
use Rattle.sfm_cert.proofs.AnswerLines.{item_at, slope_lines-more}
use Rattle.sfm_cert.proofs.Pieces.{appended_lines}
use Rattle.sfm_cert.proofs.put.put_breaks.Goals as goal

pub put_break-requires : goal.put_break-requires
put_break-requires g c =
    let i = c.loop-b.b-index in
    let b = c.b-item.result in
    let h : i < length (map break_of c.args.breaks.now) = omega (
      arith,
      c.loop-b-test.true,
      length-map c.args.breaks.now break_of,
    ) in
    sym (c.requires i (break_of b) h)
    ∙ ap (λ x. length x.members)
    (item_at break_of c.args.breaks.now i b (break_of b) c.loop-b-test.true c.b-item.is)

pub loop-b-preserved : goal.loop-b-preserved
loop-b-preserved g c =
    let names = c.args.instance.now.names in
    let bs = map break_of c.args.breaks.now in
    let i = c.loop-b.b-index in
    let b = break_of c.b-item.result in
    let h : i < length bs = omega (
      arith,
      c.loop-b-test.true,
      length-map c.args.breaks.now break_of,
    ) in
    let e : get_or bs i b ≡ b = item_at break_of c.args.breaks.now i c.b-item.result b
    c.loop-b-test.true c.b-item.is in
    appended_lines g.O.Out.after g.met.O.Out.joined _ _ _ (slope_lines names (take i bs))
    (slope_line names b ∷ []) (slope_lines names (take (i + 1) bs)) c.loop-b.invariant
    c.put_break.ensures
    (slope_lines-more names bs i b b h e)
