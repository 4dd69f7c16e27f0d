use Rattle.std.proofs.Common.{◌≡◌, ◌<◌, ◌∷◌, [], length, get_or, true, false, sym, ap, ◌∙◌, arith}
use Rattle.sfm_cert.proofs.AnswerLines.{listed-more}
use Rattle.sfm_cert.proofs.Pieces.{appended}
use Rattle.sfm_cert.proofs.put.put_names.Goals as goal
use Rattle.sfm_cert.proofs.put.put_names.Goals.{then-contains, else-contains}

pub loop-e-preserved : goal.loop-e-preserved
loop-e-preserved g c =
    let names = c.args.instance.now.names in
    let s = c.args.members.now in
    let e = c.loop-e.e in
    let h : e < length names = omega (arith, c.names_len-e-end.ensures.len) in
    let more = listed-more names s e c.requires h in
    elim c.if-contains.branch [
      | then-contains w ↦
          let has : get_or s e false ≡ true = sym w.if-contains.ensures in
          let put : c.if-contains.out ≡ g.O.Out.after c.loop-e.out
          (32 ∷ get_or names e []) =
          w.out-is ∙ (w.put_name.ensures ∙ ap (λ n. g.O.Out.after c.loop-e.out (32 ∷ n))
          w.name.ensures) in
          appended g.O.Out.after g.met.O.Out.joined _ _ _ _ _ _ c.loop-e.invariant put
          (rw has at more)
      | else-contains w ↦
          let has : get_or s e false ≡ false = sym w.if-contains.ensures in
          let put : c.if-contains.out ≡ g.O.Out.after c.loop-e.out [] = w.out-is
          ∙ sym (g.met.O.Out.nothing c.loop-e.out) in
          appended g.O.Out.after g.met.O.Out.joined _ _ _ _ _ _ c.loop-e.invariant put
          (rw has at more)
    ]
