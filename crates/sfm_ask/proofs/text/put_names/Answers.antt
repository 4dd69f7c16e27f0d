use Rattle.std.proofs.Common.{◌≡◌, ◌<◌, ◌+◌, ◌++◌, [], length, get_or, take, true, false, sym, ap, ◌∙◌, arith}
use Rattle.std.proofs.lemmas.List.{append-nil}
use Rattle.sfm_cert.specs.Answer.{listed}
use Rattle.sfm_cert.proofs.AnswerLines.{listed-more}
use Rattle.sfm_ask.proofs.Pieces.{name-more}
use Rattle.sfm_ask.proofs.text.put_names.Goals as goal
use Rattle.sfm_ask.proofs.text.put_names.Goals.{then-contains+in_ok-push+in_ok-extend_from_slice, else-contains}

pub loop-e-preserved : goal.loop-e-preserved
loop-e-preserved c =
    let names = c.args.instance.now.names in
    let s = c.args.members.now in
    let e = c.loop-e.e in
    let old = c.args.text.now.items in
    let h : e < length names = omega (arith, c.loop-e-test.true, c.names_len-e-end.ensures.len) in
    let more = listed-more names s e c.requires h in
    elim c.if-contains.branch [
      | then-contains+in_ok-push+in_ok-extend_from_slice w ↦
          let has : get_or s e false ≡ true = sym w.if-contains.ensures in
          rw w.text-is (name-more old c.loop-e.text.items w.push.new.self.items
          w.extend_from_slice.new.self.items (listed (take e names) (take e s))
          (get_or names e []) (listed (take (e + 1) names) (take (e + 1) s))
          c.loop-e.invariant w.in_ok-push.ensures.items
          (rw w.name.ensures at w.in_ok-extend_from_slice.ensures.items) (rw has at more))
      | else-contains w ↦
          let has : get_or s e false ≡ false = sym w.if-contains.ensures in
          let none : listed (take (e + 1) names) (take (e + 1) s) ≡ listed (take e names)
          (take e s) = (rw has at more) ∙ append-nil (listed (take e names) (take e s)) in
          rw w.text-is (c.loop-e.invariant ∙ ap (λ x. old ++ x) (sym none))
    ]
