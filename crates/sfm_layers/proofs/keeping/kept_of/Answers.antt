use Rattle.std.proofs.Common.{◌<◌, add-one, arith, sym, ap, ◌++◌, ◌∷◌, [], ◌∙◌, length, take, ◌≤◌}
use Rattle.std.proofs.lemmas.List.{take_all}
use Rattle.sfm_layers.specs.Kept.{kept}
use Rattle.sfm_layers.proofs.Kept.{kept-more, kept-same}
use Rattle.sfm_layers.proofs.keeping.kept_of.Goals as goal
use Rattle.sfm_layers.proofs.keeping.kept_of.Goals.{then-contains+in_ok-push, else-contains}

pub loop-j-preserved : goal.loop-j-preserved
loop-j-preserved g c =
    let keep = c.args.keep.now in
    let items = c.args.items.now in
    let j = c.loop-j.j in
    let below : j < length keep = omega (arith, c.len-j-end.ensures, c.loop-j-test.true) in
    elim c.if-contains.branch [
      | then-contains+in_ok-push w ↦ (
          let x = w.index-items-j.result in
          let more = kept-more keep items j x c.requires
          (sym c.contains.ensures ∙ w.if-contains.true) in
          let one = ap (λ y. kept (take j keep) (take j items) ++ y ∷ [])
          (sym w.index-items-j.is) in
          rw add-one (ap (λ v. v.items) w.list-is
          ∙ (w.in_ok-push.ensures.items
          ∙ (ap (λ l. l ++ x ∷ []) c.loop-j.invariant ∙ sym (more ∙ one)))))
      | else-contains w ↦ (
          let same = kept-same keep items j c.requires below
          (sym c.contains.ensures ∙ w.if-contains.false) in
          rw add-one (ap (λ v. v.items) w.list-is ∙ (c.loop-j.invariant ∙ sym same)))
    ]

pub returns : goal.returns
returns g c =
    let keep = c.args.keep.now in
    let items = c.args.items.now in
    let j = c.loop-j.j in
    let end : length keep ≤ j = omega (arith, c.len-j-end.ensures, c.loop-j-test.false) in
    c.loop-j.invariant ∙ (ap (λ k. kept k (take j items)) (take_all j keep end)
    ∙ ap (λ x. kept keep x) (take_all j items (omega (arith, end, c.requires))))
