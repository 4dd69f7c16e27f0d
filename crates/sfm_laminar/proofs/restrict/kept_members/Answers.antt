use Rattle.std.proofs.Common.{◌∙◌, ◌<◌, ◌≤◌, ◌∷◌, [], ◌++◌, length, get_or, take, add-one, sym, ap}
use Rattle.std.proofs.lemmas.List.{take_all}
use Rattle.sfm_spec.specs.Sets.{Has}
use Rattle.sfm_laminar.specs.Cut.{cut_members}
use Rattle.sfm_laminar.proofs.Cut.{cut-more, cut-same}
use Rattle.sfm_laminar.proofs.restrict.kept_members.Goals as goal
use Rattle.sfm_laminar.proofs.restrict.kept_members.Goals.{then-contains+in_ok-push, else-contains}

pub loop-e-preserved : goal.loop-e-preserved
loop-e-preserved c =
    let keep = c.args.keep.now in
    let members = c.args.members.now in
    let numbers = c.args.numbers.now in
    let i = c.loop-e.e-index in
    let lt : i < length members = c.loop-e-test.true in
    elim c.if-contains.branch [
      | then-contains+in_ok-push w ↦ (
          let x = get_or members i 0 in
          let has : Has keep x = sym c.contains.ensures ∙ w.if-contains.true in
          let number = c.requires.numbered.each x (c.requires.below i 0 lt) in
          rw add-one (ap (λ v. v.items) w.cut-is
          ∙ (w.in_ok-push.ensures.items
          ∙ (ap (λ l. l ++ get_or numbers x 0 ∷ []) c.loop-e.invariant
          ∙ (ap (λ n. cut_members keep (take i members) ++ n ∷ []) number
          ∙ sym (cut-more keep members i lt has))))))
      | else-contains w ↦ rw add-one
          (ap (λ v. v.items) w.cut-is
          ∙ (c.loop-e.invariant ∙ sym
          (cut-same keep members i lt (sym c.contains.ensures ∙ w.if-contains.false))))
    ]

pub returns : goal.returns
returns c =
    let end : length c.args.members.now ≤ c.loop-e.e-index = c.loop-e-test.false in
    c.loop-e.invariant ∙ ap (λ members. cut_members c.args.keep.now members)
    (take_all c.loop-e.e-index c.args.members.now end)
