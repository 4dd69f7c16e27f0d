use Rattle.std.proofs.Common.{◌≡◌, ◌∙◌, ◌+◌, ◌<◌, ◌≤◌, ◌∷◌, [], ◌++◌, length, take, add-one, sym, ap, arith}
use Rattle.std.proofs.lemmas.List.{take_all}
use Rattle.sfm_laminar.specs.Cut.{cut_groups}
use Rattle.sfm_laminar.proofs.Cut.{cut_groups-more}
use Rattle.sfm_laminar.proofs.restrict.kept_groups.Goals as goal

pub loop-i-preserved : goal.loop-i-preserved
loop-i-preserved c =
    let keep = c.args.keep.now in
    let groups = c.args.groups.now in
    let i = c.loop-i.i in
    let lt : i < length groups = omega (arith, c.len-i-end.ensures, c.loop-i-test.true) in
    let here = ap (λ g. cut_groups keep (g ∷ [])) c.group.ensures.group in
    let next : c.push_cut.new.cut ≡ cut_groups keep (take (i + 1) groups) = rw add-one
    (c.in_ok-push_cut.ensures ∙ (ap (λ gs. gs ++ cut_groups keep (c.group.result.now ∷ []))
    c.loop-i.invariant
    ∙ (ap (λ hs. cut_groups keep (take i groups) ++ hs) here
    ∙ sym (cut_groups-more keep groups i lt)))) in
    next

pub returns : goal.returns
returns c =
    let groups = c.args.groups.now in
    let end : length groups ≤ c.loop-i.i = omega (
      arith,
      c.len-i-end.ensures,
      c.loop-i-test.false,
    ) in
    c.loop-i.invariant ∙ ap (λ gs. cut_groups c.args.keep.now gs) (take_all c.loop-i.i groups end)
