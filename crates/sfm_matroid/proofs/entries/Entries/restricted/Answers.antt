use Rattle.std.proofs.Common.{◌≡◌, ℕ, ◌+◌, ◌<◌, ◌≤◌, List, [], ◌∷◌, ◌++◌, length, get_or, take, sym, ap, ◌∙◌, subst, arith, add-one}
use Rattle.std.specs.List.{All}
use Rattle.sfm_layers.specs.Kept.{kept}
use Rattle.sfm_layers.proofs.Kept.{kept-more, kept-same}
use Rattle.sfm_matroid.proofs.KeptPlaces.{All-kept, kept-all}
use Rattle.sfm_matroid.proofs.entries.Entries.restricted.Goals as goal
use Rattle.sfm_matroid.proofs.entries.Entries.restricted.Goals.{then-contains+in_ok-copy+in_ok-push, else-contains}

pub loop-e-preserved : goal.loop-e-preserved
loop-e-preserved c =
    let keep = c.args.keep.now in
    let now = c.args.self.now in
    let e = c.loop-e.e in
    let here = ap length c.self.view_is in
    let below : e < length keep = omega (
      arith,
      c.requires,
      here,
      c.self.inside.items.ok.0,
      c.len-e-end.ensures,
      c.loop-e-test.true,
      c.loop-e.auto.e-end,
    ) in
    elim c.if-contains.branch [
      | then-contains+in_ok-copy+in_ok-push w ↦ (
          let x = w.index.result.now in
          let more : kept (take (e + 1) keep) (take (e + 1) now) ≡ kept (take e keep)
          (take e now) ++ get_or now e x ∷ [] =
          rw add-one (kept-more keep now e x c.requires
          (sym c.contains.ensures ∙ w.if-contains.true)) in
          cc (
            w.items-is,
            w.in_ok-push.ensures.items,
            w.in_ok-copy.ensures,
            w.index.ensures,
            c.self.view_is,
            c.loop-e.invariant,
            more,
          ))
      | else-contains w ↦ (
          let same : kept (take (e + 1) keep) (take (e + 1) now) ≡ kept (take e keep)
          (take e now) = rw add-one (kept-same keep now e c.requires below
          (sym c.contains.ensures ∙ w.if-contains.false)) in
          ap (λ v. v.items) w.items-is ∙ (c.loop-e.invariant ∙ sym same))
    ]

pub invariant_of-result : goal.invariant_of-result
invariant_of-result c =
    let keep = c.args.keep.now in
    let now = c.args.self.now in
    let own = c.self.inside.items.items in
    let above = c.self.inside.above in
    let here = ap length c.self.view_is in
    let past : length now ≤ c.loop-e.e = omega (
      arith,
      here,
      c.self.inside.items.ok.0,
      c.len-e-end.ensures,
      c.loop-e-test.false,
      c.loop-e.auto.e-end,
    ) in
    let is : c.loop-e.items.items ≡ kept keep own = c.loop-e.invariant
    ∙ (kept-all keep now c.loop-e.e c.requires past
    ∙ ap (λ l. kept keep l) (sym c.self.view_is)) in (
      subst (λ (l : List (List ℕ)). All (λ slots. All (λ v. v < above) slots) l) (sym is)
          (All-kept (λ (slots : List ℕ). All (λ v. v < above) slots) keep own
          (c.requires ∙ sym here) c.self.invariant.0),
      c.self.invariant.1,
    )
