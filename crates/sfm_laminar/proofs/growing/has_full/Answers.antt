use Rattle.std.proofs.Common.{◌≡◌, ◌∙◌, ◌≤ℤ◌, get_or, pos, ⊎_elim, refl, ap, subst, arith, FitsSigned}
use Rattle.std.proofs.lemmas.Bool.{cases_lt}
use Rattle.std.proofs.lemmas.Int.{ints, to_z-of_z}
use mir.Syntax.{w128}
use Rattle.sfm_law.proofs.Entries.{count_bits}
use Rattle.sfm_laminar.specs.Crossing.{group_at}
use Rattle.sfm_laminar.proofs.growing.has_full.Goals as goal

pub returns-then-counts-i : goal.returns-then-counts-i
returns-then-counts-i c =
    let g = group_at c.args.groups.now (get_or c.args.numbers.now c.loop-i.i-index 0) in
    let n = get_or c.args.counts.now (get_or c.args.numbers.now c.loop-i.i-index 0) 0 in
    let fc : FitsSigned w128 c.cap.result = record { sfits = c.cap.type_inv } in
    let bits = count_bits n (c.type_inv.counts (get_or c.args.numbers.now c.loop-i.i-index 0)) in
    let cap : c.cap.result ≡ g.cap = c.cap.ensures ∙ ap (λ h. h.cap) c.group.ensures.group in
    let t = simp to_z-of_z at c.if-counts-i.true in
    let full : g.cap ≤ℤ pos n = omega (arith, ints, t, bits, cap) in
    ((λ e. (c.loop-i.i-index, c.loop-i-test.true, full)), (λ h. refl))

pub loop-i-preserved : goal.loop-i-preserved
loop-i-preserved c =
    let i = c.loop-i.i-index in
    let groups = c.args.groups.now in
    let numbers = c.args.numbers.now in
    let counts = c.args.counts.now in
    let n = get_or counts (get_or numbers i 0) 0 in
    let fc : FitsSigned w128 c.cap.result = record { sfits = c.cap.type_inv } in
    let bits = count_bits n (c.type_inv.counts (get_or numbers i 0)) in
    let cap : c.cap.result ≡ (group_at groups (get_or numbers i 0)).cap = c.cap.ensures
    ∙ ap (λ h. h.cap) c.group.ensures.group in
    let t = simp to_z-of_z at c.if-counts-i.false in
    let here : (group_at groups (get_or numbers i 0)).cap ≤ℤ pos n
    → ⊥ = (λ full. omega (arith, ints, t, bits, cap, full)) in
    λ p l full. ⊎_elim (λ less. c.loop-i.invariant p less full)
    (λ ge. let same : p ≡ i = omega (arith, l, ge) in here
    (subst (λ z. (group_at groups (get_or numbers z 0)).cap ≤ℤ pos
    (get_or counts (get_or numbers z 0) 0)) same full)) (cases_lt p i)
