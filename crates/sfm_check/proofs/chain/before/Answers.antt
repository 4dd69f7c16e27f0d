use Rattle.std.proofs.Common.{◌≡◌, ◌≢◌, ℕ, zero, suc, ◌-◌, ◌<◌, Bool, List, length, map, get_or, refl, sym, ap, ◌∙◌, arith}
use Rattle.std.proofs.lemmas.List.{length-map, get_or-map}
use Rattle.sfm_spec.specs.Laws.{Mark, no_mark}
use Rattle.sfm_law.specs.declared.breaks.Break.{Break as Found}
use Rattle.sfm_cert.specs.Answer.{mark_of}
use Rattle.sfm_cert.specs.Solved.{break_of}
use Rattle.sfm_check.specs.Before.{members_before}
use Rattle.sfm_check.proofs.chain.before.Goals as goal

read_before : (empty : List Bool) (items : List Found) (k : ℕ) (d : Found) → k ≢ 0
    → k - 1 < length items → (get_or items (k - 1) d).set ≡ members_before empty items k
read_before empty items zero d ne l = absurd (ne refl)
read_before empty items (suc k) d ne l =
    let back : suc k - 1 ≡ k = omega arith in
    let lk : k < length items = omega (arith, l) in
    let lm : k < length (map break_of items) = omega (arith, lk, length-map items break_of) in
    let at = get_or-map mark_of (map break_of items) k (break_of d) no_mark lm
    ∙ ap mark_of (get_or-map break_of items k d (break_of d) lk) in
    ap (λ j. (get_or items j d).set) back ∙ sym (ap (λ (z : Mark). z.members) at)

pub returns-else-k-eq0 : goal.returns-else-k-eq0
returns-else-k-eq0 c = let ne = c.if-k-eq0.false in let few = c.requires in read_before
    c.args.empty.now c.args.breaks.now c.args.k c.index-breaks-k.result ne (omega (arith, ne, few))
