use Rattle.std.proofs.Common.{◌∙◌, length, sym, arith}
use Rattle.std.proofs.lemmas.Bool.{both_ways}
use Rattle.sfm_laminar.proofs.Counted.{counts-few, full_blocked, none_free, counts-more, step-blocked, step-taken}
use Rattle.sfm_laminar.proofs.growing.take.Goals as goal

pub has_full-requires-clause-numbers : goal.has_full-requires-clause-numbers
has_full-requires-clause-numbers c = (c.of-holders.ensures _ _ c.requires.indexed).below

pub returns-then-has_full-clause-taken : goal.returns-then-has_full-clause-taken
returns-then-has_full-clause-taken c =
    let r = c.requires in
    let k = length c.args.s.now in
    let groups = c.args.groups.now in
    let t = c.args.t.now in
    let held = (c.of-holders.ensures _ _ r.indexed).exact in
    step-blocked k groups c.args.s.now t c.args.e
    (full_blocked k groups t c.args.counts.now c.args.e c.of-holders.result.now r.grouped
    r.places r.counted held (c.has_full.ensures.0 c.if-has_full.true))

pub raise-requires-clause-numbers : goal.raise-requires-clause-numbers
raise-requires-clause-numbers c =
    λ p lp. let b = (c.of-holders.ensures _ _ c.requires.indexed).below p
    lp in omega (arith, b, c.requires.counted.places)

pub raise-requires-clause-ascending : goal.raise-requires-clause-ascending
raise-requires-clause-ascending c = (c.of-holders.ensures _ _ c.requires.indexed).ascending

pub raise-requires-clause-few : goal.raise-requires-clause-few
raise-requires-clause-few c =
    let r = c.requires in
    let held = (c.of-holders.ensures _ _ r.indexed).exact in
    λ i. let m = counts-few _ _ _ _ _ _ r.grouped r.places r.counted held
    i in omega (arith, m, r.few)

pub returns-clause-taken : goal.returns-clause-taken
returns-clause-taken c =
    let r = c.requires in
    let k = length c.args.s.now in
    let groups = c.args.groups.now in
    let t = c.args.t.now in
    let held = (c.of-holders.ensures k groups r.indexed).exact in
    let free = none_free k groups t c.args.counts.now c.args.e c.of-holders.result.now r.grouped
    r.places r.counted held (λ full. both_ways c.has_full.result c.if-has_full.false
    (c.has_full.ensures.1 full)) in
    c.insert.ensures ∙ step-taken k groups c.args.s.now t c.args.e
    (sym c.contains.ensures ∙ c.if-not-contains.false) free

pub returns-clause-counted : goal.returns-clause-counted
returns-clause-counted c =
    let r = c.requires in
    let holders = c.of-holders.ensures _ _ r.indexed in
    rw (c.insert.ensures, c.raise.ensures)
    (counts-more _ _ _ _ _ _ r.grouped r.places r.counted holders.exact holders.ascending
    r.place r.out)
