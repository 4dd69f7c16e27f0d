use Rattle.std.proofs.Common.{◌≡◌, ◌≢◌, ◌+◌, ◌-◌, ◌<◌, ℕ, length, sym, ap, ◌∙◌, arith, length-set}
use Rattle.std.proofs.lemmas.List.{get_or_default}
use Rattle.sfm_reach.specs.Bits.{bit_in, blank_bits, set_at}
use Rattle.sfm_walk.proofs.Labelling.{raised_out, raised_to}
use Rattle.sfm_walk.proofs.labels.raise_label.Goals.{After-remove}
use Rattle.sfm_walk.proofs.labels.raise_label.Goals as goal

-- all others stay in the level out of which the place is taken
others : (c : After-remove) → (e : ℕ) → e ≢ c.args.at
    → bit_in c.remove.new.self e ≡ bit_in (set_at c.args.levels.now.items c.args.k) e
others c e ne =
    let levels = c.args.levels.now.items in
    let read : set_at levels c.args.k ≡ c.index_mut.result.now = get_or_default levels c.args.k
    blank_bits c.index_mut.result.now c.requires.level ∙ sym c.index_mut.ensures.value in
    c.remove.ensures.others e ne ∙ ap (λ b. bit_in b e) (sym read)

pub returns-then-meets : goal.returns-then-meets
returns-then-meets c =
    let at = (goal.at.returns-then-meets c).After-remove in
    let inv = c.loop-j.invariant in
    let before = c.args.levels.now.items in
    let count = length-set before c.args.k c.remove.new.self in
    let none = rw inv.same at inv.none in
    let more = c.loop-j-test.true in
    let levels = c.loop-j.levels.items in
    let lj : c.loop-j.j + 1 < length
    levels = (let n = ap length inv.same in omega (arith, more, count, n)) in
    let read : set_at levels (c.loop-j.j + 1) ≡ c.index_mut-then-meets.result.now = get_or_default
    levels (c.loop-j.j + 1) blank_bits c.index_mut-then-meets.result.now lj
    ∙ sym c.index_mut-then-meets.ensures.value in
    rw inv.same (raised_to (set_at c.args.unions.now c.args.at) before c.args.at c.args.k
    c.requires.level c.requires.once c.remove.new.self c.remove.ensures.out (others at)
    c.loop-j.j inv.from (omega (arith, more, count)) none c.insert.new.self c.insert.ensures.put
    (λ e ne. c.insert.ensures.others e ne
    ∙ (ap (λ b. bit_in b e) (sym read) ∙ ap (λ l. bit_in (set_at l (c.loop-j.j + 1)) e)
    inv.same)))

pub returns : goal.returns
returns c =
    let at = (goal.at.returns c).After-remove in
    let inv = c.loop-j.invariant in
    let before = c.args.levels.now.items in
    let level = c.requires.level in
    let count = length-set before c.args.k c.remove.new.self in
    let none = rw inv.same at inv.none in
    let past = c.loop-j-test.false in
    rw inv.same (raised_out (set_at c.args.unions.now c.args.at) before c.args.at c.args.k level
    c.requires.once c.remove.new.self c.remove.ensures.out (others at)
    (length before - 1) (omega (arith, level))
    (λ i ki li. none i ki (omega (arith, li, past, count))))
