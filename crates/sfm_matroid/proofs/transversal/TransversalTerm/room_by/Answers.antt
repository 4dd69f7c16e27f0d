use Rattle.std.proofs.Common.{◌≡◌, ◌∙◌, ◌*ℤ◌, ◌-ℤ◌, length, get_or, pos, ap, sym, rules, to_z, FitsSigned}
use Rattle.std.specs.Int.{int_min}
use Rattle.std.proofs.lemmas.Int.{to_z-of_z}
use mir.Syntax.{w128}
use Rattle.sfm_law.proofs.Fits.{product_low}
use Rattle.sfm_assign.specs.declared.kept.Kept.{Kept}
use Rattle.sfm_matroid.proofs.Passed.{cap_passed}
use Rattle.sfm_matroid.proofs.TransversalBases.{grown_capacity, held_base, no_capacity, slots_hold}
use Rattle.sfm_matroid.proofs.transversal.TransversalTerm.room_by.Goals.{After-pull_of-pull}
use Rattle.sfm_matroid.proofs.transversal.TransversalTerm.room_by.Goals as goal

-- what u may get of v
most_is : (c : After-pull_of-pull) → c.pull_of-pull.result.limit ≡ int_min c.args.swap.now.a
    (int_min (get_or c.args.at.now.x.now c.args.swap.now.v (pos 0))
    ((c.args.at.now.q *ℤ c.args.self.now.w) -ℤ get_or c.args.at.now.x.now c.args.swap.now.u
    (pos 0)))
most_is c = let s = c.args.self.now in rw (cap_passed c.args.at.now.q s.w c.requires.based.factor
    s.given c.cap_of-cap.result c.cap_of-cap.ensures.value) at c.pull_of-pull.ensures.limit

pub pull_of-pull-requires-clause-capped : goal.pull_of-pull-requires-clause-capped
pull_of-pull-requires-clause-capped c =
    let r = c.requires in
    let b = r.based in
    let s = c.args.self.now in
    let at = c.args.at.now in
    rw (cap_passed at.q s.w b.factor s.given c.cap_of-cap.result c.cap_of-cap.ensures.value)
    (held_base s at.q r.noted.m r.noted.below b.factor at.x.now b.entries b.base).capped

pub raise_spare-requires-clause-held : goal.raise_spare-requires-clause-held
raise_spare-requires-clause-held c =
    let r = c.requires in
    let b = r.based in
    let n = r.noted in
    let pair = r.pair in
    let at = c.args.at.now in
    rw (n.split, c.deref.ensures.value, n.holds, c.pull_of-pull.ensures.v)
    (slots_hold c.args.self.now at.q n.m n.below b.factor at.x.now b.entries b.base
    c.args.swap.now.u c.args.swap.now.v pair.from pair.onto pair.apart)

pub returns-clause-room : goal.returns-clause-room
returns-clause-room c =
    let r = c.requires in
    let b = r.based in
    let n = r.noted in
    let pair = r.pair in
    let s = c.args.self.now in
    let at = c.args.at.now in
    let p = c.pull_of-pull.ensures in
    let fm : FitsSigned w128 c.in_ok-most.most = search rules in
    let most = rw (n.split, c.deref.ensures.value, n.holds, p.u, p.v) at
    c.in_ok-most.ensures.most in
    simp to_z-of_z (grown_capacity (length s.places) at.q s.w s.entries n.m n.below s.same_count
    (product_low at.q s.w b.factor s.low) at.x.now b.entries b.base c.args.swap.now.u
    c.args.swap.now.v pair.from pair.onto pair.apart c.args.swap.now.a _ _
    (most_is (goal.at.returns-clause-room c).After-pull_of-pull) most)

pub returns-then-pull-eq0-clause-room : goal.returns-then-pull-eq0-clause-room
returns-then-pull-eq0-clause-room c =
    let r = c.requires in
    let b = r.based in
    let n = r.noted in
    let pair = r.pair in
    let s = c.args.self.now in
    let at = c.args.at.now in
    let fl : FitsSigned w128 c.pull_of-pull.result.limit = search rules in
    let none = simp to_z-of_z at (ap (to_z w128) c.if-pull-eq0.true) in
    no_capacity (length s.places) at.q s.w s.entries n.m n.below s.same_count
    (product_low at.q s.w b.factor s.low) at.x.now b.entries b.base c.args.swap.now.u
    c.args.swap.now.v pair.from pair.onto pair.apart c.args.swap.now.a
    (sym (most_is (goal.at.returns-then-pull-eq0-clause-room c).After-pull_of-pull) ∙ none)

pub returns-clause-noted : goal.returns-clause-noted
returns-clause-noted c =
    let n = c.requires.noted in
    let told = c.in_ok-most.ensures in
    record {
      m = n.m;
      below = n.below;
      holds = n.holds;
      split = ap (λ (k : Kept). k.demand) told.kept ∙ n.split;
      spare = told.spare;
      near = rw (c.deref.ensures.value, n.holds) at told.near;
    }
