use Rattle.std.proofs.Common.{◌≡◌, ◌∙◌, ◌*ℤ◌, length, pos, sym, arith, rules}
use Rattle.std.proofs.lemmas.Int.{to_z-of_z}
use Rattle.std.proofs.lemmas.List.{ext_get_or}
use mir.Syntax.{w128}
use Rattle.sfm_rank.proofs.Terms.{at_places-length}
use Rattle.sfm_laminar.specs.LaminarLaws.{laminar_start, laminar-greedy, basis_of}
use Rattle.sfm_laminar.proofs.Kept.{length-basis}
use Rattle.sfm_laminar.proofs.laminar.LaminarPlain.start_of.Goals as goal

pub returns : goal.returns
returns c =
    let s = c.args.self.now in
    let q = c.args.q in
    let k = length s.places in
    let put = c.write_each.ensures in
    let sized = put.places ∙ c.requires.entries in
    let is : c.write_each.new.x ≡ laminar_start k q s.w s.groups = ext_get_or (pos 0)
    c.write_each.new.x (laminar_start k q s.w s.groups)
    (sized ∙ sym (at_places-length (q *ℤ s.w) (basis_of k s.groups)
    ∙ length-basis k s.groups s.grouped))
    (λ j lt. let h = put.shares j (omega (arith, lt, put.places)) in let e = to_z-of_z w128 q
    c.ranges.q in first_of (cc, search rules, grind arith)) in
    record { start = is; greedy = rw is (laminar-greedy k s.w s.groups s.low s.grouped q) }
