use Rattle.std.proofs.Common.{◌∙◌, length, arith, rules}
use Rattle.std.proofs.lemmas.Int.{to_z-of_z}
use mir.Syntax.{w128}
use Rattle.sfm_spec.specs.Terms.{IsGreedy}
use Rattle.sfm_spec.specs.Kinds.{uniform_value}
use Rattle.sfm_law.proofs.Entries.{written}
use Rattle.sfm_concave.specs.UniformLaws.{uniform_gain, uniform-greedy}
use Rattle.sfm_concave.proofs.uniform.UniformPlain.start_of.Goals as goal

pub returns : goal.returns
returns c =
    let s = c.args.self.now in
    let put = c.write_each.ensures in
    written (uniform_gain c.args.q s.w s.cap) (length s.places)
    (IsGreedy c.args.q (uniform_value s.w s.cap) (length s.places)) c.write_each.new.x
    (put.places ∙ c.requires.entries)
    (λ j lt. let h = put.shares j (rw c.requires.entries lt) in let e = to_z-of_z w128 c.args.q
    c.ranges.q in first_of (cc, search rules, grind arith))
    (uniform-greedy (length s.places) c.args.q s.w s.cap s.cap_low)
