use Rattle.std.proofs.Common.{◌≢◌, ◌∙◌, true, false, arith, FitsSigned, get_or-set_other}
use Rattle.std.proofs.lemmas.Int.{to_z-of_z}
use mir.Syntax.{w128}
use Rattle.sfm_simple.specs.Subsets.{members}
use Rattle.sfm_simple.proofs.breach.gains_more.Goals as goal

pub with_place-both-requires-clause-out : goal.with_place-both-requires-clause-out
with_place-both-requires-clause-out c =
    let r = c.requires in
    let apart : c.args.b ≢ c.args.a = (λ e. absurd (omega (arith, r.ordered, e))) in
    rw c.with_place-with_a.ensures.members
    (get_or-set_other (members c.args.k c.args.s) c.args.a c.args.b true false apart
    ∙ r.second_out)

pub returns : goal.returns
returns c =
    let f1 : FitsSigned w128 c.listed.result = record { sfits = c.listed.type_inv } in
    let f2 : FitsSigned w128 c.listed-2.result = record { sfits = c.listed-2.type_inv } in
    let f3 : FitsSigned w128 c.listed-3.result = record { sfits = c.listed-3.type_inv } in
    let f4 : FitsSigned w128 c.listed-4.result = record { sfits = c.listed-4.type_inv } in
    let less = simp to_z-of_z at c.have_less.ensures in
    let sets = rw (
      c.listed.ensures.value,
      c.listed-2.ensures.value,
      c.listed-3.ensures.value,
      c.listed-4.ensures.value,
      c.with_place-with_b.ensures.members,
      c.with_place-both.ensures.members,
    ) at less in
    rw c.with_place-with_a.ensures.members at sets
