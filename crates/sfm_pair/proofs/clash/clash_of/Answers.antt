use Rattle.std.proofs.Common.{FitsSigned, arith}
use Rattle.std.proofs.lemmas.Int.{ints, to_z-of_z}
use mir.Syntax.{w128}
use Rattle.sfm_kind.proofs.Bounds.{total_size-low}
use Rattle.sfm_pair.proofs.Together.{first-too-much}
use Rattle.sfm_pair.proofs.clash.clash_of.Goals as goal

pub returns-in-Some : goal.returns-in-Some
returns-in-Some c = (
  c.have_same_names.ensures.0 c.if-not-have_same_names.false,
  rw (c.terms.ensures.terms, c.deref.ensures.value) at c.in-Some.ensures,
)

pub returns-in-Some-first_need : goal.returns-in-Some-first_need
returns-in-Some-first_need c = (
  c.have_same_names.ensures.0 c.if-not-have_same_names.false,
  rw c.terms.ensures.terms at c.in_default.ensures,
  rw (c.terms-2.ensures.terms, c.deref-2.ensures.value) at c.in-Some-first_need.ensures,
)

pub passes_at-requires-clause-low : goal.passes_at-requires-clause-low
passes_at-requires-clause-low c =
    let terms = c.args.left.now.instance.terms in
    let small = c.terms.ensures.bounded.small in
    let fits : FitsSigned w128 c.total_size.result = omega (
      arith,
      ints,
      c.total_size.ensures.total,
      total_size-low terms,
      small,
    ) in
    simp to_z-of_z (omega (arith, ints, c.total_size.ensures.total, total_size-low terms))

pub returns : goal.returns
returns c =
    let left = c.args.left.now in
    let right = c.args.right.now in
    let small = c.terms.ensures.bounded.small in
    let fits : FitsSigned w128 c.total_size.result = omega (
      arith,
      ints,
      c.total_size.ensures.total,
      total_size-low left.instance.terms,
      small,
    ) in
    let first = simp to_z-of_z at c.in_ok-line.ensures in (
      c.have_same_names.ensures.0 c.if-not-have_same_names.false,
      rw c.terms.ensures.terms at c.in_default.ensures,
      rw c.terms-2.ensures.terms at c.in_default-first_need.ensures,
      first-too-much left right c.in_ok-line.line
          (rw (
            c.support.ensures.support,
            c.total_size.ensures.total,
            c.terms-3.ensures.terms,
            c.deref-3.ensures.value,
          ) at first),
    )
