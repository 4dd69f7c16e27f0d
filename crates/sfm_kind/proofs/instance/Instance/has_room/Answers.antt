-- The tests against the running totals are those of the bounds.
use Rattle.std.proofs.Common.{◌≡◌, ◌-◌, ◌<◌, ◌^◌, length, pos, ◌-ℤ◌, FitsSigned, arith, leb, ltb, ◌∙◌, sym}
use Rattle.std.proofs.lemmas.Bool.{leb-true, ltb-true}
use Rattle.std.proofs.lemmas.Int.{ints, to_z-of_z}
use mir.Syntax.{w128}
use Rattle.sfm_kind.proofs.Bounds.{kept-total, room_exact}
use Rattle.sfm_kind.proofs.instance.Instance.has_room.Goals as goal
use Rattle.sfm_kind.proofs.instance.Instance.has_room.Goals.{then-len-lt-MOST_TERMS, else-len-lt-MOST_TERMS}

pub overflow_sub-result : goal.overflow_sub-result
overflow_sub-result c =
    let s = c.self.inside in
    let known = kept-total s.names s.terms.items s.lines.items s.support s.total c.self.invariant in
    let fits : FitsSigned w128 s.total = omega (arith, ints, known.low, known.high) in
    simp to_z-of_z (omega (arith, ints, known.low, known.high))

pub returns-then-places-self : goal.returns-then-places-self
returns-then-places-self c =
    let s = c.self.inside in
    let known = kept-total s.names s.terms.items s.lines.items s.support s.total c.self.invariant in
    let fits : FitsSigned w128 s.total = omega (arith, ints, known.low, known.high) in
    let fits_rest : FitsSigned w128
    (pos (10 ^ 18) -ℤ s.total) = omega (arith, ints, known.low, known.high) in
    let fits_size : FitsSigned w128 c.args.size = c.ranges.size in
    let t = c.if-places-self.true in
    elim c.if-len-lt-MOST_TERMS.branch [
      | then-len-lt-MOST_TERMS w ↦ (let v : c.if-len-lt-MOST_TERMS.value ≡ leb c.args.places
          (16384 - s.support) = w.value-is in
          let count : length s.terms.items < 16384 = omega (
            arith,
            s.terms.ok,
            c.len.ensures,
            w.if-len-lt-MOST_TERMS.true,
          ) in
          rw (← c.self.view_is) (simp to_z-of_z
          (room_exact s.names s.terms.items s.lines.items s.support s.total c.args.places
          c.args.size c.self.invariant count (leb-true _ _ (sym v ∙ t)))))
      | else-len-lt-MOST_TERMS w ↦ (let v : c.if-len-lt-MOST_TERMS.value ≡ ltb c.len.result
          16384 = w.value-is in
          absurd (omega (arith, ltb-true _ _ (sym v ∙ t), w.if-len-lt-MOST_TERMS.false)))
    ]
