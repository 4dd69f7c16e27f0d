use Rattle.std.proofs.Common.{◌≡◌, ◌<◌, ◌++◌, [], ◌∷◌, length, get_or, take, false, pos, FitsSigned, arith, ap, sym, ◌∙◌}
use Rattle.std.proofs.lemmas.Int.{to_z-of_z}
use Rattle.std.proofs.lemmas.List.{take_more, take_more_set, take_all, length-set}
use mir.Syntax.{w128}
use Rattle.sfm_ask.specs.Shifts.{shift_for, shift_of_pins}
use Rattle.sfm_ask.proofs.Values.{shift-at, shift-fits, shift-length}
use Rattle.sfm_ask.proofs.shift.write_shift.Goals as goal

pub loop-e-preserved : goal.loop-e-preserved
loop-e-preserved c =
    let inside = c.args.pins.now.inside in
    let outside = c.args.pins.now.outside in
    let m = c.args.penalty in
    let e = c.loop-e.e in
    let inv = c.loop-e.invariant in
    let l : e < length inside = omega (arith, c.loop-e-test.true, inv.places) in
    let o : e < length outside
    = omega (arith, l, c.requires.inside, c.requires.outside) in
    let same = shift-length m inside outside (c.requires.outside ∙ sym c.requires.inside) in
    let fm : FitsSigned w128 m = c.ranges.penalty in
    let told : c.shift_at.result ≡ shift_for m (get_or inside e false) (get_or outside e false)
    = simp to_z-of_z at c.shift_at.ensures in
    let is : c.shift_at.result ≡ get_or (shift_of_pins m inside outside) e (pos 0)
    = told ∙ sym (shift-at m inside outside e l o) in
    let fits : FitsSigned w128 c.shift_at.result
    = rw told (shift-fits m c.requires.small (get_or inside e false) (get_or outside e false)) in
    let wrote = take_more_set c.loop-e.shift e c.shift_at.result (omega (arith, l, inv.places)) in
    let more = take_more (shift_of_pins m inside outside) e (pos 0) (omega (arith, l, same)) in
    simp to_z-of_z (record {
      places = rw length-set inv.places;
      so_far = wrote ∙ (ap (λ x. x ++ c.shift_at.result ∷ []) (simp to_z-of_z at inv.so_far)
          ∙ (ap (λ a. take e (shift_of_pins m inside outside) ++ a ∷ []) is ∙ sym more));
    })

pub returns : goal.returns
returns c =
    let inside = c.args.pins.now.inside in
    let outside = c.args.pins.now.outside in
    let m = c.args.penalty in
    let e = c.loop-e.e in
    let inv = c.loop-e.invariant in
    let fm : FitsSigned w128 m = c.ranges.penalty in
    let same = shift-length m inside outside (c.requires.outside ∙ sym c.requires.inside) in
    let all : take e c.loop-e.shift ≡ take e (shift_of_pins m inside outside)
    = simp to_z-of_z at inv.so_far in
    rw (
      take_all e c.loop-e.shift (omega (arith, c.loop-e-test.false)),
      take_all e (shift_of_pins m inside outside)
          (omega (arith, c.loop-e-test.false, inv.places, same)),
    ) at all
