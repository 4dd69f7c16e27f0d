use Rattle.std.proofs.Common.{◌≡◌, length, map, drop, ◌*ℤ◌, ap, sym, ◌∙◌, FitsSigned}
use Rattle.std.proofs.lemmas.Int.{to_z-of_z}
use mir.Syntax.{w128}
use Rattle.sfm_cells.proofs.Written.{written}
use Rattle.sfm_cells.proofs.multiples.list_times.Goals as goal

pub scale-requires : goal.scale-requires
scale-requires c =
    let fm : FitsSigned w128 c.args.m = c.ranges.m in
    rw (c.deref_mut.ensures.value ∙ c.in_ok-multiples.ensures.items) (simp to_z-of_z c.requires)

pub returns : goal.returns
returns c =
    let m = c.args.m in
    let fm : FitsSigned w128 m = c.ranges.m in
    let multiples = c.in_ok-multiples.multiples in
    let long = ap length c.deref_mut.ensures.value ∙ sym multiples.ok.0 in
    let scaled : c.scale.new.numbers ≡ map (λ a. m *ℤ a) c.deref_mut.result.now = simp to_z-of_z at
    c.scale.ensures in
    written c.scale.new.numbers (drop (length c.scale.new.numbers) multiples.items) multiples.len
    (c.scale.auto.numbers ∙ long)
    ∙ (scaled ∙ ap (map (λ a. m *ℤ a))
    (c.deref_mut.ensures.value ∙ c.in_ok-multiples.ensures.items))
