use Rattle.std.proofs.Common.{◌≡◌, length, drop, ap, ◌∙◌, sym, FitsSigned}
use Rattle.std.proofs.lemmas.Int.{to_z-of_z}
use Rattle.std.proofs.lemmas.List.{take_at}
use mir.Syntax.{w128}
use Rattle.sfm_law.proofs.starts.write_start.Goals as goal

pub returns : goal.returns
returns g c =
    let m = g.T.Term in
    let item = c.args.term.now in
    let row = c.make_long.new.row in
    let fq : FitsSigned w128 c.args.q = c.ranges.q in
    let law = g.met.T.Term.starts item c.args.q c.requires.factor.low in
    let x : c.start.new.x ≡ m.start_of item c.args.q = simp to_z-of_z at
    c.in_ok-start.ensures.start in
    let lx : length c.start.new.x ≡ length (m.places item) = ap length x ∙ law.0 in
    let lr : row.len ≡ length (m.places item) = row.ok.0
    ∙ (c.in_ok-make_long.ensures ∙ ap length c.elements.ensures) in
    take_at c.start.new.x (drop (length c.start.new.x) row.items) row.len (lx ∙ sym lr) ∙ x
