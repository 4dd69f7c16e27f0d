use Rattle.std.proofs.Common.{◌≡◌, List, map, sym, subst, FitsSigned, ℤ}
use Rattle.std.specs.List.{All}
use Rattle.std.proofs.lemmas.List.{take_all}
use Rattle.std.proofs.lemmas.Int.{to_z-of_z}
use mir.Syntax.{w128}
use Rattle.sfm_spec.specs.Bounds.{IsEntry}
use Rattle.sfm_law.proofs.FirstBases.{starts-bases, starts-small}
use Rattle.sfm_law.proofs.starts.start_rows.Goals as goal

pub returns : goal.returns
returns g c =
    let t = g.T.Term in
    let m = g.met.T.Term in
    let q = c.args.q in
    let r = c.requires in
    let terms = c.args.terms.now in
    let fq : FitsSigned w128 q = c.ranges.q in
    let before = simp to_z-of_z at c.loop-term.invariant in
    let rows : c.loop-term.rows ≡ map (λ x. t.start_of x q)
    terms = rw (take_all c.loop-term.term-index terms c.loop-term-test.false) at before in
    record {
      starts = rows;
      bases = rw rows (starts-bases t.places t.value_of t.size_of t.start_of q
          (λ x. m.starts x q r.factor.low) (λ x. m.starts_small x q r.factor.low) terms);
      small = subst (λ (r : List (List ℤ)). All (λ row. All IsEntry row) r) (sym rows)
          (starts-small t.places t.value_of t.size_of t.start_of q (λ x. m.starts x q r.factor.low)
          (λ x. m.starts_small x q r.factor.low) r.factor terms r.bounded);
    }
