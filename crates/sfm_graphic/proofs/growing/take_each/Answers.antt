use Rattle.std.proofs.Common.{◌≡◌, ◌∙◌, ◌<◌, length, arith, sym, ap}
use Rattle.sfm_spec.specs.Sets.{empty_set}
use Rattle.sfm_graphic.specs.Graphs.{taken}
use Rattle.sfm_graphic.specs.Runs.{taken-places}
use Rattle.sfm_graphic.specs.Ends.{edges_of}
use Rattle.sfm_graphic.proofs.Labels.{length-edges, labels-first, labels-next, labels-same, taken-next, taken-same}
use Rattle.sfm_graphic.proofs.growing.take_each.Goals as goal
use Rattle.sfm_graphic.proofs.growing.take_each.Goals.{then-contains, else-contains}

pub loop-e-init : goal.loop-e-init
loop-e-init c =
    let ends = c.args.labels.now in
    record {
      labels = labels-first c.args.s.now ends;
      taken = c.requires.none
          ∙ ap empty_set (c.requires.places ∙ sym (length-edges ends));
    }

pub loop-e-preserved : goal.loop-e-preserved
loop-e-preserved c =
    let ends = c.args.labels.now in
    let s = c.args.s.now in
    let e = c.loop-e.e in
    let inv = c.loop-e.invariant in
    let ks : length s ≡ length (edges_of ends) = c.requires.places ∙ sym (length-edges ends) in
    let lt : e < length (edges_of ends) = omega (
      arith,
      c.loop-e-test.true,
      c.loop-e.auto.e-end,
      ks,
    ) in
    elim c.if-contains.branch [
      | then-contains w ↦
          let has = sym c.contains.ensures ∙ w.if-contains.true in
          record {
            labels = w.labels-is ∙ (w.take.ensures.labels
                ∙ labels-next (edges_of ends) s e lt c.loop-e.labels inv.labels has);
            taken = w.t-is ∙ (w.take.ensures.taken
                ∙ taken-next (edges_of ends) s e lt c.loop-e.labels inv.labels c.loop-e.t inv.taken
                has);
          }
      | else-contains w ↦
          let out = sym c.contains.ensures ∙ w.if-contains.false in
          record {
            labels = w.labels-is ∙ labels-same (edges_of ends) s e lt c.loop-e.labels inv.labels
                out;
            taken = w.t-is ∙ taken-same (edges_of ends) s e lt c.loop-e.labels inv.labels c.loop-e.t
                inv.taken out;
          }
    ]

pub take-requires-clause-edge : goal.take-requires-clause-edge
take-requires-clause-edge c =
    let l = c.loop-e.auto.labels in
    omega (arith, c.loop-e-test.true, c.loop-e.auto.e-end, c.requires.places, l)

pub take-requires-clause-place : goal.take-requires-clause-place
take-requires-clause-place c =
    let ends = c.args.labels.now in
    let s = c.args.s.now in
    let ks : length s ≡ length (edges_of ends) = c.requires.places ∙ sym (length-edges ends) in
    let l = ap length c.loop-e.invariant.taken ∙ taken-places (edges_of ends) s ks c.loop-e.e in
    omega (arith, c.loop-e-test.true, c.loop-e.auto.e-end, ks, l)

pub returns : goal.returns
returns c =
    let e : c.loop-e.e ≡ length c.args.labels.now = omega (
      arith,
      c.loop-e-test.false,
      c.loop-e.auto.e-end,
      c.requires.places,
    ) in
    c.loop-e.invariant.taken ∙ ap (λ n. taken (edges_of c.args.labels.now) c.args.s.now n) e
