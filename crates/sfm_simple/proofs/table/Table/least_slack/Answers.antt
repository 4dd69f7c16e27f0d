use Rattle.std.proofs.Common.{◌≡◌, ◌<◌, ◌^◌, ◌∙◌, length, refl, ap, arith, FitsSigned, to_z, of_z, ℤ}
use Rattle.std.proofs.lemmas.Bool.{false≢true}
use Rattle.std.proofs.lemmas.Int.{ints, to_z-of_z}
use Rattle.std.proofs.lemmas.Nat.{pow_below}
use mir.Syntax.{w128}
use Rattle.sfm_simple.proofs.TableRooms.{unit_split, least_more, reached_min}
use Rattle.sfm_simple.specs.TableLaws.{slack_of}
use Rattle.sfm_simple.proofs.table.Table.least_slack.Goals as goal
use Rattle.sfm_simple.proofs.table.Table.least_slack.Goals.{then-splits, else-splits}

pub slack-least-requires-clause-number : goal.slack-least-requires-clause-number
slack-least-requires-clause-number c =
    let r = c.requires in
    let s = c.args.self.now in
    let low = pow_below c.args.u (length s.places) (omega (arith, r.from, r.entries)) in
    omega (arith, low, c.unit.ensures, s.counted)

pub loop-s-init : goal.loop-s-init
loop-s-init c =
    let r = c.requires in
    let s = c.args.self.now in
    let values = s.values in
    let x = c.args.x.now in
    let q : ℤ = to_z w128 (of_z w128 c.args.q) in
    let low = pow_below c.args.u (length s.places) (omega (arith, r.from, r.entries)) in
    let split = unit_split (length x) c.args.u c.args.v r.from r.onto r.apart in
    let f : FitsSigned w128 c.slack-least.result = record { sfits = c.slack-least.type_inv } in
    let is : c.slack-least.result ≡ slack_of q values x (2 ^ c.args.u) = c.slack-least.ensures
    ∙ ap (λ n. slack_of q values x n) c.unit.ensures in
    record {
      least = λ n h _. absurd (omega arith);
      reached = (
        2 ^ c.args.u,
        omega (arith, low, s.counted),
        split,
        to_z-of_z w128 c.slack-least.result f ∙ is,
      );
    }

pub loop-s-preserved : goal.loop-s-preserved
loop-s-preserved c =
    let values = c.args.self.now.values in
    let x = c.args.x.now in
    let q : ℤ = to_z w128 (of_z w128 c.args.q) in
    let u = c.args.u in
    let v = c.args.v in
    let s = c.loop-s.s in
    let inv = c.loop-s.invariant in
    let lt : s < length values = omega (arith, c.loop-s-test.true, c.count-s-end.ensures) in
    elim c.if-splits.branch [
      | then-splits w ↦
          (let fs : FitsSigned w128 w.slack.result = record { sfits = w.slack.type_inv } in
          let fm : FitsSigned w128 w.min-least.result = record { sfits = w.min-least.type_inv } in
          let is : to_z w128 c.if-splits.least-bits ≡ w.min-least.result = w.least-is
          ∙ to_z-of_z w128 w.min-least.result fm in
          let b = to_z-of_z w128 w.slack.result fs ∙ w.slack.ensures in
          let m = w.min-least.ensures in
          let split = w.if-splits.ensures.0 refl in
          record {
            least = rw is (least_more q values x u v s _ _ inv.least m.self_bound
                (λ _. omega (arith, ints, m.other_bound, b)));
            reached = rw is (reached_min q values x u v s _ _ _ inv.reached lt split b m.value);
          })
      | else-splits w ↦
          record {
            least = rw w.least-is (least_more q values x u v s _ _ inv.least (omega (arith, ints))
                (λ split. absurd (false≢true (w.if-splits.ensures.1 split))));
            reached = rw w.least-is inv.reached;
          }
    ]

pub returns : goal.returns
returns c =
    let fq : FitsSigned w128 c.args.q = c.ranges.q in
    let inv = simp to_z-of_z at c.loop-s.invariant in
    record {
      least = λ n h. inv.least n
          (omega (arith, h, c.loop-s-test.false, c.count-s-end.ensures));
      reached = inv.reached;
    }
