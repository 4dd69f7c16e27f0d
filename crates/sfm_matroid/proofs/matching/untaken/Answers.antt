use Rattle.std.proofs.Common.{◌≡◌, length, replicate, pos, ◌∙◌, arith, rules}
use Rattle.std.proofs.lemmas.Int.{ints}
use Rattle.std.proofs.lemmas.List.{length-replicate}
use Rattle.std.proofs.lemmas.List.Elements.{All-replicate}
use Rattle.std.proofs.lemmas.Result.{IfOk-weaker}
use Rattle.sfm_assign.specs.Splits.{IsAmount}
use Rattle.sfm_matroid.proofs.Matched.{none_met}
use Rattle.sfm_matroid.proofs.matching.untaken.Goals as goal

pub slot_demand-requires : goal.slot_demand-requires
slot_demand-requires c =
    let r = c.requires in
    let h : c.in_ok-nothing.nothing.items ≡ replicate (length c.args.entries.now) (pos 0) = search
    rules in
    rw (c.deref.ensures.value, h) (record {
      few = r.few;
      sized = length-replicate (length c.args.entries.now) (pos 0);
      amounts = All-replicate IsAmount (length c.args.entries.now) (pos 0)
          (record { low = omega (arith, ints); high = omega (arith, ints) });
      low = omega (arith, ints);
      high = omega (arith, ints);
      few_slots = r.few_slots;
      below = r.below;
    })

pub split_of-requires : goal.split_of-requires
split_of-requires c =
    let h : c.in_ok-nothing.nothing.items ≡ replicate (length c.args.entries.now) (pos 0) = search
    rules in
    rw (c.in_ok-demand.ensures, c.deref.ensures.value, h)
    (none_met c.args.entries.now c.args.m c.requires.below)

pub returns : goal.returns
returns c =
    let h : c.in_ok-nothing.nothing.items ≡ replicate (length c.args.entries.now) (pos 0) = search
    rules in
    let is = rw (c.deref.ensures.value, h) at c.in_ok-demand.ensures in
    IfOk-weaker c.split_of.result _ _ (λ kept same. same ∙ is) c.split_of.ensures
