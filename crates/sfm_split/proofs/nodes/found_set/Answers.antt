use Rattle.std.proofs.Common.{◌<◌, length, arith}
use Rattle.std.proofs.lemmas.Bool.{MatchBool-at_true, MatchBool-at_false}
use Rattle.sfm_split.proofs.Searches.{found_none, found_put, found_skip}
use Rattle.sfm_split.proofs.nodes.found_set.Goals as goal
use Rattle.sfm_split.proofs.nodes.found_set.Goals.{then-is_found, else-is_found}

pub loop-i-init : goal.loop-i-init
loop-i-init c = rw c.in_ok-set.ensures (found_none c.args.nodes.now)

pub loop-i-preserved : goal.loop-i-preserved
loop-i-preserved c =
    let nodes = c.args.nodes.now in
    let i = c.loop-i.i in
    let lt : i < length nodes = omega arith in
    elim c.if-is_found.branch [
      | then-is_found w ↦ rw (w.set-is, w.insert.ensures)
          (found_put nodes c.loop-i.set i lt
          (MatchBool-at_true _ _ w.if-is_found.true c.is_found.ensures) c.loop-i.invariant)
      | else-is_found w ↦ rw w.set-is
          (found_skip nodes c.loop-i.set i
          (MatchBool-at_false _ _ w.if-is_found.false c.is_found.ensures) c.loop-i.invariant)
    ]

pub returns : goal.returns
returns c =
    let inv = c.loop-i.invariant in
    record {
      places = inv.places;
      members = inv.members;
      others = λ j lt. inv.others j (omega (arith, lt));
    }
