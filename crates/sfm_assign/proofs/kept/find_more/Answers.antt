use Rattle.std.proofs.Common.{rules, FitsSigned}
use Rattle.std.proofs.lemmas.Int.{to_z-of_z}
use mir.Syntax.{w128}
use Rattle.sfm_split.specs.Grown.{MayGrow}
use Rattle.sfm_assign.proofs.kept.find_more.Goals.{In_ok-begin}
use Rattle.sfm_assign.proofs.kept.find_more.Goals as goal

-- the split as it stands, of which nothing is lacking
begun : (c : In_ok-begin) → let s = c.args.split.now.shares.now in
    MayGrow c.args.demand.now s.cells.whos.items s.cells.slots.items c.begin.new.work.y.items
    c.begin.new.work.left.lacks.items c.begin.new.work.left.rooms.items c.args.u c.args.limit
begun c =
    let r = c.requires in
    let b = c.in_ok-begin.ensures in
    let fq : FitsSigned w128 c.args.limit = c.ranges.limit in
    rw (b.amounts, b.rooms) (record {
      sound = c.demands-sound.ensures.sound;
      met = r.met;
      lacks_are = b.lacks;
      left = r.left;
      place = r.place;
      low = r.low;
      small = r.small;
    })

pub begin-requires : goal.begin-requires
begin-requires c = record { met = c.requires.met }

pub raise_most-requires : goal.raise_most-requires
raise_most-requires c =
    let fq : FitsSigned w128 c.args.limit = c.ranges.limit in (
      c.args.demand.now,
      rw c.all.ensures
          (simp to_z-of_z (begun (goal.at.raise_most-requires c).In_ok-begin)),
    )

pub returns : goal.returns
returns c =
    let fq : FitsSigned w128 c.args.limit = c.ranges.limit in
    let fm : FitsSigned w128 c.in_ok-more.more = search rules in
    let told = rw c.all.ensures at (simp to_z-of_z at c.in_ok-more.ensures) in
    simp to_z-of_z (told c.args.demand.now (begun (goal.at.returns c).In_ok-begin))
