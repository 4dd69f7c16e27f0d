use Rattle.sfm_edit.proofs.Numbered.{untold, too-low, too-high, in-range}
use Rattle.sfm_edit.proofs.editing.line_place.Goals as goal

pub returns-in_default : goal.returns-in_default
returns-in_default c = untold c.args.text.now c.read_number.result c.read_number.ensures
    c.args.count c.ranges.count.fits c.in_default.is

pub returns-then-number-lt1 : goal.returns-then-number-lt1
returns-then-number-lt1 c = too-low c.args.text.now c.read_number.result c.read_number.ensures
    c.args.count c.ranges.count.fits c.in-Some.number c.in-Some.is c.if-number-lt1.true

pub returns-then-number-count : goal.returns-then-number-count
returns-then-number-count c = too-high c.args.text.now c.read_number.result c.read_number.ensures
    c.args.count c.ranges.count.fits c.in-Some.number c.in-Some.is c.if-number-count.true

pub returns : goal.returns
returns c = in-range c.args.text.now c.read_number.result c.read_number.ensures c.args.count
    c.ranges.count.fits c.in-Some.number c.in-Some.is c.if-number-lt1.false c.if-number-count.false
