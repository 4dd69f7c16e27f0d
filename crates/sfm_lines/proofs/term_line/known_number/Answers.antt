use Rattle.std.proofs.Common.{refl}
use Rattle.sfm_lines.proofs.Numbers.{kept-number}
use Rattle.sfm_lines.proofs.term_line.known_number.Goals as goal

pub unreachable-requires : goal.unreachable-requires
unreachable-requires c = let (value, number) = c.requires in c.in_default.not-Some value
    ((c.number_for.ensures value).1 number)

pub returns : goal.returns
returns c =
    let number = (c.in-Some.ensures c.in-Some.value).0 refl in
    rw (kept-number c.args.instance.now.version c.args.word c.args.text.now c.in-Some.value number)
    number
