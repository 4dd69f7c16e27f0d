use Rattle.std.proofs.Common.{arith}
use Rattle.sfm_lines.specs.Lines.{tokens_of}
use Rattle.sfm_passes.proofs.LongRanks.{uniform-shape, uniform-first, uniform-second, uniform-many}
use Rattle.sfm_passes.proofs.long_rank.uniform_reason.Goals as goal

pub returns-in_default : goal.returns-in_default
returns-in_default c = absurd (omega (arith, c.requires.long, c.in_default.ensures))

pub returns-then-not-is_uniform_cut : goal.returns-then-not-is_uniform_cut
returns-then-not-is_uniform_cut c =
    uniform-shape c.args.instance.now _ _ _ _ (tokens_of c.args.behind.now) c.in-Some.ensures
    c.requires.long c.if-not-is_uniform_cut.ensures

pub returns-then-not-is_number_of : goal.returns-then-not-is_number_of
returns-then-not-is_number_of c =
    uniform-first c.args.instance.now _ _ _ _ (tokens_of c.args.behind.now) c.in-Some.ensures
    c.requires.long c.if-not-is_uniform_cut.ensures c.if-not-is_number_of.ensures

pub returns-then-not-is_number_of-2 : goal.returns-then-not-is_number_of-2
returns-then-not-is_number_of-2 c =
    uniform-second c.args.instance.now _ _ _ _ (tokens_of c.args.behind.now) c.in-Some.ensures
    c.requires.long c.if-not-is_uniform_cut.ensures c.if-not-is_number_of-2.ensures

pub returns : goal.returns
returns c = c.elements_reason.ensures _ _
    (uniform-many c.args.instance.now _ _ _ _ (tokens_of c.args.behind.now) c.in-Some.ensures
    c.requires.long c.if-not-is_uniform_cut.ensures c.if-not-is_number_of.ensures
    c.if-not-is_number_of-2.ensures)
