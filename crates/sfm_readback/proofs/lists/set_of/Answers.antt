use Rattle.sfm_readback.proofs.Needs.{not_empty, is_empty_nil}
use Rattle.sfm_readback.proofs.LineForms.{set_line_from, no_set_line}
use Rattle.sfm_readback.proofs.lists.set_of.Goals as goal

pub returns-then-not-is_empty : goal.returns-then-not-is_empty
returns-then-not-is_empty c =
    no_set_line c.args.word.now c.args.instance.now.names c.args.line.now c.in-Some.bytes.now
    c.in_ok-members.members c.in_ok-members.rest.now c.in-Some.ensures c.in_ok-members.ensures
    (not_empty _ _ c.is_empty.ensures c.if-not-is_empty.true)

pub returns : goal.returns
returns c =
    set_line_from c.args.word.now c.args.instance.now.names c.args.line.now c.in-Some.bytes.now
    c.in_ok-members.members c.in_ok-members.rest.now c.in-Some.ensures c.in_ok-members.ensures
    (is_empty_nil _ _ c.is_empty.ensures c.if-not-is_empty.false)
