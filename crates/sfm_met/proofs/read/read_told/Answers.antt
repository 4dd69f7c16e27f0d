use Rattle.std.proofs.Common.{FitsSigned}
use Rattle.std.proofs.lemmas.Int.{to_z-of_z}
use mir.Syntax.{w128}
use Rattle.sfm_cert.proofs.AnswerLines.{entry_fits}
use Rattle.sfm_met.proofs.Reading.{stop_header, stop_value, stop_set, stop_common, reads_told}
use Rattle.sfm_met.proofs.read.read_told.Goals as goal

pub returns-in_err-expect-clause-stopped : goal.returns-in_err-expect-clause-stopped
returns-in_err-expect-clause-stopped c =
    stop_header c.args.instance.now.names c.args.text.now c.args.cursor.now c.requires
    c.from_residual.result c.in_err-expect.field-0.0 c.from_residual.ensures.1
    c.in_err-expect.ensures.stuck

pub returns-in_err-value-clause-stopped : goal.returns-in_err-value-clause-stopped
returns-in_err-value-clause-stopped c =
    stop_value c.args.instance.now.names c.args.text.now c.args.cursor.now c.requires
    c.in_ok-expect.ensures.taken c.in_ok-expect.ensures.within
    c.from_residual-in_err-value.result c.in_err-value.field-0.0
    c.from_residual-in_err-value.ensures.1 c.in_err-value.ensures.stuck

pub returns-in_err-members-clause-stopped : goal.returns-in_err-members-clause-stopped
returns-in_err-members-clause-stopped c =
    stop_set c.args.instance.now.names c.args.text.now c.args.cursor.now c.requires
    c.in_ok-expect.ensures.taken c.in_ok-expect.ensures.within c.in_ok-value.value
    c.in_ok-value.ensures.read
    c.from_residual-in_err-members.result c.in_err-members.field-0.0
    c.from_residual-in_err-members.ensures.1 c.in_err-members.ensures.stuck

pub returns-in_err-common-clause-stopped : goal.returns-in_err-common-clause-stopped
returns-in_err-common-clause-stopped c =
    stop_common c.args.instance.now.names c.args.text.now c.args.cursor.now c.requires
    c.in_ok-expect.ensures.taken c.in_ok-expect.ensures.within c.in_ok-value.value
    c.in_ok-value.ensures.read
    c.in_ok-members.members c.in_ok-members.ensures.read c.from_residual-in_err-common.result
    c.in_err-common.field-0.0 c.from_residual-in_err-common.ensures.1
    (rw c.names_len.ensures.len at c.in_err-common.ensures.stuck)

pub returns-clause-read : goal.returns-clause-read
returns-clause-read c =
    let f : FitsSigned w128 c.in_ok-value.value = entry_fits c.in_ok-value.value
    c.in_ok-value.ensures.read.good.0 in
    simp to_z-of_z
    (reads_told c.args.instance.now.names c.args.text.now c.args.cursor.now c.requires
    c.in_ok-expect.ensures.taken c.in_ok-expect.ensures.within c.in_ok-value.value
    c.in_ok-value.ensures.read
    c.in_ok-members.members c.in_ok-members.ensures.read c.in_ok-common.common.items
    (rw c.names_len.ensures.len at c.in_ok-common.ensures.read))
