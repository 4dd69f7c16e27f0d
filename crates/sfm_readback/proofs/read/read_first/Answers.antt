use Rattle.std.proofs.Common.{FitsSigned}
use Rattle.std.proofs.lemmas.Int.{to_z-of_z}
use mir.Syntax.{w128}
use Rattle.sfm_cert.proofs.AnswerLines.{entry_fits}
use Rattle.sfm_cert.specs.Header.{header_text}
use Rattle.sfm_cert.specs.Solved.{form_with}
use Rattle.sfm_readback.proofs.First.{stop_header, stop_minimum, stop_least, stop_greatest, reads_first}
use Rattle.sfm_readback.proofs.read.read_first.Goals as goal

pub returns-in_err-expect-clause-stopped : goal.returns-in_err-expect-clause-stopped
returns-in_err-expect-clause-stopped c =
    stop_header (form_with (header_text c.args.header) c.args.instance.now) c.args.text.now
    c.args.cursor.now c.requires c.from_residual.result c.in_err-expect.field-0.0
    c.from_residual.ensures.1 (rw c.text.ensures at c.in_err-expect.ensures.stuck)

pub returns-in_err-value-clause-stopped : goal.returns-in_err-value-clause-stopped
returns-in_err-value-clause-stopped c =
    stop_minimum (form_with (header_text c.args.header) c.args.instance.now) c.args.text.now
    c.args.cursor.now c.requires (rw c.text.ensures at c.in_ok-expect.ensures.taken)
    c.in_ok-expect.ensures.within
    c.from_residual-in_err-value.result c.in_err-value.field-0.0
    c.from_residual-in_err-value.ensures.1 c.in_err-value.ensures.stuck

pub returns-in_err-least-clause-stopped : goal.returns-in_err-least-clause-stopped
returns-in_err-least-clause-stopped c =
    stop_least (form_with (header_text c.args.header) c.args.instance.now) c.args.text.now
    c.args.cursor.now c.requires (rw c.text.ensures at c.in_ok-expect.ensures.taken)
    c.in_ok-expect.ensures.within c.in_ok-value.value c.in_ok-value.ensures.read
    c.from_residual-in_err-least.result c.in_err-least.field-0.0
    c.from_residual-in_err-least.ensures.1 c.in_err-least.ensures.stuck

pub returns-in_err-greatest-clause-stopped : goal.returns-in_err-greatest-clause-stopped
returns-in_err-greatest-clause-stopped c =
    stop_greatest (form_with (header_text c.args.header) c.args.instance.now) c.args.text.now
    c.args.cursor.now c.requires (rw c.text.ensures at c.in_ok-expect.ensures.taken)
    c.in_ok-expect.ensures.within c.in_ok-value.value c.in_ok-value.ensures.read
    c.in_ok-least.least c.in_ok-least.ensures.read c.from_residual-in_err-greatest.result
    c.in_err-greatest.field-0.0 c.from_residual-in_err-greatest.ensures.1
    c.in_err-greatest.ensures.stuck

pub returns-clause-read : goal.returns-clause-read
returns-clause-read c =
    let f : FitsSigned w128 c.in_ok-value.value = entry_fits c.in_ok-value.value
    c.in_ok-value.ensures.read.good.0 in
    simp to_z-of_z
    (reads_first (form_with (header_text c.args.header) c.args.instance.now) c.args.text.now
    c.args.cursor.now c.requires (rw c.text.ensures at c.in_ok-expect.ensures.taken)
    c.in_ok-expect.ensures.within c.in_ok-value.value c.in_ok-value.ensures.read
    c.in_ok-least.least c.in_ok-least.ensures.read c.in_ok-greatest.greatest
    c.in_ok-greatest.ensures.read)
