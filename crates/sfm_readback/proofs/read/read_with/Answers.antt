use Rattle.std.proofs.Common.{map, refl, [], FitsSigned}
use Rattle.std.proofs.lemmas.Int.{to_z-of_z}
use mir.Syntax.{w128}
use Rattle.sfm_cert.specs.Header.{header_text}
use Rattle.sfm_cert.specs.Solved.{break_of, form_with}
use Rattle.sfm_cert.proofs.AnswerLines.{entry_fits}
use Rattle.sfm_readback.specs.Lists.{break_of_head}
use Rattle.sfm_readback.specs.Parts.{ReadsBreaks, AreBreaksOf}
use Rattle.sfm_readback.proofs.AnyHeader.{blocks_behind, heads_behind, rows_behind, breaks_behind, breaks_formed, ends_behind}
use Rattle.sfm_readback.proofs.BadLines.{header_line}
use Rattle.sfm_readback.proofs.Whole.{bad_first, bad_blocks, bad_heads, bad_at, bad_rows, bad_breaks, bad_last, bad_behind, whole_text}
use Rattle.sfm_readback.proofs.read.read_with.Goals.{In_ok-breaks}
use Rattle.sfm_readback.proofs.read.read_with.Goals as goal

-- the sections are those of the slope lines
sections : (c : In_ok-breaks) → let heads = map break_of_head
    c.in_ok-heads.heads.items in let breaks = map break_of c.in_ok-breaks.breaks.items in
    ReadsBreaks (form_with (header_text c.args.header) c.args.instance.now) c.args.text.now
    c.read_rows.new.cursor c.read_breaks.new.cursor heads [] breaks
    × AreBreaksOf (form_with (header_text c.args.header) c.args.instance.now) heads breaks
sections c =
    let i = c.args.instance.now in
    let h = header_text c.args.header in (
      breaks_behind i h (rw c.deref.ensures.value at c.in_ok-breaks.ensures.read),
      breaks_formed i h (rw c.deref.ensures.value at c.in_ok-breaks.ensures.same),
    )

pub read_blocks-requires : goal.read_blocks-requires
read_blocks-requires c = c.in_ok-value.ensures.read.reads.within

pub read_heads-requires : goal.read_heads-requires
read_heads-requires c = c.in_ok-blocks.ensures.read.reads.within

pub expect-requires : goal.expect-requires
expect-requires c = c.in_ok-heads.ensures.read.within

pub read_rows-requires : goal.read_rows-requires
read_rows-requires c = c.in_ok-expect.ensures.within

pub read_breaks-requires-clause-within : goal.read_breaks-requires-clause-within
read_breaks-requires-clause-within c = c.in_ok-bases.ensures.read.within

pub expect-requires-2 : goal.expect-requires-2
expect-requires-2 c = c.in_ok-breaks.ensures.read.within

pub read_breaks-requires-clause-heads : goal.read_breaks-requires-clause-heads
read_breaks-requires-clause-heads c = rw c.deref.ensures.value c.in_ok-heads.ensures.read.formed

pub returns-in_err-value-clause-refused : goal.returns-in_err-value-clause-refused
returns-in_err-value-clause-refused c =
    let i = c.args.instance.now in
    let h = header_text c.args.header in
    bad_first (form_with h i) (header_line c.args.header) c.names_len-names.ensures.named.forms
    c.args.text.now _ refl refl c.from_residual.result c.in_err-value.field-0.0
    c.from_residual.ensures.1 c.in_err-value.ensures.stopped

pub returns-in_err-blocks-clause-refused : goal.returns-in_err-blocks-clause-refused
returns-in_err-blocks-clause-refused c =
    let i = c.args.instance.now in
    let h = header_text c.args.header in
    bad_blocks (form_with h i) (header_line c.args.header) c.names_len-names.ensures.named.forms
    c.args.text.now _ refl refl c.in_ok-value.ensures.read c.from_residual-in_err-blocks.result
    c.in_err-blocks.field-0.0 c.from_residual-in_err-blocks.ensures.1
    (ends_behind i h c.args.text.now _ _ c.in_err-blocks.field-0.0 tt
    c.in_err-blocks.ensures.stopped)

pub returns-in_err-heads-clause-refused : goal.returns-in_err-heads-clause-refused
returns-in_err-heads-clause-refused c =
    let i = c.args.instance.now in
    let h = header_text c.args.header in
    bad_heads (form_with h i) (header_line c.args.header) c.names_len-names.ensures.named.forms
    c.args.text.now _ refl refl c.in_ok-value.ensures.read
    (blocks_behind i h c.in_ok-blocks.ensures.read) c.in_ok-blocks.ensures.next
    c.from_residual-in_err-heads.result c.in_err-heads.field-0.0
    c.from_residual-in_err-heads.ensures.1
    (λ k. ends_behind i h c.args.text.now _ _ c.in_err-heads.field-0.0 tt
    (c.in_err-heads.ensures.stopped k))

pub returns-in_err-expect-clause-refused : goal.returns-in_err-expect-clause-refused
returns-in_err-expect-clause-refused c =
    let i = c.args.instance.now in
    let h = header_text c.args.header in
    bad_at (form_with h i) (header_line c.args.header) c.names_len-names.ensures.named.forms
    c.args.text.now _ refl refl c.in_ok-value.ensures.read
    (blocks_behind i h c.in_ok-blocks.ensures.read) c.in_ok-blocks.ensures.next
    (heads_behind i h c.in_ok-heads.ensures.read) c.in_ok-heads.ensures.next
    c.from_residual-in_err-expect.result c.in_err-expect.field-0.0
    c.from_residual-in_err-expect.ensures.1 c.in_err-expect.ensures.stuck

pub returns-in_err-bases-clause-refused : goal.returns-in_err-bases-clause-refused
returns-in_err-bases-clause-refused c =
    let i = c.args.instance.now in
    let h = header_text c.args.header in
    bad_rows (form_with h i) (header_line c.args.header) c.names_len-names.ensures.named.forms
    c.args.text.now _ refl refl c.in_ok-value.ensures.read
    (blocks_behind i h c.in_ok-blocks.ensures.read) c.in_ok-blocks.ensures.next
    (heads_behind i h c.in_ok-heads.ensures.read) c.in_ok-heads.ensures.next
    c.in_ok-expect.ensures.taken c.in_ok-expect.ensures.within c.from_residual-in_err-bases.result
    c.in_err-bases.field-0.0 c.from_residual-in_err-bases.ensures.1
    (λ d. ends_behind i h c.args.text.now _ _ c.in_err-bases.field-0.0 tt
    (c.in_err-bases.ensures.stopped d))

pub returns-in_err-breaks-clause-refused : goal.returns-in_err-breaks-clause-refused
returns-in_err-breaks-clause-refused c =
    let i = c.args.instance.now in
    let h = header_text c.args.header in
    bad_breaks (form_with h i) (header_line c.args.header) c.names_len-names.ensures.named.forms
    c.args.text.now _ refl refl c.in_ok-value.ensures.read
    (blocks_behind i h c.in_ok-blocks.ensures.read) c.in_ok-blocks.ensures.next
    (heads_behind i h c.in_ok-heads.ensures.read) c.in_ok-heads.ensures.next
    c.in_ok-expect.ensures.taken c.in_ok-expect.ensures.within
    (rows_behind i h c.in_ok-bases.ensures.read) c.from_residual-in_err-breaks.result
    c.in_err-breaks.field-0.0 c.from_residual-in_err-breaks.ensures.1
    (λ k. ends_behind i h c.args.text.now _ _ c.in_err-breaks.field-0.0 tt
    ((rw c.deref.ensures.value at c.in_err-breaks.ensures.stopped) k))

pub returns-in_err-expect-2-clause-refused : goal.returns-in_err-expect-2-clause-refused
returns-in_err-expect-2-clause-refused c =
    let i = c.args.instance.now in
    let h = header_text c.args.header in
    let s = sections (goal.at.returns-in_err-expect-2-clause-refused c).In_ok-breaks in
    bad_last (form_with h i) (header_line c.args.header) c.names_len-names.ensures.named.forms
    c.args.text.now _ refl refl c.in_ok-value.ensures.read
    (blocks_behind i h c.in_ok-blocks.ensures.read) c.in_ok-blocks.ensures.next
    (heads_behind i h c.in_ok-heads.ensures.read) c.in_ok-heads.ensures.next
    c.in_ok-expect.ensures.taken c.in_ok-expect.ensures.within
    (rows_behind i h c.in_ok-bases.ensures.read) s.0 s.1 c.from_residual-in_err-expect-2.result
    c.in_err-expect-2.field-0.0 c.from_residual-in_err-expect-2.ensures.1
    c.in_err-expect-2.ensures.stuck

pub returns-then-cursor-text-clause-refused : goal.returns-then-cursor-text-clause-refused
returns-then-cursor-text-clause-refused c =
    let i = c.args.instance.now in
    let h = header_text c.args.header in
    let s = sections (goal.at.returns-then-cursor-text-clause-refused c).In_ok-breaks in
    bad_behind (form_with h i) (header_line c.args.header) c.names_len-names.ensures.named.forms
    c.args.text.now _ refl refl c.in_ok-value.ensures.read
    (blocks_behind i h c.in_ok-blocks.ensures.read) c.in_ok-blocks.ensures.next
    (heads_behind i h c.in_ok-heads.ensures.read) c.in_ok-heads.ensures.next
    c.in_ok-expect.ensures.taken c.in_ok-expect.ensures.within
    (rows_behind i h c.in_ok-bases.ensures.read) s.0 s.1 c.in_ok-expect-2.ensures.taken
    c.in_ok-expect-2.ensures.within c.if-cursor-text.true

pub returns-clause-read : goal.returns-clause-read
returns-clause-read c =
    let i = c.args.instance.now in
    let h = header_text c.args.header in
    let s = sections (goal.at.returns-clause-read c).In_ok-breaks in
    let f : FitsSigned w128 c.in_ok-value.value = entry_fits c.in_ok-value.value
    c.in_ok-value.ensures.read.small in
    simp to_z-of_z
    (whole_text (form_with h i) (header_line c.args.header) c.names_len-names.ensures.named.forms
    c.args.text.now _ refl refl c.in_ok-value.ensures.read
    (blocks_behind i h c.in_ok-blocks.ensures.read) c.in_ok-blocks.ensures.next
    (heads_behind i h c.in_ok-heads.ensures.read) c.in_ok-heads.ensures.next
    c.in_ok-expect.ensures.taken c.in_ok-expect.ensures.within
    (rows_behind i h c.in_ok-bases.ensures.read) s.0 s.1 c.in_ok-expect-2.ensures.taken
    c.in_ok-expect-2.ensures.within c.if-cursor-text.false)
