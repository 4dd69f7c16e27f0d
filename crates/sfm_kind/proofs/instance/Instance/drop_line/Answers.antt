-- The bounds and the running totals hold without the terms of a line.
use Rattle.std.proofs.Common.{◌≡◌, ◌<◌, ◌++◌, length, take, drop, ap, ◌∙◌}
use Rattle.sfm_kind.specs.Instance.{support_of, width_of, terms_in}
use Rattle.sfm_kind.specs.Limits.{total_size_of}
use Rattle.sfm_kind.proofs.Removed.{cut_out}
use Rattle.sfm_kind.proofs.Lined.{line-within, kept-dropped}
use Rattle.sfm_kind.proofs.instance.Instance.drop_line.Goals as goal

pub take_out_all-requires-clause-within : goal.take_out_all-requires-clause-within
take_out_all-requires-clause-within c =
    let s = c.self.inside in
    let within : c.args.i < length s.lines.items = rw (← c.self.view_is) at c.requires in
    let line = line-within s.names s.terms.items s.lines.items s.support s.total c.self.invariant
    c.args.i c.remove-layers.result within c.remove-layers.ensures.value in
    let first : c.terms_before-first.result ≡ terms_in
    (take c.args.i s.lines.items) = c.terms_before-first.ensures
    ∙ ap (λ l. terms_in (take c.args.i l)) c.as_slice.ensures.value in
    rw (first, c.width.ensures) line.1

pub invariant_of-self : goal.invariant_of-self
invariant_of-self c =
    let s = c.self.inside in
    let within : c.args.i < length s.lines.items = rw (← c.self.view_is) at c.requires in
    let first : c.terms_before-first.result ≡ terms_in
    (take c.args.i s.lines.items) = c.terms_before-first.ensures
    ∙ ap (λ l. terms_in (take c.args.i l)) c.as_slice.ensures.value in
    let left : c.take_out_all.new.terms.items ≡ cut_out s.terms.items
    (terms_in (take c.args.i s.lines.items)) (width_of c.remove-layers.result) =
    rw (first, c.width.ensures) at c.take_out_all.ensures.terms in
    rw (left, c.remove-layers.ensures.items)
    (kept-dropped s.names s.terms.items s.lines.items s.support s.total c.self.invariant c.args.i
    c.remove-layers.result within c.remove-layers.ensures.value c.take_out_all.new.support
    c.take_out_all.new.total
    (c.take_out_all.ensures.supported ∙ ap support_of left)
    (c.take_out_all.ensures.totalled ∙ ap total_size_of left))

pub returns-clause-terms : goal.returns-clause-terms
returns-clause-terms c =
    let s = c.self.inside in
    let within : c.args.i < length s.lines.items = rw (← c.self.view_is) at c.requires in
    let line = line-within s.names s.terms.items s.lines.items s.support s.total c.self.invariant
    c.args.i c.remove-layers.result within c.remove-layers.ensures.value in
    let first : c.terms_before-first.result ≡ terms_in
    (take c.args.i s.lines.items) = c.terms_before-first.ensures
    ∙ ap (λ l. terms_in (take c.args.i l)) c.as_slice.ensures.value in
    let left : c.take_out_all.new.terms.items ≡ cut_out s.terms.items
    (terms_in (take c.args.i s.lines.items)) (width_of c.remove-layers.result) =
    rw (first, c.width.ensures) at c.take_out_all.ensures.terms in
    rw (← c.self.view_is)
    (left ∙ ap (λ n. take (terms_in (take c.args.i s.lines.items)) s.terms.items ++ drop n
    s.terms.items) line.0)
