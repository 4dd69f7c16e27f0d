use Rattle.std.proofs.Common.{codes, refl, sym, ◌∙◌}
use Rattle.std.proofs.lemmas.Bool.{false≢true}
use Rattle.std.proofs.lemmas.Slice.Eq.{bytes_eq-Decides}
use Rattle.sfm_lines.specs.Lines.{tokens_of}
use Rattle.sfm_passes.proofs.LongRanks.{uniform-number, uniform-cap, uniform-colon, uniform-elements, uniform-cut}
use Rattle.sfm_passes.proofs.long_rank.is_uniform_cut.Goals as goal

pub returns-then-is_separator : goal.returns-then-is_separator
returns-then-is_separator c = λ parts h. uniform-number c.args.number.now c.args.cap.now
    c.args.colon.now (tokens_of c.args.elements.now) parts h (c.if-is_separator.ensures.0 refl)

pub returns-then-is_separator-2 : goal.returns-then-is_separator-2
returns-then-is_separator-2 c = λ parts h. uniform-cap c.args.number.now c.args.cap.now
    c.args.colon.now (tokens_of c.args.elements.now) parts h (c.if-is_separator-2.ensures.0 refl)

pub returns-then-not-is_colon : goal.returns-then-not-is_colon
returns-then-not-is_colon c = λ parts h.
    false≢true (c.if-not-is_colon.ensures ∙ (bytes_eq-Decides c.args.colon.now (codes ":")).1
    (uniform-colon c.args.number.now c.args.cap.now c.args.colon.now (tokens_of c.args.elements.now)
    parts h))

pub returns-then-has_separator_in : goal.returns-then-has_separator_in
returns-then-has_separator_in c = λ parts h. uniform-elements c.args.number.now c.args.cap.now
    c.args.colon.now (tokens_of c.args.elements.now) parts h c.if-has_separator_in.ensures

pub returns : goal.returns
returns c =
    uniform-cut c.args.number.now c.args.cap.now c.args.colon.now (tokens_of c.args.elements.now)
    ((bytes_eq-Decides c.args.colon.now (codes ":")).0 (sym c.if-not-is_colon.ensures))
    (λ m. false≢true (c.if-is_separator.ensures.1 m))
    (λ m. false≢true (c.if-is_separator-2.ensures.1 m)) c.if-has_separator_in.ensures
