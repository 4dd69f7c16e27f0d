use Rattle.std.proofs.Common.{◌≡◌, codes, sym, ◌∙◌}
use Rattle.std.proofs.lemmas.Bool.{false≢true}
use Rattle.std.proofs.lemmas.Slice.Eq.{bytes_eq-Decides}
use Rattle.sfm_lines.specs.Lines.{tokens_of}
use Rattle.sfm_passes.proofs.LongLaminar.{laminar-colon, laminar-short}
use Rattle.sfm_passes.proofs.long_laminar.laminar_line_term.Goals as goal

pub returns-in_default : goal.returns-in_default
returns-in_default c = rw c.in_default.ensures.cut
    (laminar-short c.args.instance.now c.args.number.now)

pub returns-then-not-is_colon : goal.returns-then-not-is_colon
returns-then-not-is_colon c =
    let colon = c.in-Some.colon.now in
    rw c.in-Some.ensures.cut (laminar-colon c.args.instance.now c.args.number.now colon
    (tokens_of c.in-Some.behind.now)
    (λ s. false≢true (c.if-not-is_colon.ensures ∙ (bytes_eq-Decides colon (codes ":")).1 s)))

pub returns : goal.returns
returns c =
    let colon : c.in-Some.colon.now ≡ codes
    ":" = (bytes_eq-Decides c.in-Some.colon.now (codes ":")).0
    (sym c.if-not-is_colon.ensures) in
    rw (c.in-Some.ensures.cut, colon)
    (c.groups_term.ensures (tokens_of c.in-Some.behind.now) c.first_piece.ensures.pieces)
