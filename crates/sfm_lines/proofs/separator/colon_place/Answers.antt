use Rattle.std.proofs.Common.{◌≢◌, codes, sym, ◌∙◌}
use Rattle.std.proofs.lemmas.Slice.Eq.{bytes_eq-Decides}
use Rattle.sfm_lines.proofs.Colons.{first-here}
use Rattle.sfm_lines.proofs.Repeats.{All-texts-end}
use Rattle.sfm_lines.proofs.separator.colon_place.Goals as goal

pub returns-then-eq-clause-first : goal.returns-then-eq-clause-first
returns-then-eq-clause-first c = first-here c.args.tokens.now c.loop-i.i _ c.loop-i-test.true
    ((bytes_eq-Decides _ _).0 (sym c.if-eq.ensures) ∙ c.as_slice.ensures) c.loop-i.invariant

pub returns-clause-first : goal.returns-clause-first
returns-clause-first c = All-texts-end (λ text. text ≢ codes ":") c.args.tokens.now c.loop-i.i
    c.loop-i-test.false c.loop-i.invariant
