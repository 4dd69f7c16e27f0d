use Rattle.std.proofs.Common.{◌≡◌, ◌≤◌, [], ◌++◌, ℕ, ℤ, List, take, subst, ap, ◌∙◌, arith}
use Rattle.std.proofs.lemmas.List.{take_all}
use Rattle.sfm_spec.specs.Bounds.{IsEntry, IsFactor}
use Rattle.sfm_cert.specs.Answer.{at_line}
use Rattle.sfm_cert.proofs.Lengths.{at_line_short, factor_entry}
use Rattle.sfm_readback.specs.Reading.{EndsStuck}
use Rattle.sfm_readback.proofs.Ends.{passed_on}
use Rattle.sfm_readback.proofs.steps.read_at.Goals.{After-bytes}
use Rattle.sfm_readback.proofs.steps.read_at.Goals as goal

-- a page with room for it holds the line, and nothing else
page_at : (bytes : List ℕ) (room : ℕ) (num den : ℤ) → IsEntry num → IsFactor den → bytes ≡ []
    → 68 ≤ room → bytes ++ take room (at_line num den) ≡ at_line num den
page_at bytes room num den entry factor none l =
    let short = at_line_short num den entry (factor_entry den factor) in
    ap (λ b. b ++ take room (at_line num den)) none
    ∙ take_all room (at_line num den) (omega (arith, short, l))

-- the page that is filled holds the line
due : (c : After-bytes) → c.bytes.result.now ≡ at_line c.args.slope.now.num c.args.slope.now.den
due c =
    let s = c.args.slope.now in
    let page = c.reserve.new.self in
    c.bytes.ensures ∙ ap (λ p. p.bytes) c.put_at.ensures
    ∙ page_at page.bytes page.spare s.num s.den s.entry s.factor
    (c.in_ok-reserve.ensures.bytes ∙ ap (λ p. p.bytes) c.new-due.ensures)
    c.in_ok-reserve.ensures.room

pub returns-in_err-expect-clause-stuck : goal.returns-in_err-expect-clause-stuck
returns-in_err-expect-clause-stuck c =
    let s = c.args.slope.now in
    passed_on c.from_residual-in_err-expect.result c.in_err-expect.field-0.0
    (EndsStuck c.args.text.now c.args.cursor.now (λ line. line ≡ at_line s.num s.den))
    c.from_residual-in_err-expect.ensures.1
    (subst (λ (d : List ℕ). EndsStuck c.args.text.now c.args.cursor.now (λ line. line ≡ d)
    c.in_err-expect.field-0.0) (due (goal.at.returns-in_err-expect-clause-stuck c).After-bytes)
    c.in_err-expect.ensures.stuck)

pub returns-clause-read : goal.returns-clause-read
returns-clause-read c = record {
  line = c.bytes.result.now;
  takes = c.in_ok-expect.ensures.taken;
  within = c.in_ok-expect.ensures.within;
  good = due (goal.at.returns-clause-read c).After-bytes;
}
