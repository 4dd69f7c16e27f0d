-- the parts before and behind the slash are the texts of the two numbers
use Rattle.std.proofs.Common.{◌≡◌, ◌≢◌, ◌∷◌, ◌++◌, List, ℕ, ℤ, Option, Some, None, MatchOption, sym, ap, ◌∙◌, FitsSigned}
use Rattle.std.proofs.lemmas.Int.{to_z-of_z}
use mir.Syntax.{w128}
use Rattle.sfm_cert.proofs.AnswerLines.{entry_fits}
use Rattle.std.specs.List.{All}
use Rattle.std.specs.Fmt.{signed_decimal}
use Rattle.sfm_base.specs.declared.slope.Slope.{Slope}
use Rattle.sfm_spec.specs.Bounds.{IsEntry, IsFactor}
use Rattle.sfm_spec.specs.Slopes.{IsLowest}
use Rattle.sfm_cert.specs.Answer.{slope_text}
use Rattle.sfm_readback.proofs.Tokens.{no_slope, slope_parts, factor_entry, slope_cut, one_number}
use Rattle.sfm_readback.proofs.numbers.slope_of.Goals as goal

pub returns-in_err-front : goal.returns-in_err-front
returns-in_err-front c = rw c.from_residual.ensures
    (λ p q low entry factor e. no_slope c.args.bytes.now p q c.in_err-front.ensures e)

pub returns-in_err-p : goal.returns-in_err-p
returns-in_err-p c =
    let s = c.in_ok-front.ensures in
    rw c.from_residual-in_err-p.ensures
    (λ p q low entry factor e. c.in_err-p.ensures p entry
    (slope_parts c.args.bytes.now c.in_ok-front.front.now c.in_ok-front.back.now p q s.0 s.1
    entry e).0)

pub returns-in_err-q : goal.returns-in_err-q
returns-in_err-q c =
    let s = c.in_ok-front.ensures in
    rw c.from_residual-in_err-q.ensures
    (λ p q low entry factor e. c.in_err-q.ensures q (factor_entry q factor)
    (slope_parts c.args.bytes.now c.in_ok-front.front.now c.in_ok-front.back.now p q s.0 s.1
    entry e).1)

found : (bytes front back : List ℕ) (p q : ℤ) (r : Option Slope) → All (λ c. c ≢ 47) front
    → bytes ≡ front ++ (47 ∷ back) → IsEntry p → front ≡ signed_decimal p → IsEntry q
    → back ≡ signed_decimal q
    → MatchOption r (IsLowest p q → IsFactor q → ⊥) (λ s. (s.num ≡ p) × (s.den ≡ q))
    → MatchOption r ((p q : ℤ) → IsLowest p q → IsEntry p → IsFactor q → bytes ≡ slope_text p q → ⊥)
    (λ s. bytes ≡ slope_text s.num s.den)
found bytes front back p q None h e hp fp hq fq none = λ p' q' low entry factor g.
    let (a, b) = slope_parts bytes front back p' q' h e entry g in
    let sp : p' ≡ p = one_number p' p entry hp (sym a ∙ fp) in
    let sq : q' ≡ q = one_number q' q (factor_entry q' factor) hq (sym b ∙ fq) in
    none (rw (← sp, ← sq) low) (rw (← sq) factor)
found bytes front back p q (Some s) h e hp fp hq fq same =
    e ∙ ap (λ x. x ++ (47 ∷ back)) fp ∙ ap (λ x. signed_decimal p ++ (47 ∷ x)) fq
    ∙ sym (slope_cut p q) ∙ ap (λ x. slope_text x q) (sym same.0)
    ∙ ap (λ x. slope_text s.num x) (sym same.1)

pub returns : goal.returns
returns c =
    let s = c.in_ok-front.ensures in
    let hp = c.in_ok-p.ensures in
    let hq = c.in_ok-q.ensures in
    let p = c.in_ok-p.p in
    let q = c.in_ok-q.q in
    let f : FitsSigned w128 p = entry_fits p hp.0 in
    let g : FitsSigned w128 q = entry_fits q hq.0 in
    found c.args.bytes.now c.in_ok-front.front.now c.in_ok-front.back.now p q
    c.in_lowest_terms.result s.0 s.1 hp.0 hp.1 hq.0 hq.1
    (simp to_z-of_z at c.in_lowest_terms.ensures)
