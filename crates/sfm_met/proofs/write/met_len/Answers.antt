use Rattle.std.proofs.Common.{◌≡◌, ℕ, ◌-◌, ◌^◌, ◌≤◌, length, arith}
use Rattle.sfm_cert.specs.Answer.{text_of}
use Rattle.sfm_cert.specs.Grammar.{answer_limit}
use Rattle.sfm_cert.specs.Solved.{form_of}
use Rattle.sfm_meet.specs.Told.{met_of}
use Rattle.sfm_met.specs.MetText.{met_lines}
use Rattle.sfm_met.proofs.Short.{formed_short}
use Rattle.sfm_met.proofs.write.met_len.Goals as goal

used : (all left size result : ℕ) → all ≡ 2 ^ 64 - 1 → left ≡ all - size
    → result ≡ 2 ^ 64 - 1 - left → size ≤ 268435456 → result ≡ size
used all left size result whole rest taken short = omega (arith, whole, rest, taken, short)

pub returns : goal.returns
returns c =
    let left = c.args.left.now in
    let right = c.args.right.now in
    let m = c.args.met.now in
    let text = text_of (met_lines (form_of left) (form_of right) (met_of m)) in
    let short : length text ≤ answer_limit = formed_short left right (met_of m)
    c.names_len-names.ensures.named c.terms-left_terms.ensures.bounded (length right.names)
    c.terms-right_terms.ensures.bounded
    (c.lines-left_lines.ensures.lined, c.lines-right_lines.ensures.lined) c.requires in
    let rest : c.put_met.new.out ≡ c.new-gauge.result - length text = c.put_met.ensures in
    used c.new-gauge.result c.put_met.new.out (length text) c.used.result c.new-gauge.ensures rest
    c.used.ensures short
