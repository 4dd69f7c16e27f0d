use Rattle.std.proofs.Common.{◌≡◌, ℕ, ◌-◌, ◌^◌, ◌≤◌, length, arith}
use Rattle.sfm_cert.specs.Answer.{text_of}
use Rattle.sfm_cert.specs.Solved.{form_of}
use Rattle.sfm_cert.proofs.InstanceLengths.{few_lines_of, few_widths}
use Rattle.sfm_level.specs.Told.{level_lines, level_of}
use Rattle.sfm_level.proofs.Forms.{level_short}
use Rattle.sfm_level.proofs.text.level_len.Goals as goal

used : (all left size result : ℕ) → all ≡ 2 ^ 64 - 1 → left ≡ all - size
    → result ≡ 2 ^ 64 - 1 - left → size ≤ 1000000 → result ≡ size
used all left size result whole rest taken short = omega (arith, whole, rest, taken, short)

pub returns : goal.returns
returns c =
    let instance = c.args.instance.now in
    let form = form_of instance in
    let a = level_of c.args.level.now in
    let text = text_of (level_lines form a) in
    let short : length text ≤ 1000000
    = level_short form a c.requires c.names_len.ensures.named.few
    (few_lines_of (length instance.names) instance c.terms.ensures.bounded c.lines.ensures.lined)
    (few_widths (length instance.names) instance.terms c.terms.ensures.bounded) in
    let left : c.put_level.new.out ≡ c.new-gauge.result - length text = c.put_level.ensures in
    used c.new-gauge.result c.put_level.new.out (length text) c.used.result c.new-gauge.ensures left
    c.used.ensures short
