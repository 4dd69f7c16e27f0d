use Rattle.std.proofs.Common.{◌≡◌, ℕ, ◌-◌, ◌^◌, ◌≤◌, length, arith}
use Rattle.sfm_cert.specs.Header.{header_text}
use Rattle.sfm_cert.specs.LineLists.{answer_text}
use Rattle.sfm_cert.specs.Solved.{answer_of, form_with}
use Rattle.sfm_cert.proofs.InstanceLengths.{instance_text_short}
use Rattle.sfm_cert.proofs.write.len_with.Goals as goal

used : (all left size result : ℕ) → all ≡ 2 ^ 64 - 1 → left ≡ all - size
    → result ≡ 2 ^ 64 - 1 - left → size ≤ 268435456 → result ≡ size
used all left size result whole rest taken short = omega (arith, whole, rest, taken, short)

pub returns : goal.returns
returns c =
    let instance = c.args.instance.now in
    let s = c.args.solved.now in
    let text = answer_text (form_with (header_text c.args.header) instance) (answer_of s) in
    let short : length text ≤ 268435456 = instance_text_short c.args.header instance (answer_of s)
    c.names_len.ensures.named c.terms.ensures.bounded c.lines.ensures.lined c.requires.formed
    c.requires.few in
    let left : c.put_text.new.out ≡ c.new-gauge.result - length text = c.put_text.ensures in
    used c.new-gauge.result c.put_text.new.out (length text) c.used.result c.new-gauge.ensures left
    c.used.ensures short
