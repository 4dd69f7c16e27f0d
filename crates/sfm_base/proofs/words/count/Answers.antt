use Rattle.std.proofs.Common.{◌≡◌, ◌+◌, ◌*◌, ◌<◌, ◌^◌, length, get_or, sym, ap, ◌∙◌, rules, arith}
use Rattle.std.specs.Int.RustNames.{count_ones}
use Rattle.sfm_spec.specs.Sets.{size}
use Rattle.sfm_base.specs.Words.{members}
use Rattle.sfm_base.proofs.Counting.{members_none, members_more, members_le}
use Rattle.sfm_base.proofs.words.count.Goals as goal

pub loop-word-init : goal.loop-word-init
loop-word-init c = members_none c.args.words.now

pub overflow_add-total : goal.overflow_add-total
overflow_add-total c =
    let words = c.args.words.now in
    let i = c.loop-word.word-index in
    let fits : get_or words i 0 < 2 ^ 64 = search rules in
    let more = members_more words i fits in
    let le = members_le words (64 * (i + 1)) (64 * length words)
    (omega (arith, c.loop-word-test.true)) in
    let before : c.loop-word.total ≡ size (members (64 * i) words) = c.loop-word.invariant in
    omega (arith, more, le, before, c.requires)

pub loop-word-preserved : goal.loop-word-preserved
loop-word-preserved c =
    let words = c.args.words.now in
    let i = c.loop-word.word-index in
    let fits : get_or words i 0 < 2 ^ 64 = search rules in
    ap (λ t. t + count_ones (get_or words i 0)) c.loop-word.invariant
    ∙ sym (members_more words i fits)

pub returns : goal.returns
returns c =
    let all : c.loop-word.word-index ≡ length
    c.args.words.now = omega (arith, c.loop-word.auto.word-index-end, c.loop-word-test.false) in
    c.loop-word.invariant ∙ ap (λ k. size (members (64 * k) c.args.words.now)) all
