use Rattle.std.proofs.Common.{◌≡◌, ℕ, ◌-◌, ◌*◌, ◌/◌, ◌%◌, ◌^◌, replicate, set, sym, ap, ◌∙◌, subst, arith, rules, ◌<◌}
use Rattle.sfm_base.proofs.Filling.{HaveAll, all_ones, full_words, cut_words, all_words, all_set, one_shifted}
use Rattle.sfm_base.proofs.set.Set.whole.Goals.{then-n-ne0, else-n-ne0}
use Rattle.sfm_base.proofs.set.Set.whole.Goals as goal

-- the words have all places, by whether the last is cut
all : (c : goal.Joined-n-ne0) → HaveAll c.args.n c.if-n-ne0.words.items
all c =
    let n = c.args.n in
    let k = c.div_ceil.result in
    let w : ℕ = 1 * 2 ^ (n % 64) % 2 ^ 64 - 1 in
    let items : c.in_ok-words.words.items ≡ replicate k
    all_ones = c.in_ok-words.ensures.items_if_clones_equal (λ y e. e) in
    elim c.if-n-ne0.branch [
      | then-n-ne0 t ↦ subst (λ words. HaveAll n words)
          (sym (ap (λ v. v.items) t.words-is ∙ ap (λ words. set words (n / 64) w) items))
          (cut_words n k w c.div_ceil.ensures t.if-n-ne0.true
          (ap (λ p. p - 1) (one_shifted (n % 64) (omega arith))))
      | else-n-ne0 t ↦ subst (λ words. HaveAll n words) (sym (ap (λ v. v.items) t.words-is ∙ items))
          (full_words n k c.div_ceil.ensures t.if-n-ne0.false)
    ]

pub invariant_of-result : goal.invariant_of-result
invariant_of-result c = let fits : c.args.n < 2 ^ 64 = search rules in all_words c.args.n
    c.if-n-ne0.words.items fits (all c)

pub returns : goal.returns
returns c = all_set c.args.n c.if-n-ne0.words.items (all c)
