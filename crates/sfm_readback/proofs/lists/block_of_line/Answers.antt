use Rattle.std.proofs.Common.{◌≡◌, ◌∷◌, List, ℕ, Bool, sym, subst, ◌∙◌}
use Rattle.std.proofs.lemmas.Bool.{false≢true}
use Rattle.sfm_spec.specs.Sets.{Has}
use Rattle.sfm_cert.specs.LineLists.{counted}
use Rattle.sfm_readback.specs.Lists.{AreNeeds}
use Rattle.sfm_readback.proofs.LineForms.{block_count, block_from, block_parts}
use Rattle.sfm_readback.proofs.lists.block_of_line.Goals as goal

same_list : {x y : List ℕ} → 32 ∷ (58 ∷ x) ≡ 32 ∷ (58 ∷ y) → x ≡ y
same_list e = cc

pub returns-in_default-behind : goal.returns-in_default-behind
returns-in_default-behind c = λ block h.
    let p = block_parts c.args.instance.now.names c.args.before c.args.line.now c.in-Some.bytes.now
    c.in_ok-members.members c.in_ok-members.rest.now block c.in-Some.ensures
    c.in_ok-members.ensures h in
    c.in_default-behind.ensures (counted block.needs) (sym p.1)

pub returns-then-not-has_some : goal.returns-then-not-has_some
returns-then-not-has_some c = λ block h.
    let p = block_parts c.args.instance.now.names c.args.before c.args.line.now c.in-Some.bytes.now
    c.in_ok-members.members c.in_ok-members.rest.now block c.in-Some.ensures
    c.in_ok-members.ensures h in
    false≢true (sym c.if-not-has_some.true
    ∙ c.has_some.ensures.1 (
      h.0.members.some.0,
      subst (λ (x : List Bool). Has x h.0.members.some.0) p.0 h.0.members.some.1,
    ))

pub returns-in_default-2 : goal.returns-in_default-2
returns-in_default-2 c = λ block h.
    let p = block_parts c.args.instance.now.names c.args.before c.args.line.now c.in-Some.bytes.now
    c.in_ok-members.members c.in_ok-members.rest.now block c.in-Some.ensures
    c.in_ok-members.ensures h in
    let none = rw c.in_default-2.is at c.in_ok-needs.ensures in
    none block.needs (record { ascending = h.0.ascending; within = h.0.before })
    (sym (same_list (p.1 ∙ c.in-Some-behind.ensures)))

pub returns-in_default : goal.returns-in_default
returns-in_default c = λ block h. c.in_default.ensures _
    (block_count c.args.instance.now.names c.args.before c.args.line.now block h)

pub returns : goal.returns
returns c =
    let needs : AreNeeds c.args.before c.in-Some-2.needs.items
    × (c.in-Some-behind.list.now ≡ counted c.in-Some-2.needs.items) =
    rw c.in-Some-2.is at c.in_ok-needs.ensures in
    block_from c.args.instance.now.names c.args.before c.args.line.now c.in-Some.bytes.now
    c.in_ok-members.members c.in_ok-members.rest.now c.in-Some-behind.list.now
    c.in-Some-2.needs.items
    c.in-Some.ensures c.in_ok-members.ensures c.in-Some-behind.ensures
    (c.has_some.ensures.0 c.if-not-has_some.false) needs.0 needs.1
