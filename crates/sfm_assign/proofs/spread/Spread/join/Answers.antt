use Rattle.std.proofs.Common.{◌≡◌, refl, ap, sym, ◌∙◌}
use Rattle.sfm_spec.specs.Sets.{empty_set, union}
use Rattle.sfm_assign.specs.declared.spread.Answer.TheVariants.{Full}
use Rattle.sfm_assign.proofs.Spreads.{union-nothing}
use Rattle.sfm_assign.proofs.spread.Spread.join.Goals as goal

pub returns-then-contains-clause-found : goal.returns-then-contains-clause-found
returns-then-contains-clause-found c =
    let s = c.args.set.now in
    let all : c.union_with.new.self ≡ s = c.union_with.ensures
    ∙ (ap (λ t. union t s) (c.in_ok-same.ensures ∙ ap empty_set c.len.ensures)
    ∙ union-nothing s) in
    (refl, sym c.contains.ensures ∙ c.if-contains.true, ap (λ t. Full t) all)
