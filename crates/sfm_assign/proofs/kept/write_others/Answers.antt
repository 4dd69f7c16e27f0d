use Rattle.std.proofs.Common.{◌≡◌, false, set, ap, ◌∙◌}
use Rattle.sfm_spec.specs.Sets.{empty_set, union}
use Rattle.sfm_assign.proofs.Spreads.{union-nothing}
use Rattle.sfm_assign.proofs.kept.write_others.Goals as goal

pub remove-requires : goal.remove-requires
remove-requires c =
    let s = c.args.set.now in
    let all : c.union_with.new.self ≡ s = c.union_with.ensures
    ∙ (ap (λ t. union t s) (c.clear.ensures ∙ ap empty_set c.requires.same)
    ∙ union-nothing s) in
    rw all c.requires.place

pub returns : goal.returns
returns c =
    let s = c.args.set.now in
    let all : c.union_with.new.self ≡ s = c.union_with.ensures
    ∙ (ap (λ t. union t s) (c.clear.ensures ∙ ap empty_set c.requires.same)
    ∙ union-nothing s) in
    c.remove.ensures ∙ ap (λ t. set t c.args.u false) all
