use Rattle.std.proofs.Common.{not, sym, ap, ◌∙◌}
use Rattle.std.proofs.lemmas.List.{length-map}
use Rattle.sfm_spec.specs.Sets.{whole_set, intersection, complement}
use Rattle.sfm_base.proofs.Members.{whole_with}
use Rattle.sfm_base.proofs.set.Set.complement.Goals as goal

pub returns : goal.returns
returns c =
    let s = c.args.self.now in
    c.remove_all.ensures ∙ (ap (λ w. intersection w (complement s))
    (c.in_ok-rest.ensures ∙ ap whole_set (c.len.ensures ∙ sym (length-map s not)))
    ∙ whole_with (complement s))
