use Rattle.std.proofs.Common.{[], refl, arith}
use Rattle.std.proofs.lemmas.List.{ext_get_or}
use Rattle.sfm_pair.proofs.clash.have_same_names.Goals as goal

pub returns : goal.returns
returns c =
    let same = ext_get_or [] c.args.left.now.names c.args.right.now.names
    (omega (arith, c.names_len-n.ensures.len, c.names_len.ensures.len, c.if-names_len-n.false))
    (λ k l. c.loop-e.invariant k
    (omega (arith, l, c.loop-e-test.false, c.names_len-n.ensures.len))) in
    (λ t. same, λ s. refl)
