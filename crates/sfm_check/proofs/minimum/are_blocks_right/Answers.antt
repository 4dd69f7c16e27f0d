use Rattle.std.proofs.Common.{◌≡◌, [], length, map, pos, sym, ap, ◌∙◌, arith, subst}
use Rattle.std.proofs.lemmas.Bool.{eqb-true}
use Rattle.std.proofs.lemmas.List.{length-map, nil_from_length}
use Rattle.sfm_spec.specs.Blocks.{AreBlocks}
use Rattle.sfm_spec.specs.Families.{Prove, even_shift, meanings}
use Rattle.sfm_kind.specs.Kinds.{kind_places, kind_value}
use Rattle.sfm_extreme.specs.Blocks.{block_of}
use Rattle.sfm_check.proofs.AtZero.{no_blocks}
use Rattle.sfm_check.proofs.minimum.are_blocks_right.Goals as goal

pub returns-then-are_same : goal.returns-then-are_same
returns-then-are_same c = λ none.
    let ms = meanings kind_places kind_value c.args.instance.now.terms in
    let n = length c.args.instance.now.names in
    let items = c.args.solved.now.blocks.items in
    let same = c.are_same.ensures.0 c.if-are_same.true in
    let none_left = eqb-true _ _ (sym c.is_empty.ensures ∙ none) in
    let count = c.args.solved.now.blocks.ok.0 in
    let empty : items ≡ [] = nil_from_length items (omega (arith, none_left, count)) in
    subst (AreBlocks ms n (pos 1) (even_shift n (pos 0))) (sym (ap (map block_of) empty))
    (no_blocks ms n (pos 1) (even_shift n (pos 0)) c.args.solved.now.least
    c.args.solved.now.greatest c.requires.least c.requires.greatest same)

pub blocks-requires-clause-bases : goal.blocks-requires-clause-bases
blocks-requires-clause-bases c = rw c.terms.ensures.terms c.requires.bases

pub blocks-requires-clause-prove : goal.blocks-requires-clause-prove
blocks-requires-clause-prove c =
    let p : Prove (meanings kind_places kind_value c.args.instance.now.terms)
    (length c.args.instance.now.names) (pos 1)
    (even_shift (length c.args.instance.now.names) (pos 0)) c.args.solved.now.bases =
    c.requires.prove in
    rw (c.terms.ensures.terms, c.names_len.ensures.len) p

pub first_unlike-unlike-requires : goal.first_unlike-unlike-requires
first_unlike-unlike-requires c = λ i lg ld.
    let ms = meanings kind_places kind_value c.args.instance.now.terms in
    let n = length c.args.instance.now.names in
    let given = c.deref.ensures.value in
    let due = c.deref-2.ensures.value in
    let one = ap length given in
    let two = ap length due in
    let are : AreBlocks ms n (pos 1) (even_shift n (pos 0))
    (map block_of c.in_ok-due.due.items) =
    rw (c.terms.ensures.terms, c.names_len.ensures.len) at c.in_ok-due.ensures.exact in
    let g = (c.requires.formed.blocks i
    (omega (
      arith,
      lg,
      one,
      length-map c.args.solved.now.blocks.items
          block_of,
    ))).members.places in
    let d = are.places i (omega (arith, ld, two, length-map c.in_ok-due.due.items block_of)) in
    rw (given, due) (g ∙ sym d)
