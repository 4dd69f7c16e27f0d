-- The groups that are kept are those of all pieces.
use Rattle.std.proofs.Common.{◌≡◌, List, ℕ, Bor, length, to_z, of_z, sym, ◌∙◌, arith}
use Rattle.std.specs.Int.{w128}
use Rattle.std.proofs.lemmas.Int.{ints}
use Rattle.std.proofs.lemmas.List.{length-map}
use Rattle.std.proofs.lemmas.Result.{IfOk-weaker}
use Rattle.sfm_lines.specs.Lines.{texts_of}
use Rattle.sfm_passes.specs.GroupPasses.{pieces_left}
use Rattle.sfm_passes.proofs.GroupTerms.{told-sound, told-below, pieces-told}
use Rattle.sfm_passes.proofs.long_laminar.pieces_term.Goals as goal

pub returns-then-branch : goal.returns-then-branch
returns-then-branch c = rw c.if-branch.true at c.in_ok-keep_groups.ensures

pub with_kept-requires-clause-sound : goal.with_kept-requires-clause-sound
with_kept-requires-clause-sound c =
    let (all, each, kept) = rw c.if-branch.false at c.in_ok-keep_groups.ensures in
    told-sound _ _ _ all c.deref.result.now each (c.deref.ensures.value ∙ kept)

pub with_kept-requires-clause-below : goal.with_kept-requires-clause-below
with_kept-requires-clause-below c =
    let (all, each, kept) = rw c.if-branch.false at c.in_ok-keep_groups.ensures in
    told-below _ _ _ all c.deref.result.now each (c.deref.ensures.value ∙ kept)
    (length c.args.places.now) (c.requires.named
    ∙ sym (length-map c.args.elements.now (λ (t : Bor (List ℕ)). t.now)))

pub returns : goal.returns
returns c =
    let (all, each, kept) = rw c.if-branch.false at c.in_ok-keep_groups.ensures in
    let fits : to_z w128 (of_z w128 c.args.w) ≡ c.args.w = omega (
      arith,
      ints,
      c.requires.given.low,
      c.requires.given.high,
    ) in
    IfOk-weaker c.with_kept.result _ _
    (λ r h. pieces-told c.args.instance.now.version (texts_of c.args.elements.now)
    (pieces_left c.args.groups) all c.deref.result.now c.args.places.now
    (to_z w128 (of_z w128 c.args.w)) c.args.w each (c.deref.ensures.value ∙ kept) fits r h)
    c.with_kept.ensures
