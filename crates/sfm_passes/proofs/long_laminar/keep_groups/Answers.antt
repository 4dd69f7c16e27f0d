use Rattle.std.proofs.Common.{ℕ, List, Bor, length, sym, ◌∙◌}
use Rattle.std.proofs.lemmas.List.{length-map}
use Rattle.sfm_passes.specs.GroupPasses.{IsWhole, HasCap}
use Rattle.sfm_passes.proofs.PieceCuts.{left-none, left-first, left-smaller}
use Rattle.sfm_passes.proofs.GroupTerms.{nothing-kept, kept-more, kept-all, kept-sound, kept-below, kept-cross, left-holds}
use Rattle.sfm_passes.proofs.long_laminar.keep_groups.Goals as goal

pub loop-left-init : goal.loop-left-init
loop-left-init c = rw c.requires.none (nothing-kept _ _ _)

pub piece_group-requires-clause-whole : goal.piece_group-requires-clause-whole
piece_group-requires-clause-whole c =
    left-holds _ IsWhole _ _ _ _ c.loop-left.invariant _ _
    (left-first c.loop-left.left c.in-Some.line c.first_piece.result.0 c.first_piece.result.1
    c.in-Some.is c.first_piece.ensures.pieces) c.requires.whole

pub piece_group-requires-clause-cap : goal.piece_group-requires-clause-cap
piece_group-requires-clause-cap c = left-holds _ (HasCap c.args.instance.now.version) _ _ _ _
    c.loop-left.invariant _ _ (left-first c.loop-left.left c.in-Some.line c.first_piece.result.0
    c.first_piece.result.1 c.in-Some.is c.first_piece.ensures.pieces) c.requires.caps

pub has_early_crossing-requires-clause-sound : goal.has_early_crossing-requires-clause-sound
has_early_crossing-requires-clause-sound c =
    rw (c.deref.ensures.value) (kept-sound _ _ _ _ _
    (kept-more _ _ _ _ _ c.loop-left.invariant _ _ c.in_ok-group.group _
    (left-first c.loop-left.left c.in-Some.line c.first_piece.result.0 c.first_piece.result.1
    c.in-Some.is c.first_piece.ensures.pieces) c.in_ok-group.ensures c.in_ok-keep.ensures))

pub has_early_crossing-requires-clause-below : goal.has_early_crossing-requires-clause-below
has_early_crossing-requires-clause-below c =
    rw (c.deref.ensures.value) (kept-below _ _ _ _ _
    (kept-more _ _ _ _ _ c.loop-left.invariant _ _ c.in_ok-group.group _
    (left-first c.loop-left.left c.in-Some.line c.first_piece.result.0 c.first_piece.result.1
    c.in-Some.is c.first_piece.ensures.pieces) c.in_ok-group.ensures c.in_ok-keep.ensures)
    (length c.args.places.now) (c.requires.named
    ∙ sym (length-map c.args.elements.now (λ (t : Bor (List ℕ)). t.now))))

pub returns-then-crosses : goal.returns-then-crosses
returns-then-crosses c = kept-cross _ _ _ _ _
    (kept-more _ _ _ _ _ c.loop-left.invariant _ _ c.in_ok-group.group _
    (left-first c.loop-left.left c.in-Some.line c.first_piece.result.0 c.first_piece.result.1
    c.in-Some.is c.first_piece.ensures.pieces) c.in_ok-group.ensures c.in_ok-keep.ensures)
    c.requires.whole c.requires.caps
    (rw c.deref.ensures.value at c.in_ok-crosses.ensures c.if-crosses.true)

pub loop-left-preserved : goal.loop-left-preserved
loop-left-preserved c = kept-more _ _ _ _ _ c.loop-left.invariant _ _ c.in_ok-group.group _
    (left-first c.loop-left.left c.in-Some.line c.first_piece.result.0 c.first_piece.result.1
    c.in-Some.is c.first_piece.ensures.pieces) c.in_ok-group.ensures c.in_ok-keep.ensures

pub loop-left-smaller : goal.loop-left-smaller
loop-left-smaller c = left-smaller c.loop-left.left c.first_piece.result.1 c.in-Some.line
    c.in-Some.is c.first_piece.ensures.shorter

pub returns : goal.returns
returns c = kept-all _ _ _ _ _ c.loop-left.invariant (left-none c.loop-left.left c.in_default.is)
