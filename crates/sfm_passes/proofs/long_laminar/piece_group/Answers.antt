use Rattle.std.proofs.Common.{◌≡◌, to_z, of_z, ap, ◌∙◌, List, ℕ, Bor}
use Rattle.std.specs.Int.{w128}
use Rattle.sfm_spec.specs.Kinds.{Group}
use Rattle.sfm_lines.specs.Lines.{texts_of, tokens_of}
use Rattle.sfm_lines.specs.RankLines.{members_of}
use Rattle.sfm_lines.specs.declared.word.TermWord.TheVariants.{RankWord}
use Rattle.sfm_lines.proofs.Numbers.{kept-number}
use Rattle.sfm_passes.proofs.PieceGroups.{whole-none}
use Rattle.sfm_passes.proofs.GroupTerms.{group-made}
use Rattle.sfm_passes.proofs.long_laminar.piece_group.Goals as goal

pub unreachable-requires : goal.unreachable-requires
unreachable-requires c = whole-none (tokens_of c.args.piece.now) c.in_default.ensures.cut
    c.requires.whole

pub known_number-value-requires : goal.known_number-value-requires
known_number-value-requires c = c.requires.cap c.in-Some.cap.now (tokens_of c.in-Some.names.now)
    c.in-Some.ensures.cut

pub returns : goal.returns
returns c =
    let value = c.known_number-value.result in
    let elements = texts_of c.args.elements.now in
    let number = c.known_number-value.ensures in
    let fits : to_z w128 (of_z w128 value) ≡ value = kept-number c.args.instance.now.version
    RankWord c.in-Some.cap.now value number in
    let cap : c.new.result.cap ≡ value = ap (λ (g : Group). g.cap) c.new.ensures ∙ fits in
    let texts : texts_of c.deref.result.now ≡ tokens_of
    c.in-Some.names.now = ap (λ (l : List (Bor (List ℕ))). texts_of l) c.deref.ensures.value
    ∙ c.in_ok-names.ensures in
    let members : c.new.result.members ≡ members_of elements
    (tokens_of c.in-Some.names.now) = ap (λ (g : Group). g.members) c.new.ensures
    ∙ (c.in_ok-members.ensures.members ∙ ap (λ (l : List (List ℕ)). members_of elements l)
    texts) in
    group-made c.args.instance.now.version elements (tokens_of c.args.piece.now) c.in-Some.cap.now
    (tokens_of c.in-Some.names.now) c.new.result c.requires.whole c.in-Some.ensures.cut
    (rw cap number) members
