use Rattle.std.proofs.Common.{◌∷◌, [], ◌++◌, List, ℕ, Bor, refl}
use Rattle.sfm_lines.specs.Lines.{texts_of}
use Rattle.sfm_lines.specs.CutParts.{IsGroupCut}
use Rattle.sfm_lines.specs.ReadParts.{parts_of}
use Rattle.sfm_lines.proofs.Steps.{AllZip-step, AllZip-end, AllZip-here}
use Rattle.sfm_lines.proofs.Added.{map-one, no-groups, one-group}
use Rattle.sfm_lines.proofs.laminar_line.add_groups.Goals as goal

pub loop-piece-init : goal.loop-piece-init
loop-piece-init c = record { cut = []; each = tt; parts = no-groups (parts_of c.args.parts.now) }

pub returns-in_default : goal.returns-in_default
returns-in_default c = λ groups each.
    let (group, is) = AllZip-here IsGroupCut (λ (t : Bor (List (Bor (List ℕ)))). texts_of t.now)
    c.args.pieces.now groups c.loop-piece.piece-index _ each c.loop-piece-test.true in
    c.in_default.ensures group is

pub loop-piece-preserved : goal.loop-piece-preserved
loop-piece-preserved c =
    let before = c.loop-piece.invariant in
    let group : List ℕ × List (List ℕ) = (c.in-Some.cap.now, texts_of c.in-Some.names.now) in
    record {
      cut = before.cut ++ group ∷ [];
      each = AllZip-step IsGroupCut (λ (t : Bor (List (Bor (List ℕ)))). texts_of t.now)
          c.args.pieces.now before.cut c.loop-piece.piece-index _ group c.loop-piece-test.true
          before.each c.in-Some.ensures;
      parts = one-group (parts_of c.args.parts.now) (parts_of c.loop-piece.parts) _ before.cut group
          before.parts
          (rw (
            map-one (λ (t : Bor (List ℕ)). t.now) c.loop-piece.parts.numbers.items
                c.push.new.self.items c.in-Some.cap group.0 c.in_ok-push.ensures.items refl,
            map-one (λ (t : Bor (List (Bor (List ℕ)))). texts_of t.now)
                c.loop-piece.parts.groups.items c.push-in-loop-piece.new.self.items c.in-Some.names
                group.1 c.in_ok-push-2.ensures.items refl,
          ) refl);
    }

pub returns : goal.returns
returns c =
    let now = c.loop-piece.invariant in (
      now.cut,
      AllZip-end IsGroupCut (λ (t : Bor (List (Bor (List ℕ)))). texts_of t.now)
          c.args.pieces.now now.cut c.loop-piece.piece-index c.loop-piece-test.false now.each,
      now.parts,
    )
