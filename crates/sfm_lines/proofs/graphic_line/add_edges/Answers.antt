use Rattle.std.proofs.Common.{ℕ, List, Bor, [], ◌∷◌, ◌++◌, refl, ap}
use Rattle.sfm_lines.specs.Lines.{texts_of}
use Rattle.sfm_lines.specs.Parts.{IsLabelToken}
use Rattle.sfm_lines.specs.ReadParts.{parts_of}
use Rattle.sfm_lines.specs.declared.labels.Labels.{Labels}
use Rattle.sfm_lines.specs.declared.word.RankKind.TheVariants.{GraphicRank}
use Rattle.sfm_lines.proofs.Steps.{AllZip-here, AllZip-step, AllZip-end}
use Rattle.sfm_lines.proofs.Added.{map-one, no-labelled, one-labelled}
use Rattle.sfm_lines.proofs.graphic_line.add_edges.Goals as goal

pub loop-token-init : goal.loop-token-init
loop-token-init c = record {
  entries = [];
  each = tt;
  parts = no-labelled (parts_of c.args.parts.now);
}

pub returns-in_default : goal.returns-in_default
returns-in_default c = λ entries each.
    let (entry, is) = AllZip-here (IsLabelToken GraphicRank) (λ (t : Bor (List ℕ)). t.now)
    c.args.tokens.now entries c.loop-token.token-index _ each c.loop-token-test.true in
    c.in_default.ensures entry is

pub loop-token-preserved : goal.loop-token-preserved
loop-token-preserved c =
    let before = c.loop-token.invariant in
    let entry : List ℕ × List (List ℕ) = (
      c.in-Some.element.now,
      c.in-Some.tail.now ∷ c.in-Some.head.now ∷ [],
    ) in
    record {
      entries = before.entries ++ entry ∷ [];
      each = AllZip-step (IsLabelToken GraphicRank) (λ (t : Bor (List ℕ)). t.now) c.args.tokens.now
          before.entries c.loop-token.token-index _ entry c.loop-token-test.true before.each
          c.in-Some.ensures;
      parts = one-labelled (parts_of c.args.parts.now) (parts_of c.loop-token.parts) _
          before.entries entry before.parts
          (rw (
            map-one (λ (t : Bor (List ℕ)). t.now) c.loop-token.parts.elements.items
                c.push.new.self.items c.in-Some.element entry.0 c.in_ok-push.ensures.items refl,
            map-one (λ (t : Labels). texts_of t.texts.items) c.loop-token.parts.labels.items
                c.push-in-loop-token.new.self.items _ entry.1 c.in_ok-push-2.ensures.items
                (ap texts_of c.in_ok-texts.ensures.items),
          ) refl);
    }

pub returns : goal.returns
returns c =
    let now = c.loop-token.invariant in (
      now.entries,
      AllZip-end (IsLabelToken GraphicRank) (λ (t : Bor (List ℕ)). t.now)
          c.args.tokens.now now.entries c.loop-token.token-index c.loop-token-test.false now.each,
      now.parts,
    )
