use Rattle.std.proofs.Common.{List, ℕ, Bor, refl}
use Rattle.sfm_lines.specs.Lines.{pieces_of, texts_of}
use Rattle.sfm_lines.specs.declared.labels.Labels.{Labels}
use Rattle.sfm_lines.proofs.Added.{map-one}
use Rattle.sfm_passes.proofs.SlotCuts.{entry-there}
use Rattle.sfm_passes.proofs.entry_line.add_entry.Goals as goal

pub unreachable-requires : goal.unreachable-requires
unreachable-requires c = let (entry, h) = c.requires in c.in_default.ensures entry.0 h.behind
    h.named

pub returns : goal.returns
returns c =
    let element = c.in-Some.element.now in
    let behind = c.in-Some.behind.now in (
      (element, pieces_of 44 behind),
      entry-there c.args.token.now element behind c.in-Some.ensures,
      map-one (λ (t : Bor (List ℕ)). t.now) _ _ c.in-Some.element _ c.in_ok-push.ensures.items refl,
      map-one (λ (t : Labels). texts_of t.texts.items) _ _ _ _ c.in_ok-push-2.ensures.items
          c.in_ok-texts.ensures,
    )
