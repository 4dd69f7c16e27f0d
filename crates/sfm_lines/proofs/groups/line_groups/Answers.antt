use Rattle.std.proofs.Common.{◌+◌, ◌<◌, length, Bor, List, [], ℕ, sym, ap, ◌∙◌, arith}
use Rattle.std.proofs.lemmas.List.{get_or-map, length-map}
use Rattle.sfm_lines.specs.Lines.{texts_of}
use Rattle.sfm_spec.specs.Kinds.{Group}
use Rattle.sfm_lines.specs.RankLines.{members_of}
use Rattle.sfm_lines.specs.LeastGroups.{with_group}
use Rattle.sfm_lines.specs.ReadParts.{parts_of}
use Rattle.sfm_lines.proofs.Members.{group-in}
use Rattle.sfm_lines.proofs.ReadLines.{kept-at}
use Rattle.sfm_lines.proofs.groups.line_groups.Goals as goal

pub loop-i-preserved : goal.loop-i-preserved
loop-i-preserved c =
    let parts = c.args.parts.now in
    let i = c.loop-i.i in
    let texts : Bor (List (Bor (List ℕ))) → List (List ℕ) = λ t. texts_of t.now in
    let within : i < length parts.groups.items = omega (
      arith,
      c.loop-i-test.true,
      c.len-i-end.ensures,
    ) in
    let names = get_or-map texts parts.groups.items i _ [] within in
    group-in c.args.values.now (parts_of parts) i c.loop-i.groups.items c.keep.new.groups.items _ _
    c.loop-i.invariant
    (kept-at c.args.values.now (i + 1)
    (omega (arith, c.requires.each, within, length-map parts.groups.items texts))
    c.requires.small)
    (rw (c.deref.ensures.value) at c.in_ok-members.ensures.members
    ∙ ap (λ (l : List (List ℕ)). members_of (texts_of parts.elements.items) l)
    (ap texts c.index.ensures ∙ sym names))
    (c.in_ok-keep.ensures ∙ ap (λ (g : Group). with_group c.loop-i.groups.items g) c.new.ensures)
