use Rattle.std.proofs.Common.{◌≡◌, ◌+◌, ◌<◌, length, get_or, take, map, List, ℕ, subst, arith}
use Rattle.std.proofs.lemmas.List.{length-map}
use Rattle.std.specs.List.{All}
use Rattle.sfm_law.specs.declared.breaks.Break.{Break as Found}
use Rattle.sfm_kind.specs.Instance.{InstanceData}
use Rattle.sfm_cert.specs.Answer.{Break, section_lines}
use Rattle.sfm_cert.specs.LineLists.{break_lines}
use Rattle.sfm_cert.specs.Form.{AreFormedRows}
use Rattle.sfm_cert.specs.Solved.{break_of, form_of}
use Rattle.sfm_cert.proofs.AnswerLines.{item_at, break_lines-more}
use Rattle.sfm_cert.proofs.InstanceLengths.{rows_count}
use Rattle.sfm_cert.proofs.Pieces.{appended_lines}
use Rattle.sfm_cert.proofs.write.put_proofs.Goals as goal

-- the rows of a slope are those that the terms ask for
formed : (instance : InstanceData) (breaks : List Found) (i : ℕ) (b : Found) → i < length breaks
    → b ≡ get_or breaks i b → All (λ (x : Break). AreFormedRows (form_of instance).widths x.bases)
    (map break_of breaks)
    → AreFormedRows (form_of instance).widths b.bases
formed instance breaks i b l is h =
    subst (λ (x : Break). AreFormedRows (form_of instance).widths x.bases)
    (item_at break_of breaks i b (break_of b) l is)
    (h i (break_of b) (omega (arith, l, length-map breaks break_of)))

pub put_section-requires-clause-count : goal.put_section-requires-clause-count
put_section-requires-clause-count g c =
    rows_count c.args.instance.now.terms c.b-item.result.bases
    (formed c.args.instance.now c.args.breaks.now c.loop-b.b-index c.b-item.result
    c.loop-b-test.true c.b-item.is c.requires)

pub put_section-requires-clause-small : goal.put_section-requires-clause-small
put_section-requires-clause-small g c =
    (formed c.args.instance.now c.args.breaks.now c.loop-b.b-index c.b-item.result
    c.loop-b-test.true c.b-item.is c.requires).small

pub loop-b-preserved : goal.loop-b-preserved
loop-b-preserved g c =
    let bs = map break_of c.args.breaks.now in
    let lines = c.args.instance.now.lines in
    let i = c.loop-b.b-index in
    let b = break_of c.b-item.result in
    let h : i < length bs = omega (
      arith,
      c.loop-b-test.true,
      length-map c.args.breaks.now break_of,
    ) in
    let e : get_or bs i b ≡ b = item_at break_of c.args.breaks.now i c.b-item.result b
    c.loop-b-test.true c.b-item.is in
    appended_lines g.O.Out.after g.met.O.Out.joined _ _ _ (break_lines lines (take i bs))
    (section_lines lines b.num b.den b.bases) (break_lines lines (take (i + 1) bs))
    c.loop-b.invariant c.put_section.ensures
    (break_lines-more lines bs i b b h e)
