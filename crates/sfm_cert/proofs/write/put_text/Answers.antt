use Rattle.std.proofs.Common.{◌≡◌, ◌++◌, ◌∷◌, [], map, pos, sym, ap, ◌∙◌, arith, refl}
use Rattle.std.specs.Prelude.{codes}
use Rattle.sfm_cert.specs.Answer.{head_lines, section_lines, text_of}
use Rattle.sfm_cert.specs.Header.{header_text}
use Rattle.sfm_cert.specs.LineLists.{break_lines}
use Rattle.std.proofs.lemmas.Nat.Gcd.{dvd-zero, dvd_refl}
use Rattle.sfm_spec.specs.Slopes.{IsLowest}
use Rattle.sfm_spec.proofs.Lowest.{lowest_unique, lowest_of_gcd}
use Rattle.sfm_cert.specs.Solved.{answer_of, break_of, form_with}
use Rattle.sfm_cert.proofs.InstanceLengths.{rows_count}
use Rattle.sfm_cert.proofs.Pieces.{three_lines, appended_lines}
use Rattle.sfm_cert.proofs.write.put_text.Goals as goal

-- zero is 0/1 in lowest terms
zero_lowest : IsLowest (pos 0) (pos 1)
zero_lowest = lowest_of_gcd (pos 0) (pos 1) (pos 0) 1 1 (omega arith)
    (dvd-zero 1, dvd_refl 1, λ d h k. k) refl refl

pub put_section-requires-clause-count : goal.put_section-requires-clause-count
put_section-requires-clause-count g c = rows_count c.args.instance.now.terms c.args.solved.now.bases
    c.requires.bases

pub put_section-requires-clause-small : goal.put_section-requires-clause-small
put_section-requires-clause-small g c = c.requires.bases.small

pub put_proofs-requires : goal.put_proofs-requires
put_proofs-requires g c = rw c.deref.ensures.value (λ i d l. (c.requires.breaks i d l).bases)

pub returns : goal.returns
returns g c =
    let s = c.args.solved.now in
    let head = head_lines (form_with (header_text c.args.header) c.args.instance.now)
    (answer_of s) in
    let lines = c.args.instance.now.lines in
    let first = section_lines lines (pos 0) (pos 1) s.bases in
    let more = break_lines lines (map break_of s.breaks.items) in
    let section : c.put_section.new.out ≡ g.O.Out.after c.put_head.new.out (text_of first) =
    let same = lowest_unique (pos 0) (pos 1) c.new.result.num c.new.result.den zero_lowest
    c.new.ensures.lowest c.new.ensures.same in
    c.put_section.ensures ∙ ap (λ p. g.O.Out.after c.put_head.new.out
    (text_of (section_lines lines p c.new.result.den s.bases))) (sym same.0)
    ∙ ap (λ q. g.O.Out.after c.put_head.new.out
    (text_of (section_lines lines (pos 0) q s.bases))) (sym same.1) in
    appended_lines g.O.Out.after g.met.O.Out.joined _ _ _ (head ++ first ++ more) (codes "end" ∷ [])
    (head ++ first ++ more ++ codes "end" ∷ [])
    (three_lines g.O.Out.after g.met.O.Out.joined _ _ _ _ head first more c.put_head.ensures section
    (rw c.deref.ensures.value at c.put_proofs.ensures))
    c.put.ensures refl
