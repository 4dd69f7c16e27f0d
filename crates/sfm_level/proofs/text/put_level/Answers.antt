use Rattle.std.proofs.Common.{◌≡◌, [], ◌∷◌, codes, FitsSigned}
use Rattle.std.specs.Fmt.{signed_decimal}
use Rattle.std.proofs.lemmas.Int.{to_z-of_z}
use mir.Syntax.{w128}
use Rattle.sfm_cert.specs.LineLists.{base_lines, numbered}
use Rattle.sfm_cert.proofs.AnswerLines.{entry_fits, text_of-append}
use Rattle.sfm_cert.proofs.InstanceLengths.{rows_count}
use Rattle.sfm_cert.proofs.Pieces.{seven}
use Rattle.sfm_level.proofs.text.put_level.Goals as goal

pub put_numbers-requires : goal.put_numbers-requires
put_numbers-requires g c = rw c.as_slice.ensures c.requires.vector

pub put_rows-requires-clause-count : goal.put_rows-requires-clause-count
put_rows-requires-clause-count g c = rows_count c.args.instance.now.terms c.args.level.now.bases
    c.requires.bases

pub put_rows-requires-clause-small : goal.put_rows-requires-clause-small
put_rows-requires-clause-small g c = c.requires.bases.small

pub returns : goal.returns
returns g c =
    let l = c.args.level.now in
    let f : FitsSigned w128 l.squares = entry_fits _ c.requires.squares in
    let put : c.put_number.new.out ≡ g.O.Out.after c.put.new.self (signed_decimal l.squares)
    = simp to_z-of_z at c.put_number.ensures in
    let numbers : c.put_numbers.new.out ≡ g.O.Out.after c.put-2.new.self (numbered l.vector)
    = rw c.as_slice.ensures at c.put_numbers.ensures in
    rw (text_of-append (base_lines c.args.instance.now.lines 1 l.bases) (codes "end" ∷ []))
    (seven g.O.Out.after g.met.O.Out.joined _ _ _ _ _ _ _ _ _ _ _ _ _ _ _ c.put.ensures put
    c.put-2.ensures numbers c.put-3.ensures c.put_rows.ensures c.put-4.ensures)
