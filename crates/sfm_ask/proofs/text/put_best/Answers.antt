use Rattle.std.proofs.Common.{◌≡◌, ◌++◌, append_assoc, FitsSigned, arith}
use Rattle.std.proofs.lemmas.Int.{ints, to_z-of_z}
use Rattle.std.specs.Fmt.{signed_decimal}
use mir.Syntax.{w128}
use Rattle.sfm_cert.proofs.Pieces.{seven}
use Rattle.sfm_ask.proofs.text.put_best.Goals as goal

pub returns : goal.returns
returns c =
    let value = c.args.best.now.value in
    let f : FitsSigned w128 value = omega (arith, ints, c.requires.writable.2) in
    let put : c.put_number.new.text.items ≡ c.extend_from_slice.new.self.items ++ signed_decimal
    value
    = simp to_z-of_z at c.in_ok-put_number.ensures in
    seven (λ o x. o ++ x) append_assoc _ _ _ _ _ _ _ _ _ _ _ _ _ _ _
    c.in_ok-extend_from_slice.ensures.items put c.in_ok-extend_from_slice-2.ensures.items
    c.in_ok-put_names.ensures c.in_ok-extend_from_slice-3.ensures.items c.in_ok-put_names-2.ensures
    c.in_ok-extend_from_slice-4.ensures.items
