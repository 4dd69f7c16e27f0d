use Rattle.std.proofs.Common.{◌≡◌, refl}
use Rattle.sfm_lines.proofs.WordLines.{pair-same}
use Rattle.sfm_passes.proofs.LongNames.{new-unknown}
use Rattle.sfm_side.proofs.Keeping.{size-kept}
use Rattle.sfm_side.proofs.sizes.pair_size.Goals as goal

pub unreachable-requires-in_default-place_of : goal.unreachable-requires-in_default-place_of
unreachable-requires-in_default-place_of c =
    let (other, is, known) = c.requires.element in
    let same : other ≡ (c.in-Some.name.now, c.in-Some.number.now) = pair-same c.args.token.now other
    _ is c.in-Some.ensures in
    new-unknown c.args.instance.now.names c.in-Some.name.now c.in_default-place_of.ensures.none
    (rw same at known)

pub unreachable-requires-in_default-size_for : goal.unreachable-requires-in_default-size_for
unreachable-requires-in_default-size_for c =
    let (other, is, (value, size)) = c.requires.size in
    let same : other ≡ (c.in-Some.name.now, c.in-Some.number.now) = pair-same c.args.token.now other
    _ is c.in-Some.ensures in
    c.in_default-size_for.not-Some value ((c.size_for.ensures value).1 (rw same at size))

pub returns-clause-pair : goal.returns-clause-pair
returns-clause-pair c =
    let number = c.in-Some.number.now in
    let size = (c.in-Some-size_for.ensures c.in-Some-size_for.size).0 refl in
    record {
      pair = (c.in-Some.name.now, number);
      cut = c.in-Some.ensures;
      element = c.in-Some-place_of.ensures.found;
      size = rw (size-kept number c.in-Some-size_for.size size) size;
    }
