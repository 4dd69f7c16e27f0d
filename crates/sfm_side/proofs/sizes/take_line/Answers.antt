use Rattle.std.proofs.Common.{◌^◌, pos, ◌≤ℤ◌, ◌<ℤ◌, ap, arith}
use Rattle.std.proofs.lemmas.Int.{ints}
use Rattle.sfm_spec.specs.Bounds.{total_of}
use Rattle.sfm_lines.specs.Lines.{tokens_of}
use Rattle.sfm_side.specs.Sizes.{sizes_of}
use Rattle.sfm_side.specs.SizeLines.{given_of}
use Rattle.sfm_side.proofs.Keeping.{counts-are}
use Rattle.sfm_side.proofs.SizeReasons.{size-word, good-twice, good-total, good-said}
use Rattle.sfm_side.proofs.sizes.take_line.Goals as goal

pub returns-in_default-clause-told : goal.returns-in_default-clause-told
returns-in_default-clause-told c = size-word c.args.instance.now.names (given_of c.args.kept.now)
    (tokens_of c.args.line.now) c.in_default.ensures

pub returns-in-Some-pairs_reason-clause-told : goal.returns-in-Some-pairs_reason-clause-told
returns-in-Some-pairs_reason-clause-told c =
    rw c.in-Some.ensures (c.in-Some-pairs_reason.ensures (given_of c.args.kept.now))

pub returns-then-not-put_sizes-clause-told : goal.returns-then-not-put_sizes-clause-told
returns-then-not-put_sizes-clause-told c =
    rw c.in-Some.ensures (good-twice c.args.instance.now.names c.names_len-count.ensures.named
    (given_of c.args.kept.now) (tokens_of c.in-Some.rest.now) c.in_default-pairs_reason.ensures
    c.if-not-put_sizes.ensures.put)

pub returns-then-total_size-gt-MOST_ELEMENT_SIZE-clause-told
    : goal.returns-then-total_size-gt-MOST_ELEMENT_SIZE-clause-told
returns-then-total_size-gt-MOST_ELEMENT_SIZE-clause-told c =
    let kept = c.put_sizes.new.kept in
    let much : pos (10 ^ 6) <ℤ total_of
    (sizes_of (given_of kept)) =
    omega (
      arith,
      ints,
      c.if-total_size-gt-MOST_ELEMENT_SIZE.true,
      c.total_size.ensures,
      ap total_of (counts-are kept),
    ) in
    rw c.in-Some.ensures (good-total c.args.instance.now.names c.names_len-count.ensures.named
    (given_of c.args.kept.now) (tokens_of c.in-Some.rest.now) c.in_default-pairs_reason.ensures
    (given_of kept) c.if-not-put_sizes.ensures.put much)

pub returns-clause-told : goal.returns-clause-told
returns-clause-told c =
    let kept = c.put_sizes.new.kept in
    let few : total_of (sizes_of (given_of kept)) ≤ℤ pos
    (10 ^ 6) = omega (
      arith,
      ints,
      c.if-total_size-gt-MOST_ELEMENT_SIZE.false,
      c.total_size.ensures,
      ap total_of (counts-are kept),
    ) in
    rw c.in-Some.ensures (good-said c.args.instance.now.names c.names_len-count.ensures.named
    (given_of c.args.kept.now) (tokens_of c.in-Some.rest.now) c.in_default-pairs_reason.ensures
    (given_of kept) c.if-not-put_sizes.ensures.put few)
