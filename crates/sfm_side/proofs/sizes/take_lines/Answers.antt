use Rattle.std.proofs.Common.{◌≡◌, ◌≤◌, List, length, map, ℤ, pos, sym, ap, subst, ◌∙◌, arith}
use Rattle.std.proofs.lemmas.Int.{ints}
use Rattle.sfm_spec.specs.Bounds.{total_of}
use Rattle.sfm_side.specs.Frame.{IsReadTo, left_of, text_in}
use Rattle.sfm_side.specs.Sizes.{sizes_form}
use Rattle.sfm_side.specs.SizeLines.{given_of, count_of, AreKept}
use Rattle.sfm_side.proofs.Framing.{opened, open-refused, left-refused, line-refused, line-read, end-read}
use Rattle.sfm_side.proofs.Keeping.{counts-are, none-given, none-kept, none-total}
use Rattle.sfm_side.proofs.SizeReasons.{sizes-framed, said-small}
use Rattle.sfm_side.proofs.sizes.take_lines.Goals as goal

pub loop-line-init : goal.loop-line-init
loop-line-init c =
    let names = c.args.instance.now.names in
    let nothing = ap given_of c.requires.kept ∙ none-given (length names) in
    let few : length names ≤ 256 = c.names_len-count.ensures.named.few in
    let total : total_of (map count_of c.args.kept.now) ≡ pos
    (length names) = ap (λ (l : List ℤ). total_of (map count_of l)) c.requires.kept
    ∙ none-total (length names) in
    record {
      read = subst (IsReadTo (sizes_form names) c.args.text.now (left_of c.in_ok-frame.frame))
          (sym nothing) (opened (sizes_form names) c.args.text.now c.in_ok-frame.frame
          c.in_ok-frame.ensures.opened);
      whole = c.in_ok-frame.ensures.opened.whole;
      kept = subst (AreKept (length names)) (sym c.requires.kept) (none-kept (length names));
      small = omega (arith, ints, few, total);
    }

pub returns-in_err-frame-clause-refused : goal.returns-in_err-frame-clause-refused
returns-in_err-frame-clause-refused c =
    open-refused (sizes_form c.args.instance.now.names) c.args.text.now c.from_residual.result
    c.in_err-frame.field-0.0 c.from_residual.ensures.1 c.in_err-frame.ensures.refused

pub returns-in_err-line-clause-refused : goal.returns-in_err-line-clause-refused
returns-in_err-line-clause-refused c =
    let names = c.args.instance.now.names in
    let frame = c.loop-line.frame in
    left-refused (sizes_form names) c.args.text.now (sizes-framed names) (left_of frame)
    (given_of c.loop-line.kept) c.loop-line.invariant.read
    c.from_residual-in_err-line.result c.in_err-line.field-0.0 c.from_residual-in_err-line.ensures.1
    (text_in frame) c.loop-line.invariant.whole c.in_err-line.ensures.next

pub returns-in-Some-take_line-clause-refused : goal.returns-in-Some-take_line-clause-refused
returns-in-Some-take_line-clause-refused c =
    let names = c.args.instance.now.names in
    let (inner, next) = rw c.in-Some.is at c.in_ok-line.ensures.next in
    line-refused (sizes_form names) c.args.text.now (sizes-framed names) (left_of c.loop-line.frame)
    (given_of c.loop-line.kept) c.loop-line.invariant.read
    c.in-Some.line.number c.in-Some.line.bytes.now _ c.in-Some-take_line.reason next inner
    c.in-Some-take_line.ensures.told

pub loop-line-preserved : goal.loop-line-preserved
loop-line-preserved c =
    let names = c.args.instance.now.names in
    let kept = c.take_line.new.kept in
    let (inner, next) = rw c.in-Some.is at c.in_ok-line.ensures.next in
    let said = c.in_default-take_line.ensures.told in
    let small = said-small names (given_of c.loop-line.kept) _ (given_of kept) said in
    record {
      read = line-read (sizes_form names) c.args.text.now (sizes-framed names)
          (left_of c.loop-line.frame) (given_of c.loop-line.kept) c.loop-line.invariant.read
          c.in-Some.line.number c.in-Some.line.bytes.now (left_of c.next_line.new.self)
          (given_of kept) next inner said.good said.says;
      whole = c.next_line.ensures.text ∙ c.loop-line.invariant.whole;
      kept = c.take_line.ensures.kept;
      small = omega (arith, ints, small, ap total_of (counts-are kept));
    }

pub returns-clause-read : goal.returns-clause-read
returns-clause-read c =
    let names = c.args.instance.now.names in
    end-read (sizes_form names) c.args.text.now (sizes-framed names) (left_of c.loop-line.frame)
    (given_of c.loop-line.kept) c.loop-line.invariant.read
    (rw c.in_default.is at c.in_ok-line.ensures.next)

pub returns-clause-small : goal.returns-clause-small
returns-clause-small c = c.loop-line.invariant.small
