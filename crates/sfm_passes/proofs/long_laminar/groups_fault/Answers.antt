use Rattle.std.proofs.Common.{sym, ◌∙◌, arith}
use Rattle.std.proofs.lemmas.Bool.{false≢true}
use Rattle.sfm_lines.specs.Lines.{tokens_of}
use Rattle.sfm_lines.specs.CutParts.{IsGroupCut}
use Rattle.sfm_passes.specs.GroupPasses.{AreShapedGroups, pieces_left}
use Rattle.sfm_passes.proofs.Passed.{all-matched}
use Rattle.sfm_passes.proofs.LongLaminar.{laminar-number, laminar-cap, laminar-name, laminar-stranger, laminar-twice, laminar-again}
use Rattle.sfm_passes.proofs.PieceCuts.{by-yes, by-no}
use Rattle.sfm_passes.proofs.long_laminar.groups_fault.Goals as goal

pub returns-then-not-shaped : goal.returns-then-not-shaped
returns-then-not-shaped c = λ behind is.
    (by-no c.in_ok-shaped.shaped _ _ c.if-not-shaped.true c.in_ok-shaped.ensures) behind is

pub returns-then-not-is_number_of : goal.returns-then-not-is_number_of
returns-then-not-is_number_of c = λ behind is.
    let s : AreShapedGroups c.args.number.now (tokens_of c.args.elements.now)
    (pieces_left c.args.groups) =
    by-yes c.in_ok-shaped.shaped _ _ c.if-not-shaped.false c.in_ok-shaped.ensures in
    let (groups, each) = all-matched IsGroupCut (pieces_left c.args.groups) s.whole in
    laminar-number c.args.instance.now c.args.number.now (tokens_of c.args.elements.now) behind
    (pieces_left c.args.groups) is s.no_separator s.some s.unmarked groups each
    c.if-not-is_number_of.ensures

pub returns-then-not-capped : goal.returns-then-not-capped
returns-then-not-capped c = λ behind is.
    let s : AreShapedGroups c.args.number.now (tokens_of c.args.elements.now)
    (pieces_left c.args.groups) =
    by-yes c.in_ok-shaped.shaped _ _ c.if-not-shaped.false c.in_ok-shaped.ensures in
    let (groups, each) = all-matched IsGroupCut (pieces_left c.args.groups) s.whole in
    laminar-cap c.args.instance.now c.args.number.now (tokens_of c.args.elements.now) behind
    (pieces_left c.args.groups) is s.no_separator s.some s.unmarked groups each
    (by-no c.in_ok-capped.capped _ _ c.if-not-capped.true c.in_ok-capped.ensures)

pub returns-then-not-all_hold : goal.returns-then-not-all_hold
returns-then-not-all_hold c = λ behind is.
    let s : AreShapedGroups c.args.number.now (tokens_of c.args.elements.now)
    (pieces_left c.args.groups) =
    by-yes c.in_ok-shaped.shaped _ _ c.if-not-shaped.false c.in_ok-shaped.ensures in
    let (groups, each) = all-matched IsGroupCut (pieces_left c.args.groups) s.whole in
    laminar-name c.args.instance.now c.args.number.now (tokens_of c.args.elements.now) behind
    (pieces_left c.args.groups) is s.no_separator s.some s.unmarked groups each
    c.if-not-is_number_of.ensures
    (by-yes c.in_ok-capped.capped _ _ c.if-not-capped.false c.in_ok-capped.ensures)
    c.if-not-all_hold.ensures

pub returns-then-not-named : goal.returns-then-not-named
returns-then-not-named c = λ behind is.
    let s : AreShapedGroups c.args.number.now (tokens_of c.args.elements.now)
    (pieces_left c.args.groups) =
    by-yes c.in_ok-shaped.shaped _ _ c.if-not-shaped.false c.in_ok-shaped.ensures in
    let (groups, each) = all-matched IsGroupCut (pieces_left c.args.groups) s.whole in
    laminar-stranger c.args.instance.now c.args.number.now (tokens_of c.args.elements.now) behind
    (pieces_left c.args.groups) is s.no_separator s.some s.unmarked groups each
    c.if-not-is_number_of.ensures
    (by-yes c.in_ok-capped.capped _ _ c.if-not-capped.false c.in_ok-capped.ensures)
    (by-no c.in_ok-named.named _ _ c.if-not-named.true c.in_ok-named.ensures)

pub returns-then-repeated : goal.returns-then-repeated
returns-then-repeated c = λ behind is.
    let s : AreShapedGroups c.args.number.now (tokens_of c.args.elements.now)
    (pieces_left c.args.groups) =
    by-yes c.in_ok-shaped.shaped _ _ c.if-not-shaped.false c.in_ok-shaped.ensures in
    let (groups, each) = all-matched IsGroupCut (pieces_left c.args.groups) s.whole in
    laminar-twice c.args.instance.now c.args.number.now (tokens_of c.args.elements.now) behind
    (pieces_left c.args.groups) is s.no_separator s.some s.unmarked groups each
    c.if-not-is_number_of.ensures
    (by-yes c.in_ok-capped.capped _ _ c.if-not-capped.false c.in_ok-capped.ensures) c.requires
    c.if-not-all_hold.ensures (by-yes c.in_ok-named.named _ _ c.if-not-named.false
    c.in_ok-named.ensures) (c.in_ok-repeated.ensures.0 c.if-repeated.true)

pub returns-then-not-once : goal.returns-then-not-once
returns-then-not-once c = λ behind is.
    let s : AreShapedGroups c.args.number.now (tokens_of c.args.elements.now)
    (pieces_left c.args.groups) =
    by-yes c.in_ok-shaped.shaped _ _ c.if-not-shaped.false c.in_ok-shaped.ensures in
    let (groups, each) = all-matched IsGroupCut (pieces_left c.args.groups) s.whole in
    laminar-again c.args.instance.now c.args.number.now (tokens_of c.args.elements.now) behind
    (pieces_left c.args.groups) is s.no_separator s.some s.unmarked groups each
    c.if-not-is_number_of.ensures
    (by-yes c.in_ok-capped.capped _ _ c.if-not-capped.false c.in_ok-capped.ensures) c.requires
    c.if-not-all_hold.ensures (by-yes c.in_ok-named.named _ _ c.if-not-named.false
    c.in_ok-named.ensures) (by-no c.in_ok-once.once _ _ c.if-not-once.true c.in_ok-once.ensures)

pub returns : goal.returns
returns c =
    let s : AreShapedGroups c.args.number.now (tokens_of c.args.elements.now)
    (pieces_left c.args.groups) =
    by-yes c.in_ok-shaped.shaped _ _ c.if-not-shaped.false c.in_ok-shaped.ensures in
    record {
      no_separator = s.no_separator;
      some = omega (arith, s.some);
      unmarked = s.unmarked;
      whole = s.whole;
      is_number = c.if-not-is_number_of.ensures;
      caps = by-yes c.in_ok-capped.capped _ _ c.if-not-capped.false c.in_ok-capped.ensures;
      known = c.if-not-all_hold.ensures;
      members = by-yes c.in_ok-named.named _ _ c.if-not-named.false c.in_ok-named.ensures;
      once = λ t. false≢true (sym c.if-repeated.false ∙ c.in_ok-repeated.ensures.1 t);
      each_once = by-yes c.in_ok-once.once _ _ c.if-not-once.false c.in_ok-once.ensures;
    }
