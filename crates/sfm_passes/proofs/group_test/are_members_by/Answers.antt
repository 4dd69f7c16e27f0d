use Rattle.std.proofs.Common.{[], ◌∷◌, ◌++◌, refl, sym, ap, ◌∙◌}
use Rattle.sfm_lines.specs.Lines.{tokens_of}
use Rattle.sfm_lines.specs.LabelTerms.{distinct_of}
use Rattle.sfm_lines.proofs.Numbering.{key-in}
use Rattle.sfm_passes.proofs.Passed.{passed-more, passed-all}
use Rattle.sfm_passes.proofs.group_test.are_members_by.Goals as goal

pub loop-element-init : goal.loop-element-init
loop-element-init c = ([], refl, rw c.requires refl)

pub loop-element-preserved : goal.loop-element-preserved
loop-element-preserved c =
    let (before, cut, keys) = c.loop-element.invariant in
    let element = c.in-Some.element.now in (
      before ++ element ∷ [],
      passed-more before element (tokens_of c.in-Some.behind.now)
          (tokens_of c.loop-element.left.now) (tokens_of c.args.elements.now) cut
          c.in-Some.ensures.cut,
      key-in before c.loop-element.known.keys c.insert.new.self.keys
          c.in-Some.element keys c.in_ok-insert.ensures.keys,
    )

pub returns : goal.returns
returns c =
    let (before, cut, keys) = c.loop-element.invariant in
    c.all_have_members.ensures (tokens_of c.args.elements.now)
    (keys ∙ ap distinct_of
    (sym (passed-all before (tokens_of c.loop-element.left.now) (tokens_of c.args.elements.now)
    cut c.in_default.ensures.cut)))
