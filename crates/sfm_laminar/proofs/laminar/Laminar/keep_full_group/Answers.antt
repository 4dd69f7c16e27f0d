use Rattle.std.proofs.Common.{◌∙◌, length, ap, sym}
use Rattle.std.proofs.lemmas.Bool.{both_ways}
use Rattle.sfm_laminar.specs.Crossing.{group_at}
use Rattle.sfm_laminar.specs.Masks.{length-mask}
use Rattle.sfm_laminar.proofs.Leasts.{kept_free, kept_full}
use Rattle.sfm_laminar.proofs.laminar.Laminar.keep_full_group.Goals as goal

pub returns-then-not-is_full : goal.returns-then-not-is_full
returns-then-not-is_full c =
    let s = c.args.self.now in
    kept_free c.args.at.now.q s.w s.groups c.args.at.now.x.now c.args.i c.args.to.now
    (λ none. both_ways c.is_full.result c.if-not-is_full.true (c.is_full.ensures.1 none))

pub keep_with-requires : goal.keep_with-requires
keep_with-requires c = let s = c.args.self.now in c.requires.sized
    ∙ sym (ap length c.mask.ensures
    ∙ length-mask (length s.places) (group_at s.groups c.args.i).members)

pub returns : goal.returns
returns c =
    let s = c.args.self.now in
    rw (c.keep_with.ensures, c.mask.ensures)
    (kept_full c.args.at.now.q s.w s.groups c.args.at.now.x.now (length s.places) c.args.i
    c.args.to.now s.grouped c.requires.group c.requires.sized
    (c.is_full.ensures.0 c.if-not-is_full.false))
