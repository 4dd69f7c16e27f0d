use Rattle.std.proofs.Common.{refl, sym, ◌∙◌}
use Rattle.sfm_matroid.proofs.Options.{some_there}
use Rattle.sfm_matroid.proofs.pair.fill.Goals as goal

pub returns-then-is_some : goal.returns-then-is_some
returns-then-is_some c = let (k, is) = some_there c.args.spare.now
    (sym c.is_some.ensures ∙ c.if-is_some.true) in (k, is, c.requires k is)

pub returns : goal.returns
returns c = (
  c.in_ok-copy.copy,
  refl,
  rw c.in_ok-copy.ensures (record { lists = refl; places = refl; slots = refl }),
)
