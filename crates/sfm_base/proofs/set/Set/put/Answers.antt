use Rattle.std.proofs.Common.{arith}
use Rattle.sfm_base.proofs.Members.{word_of_place}
use Rattle.sfm_base.proofs.Changing.{put_set}
use Rattle.sfm_base.proofs.set.Set.put.Goals as goal

pub index_mut-word-requires : goal.index_mut-word-requires
index_mut-word-requires c = omega (
  arith,
  word_of_place c.self.inside.n c.self.inside.words.items c.args.self.now c.args.e
      c.self.invariant c.self.view_is c.requires,
  c.self.inside.words.ok.0,
)

pub invariant_of-self : goal.invariant_of-self
invariant_of-self c = (put_set _ _ _ c.args.e _ _ _ c.self.invariant c.self.view_is c.requires
    c.index_mut-word.ensures.value c.with_bit.ensures.others c.with_bit.ensures.there).0

pub returns : goal.returns
returns c = (put_set _ _ _ c.args.e _ _ _ c.self.invariant c.self.view_is c.requires
    c.index_mut-word.ensures.value c.with_bit.ensures.others c.with_bit.ensures.there).1
