use Rattle.std.proofs.Common.{◌==◌, ◌/◌, ◌%◌, false, get_or, sym, ap, ◌∙◌, arith}
use Rattle.std.proofs.lemmas.List.{get_or_default}
use Rattle.std.specs.Int.{bit_at}
use Rattle.sfm_base.proofs.Members.{place_below, word_of_place, get_or-members}
use Rattle.sfm_base.proofs.set.Set.contains.Goals as goal

pub index-requires : goal.index-requires
index-requires c = omega (
  arith,
  word_of_place c.self.inside.n c.self.inside.words.items c.args.self.now c.args.e
      c.self.invariant c.self.view_is c.requires,
  c.self.inside.words.ok.0,
)

pub returns : goal.returns
returns c =
    let n = c.self.inside.n in
    let words = c.self.inside.words.items in
    let e = c.args.e in
    let is = c.index.ensures ∙ get_or_default words (e / 64) c.index.result.now 0
    (word_of_place n words _ e c.self.invariant c.self.view_is c.requires) in
    ap (λ w. bit_at w (e % 64) == 1) is
    ∙ (sym (get_or-members n words e (place_below n words _ e c.self.view_is c.requires))
    ∙ ap (λ s. get_or s e false) c.self.view_is)
