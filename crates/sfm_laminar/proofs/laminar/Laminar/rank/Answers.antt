use Rattle.std.proofs.Common.{◌≡◌, ◌∙◌, length, ap, pos, rules}
use Rattle.sfm_spec.specs.Sets.{size}
use Rattle.sfm_law.proofs.Entries.{count_bits}
use Rattle.sfm_laminar.specs.Grown.{grown}
use Rattle.sfm_laminar.specs.Ranks.{rank, caps-ranks}
use Rattle.sfm_laminar.proofs.laminar.Laminar.rank.Goals as goal

pub returns-clause-greatest : goal.returns-clause-greatest
returns-clause-greatest c =
    let s = c.args.self.now in
    let t = c.args.s.now in
    let e : c.size.result ≡ size (grown (length t) s.groups t (length t)) = c.size.ensures
    ∙ ap size c.in_ok-most.ensures in (
      rank (length s.places) s.groups t,
      count_bits c.size.result (search rules)
          ∙ ap pos (e ∙ ap (λ n. size (grown n s.groups t n)) c.requires),
      caps-ranks (length s.places) s.groups s.grouped t c.requires,
    )
