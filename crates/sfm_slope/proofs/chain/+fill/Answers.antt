use Rattle.std.proofs.Common.{length, map, refl, None, arith}
use Rattle.sfm_spec.specs.Sets.{empty_set}
use Rattle.sfm_spec.specs.Families.{meanings}
use Rattle.sfm_exchange.proofs.ClaimedGraphs.{are_terms}
use Rattle.sfm_slope.specs.Points.{found_mark}
use Rattle.sfm_slope.proofs.Gaps.{chain_begun}
use Rattle.sfm_slope.proofs.Parts.{part_push}
use Rattle.sfm_slope.proofs.chain.+fill.Goals as goal

pub take_turn-requires-clause-begun : goal.take_turn-requires-clause-begun
take_turn-requires-clause-begun g t c =
    let d = g.T.Term in
    let m = g.met.T.Term in
    let n = length c.args.sizes.now in
    let ts = meanings d.places d.value_of c.args.terms.now in
    let fit = are_terms c.requires.search.first m.family m.submodular in
    chain_begun ts n c.args.sizes.now fit refl c.requires.sizes.positive None (empty_set n)
    (map found_mark c.args.found.now.items) c.args.low.now.set refl c.requires.before.chain

pub returns-in_ok-push-in-Next-clause-part : goal.returns-in_ok-push-in-Next-clause-part
returns-in_ok-push-in-Next-clause-part g t c =
    let d = g.T.Term in
    let n = length c.args.sizes.now in
    let ts = meanings d.places d.value_of c.args.terms.now in
    let h = rw c.in-Next.is at c.in_ok-next.ensures.turn in
    rw c.in_ok-push-in-Next.ensures.items
    (part_push ts n c.args.sizes.now c.args.found.now.items c.in-Next.next c.args.low.now.set
    c.args.high.now.set c.requires.before h.0 h.1 h.2 c.requires.gap.larger h.3)

pub fill-requires : goal.fill-requires
fill-requires g t c = λ κs lives.
    let h = rw c.in-Between.is at c.in_ok-next.ensures.turn in
    let less = h.0.larger in
    let more = h.1.larger in (
      omega (arith, less, more),
      (
        lives.0,
        (
          lives.1,
          (
            c.requires.sizes,
            (c.in_ok-next.ensures.search, (c.requires.before, (h.0, (c.requires.low_worth, h.2)))),
          ),
        ),
      ),
    )

pub fill-requires-in-Between : goal.fill-requires-in-Between
fill-requires-in-Between g t c = λ κs lives.
    let h = rw c.in-Between.is at c.in_ok-next.ensures.turn in
    let f = c.in_ok-fill-in-Between.ensures in
    let less = h.0.larger in
    let more = h.1.larger in (
      omega (arith, less, more),
      (
        lives.0,
        (lives.1, (c.requires.sizes, (f.search, (f.part, (h.1, (h.2, c.requires.high_worth)))))),
      ),
    )
