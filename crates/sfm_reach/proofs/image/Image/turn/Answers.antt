use Rattle.std.proofs.Common.{◌≡◌, ◌↔◌, ℕ, ◌∙◌, arith}
use Rattle.sfm_base.proofs.Elements.{placed_few}
use Rattle.sfm_spec.specs.Sets.{Has}
use Rattle.sfm_reach.specs.Bits.{bit_in}
use Rattle.sfm_reach.proofs.Imaging.{images_of, places_of, differ_inside}
use Rattle.sfm_reach.proofs.InOrder.{four_words, has_by_words, told_by_words}
use Rattle.sfm_reach.proofs.Placing.{has_place}
use Rattle.sfm_reach.proofs.image.Image.turn.Goals.{After-of_words-next, After-of_words-part}
use Rattle.sfm_reach.proofs.image.Image.turn.Goals as goal

next_told : (c : After-of_words-next) → (e : ℕ) → (bit_in c.of_words-next.result e ≡ 1)
    ↔ Has c.args.self.now.next e
next_told c = told_by_words c.args.self.now.next c.words.result.now c.of_words-next.result
    c.words.ensures.set c.words.ensures.words c.of_words-next.ensures

part_told : (c : After-of_words-part) → (e : ℕ) → (bit_in c.of_words-part.result e ≡ 1)
    ↔ Has c.args.self.now.part e
part_told c = told_by_words c.args.self.now.part c.words-2.result.now c.of_words-part.result
    c.words-2.ensures.set c.words-2.ensures.words c.of_words-part.ensures

pub of_words-next-requires : goal.of_words-next-requires
of_words-next-requires c =
    let next = c.args.self.now.next in
    four_words next c.words.result.now c.words.ensures.words
    (omega (
      arith,
      placed_few 256 c.args.places.now c.requires.placed,
      c.args.self.now.next_places,
      c.requires.image.count,
    ))

pub of_words-part-requires : goal.of_words-part-requires
of_words-part-requires c = four_words c.args.self.now.part c.words-2.result.now
    c.words-2.ensures.words (omega (
      arith,
      placed_few 256 c.args.places.now c.requires.placed,
      c.requires.image.count,
    ))

pub returns-then-self-clause-places : goal.returns-then-self-clause-places
returns-then-self-clause-places c =
    has_by_words c.args.places.now c.args.self.now.next c.of_words-next.result
    (c.requires.image.order c.if-self.true)
    (c.args.self.now.next_places ∙ c.requires.image.count)
    (next_told (goal.at.returns-then-self-clause-places c).After-of_words-next)

pub write_changed-requires-clause-inside : goal.write_changed-requires-clause-inside
write_changed-requires-clause-inside c =
    let at = goal.at.write_changed-requires-clause-inside c in
    let s = c.args.self.now in
    let places = c.requires.image.count in
    let next_places = s.next_places in
    λ v. differ_inside c.of_words-part.result c.of_words-next.result c.differing.result v _
    (c.differing.ensures v)
    (λ one. let l = has_place s.part v
    ((part_told at.After-of_words-part v).0 one) in omega (arith, l, places))
    (λ one. let l = has_place s.next v
    ((next_told at.After-of_words-next v).0 one) in omega (arith, l, places, next_places))

pub write_changed-requires-clause-before : goal.write_changed-requires-clause-before
write_changed-requires-clause-before c =
    let at = goal.at.write_changed-requires-clause-before c in
    let s = c.args.self.now in (
      c.of_words-part.result,
      images_of c.args.places.now s.part c.of_words-part.result s.bits
          (part_told at.After-of_words-part) c.requires.image.exact,
      λ v. (c.differing.ensures v).0,
    )

pub returns-clause-places : goal.returns-clause-places
returns-clause-places c = places_of c.args.places.now c.args.self.now.next c.of_words-next.result
    c.write_changed.new.bits (next_told (goal.at.returns-clause-places c).After-of_words-next)
    c.write_changed.ensures

pub returns-clause-image : goal.returns-clause-image
returns-clause-image c =
    let next = c.args.self.now.next in
    rw c.swap.ensures.x_after (record {
      count = c.args.self.now.next_places ∙ c.requires.image.count;
      exact = places_of c.args.places.now next c.of_words-next.result c.write_changed.new.bits
          (next_told (goal.at.returns-clause-image c).After-of_words-next) c.write_changed.ensures;
      order = c.requires.image.order;
    })
