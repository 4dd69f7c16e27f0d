use Rattle.std.proofs.Common.{◌≡◌, ◌↔◌, ℕ, refl, sym, ◌∙◌, arith}
use Rattle.sfm_base.proofs.Elements.{placed_few}
use Rattle.sfm_spec.specs.Sets.{Has}
use Rattle.sfm_reach.specs.Bits.{bit_in}
use Rattle.sfm_reach.proofs.Imaging.{no_images, places_of}
use Rattle.sfm_reach.proofs.InOrder.{four_words, has_by_words, told_by_words}
use Rattle.sfm_reach.proofs.Placing.{has_place}
use Rattle.sfm_reach.proofs.reach.placed_bits.Goals.{After-of_words-own}
use Rattle.sfm_reach.proofs.reach.placed_bits.Goals as goal

told : (c : After-of_words-own) → (e : ℕ) → (bit_in c.of_words-own.result e ≡ 1)
    ↔ Has c.args.part.now e
told c = told_by_words c.args.part.now c.words.result.now c.of_words-own.result c.words.ensures.set
    c.words.ensures.words c.of_words-own.ensures

pub of_words-own-requires : goal.of_words-own-requires
of_words-own-requires c = four_words c.args.part.now c.words.result.now c.words.ensures.words
    (omega (arith, placed_few 256 c.args.places.now c.requires.placed, c.requires.part))

pub returns-then-are_in_order : goal.returns-then-are_in_order
returns-then-are_in_order c =
    has_by_words c.args.places.now c.args.part.now c.of_words-own.result
    (c.if-are_in_order.ensures.0 refl) c.requires.part
    (told (goal.at.returns-then-are_in_order c).After-of_words-own)

pub write_changed-requires-clause-inside : goal.write_changed-requires-clause-inside
write_changed-requires-clause-inside c =
    let at = goal.at.write_changed-requires-clause-inside c in
    let places = c.requires.part in
    λ v one. let l = has_place c.args.part.now v
    ((told at.After-of_words-own v).0 one) in omega (arith, l, places)

pub write_changed-requires-clause-before : goal.write_changed-requires-clause-before
write_changed-requires-clause-before c =
    let none = c.no_bits-bits.ensures in (
      c.no_bits-bits.result,
      no_images c.args.places.now c.no_bits-bits.result c.no_bits-bits.result
          none none,
      λ v out. none v ∙ sym out,
    )

pub returns : goal.returns
returns c = places_of c.args.places.now c.args.part.now c.of_words-own.result
    c.write_changed.new.bits (told (goal.at.returns c).After-of_words-own) c.write_changed.ensures
