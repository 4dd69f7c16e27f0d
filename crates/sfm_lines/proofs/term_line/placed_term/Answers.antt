-- What has been read rules out the reasons that come before those of groups, labels and places, and
-- these rule out all but the law.
use Rattle.std.proofs.Common.{refl}
use Rattle.sfm_lines.specs.Words.{BreaksLaw}
use Rattle.sfm_lines.specs.ReadParts.{ArePartsGood, IsTermOf, parts_of}
use Rattle.sfm_lines.proofs.Matches.{length-AllZip}
use Rattle.sfm_lines.proofs.TermReasons.{slots-other, at-parts, at-law, none-total, elements-placed}
use Rattle.sfm_lines.proofs.term_line.placed_term.Goals as goal

pub returns-in-Some-clause-refused : goal.returns-in-Some-clause-refused
returns-in-Some-clause-refused c = λ instance named numbers elements rest line shape is.
    at-parts instance c.args.word rest line is _ shape _ numbers _ named elements _
    c.in-Some.ensures

pub make_term-requires : goal.make_term-requires
make_term-requires c =
    let (names, named, elements) = c.requires.elements in
    let good : ArePartsGood (parts_of c.args.parts.now) c.args.places.now = c.in_default.ensures in
    record {
      read = record {
        version = c.requires.numbers.0;
        tokens = c.requires.shape.0;
        shape = c.requires.shape.1;
        numbers = c.requires.numbers.1;
        elements = length-AllZip _ _ _ elements;
        placed = elements-placed _ _ _ named.few elements good.once;
      };
      other = c.requires.other;
      few = c.requires.few;
    }

pub returns-in-None-clause-refused : goal.returns-in-None-clause-refused
returns-in-None-clause-refused c = λ instance named numbers elements rest line shape is.
    let good : ArePartsGood (parts_of c.args.parts.now) c.args.places.now = c.in_default.ensures in
    let breaks : BreaksLaw c.args.word (parts_of c.args.parts.now)
    c.args.values.now = rw c.in-None.is at c.in_ok-term.ensures in
    at-law instance c.args.word rest line is _ shape _ numbers _ named elements good.named.members
    good.named.labels good.once good.members_once (slots-other _ _ c.requires.other) breaks

pub returns-in-Some-2-clause-read : goal.returns-in-Some-2-clause-read
returns-in-Some-2-clause-read c = λ instance named numbers elements rest shape.
    let good : ArePartsGood (parts_of c.args.parts.now) c.args.places.now = c.in_default.ensures in
    let parts = parts_of c.args.parts.now in
    let values = c.args.values.now in
    let places = c.args.places.now in
    let made : IsTermOf c.args.word parts values places c.in-Some-2.term
    × (BreaksLaw c.args.word parts values → ⊥) = rw c.in-Some-2.is at c.in_ok-term.ensures in
    record {
      stands = record {
        word = c.args.word;
        rest = rest;
        parts = parts;
        values = values;
        places = places;
        shaped = (refl, shape);
        numbers = numbers;
        elements = elements;
        same_places = made.0.same_places;
        made = made.0.made;
      };
      good = λ line reason is. none-total instance c.args.word rest line is _ shape _ numbers _
          named elements good.named.members good.named.labels good.once good.members_once
          (slots-other _ _ c.requires.other) made.1 reason;
    }
