-- Each kind of part is read in turn, and what was read before rules out the reasons that come
-- earlier.
use Rattle.std.specs.List.{AllZip}
use Rattle.sfm_lines.specs.TermLines.{IsNumberFor, IsElement}
use Rattle.sfm_lines.specs.ReadParts.{parts_of}
use Rattle.sfm_lines.proofs.TermReasons.{at-number, at-name}
use Rattle.sfm_lines.proofs.term_line.parts_term.Goals as goal
use Rattle.sfm_lines.proofs.term_line.parts_term.Goals.{In-Some, In-Some-2}

-- what has been read: these numbers
numbers : (c : In-Some) → AllZip (IsNumberFor c.args.instance.now.version c.args.word)
    (parts_of c.args.parts.now).numbers c.in-Some.values.items
numbers c = rw c.deref.ensures.value at rw c.in-Some.is at c.in_ok-values.ensures

-- elements at these places
elements : (c : In-Some-2) → AllZip (IsElement c.args.instance.now.names)
    (parts_of c.args.parts.now).elements c.in-Some-2.places.items
elements c = rw c.deref-2.ensures.value at rw c.in-Some-2.is at c.in_ok-places.ensures

pub returns-in_default-clause-refused : goal.returns-in_default-clause-refused
returns-in_default-clause-refused c = λ rest line shape is.
    at-number c.args.instance.now c.args.word rest line is _ shape
    (rw c.deref.ensures.value at rw c.in_default.is at c.in_ok-values.ensures)

pub returns-in_default-2-clause-refused : goal.returns-in_default-2-clause-refused
returns-in_default-2-clause-refused c = λ rest line shape is.
    let at = goal.at.returns-in_default-2-clause-refused c in
    at-name c.args.instance.now c.args.word rest line is _ shape _ (numbers at.In-Some)
    (rw c.deref-2.ensures.value at rw c.in_default-2.is at c.in_ok-places.ensures)

pub placed_term-requires-clause-numbers : goal.placed_term-requires-clause-numbers
placed_term-requires-clause-numbers c = (
  c.args.instance.now.version,
  rw c.deref-3.ensures.value (numbers (goal.at.placed_term-requires-clause-numbers c).In-Some),
)

pub placed_term-requires-clause-elements : goal.placed_term-requires-clause-elements
placed_term-requires-clause-elements c = (
  c.args.instance.now.names,
  c.requires.names,
  rw c.deref-4.ensures.value (elements
      (goal.at.placed_term-requires-clause-elements c).In-Some-2),
)

pub returns-clause-read : goal.returns-clause-read
returns-clause-read c = c.placed_term.ensures.read c.args.instance.now c.requires.names
    (rw c.deref-3.ensures.value (numbers (goal.at.returns-clause-read c).In-Some))
    (rw c.deref-4.ensures.value (elements (goal.at.returns-clause-read c).In-Some-2))

pub returns-clause-refused : goal.returns-clause-refused
returns-clause-refused c = c.placed_term.ensures.refused c.args.instance.now c.requires.names
    (rw c.deref-3.ensures.value (numbers (goal.at.returns-clause-refused c).In-Some))
    (rw c.deref-4.ensures.value (elements (goal.at.returns-clause-refused c).In-Some-2))
