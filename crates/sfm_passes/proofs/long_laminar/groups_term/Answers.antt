-- The line has no reason before the law, and the groups of its pieces tell whether it has that one.
use Rattle.std.proofs.Common.{◌≡◌, ℕ, List, Bor, length, to_z, of_z, ap, ◌∙◌, arith}
use Rattle.std.specs.Int.{w128}
use Rattle.std.specs.List.{AllZip}
use Rattle.std.proofs.lemmas.List.{length-map}
use Rattle.sfm_lines.specs.Lines.{texts_of, tokens_of}
use Rattle.sfm_lines.specs.TermLines.{IsElement}
use Rattle.sfm_passes.specs.GroupPasses.{AreGoodGroups, pieces_left}
use Rattle.sfm_lines.specs.declared.word.TermWord.TheVariants.{RankWord}
use Rattle.sfm_lines.proofs.Numbers.{given-number, kept-number}
use Rattle.sfm_lines.proofs.Matches.{length-AllZip}
use Rattle.sfm_passes.proofs.GroupTerms.{elements-fit, term-law, term-read}
use Rattle.sfm_passes.proofs.long_laminar.groups_term.Goals as goal
use Rattle.sfm_passes.proofs.long_laminar.groups_term.Goals.{After-known_number-w, In_ok-places, After-deref-3}

good : (c : After-known_number-w)
    → AreGoodGroups c.args.instance.now c.args.number.now (tokens_of c.args.elements.now)
    (pieces_left c.args.groups)
good c = rw c.in_default.is at c.in_ok-fault.ensures

-- the places of the elements
known : (c : In_ok-places) → AllZip (IsElement c.args.instance.now.names)
    (tokens_of c.args.elements.now) c.in_ok-places.places.items
known c = rw (c.deref.ensures.value, c.in_ok-elements.ensures) at c.in_ok-places.ensures

-- as the groups are told of them
texts : (c : After-deref-3) → texts_of c.deref-3.result.now ≡ tokens_of c.args.elements.now
texts c = ap (λ (l : List (Bor (List ℕ))). texts_of l) c.deref-3.ensures.value
    ∙ c.in_ok-elements.ensures

pub known_number-w-requires : goal.known_number-w-requires
known_number-w-requires c = let g : AreGoodGroups c.args.instance.now c.args.number.now
    (tokens_of c.args.elements.now) (pieces_left c.args.groups) =
    rw c.in_default.is at c.in_ok-fault.ensures in g.is_number

pub known_places-requires : goal.known_places-requires
known_places-requires c = rw (c.deref.ensures.value, c.in_ok-elements.ensures)
    (good (goal.at.known_places-requires c).After-known_number-w).known

pub pieces_term-requires-clause-elements : goal.pieces_term-requires-clause-elements
pieces_term-requires-clause-elements c =
    let at = goal.at.pieces_term-requires-clause-elements c in
    rw (c.deref-2.ensures.value) (elements-fit c.args.instance.now _ _ _
    (good at.After-known_number-w) c.requires _ (known at.In_ok-places))

pub pieces_term-requires-clause-named : goal.pieces_term-requires-clause-named
pieces_term-requires-clause-named c =
    let at = goal.at.pieces_term-requires-clause-named c in
    omega (
      arith,
      ap length c.deref-2.ensures.value,
      length-AllZip _ _ _ (known at.In_ok-places),
      ap length (texts at.After-deref-3),
      length-map c.deref-3.result.now (λ (t : Bor (List ℕ)). t.now),
    )

pub pieces_term-requires-clause-given : goal.pieces_term-requires-clause-given
pieces_term-requires-clause-given c =
    rw (kept-number c.args.instance.now.version RankWord c.args.number.now c.known_number-w.result
    c.known_number-w.ensures)
    (given-number c.args.instance.now.version RankWord c.args.number.now c.known_number-w.result
    c.known_number-w.ensures)

pub pieces_term-requires-clause-whole : goal.pieces_term-requires-clause-whole
pieces_term-requires-clause-whole c =
    (good (goal.at.pieces_term-requires-clause-whole c).After-known_number-w).whole

pub pieces_term-requires-clause-caps : goal.pieces_term-requires-clause-caps
pieces_term-requires-clause-caps c =
    (good (goal.at.pieces_term-requires-clause-caps c).After-known_number-w).caps

pub returns-in-Some-2 : goal.returns-in-Some-2
returns-in-Some-2 c = λ behind is.
    let at = goal.at.returns-in-Some-2 c in
    let n = c.known_number-w.ensures in
    let fits : to_z w128 (of_z w128 c.known_number-w.result) ≡ c.known_number-w.result = kept-number
    c.args.instance.now.version RankWord c.args.number.now c.known_number-w.result n in
    let (all, each, same_places, same_w, same_groups, none) = rw (texts at.After-deref-3) at
    rw c.in-Some-2.is at c.in_ok-laminar.ensures in
    term-read c.args.instance.now _ _ behind _ is (good at.After-known_number-w) c.requires _ n _
    (known at.In_ok-places) all each c.in-Some-2.laminar (same_places ∙ c.deref-2.ensures.value)
    (same_w ∙ fits) same_groups none

pub returns : goal.returns
returns c = λ behind is line of.
    let at = goal.at.returns c in
    let (all, each, cross) = rw (texts at.After-deref-3) at rw c.in-None.is at
    c.in_ok-laminar.ensures in
    term-law c.args.instance.now _ _ behind _ is (good at.After-known_number-w) c.requires _
    c.known_number-w.ensures _ (known at.In_ok-places) all each cross line of
