-- The line has no reason but perhaps that an element stands twice, and the places tell whether it
-- has that one.
use Rattle.std.proofs.Common.{◌≡◌, ℕ, List, length, map, take, to_z, of_z, refl, ap, ◌∙◌, arith}
use Rattle.std.specs.Int.{w128}
use Rattle.std.specs.List.{AllZip}
use Rattle.std.proofs.lemmas.Bool.{false≢true}
use Rattle.std.proofs.lemmas.List.{length-map}
use Rattle.sfm_lines.specs.declared.labels.Labels.{Labels}
use Rattle.sfm_lines.specs.LabelTerms.{numbers_of}
use Rattle.sfm_lines.specs.Lines.{texts_of}
use Rattle.sfm_lines.specs.TermLines.{IsElement, StandsTwice}
use Rattle.sfm_lines.specs.ReadParts.{label_lists_of, parts_of}
use Rattle.sfm_lines.specs.declared.word.TermWord.TheVariants.{RankWord}
use Rattle.sfm_lines.proofs.Numbers.{given-number, kept-number}
use Rattle.sfm_passes.specs.Passes.{AreCutEntries}
use Rattle.sfm_passes.proofs.EntryTerms.{entry-known, entry-count, entry-few, entry-places, entry-twice, entry-elements, entry-read}
use Rattle.sfm_passes.proofs.entry_line.cut_term.Goals as goal
use Rattle.sfm_passes.proofs.entry_line.cut_term.Goals.{In_ok-places, After-deref-3}

-- the places of the elements, of which none stands twice
known : (c : In_ok-places) (colon : List ℕ) (tokens : List (List ℕ))
    (h : AreCutEntries c.args.instance.now c.args.number.now colon tokens
    (parts_of c.args.parts.now)) → AllZip (IsElement c.args.instance.now.names)
    (map (λ (entry : List ℕ × List (List ℕ)). entry.0) h.entries) c.in_ok-places.places.items
known c colon tokens h = rw (c.deref.ensures.value, h.elements_are) at c.in_ok-places.ensures

once : (c : After-deref-3) → StandsTwice c.in_ok-places.places.items → ⊥
once c = λ t. false≢true (c.if-has_place_twice.ensures.1 (rw c.deref-2.ensures.value t))

pub known_number-w-requires : goal.known_number-w-requires
known_number-w-requires c = c.requires.cut.2.good.good.is_number

pub known_places-requires : goal.known_places-requires
known_places-requires c = let h = c.requires.cut.2 in rw (c.deref.ensures.value, h.elements_are)
    (entry-known c.args.instance.now _ _ _ h.some c.requires.names h.good _ h.each)

pub returns-then-has_place_twice : goal.returns-then-has_place_twice
returns-then-has_place_twice c = λ colon tokens h.
    let at = goal.at.returns-then-has_place_twice c in
    let twice : StandsTwice c.in_ok-places.places.items = rw c.deref-2.ensures.value at
    (c.if-has_place_twice.ensures.0 refl) in
    entry-twice c.args.instance.now _ _ _ h.some c.requires.names h.good _ h.each _
    c.known_number-w.ensures _ (known at.In_ok-places colon tokens h) twice

pub transversal-requires-clause-few : goal.transversal-requires-clause-few
transversal-requires-clause-few c =
    let (colon, tokens, h) = c.requires.cut in
    rw (c.deref-4.ensures.value, h.labels_are)
    (entry-few c.args.instance.now _ _ _ h.some c.requires.names h.good _ h.each (length tokens)
    refl)

pub transversal-requires-clause-each : goal.transversal-requires-clause-each
transversal-requires-clause-each c =
    let at = goal.at.transversal-requires-clause-each c in
    let (colon, tokens, h) = c.requires.cut in
    let count = entry-count c.args.instance.now _ _ _ h.some c.requires.names h.good h.entries
    h.each in
    let places = entry-places c.args.instance.now _ _ _ h.some c.requires.names h.good h.entries
    h.each _ c.known_number-w.ensures _ (known at.In_ok-places colon tokens h) in
    omega (
      arith,
      ap length c.deref-4.ensures.value,
      ap length c.deref-3.ensures.value,
      ap length h.labels_are,
      length-map c.args.parts.now.labels.items
          (λ (t : Labels). texts_of t.texts.items),
      length-map h.entries (λ (entry : List ℕ × List (List ℕ)). take (length tokens) entry.1),
      count,
      places,
    )

pub transversal-requires-clause-elements : goal.transversal-requires-clause-elements
transversal-requires-clause-elements c =
    let at = goal.at.transversal-requires-clause-elements c in
    let (colon, tokens, h) = c.requires.cut in
    rw (c.deref-3.ensures.value) (entry-elements c.args.instance.now _ _ _ h.some c.requires.names
    h.good _ h.each _ c.known_number-w.ensures _ (known at.In_ok-places colon tokens h)
    (once at.After-deref-3))

pub transversal-requires-clause-given : goal.transversal-requires-clause-given
transversal-requires-clause-given c =
    rw (kept-number c.args.instance.now.version RankWord c.args.number.now c.known_number-w.result
    c.known_number-w.ensures)
    (given-number c.args.instance.now.version RankWord c.args.number.now c.known_number-w.result
    c.known_number-w.ensures)

pub returns : goal.returns
returns c = λ colon tokens h.
    let at = goal.at.returns c in
    let n = c.known_number-w.ensures in
    let fits : to_z w128 (of_z w128 c.known_number-w.result) ≡ c.known_number-w.result = kept-number
    c.args.instance.now.version RankWord c.args.number.now c.known_number-w.result n in
    let entries_are : c.in_ok-term.term.entries ≡ numbers_of
    (map (λ (entry : List ℕ × List (List ℕ)). take (length tokens) entry.1) h.entries) =
    c.in_ok-term.ensures.entries
    ∙ ap numbers_of (ap (λ (l : List Labels). label_lists_of l) c.deref-4.ensures.value
    ∙ h.labels_are) in
    entry-read c.args.instance.now _ _ _ h.some c.requires.names h.good _ h.each _ n _
    (known at.In_ok-places colon tokens h) (once at.After-deref-3) c.in_ok-term.term
    (length tokens) refl (c.in_ok-term.ensures.places ∙ c.deref-3.ensures.value)
    (c.in_ok-term.ensures.number ∙ fits) entries_are
