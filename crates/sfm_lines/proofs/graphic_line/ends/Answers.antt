-- Each edge is that of its element, by the places of its ends among the different ones.
use Rattle.std.proofs.Common.{◌≡◌, List, [], ◌∷◌, ℕ, length, get_or, map, refl, ap, sym, ◌∙◌, Bor, arith}
use Rattle.std.proofs.lemmas.List.{map-append, length-map}
use Rattle.sfm_graphic.specs.Ends.{edge_of, edges_of}
use Rattle.sfm_lines.specs.Lines.{texts_of}
use Rattle.sfm_lines.specs.LabelTerms.{edge_between}
use Rattle.sfm_lines.specs.CutParts.{place_among}
use Rattle.sfm_lines.specs.declared.labels.Labels.{Labels}
use Rattle.sfm_lines.proofs.Repeats.{text-at}
use Rattle.sfm_lines.proofs.Steps.{maps-step, maps-end, All-here}
use Rattle.sfm_lines.proofs.graphic_line.ends.Goals as goal

-- the ends of an edge with two of them
two-ends : (p : List ℕ → ℕ) (texts : List (List ℕ)) (a b : ℕ) → length texts ≡ 2
    → a ≡ p (get_or texts 0 []) → b ≡ p (get_or texts 1 [])
    → record { tail = a; head = b } ≡ edge_between (map p texts)
two-ends p [] a b two h g = absurd (omega (arith, two))
two-ends p (x ∷ []) a b two h g = absurd (omega (arith, two))
two-ends p (x ∷ y ∷ []) a b two h g = rw (h, g) refl
two-ends p (x ∷ y ∷ z ∷ texts) a b two h g = absurd (omega (arith, two))

pub loop-element-preserved : goal.loop-element-preserved
loop-element-preserved c =
    let p = place_among (texts_of c.args.names.now.keys) in
    let element : Labels → List (List ℕ) = λ t. texts_of t.texts.items in
    let i = c.loop-element.element-index in
    let two = All-here (λ texts. length texts ≡ 2) element c.args.labels.now i _
    c.loop-element-test.true c.requires.two in
    let now : Bor (List ℕ) → List ℕ = λ t. t.now in
    let count : length c.element-item.result.texts.items ≡ 2 = sym
    (length-map c.element-item.result.texts.items now)
    ∙ (ap (λ (t : Labels). length (element t)) c.element-item.is ∙ two) in
    maps-step element (λ (texts : List (List ℕ)). edge_between (map p texts)) c.args.labels.now i _
    (edges_of c.loop-element.ends.items) (edges_of c.push.new.self.items) _
    c.loop-element-test.true c.loop-element.invariant
    (ap edges_of c.in_ok-push.ensures.items ∙ map-append edge_of c.loop-element.ends.items _)
    (two-ends p _ _ _ two
    (c.number_of-tail.ensures.number
    ∙ ap p (ap now c.index.ensures
    ∙ (sym (text-at c.element-item.result.texts.items 0 _ (omega (arith, count)))
    ∙ ap (λ (t : Labels). get_or (element t) 0 []) c.element-item.is)))
    (c.number_of-head.ensures.number
    ∙ ap p (ap now c.index-in-loop-element.ensures
    ∙ (sym (text-at c.element-item.result.texts.items 1 _ (omega (arith, count)))
    ∙ ap (λ (t : Labels). get_or (element t) 1 []) c.element-item.is))))

pub returns : goal.returns
returns c =
    let p = place_among (texts_of c.args.names.now.keys) in
    let element : Labels → List (List ℕ) = λ t. texts_of t.texts.items in
    maps-end element (λ (texts : List (List ℕ)). edge_between (map p texts)) c.args.labels.now
    c.loop-element.element-index (edges_of c.loop-element.ends.items) c.loop-element-test.false
    c.loop-element.invariant

pub index-requires : goal.index-requires
index-requires c =
    let element : Labels → List (List ℕ) = λ t. texts_of t.texts.items in
    let two = All-here (λ texts. length texts ≡ 2) element c.args.labels.now
    c.loop-element.element-index _ c.loop-element-test.true c.requires.two in
    let count : length c.element-item.result.texts.items ≡ 2 = sym
    (length-map c.element-item.result.texts.items (λ (t : Bor (List ℕ)). t.now))
    ∙ (ap (λ (t : Labels). length (element t)) c.element-item.is ∙ two) in
    omega (arith, count)

pub index-requires-in-loop-element : goal.index-requires-in-loop-element
index-requires-in-loop-element c =
    let element : Labels → List (List ℕ) = λ t. texts_of t.texts.items in
    let two = All-here (λ texts. length texts ≡ 2) element c.args.labels.now
    c.loop-element.element-index _ c.loop-element-test.true c.requires.two in
    let count : length c.element-item.result.texts.items ≡ 2 = sym
    (length-map c.element-item.result.texts.items (λ (t : Bor (List ℕ)). t.now))
    ∙ (ap (λ (t : Labels). length (element t)) c.element-item.is ∙ two) in
    omega (arith, count)
