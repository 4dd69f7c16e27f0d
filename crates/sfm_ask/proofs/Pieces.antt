-- What is told, as a text that is put together from its pieces.
use Rattle.std.proofs.Common.{◌≡◌, ℕ, Bool, List, [], ◌∷◌, ◌++◌, length, codes, ℤ, inl, inr, sym, ap, ◌∙◌, append_assoc, arith}
use Rattle.std.specs.Fmt.{signed_decimal}
use Rattle.std.proofs.lemmas.Int.{ints}
use Rattle.sfm_spec.specs.Families.{Meaning}
use Rattle.sfm_cert.specs.Answer.{listed, text_of}
use Rattle.sfm_side.specs.Pins.{PinData}
use Rattle.sfm_ask.specs.declared.asking.Asked.{Asked}
use Rattle.sfm_ask.specs.declared.asking.Asked.TheVariants.{Best, Nothing}
use Rattle.sfm_ask.specs.Pinned.{ArePinned, IsAnswered}
use Rattle.sfm_ask.specs.Asking.{IsAskedOf, IsPinnedMinimum, text_of_asked}

-- a space and a name behind the names so far
pub name-more : (old before pushed after so_far name all : List ℕ) → before ≡ old ++ so_far
    → pushed ≡ before ++ 32 ∷ [] → after ≡ pushed ++ name → all ≡ so_far ++ (32 ∷ name)
    → after ≡ old ++ all
name-more old before pushed after so_far name all here space named more =
    named ∙ (ap (λ x. x ++ name) (space ∙ ap (λ x. x ++ 32 ∷ []) here)
    ∙ (append_assoc (old ++ so_far) (32 ∷ []) name
    ∙ (append_assoc old so_far (32 ∷ name) ∙ ap (λ x. old ++ x) (sym more))))

-- the extreme sets of a minimum
are_pinned : (terms : List Meaning) (n : ℕ) (inside outside : List Bool) (value : ℤ)
    (least greatest : List Bool)
    → IsPinnedMinimum terms n inside outside value least greatest
    → ArePinned terms n inside outside least greatest
are_pinned terms n inside outside value least greatest h = record {
  low = h.low.pinned;
  high = h.high.pinned;
  minimum = h.low.least;
  same =
      let a = h.low.least greatest h.high.pinned in
      let b = h.high.least least h.low.pinned in
      omega (arith, ints, a, b);
  between = λ t p e.
      h.between t (record {
        pinned = p;
        least = λ u q. let a = h.low.least u q in omega (arith, ints, a, e);
      });
}

-- what is told of pins, written, is the text that is due
pub answered : (names : List (List ℕ)) (meant : List Meaning) (pins : PinData) (asked : Asked)
    (written : List ℕ) → IsAskedOf meant (length names) pins asked
    → written ≡ text_of_asked names asked → IsAnswered names meant pins written
answered names meant pins (Best best) written told text =
    inr (
      best.least,
      best.greatest,
      are_pinned meant (length names) pins.inside pins.outside best.value best.least best.greatest
          told,
      text ∙ ap (λ v. text_of (codes "pinned 1" ∷ (codes "minimum " ++ signed_decimal v)
          ∷ (codes "least" ++ listed names best.least)
          ∷ (codes "greatest" ++ listed names best.greatest) ∷ codes "end" ∷ [])) told.value_is,
    )
answered names meant pins Nothing written told text = inl (told, text)
