-- Names that are put one after another: which set they make, and which element stands twice.
use Rattle.std.proofs.Common.{◌≡◌, ◌≢◌, ◌⊎◌, inl, inr, ℕ, zero, suc, ◌<◌, Bool, true, false, List, [], ◌∷◌, length, get_or, set, slice_get, Some, Contains, AllPairs, refl, sym, ap, ◌∙◌, arith}
use Rattle.std.specs.List.{Any}
use Rattle.std.proofs.lemmas.Option.{slice_get_within, same_Some}
use Rattle.std.proofs.lemmas.List.{get_or-set_same, get_or-set_other, length-set}
use Rattle.sfm_spec.specs.Sets.{Has}
use Rattle.sfm_lines.specs.TermLines.{StandsTwice}
use Rattle.sfm_lines.proofs.Repeats.{twice-at, twice-more}
use Rattle.sfm_lines.proofs.TermReasons.{place-same}
use Rattle.sfm_side.specs.Pins.{IsWithNames}
use Rattle.sfm_side.specs.PinLines.{PutsNames, PutsAgain}
use Rattle.sfm_side.proofs.Putting.{same-or-other, twice-cons}

-- a place put into a set
put-here : (s : List Bool) (e : ℕ) → e < length s → Has (set s e true) e
put-here s e lt = get_or-set_same s e true false lt

put-other : (s : List Bool) (e d : ℕ) → (d ≢ e) → Has (set s e true) d → Has s d
put-other s e d other h = sym (get_or-set_other s e d true false other) ∙ h

put-stays : (s : List Bool) (e d : ℕ) → e < length s → Has s d → Has (set s e true) d
put-stays s e d lt h = at (same-or-other e d)
  where
    at : (d ≡ e) ⊎ (d ≢ e) → Has (set s e true) d
    at (inl same) = ap (λ i. get_or (set s e true) i false) same ∙ put-here s e lt
    at (inr other) = get_or-set_other s e d true false other ∙ h

-- a name among the texts is that of an element that is in a set
abbrev pub IsIn : (names : List (List ℕ)) (to other : List Bool) (texts : List (List ℕ)) → Type 0
IsIn names to other texts = Any
    (λ text. (e : ℕ) × (slice_get names e ≡ Some text) × (Has to e ⊎ Has other e)) texts

module _ (names : List (List ℕ)) (distinct : AllPairs (λ a b. a ≢ b) names)
    (other : List Bool) where
  grown : (to : List Bool) (e : ℕ) → length to ≡ length names
      → length (set to e true) ≡ length names
  grown to e n = length-set to e true ∙ n

  within : (to : List Bool) (e : ℕ) (text : List ℕ) → length to ≡ length names
      → slice_get names e ≡ Some text → e < length to
  within to e text n of = omega (arith, n, slice_get_within names e text of)

  -- names that are put make the set with their elements
  pub puts-set : (to : List Bool) (texts : List (List ℕ)) (after : List Bool)
      → length to ≡ length names → PutsNames names to other texts after
      → IsWithNames names texts to after
  puts-set to [] after n puts = record {
    places = ap length puts;
    exact = λ e. (λ h. inl (ap (λ (s : List Bool). get_or s e false) (sym puts) ∙ h), λ h. at e h);
  }
    where
      at : (e : ℕ)
          → Has to e ⊎ ((text : List ℕ) × (slice_get names e ≡ Some text) × Contains [] text)
          → Has after e
      at e (inl h) = ap (λ (s : List Bool). get_or s e false) puts ∙ h
      at e (inr (text, of, (k, lt, here))) = absurd (omega (arith, lt))
  puts-set to (name ∷ texts) after n (f, of, new, apart, more) =
      let rest = puts-set (set to f true) texts after (grown to f n) more in
      record {
        places = rest.places ∙ length-set to f true;
        exact = λ e. (λ h. forth e ((rest.exact e).0 h), λ h. (rest.exact e).1 (back e h));
      }
    where
      forth : (e : ℕ) → Has (set to f true) e ⊎ ((text : List ℕ) ×
          (slice_get names e ≡ Some text) × Contains texts text)
          → Has to e ⊎ ((text : List ℕ) × (slice_get names e ≡ Some text)
          × Contains (name ∷ texts) text)
      forth e (inr (text, is, (k, lt, here))) = inr (text, is, (suc k, omega (arith, lt), here))
      forth e (inl h) = at (same-or-other f e)
        where
          at : (e ≡ f) ⊎ (e ≢ f) → Has to e ⊎ ((text : List ℕ) ×
              (slice_get names e ≡ Some text) × Contains (name ∷ texts) text)
          at (inl same) = inr (
            name,
            ap (λ i. slice_get names i) same ∙ of,
            (zero, omega arith, refl),
          )
          at (inr apart) = inl (put-other to f e apart h)

      back : (e : ℕ) → Has to e ⊎ ((text : List ℕ) ×
          (slice_get names e ≡ Some text) × Contains (name ∷ texts) text)
          → Has (set to f true) e ⊎ ((text : List ℕ) × (slice_get names e ≡ Some text)
          × Contains texts text)
      back e (inl h) = inl (put-stays to f e (within to f name n of) h)
      back e (inr (text, is, (zero, lt, here))) =
          let same : e ≡ f = place-same names distinct name e f (is ∙ ap Some (sym here)) of in
          inl (ap (λ i. get_or (set to f true) i false) same
          ∙ put-here to f (within to f name n of))
      back e (inr (text, is, (suc k, lt, here))) = inr (text, is, (k, omega (arith, lt), here))

  -- none of them was in a set
  pub puts-fresh : (to : List Bool) (texts : List (List ℕ)) (after : List Bool)
      → length to ≡ length names → PutsNames names to other texts after → IsIn names to other texts
      → ⊥
  puts-fresh to [] after n puts (k, text, lt, at, more) = omega (arith, lt)
  puts-fresh to (name ∷ texts) after n (f, of, new, apart, more) (zero, text, lt, at, (e, is, h)) =
      why h
    where
      same : e ≡ f
      same = place-same names distinct name e f (is ∙ ap Some (sym at)) of

      why : Has to e ⊎ Has other e → ⊥
      why (inl h) = new (ap (λ i. get_or to i false) (sym same) ∙ h)
      why (inr h) = apart (ap (λ i. get_or other i false) (sym same) ∙ h)
  puts-fresh to (name ∷ texts) after n (f, of, new, apart, more) (suc k, text, lt, at, (e, is, h)) =
      puts-fresh (set to f true) texts after (grown to f n) more
      (k, text, omega (arith, lt), at, (e, is, stays h))
    where
      stays : Has to e ⊎ Has other e → Has (set to f true) e ⊎ Has other e
      stays (inl h) = inl (put-stays to f e (within to f name n of) h)
      stays (inr h) = inr h

  -- and none stands twice
  pub puts-single : (to : List Bool) (texts : List (List ℕ)) (after : List Bool)
      → length to ≡ length names → PutsNames names to other texts after → StandsTwice texts → ⊥
  puts-single to [] after n puts (i, j, lt, inside, same) = omega (arith, inside)
  puts-single to (name ∷ texts) after n (f, of, new, apart, more) twice =
      at (puts-single (set to f true) texts after (grown to f n) more) (twice-cons name texts twice)
    where
      at : (StandsTwice texts → ⊥) → Contains texts name ⊎ StandsTwice texts → ⊥
      at once (inl (k, lt, here)) = puts-fresh (set to f true) texts after (grown to f n) more
          (k, name, lt, here, (f, of, inl (put-here to f (within to f name n of))))
      at once (inr again) = once again

  -- names of which one is of an element that is in a set: it was, or it stands twice
  pub again-parts : (to : List Bool) (texts : List (List ℕ)) → PutsAgain names to other texts
      → StandsTwice texts ⊎ IsIn names to other texts
  again-parts to [] puts = absurd puts
  again-parts to (name ∷ texts) (f, of, inl there) =
      inr (zero, name, omega arith, refl, (f, of, there))
  again-parts to (name ∷ texts) (f, of, inr (new, apart, more)) =
      at (again-parts (set to f true) texts more)
    where
      at : StandsTwice texts ⊎ IsIn names (set to f true) other texts
          → StandsTwice (name ∷ texts) ⊎ IsIn names to other (name ∷ texts)
      at (inl twice) = inl (twice-more name texts twice)
      at (inr (k, text, lt, here, (e, is, h))) = why h
        where
          place : Has (set to f true) e → (e ≡ f) ⊎ (e ≢ f)
              → StandsTwice (name ∷ texts) ⊎ IsIn names to other (name ∷ texts)
          place h (inl same) =
              let one : text ≡ name = same_Some text name
              (sym is ∙ (ap (λ i. slice_get names i) same ∙ of)) in
              inl (twice-at (name ∷ texts) zero (suc k) text (omega arith) (omega (arith, lt))
              (sym one ∙ sym here))
          place h (inr apart) = inr (
            suc k,
            text,
            omega (arith, lt),
            here,
            (e, is, inl (put-other to f e apart h)),
          )

          why : Has (set to f true) e ⊎ Has other e
              → StandsTwice (name ∷ texts) ⊎ IsIn names to other (name ∷ texts)
          why (inl h) = place h (same-or-other f e)
          why (inr h) = inr (suc k, text, omega (arith, lt), here, (e, is, inr h))
