-- A line of a text of pins: its first reason, or what it says, from what the passes over its tokens
-- tell.
use Rattle.std.proofs.Common.{◌≡◌, ◌≢◌, ◌⊎◌, inl, inr, ℕ, ◌<◌, ◌≤◌, Bool, false, List, [], ◌∷◌, length, get_or, slice_get, codes, Some, Contains, refl, sym, ap, ◌∙◌, arith}
use Rattle.std.specs.List.{All, Any}
use Rattle.std.proofs.lemmas.Option.{slice_get-get_or, slice_get_within, get_or_from_slice_get}
use Rattle.std.proofs.lemmas.List.{length-replicate}
use Rattle.std.proofs.lemmas.List.Elements.{All-get_or}
use Rattle.sfm_spec.specs.Names.{IsName}
use Rattle.sfm_spec.specs.Sets.{Has}
use Rattle.sfm_kind.specs.Names.{AreElementNames}
use Rattle.sfm_lines.specs.declared.reason.Reason.{Reason}
use Rattle.sfm_lines.specs.declared.reason.Reason.TheVariants.{Long, Bytes, Word, Shape, Name, Twice, Short}
use Rattle.sfm_lines.specs.Parts.{IsSeparator}
use Rattle.sfm_lines.specs.TermLines.{StandsTwice}
use Rattle.sfm_lines.specs.Reading.{reason_order}
use Rattle.sfm_lines.specs.ReadParts.{IsKnown}
use Rattle.sfm_text.specs.Language.{IsFirstOf}
use Rattle.sfm_text.proofs.Orders.{first_listed}
use Rattle.sfm_side.specs.declared.pins.Pin.{Pin}
use Rattle.sfm_side.specs.declared.pins.Pin.TheVariants.{In, Out}
use Rattle.sfm_side.specs.Frame.{IsFramed, IsSaid}
use Rattle.sfm_side.specs.Pins.{PinData, HasNames, IsPinLine, IsWithNames, HasPin, pins_form}
use Rattle.sfm_side.specs.PinLines.{pin_word, to_of, other_of, AreOver, PutsNames, PutsAgain, PutsPins, AreNamesGood, IsPinnedBefore}
use Rattle.sfm_side.proofs.Pinning.{puts-set, puts-fresh, puts-single, again-parts}

-- a form of pins tells nothing that the frame tells, and of the end no more than that it is no line
-- of pins
pub pins-framed : (names : List (List ℕ)) → IsFramed (pins_form names)
pins-framed names = record { plain = plain; ends = ends } where
  plain : (p : PinData) (tokens : List (List ℕ)) (reason : Reason) → HasPin names p tokens reason
      → (reason ≢ Long) × (reason ≢ Bytes) × (reason ≢ Short)
  plain p tokens Long h = absurd h
  plain p tokens Bytes h = absurd h
  plain p tokens Short h = absurd h
  plain p tokens _ h = (λ e. absurd (cc), λ e. absurd (cc), λ e. absurd (cc))

  no-line : (texts : List (List ℕ)) → IsPinLine (codes "end" ∷ []) texts → ⊥
  no-line texts (inl (e, some, unmarked)) =
      let word : codes "end" ≡ codes "in" = cc in omega (arith, ap length word)
  no-line texts (inr (e, some, unmarked)) = let word : [] ≡ texts = cc in some (sym word)

  ends : (p : PinData) (reason : Reason) → HasPin names p (codes "end" ∷ []) reason
      → reason_order reason ≤ 3
  ends p Word h = omega arith
  ends p Shape h = omega arith
  ends p Name (texts, line, more) = absurd (no-line texts line)
  ends p Twice (texts, line, more) = absurd (no-line texts line)
  ends p _ h = absurd h

-- before the first line nothing is pinned
pub nothing-over : (names : List (List ℕ)) → AreOver (length names) (pins_form names).nothing
nothing-over names = record {
  inside = length-replicate (length names) false;
  outside = length-replicate (length names) false;
}

-- another first token
pub pin-other : (names : List (List ℕ)) (p : PinData) (tokens : List (List ℕ))
    → ((pin : Pin) (rest : List (List ℕ)) → tokens ≢ pin_word pin ∷ rest)
    → IsFirstOf (HasPin names p tokens) Word
pin-other names p tokens other =
    first_listed (HasPin names p tokens) Word (λ rest. (other In rest, other Out rest)) none
  where
    none : (reason : Reason) → reason_order reason < 2 → HasPin names p tokens reason → ⊥
    none Long lt h = h
    none Bytes lt h = h
    none _ lt h = omega (arith, lt)

module _ (names : List (List ℕ)) (p : PinData) (pin : Pin) (texts : List (List ℕ)) where
  one-texts : (pin' : Pin) (others : List (List ℕ)) → IsPinLine (pin_word pin' ∷ texts) others
      → others ≡ texts
  one-texts pin' others (inl (e, some, unmarked)) = cc
  one-texts pin' others (inr (e, some, unmarked)) = cc

  no-word : (pin' : Pin) → HasPin names p (pin_word pin' ∷ texts) Word → ⊥
  no-word In h = (h texts).0 refl
  no-word Out h = (h texts).1 refl

  -- none of the reasons before the k-th
  before : (k : ℕ) → (3 < k → HasPin names p (pin_word pin ∷ texts) Shape → ⊥)
      → (5 < k → HasPin names p (pin_word pin ∷ texts) Name → ⊥)
      → (6 < k → HasPin names p (pin_word pin ∷ texts) Twice → ⊥)
      → (reason : Reason) → reason_order reason < k → HasPin names p (pin_word pin ∷ texts) reason
      → ⊥
  before k shape name twice Word lt h = no-word pin h
  before k shape name twice Shape lt h = shape lt h
  before k shape name twice Name lt h = name lt h
  before k shape name twice Twice lt h = twice lt h
  before k shape name twice _ lt h = h

  pin-shape : ((others : List (List ℕ)) → IsPinLine (pin_word pin ∷ texts) others → ⊥)
      → IsFirstOf (HasPin names p (pin_word pin ∷ texts)) Shape
  pin-shape none = first_listed (HasPin names p (pin_word pin ∷ texts)) Shape none
      (before 3 (λ lt. absurd (omega (arith, lt))) (λ lt. absurd (omega (arith, lt)))
      (λ lt. absurd (omega (arith, lt))))

  -- no name, or a mark among the names
  pub pin-empty : texts ≡ [] → IsFirstOf (HasPin names p (pin_word pin ∷ texts)) Shape
  pin-empty none = pin-shape (λ others line. at others (one-texts pin others line) line)
    where
      at : (others : List (List ℕ)) → others ≡ texts → IsPinLine (pin_word pin ∷ texts) others → ⊥
      at others same (inl (e, some, unmarked)) = some (same ∙ none)
      at others same (inr (e, some, unmarked)) = some (same ∙ none)

  pub pin-marked : Any IsSeparator texts → IsFirstOf (HasPin names p (pin_word pin ∷ texts)) Shape
  pin-marked marks = pin-shape (λ others line. at others (one-texts pin others line) line)
    where
      at : (others : List (List ℕ)) → others ≡ texts → IsPinLine (pin_word pin ∷ texts) others → ⊥
      at others same (inl (e, some, unmarked)) = unmarked (rw same marks)
      at others same (inr (e, some, unmarked)) = unmarked (rw same marks)

  module _ (some : texts ≢ []) (unmarked : Any IsSeparator texts → ⊥) where
    pin-line : (pin' : Pin) → IsPinLine (pin_word pin' ∷ texts) texts
    pin-line In = inl (refl, some, unmarked)
    pin-line Out = inr (refl, some, unmarked)

    no-shape : HasPin names p (pin_word pin ∷ texts) Shape → ⊥
    no-shape none = none texts (pin-line pin)

    -- some name is that of no element
    pub pin-name : Any (λ text. IsKnown names text → ⊥) texts
        → IsFirstOf (HasPin names p (pin_word pin ∷ texts)) Name
    pin-name (k, text, lt, at, none) = first_listed (HasPin names p (pin_word pin ∷ texts)) Name (
      texts,
      pin-line pin,
      (
        k,
        text,
        lt,
        at,
        λ name (e, within, here). none
            (e, slice_get-get_or names e text within ∙ ap Some here),
      ),
    )
        (before 5 (λ lt. no-shape) (λ lt. absurd (omega (arith, lt)))
        (λ lt. absurd (omega (arith, lt))))

    module _ (named : AreElementNames names) (known : All (IsKnown names) texts) where
      no-name : HasPin names p (pin_word pin ∷ texts) Name → ⊥
      no-name (others, line, any) = at (rw (one-texts pin others line) at any)
        where
          at : Any (λ text. IsName text → Contains names text → ⊥) texts → ⊥
          at (k, text, lt, here, none) =
              let (e, of) = All-get_or (IsKnown names) texts k text lt known in
              let element : slice_get names e ≡ Some text = of ∙ ap Some here in
              let within = slice_get_within names e text element in
              let there : get_or names e text ≡ text = get_or_from_slice_get names e text text
              element in
              let form : IsName (get_or names e text) = All-get_or IsName names e text within
              named.forms in
              none (rw there at form) (e, within, there)

      -- an element stands twice, or is pinned already
      pub pin-twice : PutsAgain names (to_of pin p) (other_of pin p) texts
          → IsFirstOf (HasPin names p (pin_word pin ∷ texts)) Twice
      pin-twice puts = first_listed (HasPin names p (pin_word pin ∷ texts)) Twice (
        texts,
        pin-line pin,
        at pin
            (again-parts names named.distinct (other_of pin p) (to_of pin p) texts puts),
      )
          (before 6 (λ lt. no-shape) (λ lt. no-name) (λ lt. absurd (omega (arith, lt))))
        where
          at : (pin' : Pin) → StandsTwice texts ⊎ Any (λ text.
              (e : ℕ) × (slice_get names e ≡ Some text) × (Has
              (to_of pin' p) e ⊎ Has (other_of pin' p) e)) texts
              → StandsTwice texts ⊎ Any (IsPinnedBefore names p) texts
          at pin' (inl twice) = inl twice
          at In (inr any) = inr any
          at Out (inr (k, text, lt, here, (e, of, inl h))) = inr (k, text, lt, here, (e, of, inr h))
          at Out (inr (k, text, lt, here, (e, of, inr h))) = inr (k, text, lt, here, (e, of, inl h))

      -- the line is good
      module _ (after : List Bool) (sized : length (to_of pin p) ≡ length names)
          (puts : PutsNames names (to_of pin p) (other_of pin p) texts after) where
        no-twice : HasPin names p (pin_word pin ∷ texts) Twice → ⊥
        no-twice (others, line, why) = at (one-texts pin others line) why
          where
            among : (pin' : Pin) → Any (IsPinnedBefore names p) texts → Any (λ text.
                (e : ℕ) × (slice_get names e ≡ Some text) × (Has
                (to_of pin' p) e ⊎ Has (other_of pin' p) e)) texts
            among In any = any
            among Out (k, text, lt, here, (e, of, inl h)) = (k, text, lt, here, (e, of, inr h))
            among Out (k, text, lt, here, (e, of, inr h)) = (k, text, lt, here, (e, of, inl h))

            at : others ≡ texts → StandsTwice others ⊎ Any (IsPinnedBefore names p) others → ⊥
            at same (inl twice) = puts-single names named.distinct (other_of pin p) (to_of pin p)
                texts after sized puts (rw same at twice)
            at same (inr any) = puts-fresh names named.distinct (other_of pin p) (to_of pin p) texts
                after sized puts (among pin (rw same at any))

        pub pin-said : (q : PinData) → to_of pin q ≡ after → other_of pin q ≡ other_of pin p
            → IsSaid (pins_form names) p (pin_word pin ∷ texts) q
        pin-said q to other = record {
          good = λ reason. before 10 (λ lt. no-shape) (λ lt. no-name) (λ lt. no-twice) reason
              (below reason);
          says = (
            texts,
            says pin to other
                (puts-set names named.distinct (other_of pin p) (to_of pin p) texts after sized
                puts),
          );
        }
          where
            below : (reason : Reason) → reason_order reason < 10
            below Long = omega arith
            below _ = omega arith

            says : (pin' : Pin) → to_of pin' q ≡ after → other_of pin' q ≡ other_of pin' p
                → IsWithNames names texts (to_of pin' p) after
                → (HasNames (pin_word pin' ∷ texts) (codes "in") texts
                × IsWithNames names texts p.inside q.inside × (q.outside ≡ p.outside))
                ⊎ (HasNames (pin_word pin' ∷ texts) (codes "out") texts
                × IsWithNames names texts p.outside q.outside × (q.inside ≡ p.inside))
            says In is same made = inl ((refl, some, unmarked), rw is made, same)
            says Out is same made = inr ((refl, some, unmarked), rw is made, same)

-- the same of names that have passed all tests
module _ (names : List (List ℕ)) (named : AreElementNames names) (p : PinData)
    (over : AreOver (length names) p) (pin : Pin) (texts : List (List ℕ))
    (good : AreNamesGood names texts) where
  pub good-again : PutsAgain names (to_of pin p) (other_of pin p) texts
      → IsFirstOf (HasPin names p (pin_word pin ∷ texts)) Twice
  good-again puts = pin-twice names p pin texts good.some good.unmarked named good.known puts

  pub good-puts : (q : PinData) → PutsPins names pin p texts q
      → IsSaid (pins_form names) p (pin_word pin ∷ texts) q
  good-puts q h = pin-said names p pin texts good.some good.unmarked named good.known (to_of pin q)
      (sized pin) h.puts q refl h.other
    where
      sized : (pin : Pin) → length (to_of pin p) ≡ length names
      sized In = over.inside
      sized Out = over.outside
