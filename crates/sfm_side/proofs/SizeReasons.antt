-- A line of a text of sizes: its first reason, or what it says, from what the passes over its
-- tokens tell.
use Rattle.std.proofs.Common.{◌≡◌, ◌≢◌, ◌⊎◌, inl, inr, ℕ, Bool, true, false, ◌^◌, ◌<◌, ◌≤◌, List, [], ◌∷◌, length, get_or, set, slice_get, codes, Option, Some, Contains, AllPairs, ℤ, pos, ◌≤ℤ◌, ◌<ℤ◌, refl, sym, ap, ◌∙◌, arith}
use Rattle.std.specs.Prelude.{fold, zip}
use Rattle.std.specs.Int.Signed.{le_z}
use Rattle.std.specs.List.{All, Any, AllZip}
use Rattle.std.proofs.lemmas.Int.{ints}
use Rattle.std.proofs.lemmas.Option.{slice_get-get_or, slice_get_within, get_or_from_slice_get}
use Rattle.std.proofs.lemmas.List.Elements.{All-get_or}
use Rattle.sfm_spec.specs.Bounds.{total_of}
use Rattle.sfm_spec.specs.Names.{IsName}
use Rattle.sfm_kind.specs.Names.{AreElementNames}
use Rattle.sfm_lines.specs.declared.reason.Reason.{Reason}
use Rattle.sfm_lines.specs.declared.reason.Reason.TheVariants.{Long, Bytes, Word, Shape, Number, Name, Twice, Total, Short}
use Rattle.sfm_lines.specs.declared.word.TermWord.TheVariants.{WeightWord}
use Rattle.sfm_lines.specs.Parts.{LineParts, plain_parts, IsPairToken, IsWeightLine}
use Rattle.sfm_lines.specs.TermLines.{IsElement, StandsTwice}
use Rattle.sfm_lines.specs.Reading.{reason_order}
use Rattle.sfm_lines.proofs.Matches.{AllZip-at, AllZip-same}
use Rattle.sfm_lines.proofs.Numbers.{number-same}
use Rattle.sfm_lines.proofs.TermReasons.{place-same}
use Rattle.sfm_lines.proofs.WordLines.{pair-same, parts-same}
use Rattle.sfm_passes.proofs.Passed.{all-matched, matched-each, matched-one}
use Rattle.sfm_text.specs.Language.{IsFirstOf}
use Rattle.sfm_text.proofs.Orders.{first_listed}
use Rattle.sfm_side.specs.declared.passes.TokenTest.TheVariants.{Pair, PairSize, PairElement}
use Rattle.sfm_side.specs.Frame.{IsFramed, IsSaid}
use Rattle.sfm_side.specs.Sizes.{IsSize, HasSizeLine, GivesSizes, HasInSizes, sizes_of, sizes_form}
use Rattle.sfm_side.specs.Passes.{Passes}
use Rattle.sfm_side.specs.SizeLines.{Puts, PutsTwice, ArePairsGood}
use Rattle.sfm_side.proofs.Putting.{names_in, numbers_in, puts-parts, puts-new, puts-once, twice-parts}

-- the line is `size`, and pairs with these parts
abbrev IsSizeLine : List (List ℕ) → LineParts → Type 0
IsSizeLine tokens parts = (rest : List (List ℕ)) × (tokens ≡ codes "size" ∷ rest)
    × IsWeightLine rest parts

-- a form of sizes tells nothing that the frame tells, and of the end no more than that it is no
-- size line
pub sizes-framed : (names : List (List ℕ)) → IsFramed (sizes_form names)
sizes-framed names = record { plain = plain; ends = ends } where
  plain : (given : List (Option ℤ)) (tokens : List (List ℕ)) (reason : Reason)
      → HasInSizes names given tokens reason → (reason ≢ Long) × (reason ≢ Bytes) × (reason ≢ Short)
  plain given tokens Long h = absurd h
  plain given tokens Bytes h = absurd h
  plain given tokens Short h = absurd h
  plain given tokens _ h = (λ e. absurd (cc), λ e. absurd (cc), λ e. absurd (cc))

  no-line : (P : LineParts → Type 0) → HasSizeLine (codes "end" ∷ []) P → ⊥
  no-line P (parts, (rest, e, line), p) =
      let word : codes "end" ≡ codes "size" = cc in
      omega (arith, ap length word)

  ends : (given : List (Option ℤ)) (reason : Reason)
      → HasInSizes names given (codes "end" ∷ []) reason → reason_order reason ≤ 3
  ends given Word h = omega arith
  ends given Shape h = omega arith
  ends given Number h = absurd (no-line _ h)
  ends given Name h = absurd (no-line _ h)
  ends given Twice h = absurd (no-line _ h)
  ends given Total h = absurd (no-line _ h)
  ends given _ h = absurd h

-- a line gives one list of sizes
pub gives-same : (names : List (List ℕ)) → AllPairs (λ a b. a ≢ b) names
    → (given : List (Option ℤ)) (p q : LineParts) (a b : List (Option ℤ)) → p ≡ q
    → GivesSizes names given p a → GivesSizes names given q b → a ≡ b
gives-same names distinct given p q a b same (places, values, at, of, is)
    (places', values', at', of', is') =
    let elements : p.elements ≡ q.elements = ap (λ (r : LineParts). r.elements) same in
    let numbers : p.numbers ≡ q.numbers = ap (λ (r : LineParts). r.numbers) same in
    let one : places ≡ places' = AllZip-same (IsElement names)
    (λ text e f. place-same names distinct text e f) q.elements places places'
    (rw elements at at) at' in
    let two : values ≡ values' = AllZip-same IsSize (λ text v w h g. number-same text v w h.0 g.0)
    q.numbers values values' (rw numbers at of) of' in
    is ∙ (ap (λ (l : List ℕ). fold (λ sizes (e, size). set sizes e (Some size)) given
    (zip l values)) one
    ∙ (ap (λ (l : List ℤ). fold (λ sizes (e, size). set sizes e (Some size)) given
    (zip places' l)) two ∙ sym is'))

-- behind a line that is taken the sizes are not too much together
pub said-small : (names : List
    (List ℕ)) (given : List (Option ℤ)) (tokens : List (List ℕ)) (after : List (Option ℤ))
    → IsSaid (sizes_form names) given tokens after → total_of (sizes_of after) ≤ℤ pos (10 ^ 6)
said-small names given tokens after said = at (le_z (total_of (sizes_of after)) (pos (10 ^ 6))) refl
    said.says
  where
    at : (b : Bool) → le_z (total_of (sizes_of after)) (pos (10 ^ 6)) ≡ b
        → HasSizeLine tokens (λ parts. GivesSizes names given parts after)
        → total_of (sizes_of after) ≤ℤ pos (10 ^ 6)
    at true e line = omega (arith, ints, e)
    at false e (parts, line, gives) =
        absurd (said.good Total (parts, line, (after, gives, omega (arith, ints, e))))

-- another first token
pub size-word : (names : List (List ℕ)) (given : List (Option ℤ)) (tokens : List (List ℕ))
    → ((rest : List (List ℕ)) → tokens ≢ codes "size" ∷ rest)
    → IsFirstOf (HasInSizes names given tokens) Word
size-word names given tokens other = first_listed (HasInSizes names given tokens) Word other none
  where
    none : (reason : Reason) → reason_order reason < 2 → HasInSizes names given tokens reason → ⊥
    none Long lt h = h
    none Bytes lt h = h
    none _ lt h = omega (arith, lt)

module _ (names : List (List ℕ)) (given : List (Option ℤ)) (rest : List (List ℕ)) where
  -- of a line with its word a reason tells the tokens behind it
  line-rest : (parts : LineParts) → IsSizeLine (codes "size" ∷ rest) parts → IsWeightLine rest parts
  line-rest parts (rest', e, line) = let same : rest' ≡ rest = cc in rw same at line

  -- none of the reasons before the k-th
  before : (k : ℕ) → (3 < k → HasInSizes names given (codes "size" ∷ rest) Shape → ⊥)
      → (4 < k → HasInSizes names given (codes "size" ∷ rest) Number → ⊥)
      → (5 < k → HasInSizes names given (codes "size" ∷ rest) Name → ⊥)
      → (6 < k → HasInSizes names given (codes "size" ∷ rest) Twice → ⊥)
      → (8 < k → HasInSizes names given (codes "size" ∷ rest) Total → ⊥)
      → (reason : Reason) → reason_order reason < k
      → HasInSizes names given (codes "size" ∷ rest) reason → ⊥
  before k shape number name twice total Word lt h = h rest refl
  before k shape number name twice total Shape lt h = shape lt h
  before k shape number name twice total Number lt h = number lt h
  before k shape number name twice total Name lt h = name lt h
  before k shape number name twice total Twice lt h = twice lt h
  before k shape number name twice total Total lt h = total lt h
  before k shape number name twice total _ lt h = h

  -- no pairs
  pub size-shape : ((parts : LineParts) → IsWeightLine rest parts → ⊥)
      → IsFirstOf (HasInSizes names given (codes "size" ∷ rest)) Shape
  size-shape none = first_listed (HasInSizes names given (codes "size" ∷ rest)) Shape
      (rest, refl, none)
      (before 3 (λ lt. absurd (omega (arith, lt))) (λ lt. absurd (omega (arith, lt)))
      (λ lt. absurd (omega (arith, lt))) (λ lt. absurd (omega (arith, lt)))
      (λ lt. absurd (omega (arith, lt))))

  pub size-empty : rest ≡ [] → IsFirstOf (HasInSizes names given (codes "size" ∷ rest)) Shape
  size-empty none = size-shape (λ parts line. omega (arith, line.some, ap length none))

  pub size-unpaired : Any (λ token. Passes names Pair token → ⊥) rest
      → IsFirstOf (HasInSizes names given (codes "size" ∷ rest)) Shape
  size-unpaired (k, token, lt, e, none) =
      size-shape (λ parts line. let (pair, p) = AllZip-at IsPairToken rest line.pairs k token
      line.each lt in none (pair, rw e at p))

  module _ (some : 1 ≤ length rest) (pairs : List (List ℕ × List ℕ))
      (each : AllZip IsPairToken rest pairs) where
    are-pairs : IsWeightLine rest (plain_parts (numbers_in pairs) (names_in pairs))
    are-pairs = record { pairs = pairs; some = some; each = each; parts_are = refl }

    line : IsSizeLine (codes "size" ∷ rest) (plain_parts (numbers_in pairs) (names_in pairs))
    line = (rest, refl, are-pairs)

    one-parts : (parts : LineParts) → IsSizeLine (codes "size" ∷ rest) parts
        → parts ≡ plain_parts (numbers_in pairs) (names_in pairs)
    one-parts parts h = parts-same WeightWord rest parts
        (plain_parts (numbers_in pairs) (names_in pairs)) (line-rest parts h) are-pairs

    no-shape : HasInSizes names given (codes "size" ∷ rest) Shape → ⊥
    no-shape (rest', e, none) = let same : rest' ≡ rest = cc in (rw same at none)
        (plain_parts (numbers_in pairs) (names_in pairs)) are-pairs

    -- some number is no size
    pub size-number : Any (λ token. Passes names PairSize token → ⊥) rest
        → IsFirstOf (HasInSizes names given (codes "size" ∷ rest)) Number
    size-number any = first_listed (HasInSizes names given (codes "size" ∷ rest)) Number (
      plain_parts (numbers_in pairs) (names_in pairs),
      line,
      matched-one IsPairToken (λ token. Passes names PairSize token → ⊥)
          (λ (pair : List ℕ × List ℕ). pair.1) (λ text. (value : ℤ) → IsSize text value → ⊥)
          (λ token pair p none value size. none (pair, p, (value, size))) rest pairs each any,
    )
        (before 4 (λ lt. no-shape) (λ lt. absurd (omega (arith, lt)))
        (λ lt. absurd (omega (arith, lt))) (λ lt. absurd (omega (arith, lt)))
        (λ lt. absurd (omega (arith, lt))))

    module _ (sizes : All (Passes names PairSize) rest) where
      are-sizes : (values : List ℤ) × AllZip IsSize (numbers_in pairs) values
      are-sizes = matched-each IsPairToken (Passes names PairSize)
          (λ (pair : List ℕ × List ℕ). pair.1) IsSize
          (λ token pair p (other, q, (value, size)). let same : other ≡ pair = pair-same token other
          pair q p in (value, rw same at size)) rest pairs each sizes

      no-number : HasInSizes names given (codes "size" ∷ rest) Number → ⊥
      no-number (parts, is, (k, text, lt, at, none)) =
          let same : parts.numbers ≡ numbers_in pairs = ap (λ (p : LineParts). p.numbers)
          (one-parts parts is) in
          let (value, size) = AllZip-at IsSize (numbers_in pairs) are-sizes.0 k text are-sizes.1
          (omega (arith, lt, ap length same)) in
          let here : get_or (numbers_in pairs) k
          text ≡ text = ap (λ (l : List (List ℕ)). get_or l k text) (sym same) ∙ at in
          none value (rw here at size)

      -- some name is that of no element
      pub size-name : Any (λ token. Passes names PairElement token → ⊥) rest
          → IsFirstOf (HasInSizes names given (codes "size" ∷ rest)) Name
      size-name any = first_listed (HasInSizes names given (codes "size" ∷ rest)) Name (
        plain_parts (numbers_in pairs) (names_in pairs),
        line,
        matched-one IsPairToken (λ token. Passes names PairElement token → ⊥)
            (λ (pair : List ℕ × List ℕ). pair.0) (λ text. IsName text → Contains names text → ⊥)
            (λ token pair p none name (e, lt, at).
            none (pair, p, (e, slice_get-get_or names e pair.0 lt ∙ ap Some at))) rest pairs
            each any,
      )
          (before 5 (λ lt. no-shape) (λ lt. no-number) (λ lt. absurd (omega (arith, lt)))
          (λ lt. absurd (omega (arith, lt))) (λ lt. absurd (omega (arith, lt))))

      module _ (named : AreElementNames names)
          (elements : All (Passes names PairElement) rest) where
        are-elements : (places : List ℕ) × AllZip (IsElement names) (names_in pairs) places
        are-elements = matched-each IsPairToken (Passes names PairElement)
            (λ (pair : List ℕ × List ℕ). pair.0) (IsElement names)
            (λ token pair p (other, q, (e, at)). let same : other ≡ pair = pair-same token other
            pair q p in (e, rw same at at)) rest pairs each elements

        no-name : HasInSizes names given (codes "size" ∷ rest) Name → ⊥
        no-name (parts, is, (k, text, lt, at, none)) =
            let same : parts.elements ≡ names_in pairs = ap (λ (p : LineParts). p.elements)
            (one-parts parts is) in
            let (e, of) = AllZip-at (IsElement names) (names_in pairs) are-elements.0 k text
            are-elements.1 (omega (arith, lt, ap length same)) in
            let here : get_or (names_in pairs) k
            text ≡ text = ap (λ (l : List (List ℕ)). get_or l k text) (sym same) ∙ at in
            let element : slice_get names e ≡ Some text = of ∙ ap Some here in
            let within = slice_get_within names e text element in
            let there : get_or names e text ≡ text = get_or_from_slice_get names e text text
            element in
            let form : IsName (get_or names e text) = All-get_or IsName names e text within
            named.forms in
            none (rw there at form) (e, within, there)

        -- an element stands twice, or had a size
        pub size-twice : PutsTwice names given rest
            → IsFirstOf (HasInSizes names given (codes "size" ∷ rest)) Twice
        size-twice puts = first_listed (HasInSizes names given (codes "size" ∷ rest)) Twice (
          plain_parts (numbers_in pairs) (names_in pairs),
          line,
          twice-parts names named.distinct given rest pairs puts each,
        )
            (before 6 (λ lt. no-shape) (λ lt. no-number) (λ lt. no-name)
            (λ lt. absurd (omega (arith, lt))) (λ lt. absurd (omega (arith, lt))))

        module _ (after : List (Option ℤ)) (puts : Puts names given rest after) where
          no-twice : HasInSizes names given (codes "size" ∷ rest) Twice → ⊥
          no-twice (parts, is, why) = at (ap (λ (p : LineParts). p.elements) (one-parts parts is))
              why
            where
              at : parts.elements ≡ names_in pairs
                  → StandsTwice parts.elements
                  ⊎ Any (λ text. (e : ℕ) × (size : ℤ) × (slice_get names e ≡ Some text)
                  × (slice_get given e ≡ Some (Some size))) parts.elements → ⊥
              at same (inl twice) = puts-once names named.distinct given rest after pairs puts each
                  (rw same at twice)
              at same (inr any) = puts-new names named.distinct given rest after pairs puts each
                  (rw same at any)

          gives : GivesSizes names given (plain_parts (numbers_in pairs) (names_in pairs)) after
          gives = puts-parts names named.distinct given rest after pairs puts each

          -- the sizes are too much together
          pub size-total : pos (10 ^ 6) <ℤ total_of (sizes_of after)
              → IsFirstOf (HasInSizes names given (codes "size" ∷ rest)) Total
          size-total much = first_listed (HasInSizes names given (codes "size" ∷ rest)) Total
              (plain_parts (numbers_in pairs) (names_in pairs), line, (after, gives, much))
              (before 8 (λ lt. no-shape) (λ lt. no-number) (λ lt. no-name) (λ lt. no-twice)
              (λ lt. absurd (omega (arith, lt))))

          -- they are not
          pub size-said : total_of (sizes_of after) ≤ℤ pos (10 ^ 6)
              → IsSaid (sizes_form names) given (codes "size" ∷ rest) after
          size-said few = record {
            good = λ reason. before 10 (λ lt. no-shape) (λ lt. no-number) (λ lt. no-name)
                (λ lt. no-twice) (λ lt. no-total) reason (below reason);
            says = (plain_parts (numbers_in pairs) (names_in pairs), line, gives);
          }
            where
              below : (reason : Reason) → reason_order reason < 10
              below Long = omega arith
              below _ = omega arith

              no-total : HasInSizes names given (codes "size" ∷ rest) Total → ⊥
              no-total (parts, is, (other, told, much)) =
                  let same : other ≡ after = gives-same names named.distinct given parts
                  (plain_parts (numbers_in pairs) (names_in pairs)) other after
                  (one-parts parts is) told gives in
                  let much' : pos (10 ^ 6) <ℤ total_of (sizes_of after) = rw same at much in
                  omega (arith, ints, few, much')

-- the same of pairs that have passed all tests
module _ (names : List (List ℕ)) (named : AreElementNames names) (given : List (Option ℤ))
    (rest : List (List ℕ)) (good : ArePairsGood names rest) where
  pub good-twice : PutsTwice names given rest
      → IsFirstOf (HasInSizes names given (codes "size" ∷ rest)) Twice
  good-twice puts = let (pairs, each) = all-matched IsPairToken rest good.pairs in size-twice names
      given rest good.some pairs each good.sizes named good.elements puts

  module _ (after : List (Option ℤ)) (puts : Puts names given rest after) where
    pub good-total : pos (10 ^ 6) <ℤ total_of (sizes_of after)
        → IsFirstOf (HasInSizes names given (codes "size" ∷ rest)) Total
    good-total much = let (pairs, each) = all-matched IsPairToken rest good.pairs in size-total
        names given rest good.some pairs each good.sizes named good.elements after puts much

    pub good-said : total_of (sizes_of after) ≤ℤ pos (10 ^ 6)
        → IsSaid (sizes_form names) given (codes "size" ∷ rest) after
    good-said few = let (pairs, each) = all-matched IsPairToken rest good.pairs in size-said names
        given rest good.some pairs each good.sizes named good.elements after puts few
