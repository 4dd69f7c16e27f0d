-- Which terms are kept, as edits go on: the old ones stand first, in their old order.
use Rattle.std.proofs.Common.{◌≡◌, ◌⊎◌, inl, inr, ℕ, zero, suc, ◌+◌, ◌-◌, ◌<◌, ◌≤◌, List, [], ◌∷◌, ◌++◌, length, get_or, slice_get, take, drop, replicate, Option, Some, None, append-nil, refl, sym, ap, subst, ◌∙◌, arith}
use Rattle.std.specs.List.{remove}
use Rattle.std.proofs.lemmas.Bool.{cases_lt}
use Rattle.std.proofs.lemmas.Option.{same_Some, slice_get_within, get_or_from_slice_get}
use Rattle.std.proofs.lemmas.List.{length_push, length-append, length-take-le, length-drop}
use Rattle.std.proofs.Math.ListN.{drop_of_length-le}
use Rattle.std.proofs.Math.Seq.{append_snoc}
use Rattle.std.proofs.lemmas.List.Edits.{length-remove}
use Rattle.std.proofs.lemmas.List.FromFn.{length-map-range_with_len, get_or-map-range_with_len}
use Rattle.sfm_lines.specs.declared.stage.Stage.TheVariants.{Terms}
use Rattle.sfm_lines.specs.Reading.{State, AddsTerm}
use Rattle.sfm_lines.specs.ReadParts.{state_at}
use Rattle.sfm_kind.specs.declared.kind.Kind.{Kind}
use Rattle.sfm_kind.specs.Instance.{InstanceData, width_of, terms_in}
use Rattle.sfm_kind.proofs.Removed.{cut_out, cut_out-none, cut_out-more}
use Rattle.sfm_edit.specs.EditLines.{Edits}
use Rattle.sfm_edit.specs.Edits.{Editing, without_terms}
use Rattle.sfm_edit.specs.Origins.{AreOrigins, all_kept}
use Rattle.sfm_edit.proofs.Widths.{next-line}

-- ---- before the first edit

all-kept-at : (n j : ℕ) (origin : Option ℕ) → slice_get (all_kept n) j ≡ Some origin
    → (j < n) × (origin ≡ Some j)
all-kept-at n j origin at =
    let within : j < length (all_kept n) = slice_get_within (all_kept n) j origin at in
    let lt : j < n = omega (arith, within, length-map-range_with_len (λ i. Some i) 0 n) in
    let here : get_or (all_kept n) j None ≡ origin = get_or_from_slice_get (all_kept n) j origin
    None at in
    (lt, sym here ∙ get_or-map-range_with_len (λ i. Some i) 0 n j j None lt (omega arith))

pub origins-first : (terms : List Kind) → AreOrigins terms terms (all_kept (length terms))
origins-first terms = record {
  count = length-map-range_with_len (λ i. Some i) 0 (length terms);
  same = λ j i at.
      let (lt, is) = all-kept-at (length terms) j (Some i) at in
      let here : i ≡ j = same_Some i j is in
      (omega (arith, lt, here), ap (slice_get terms) (sym here));
  ascending = λ j k h i lt at at'.
      let first : h ≡ j = same_Some h j (all-kept-at (length terms) j (Some h) at).1 in
      let second : i ≡ k = same_Some i k (all-kept-at (length terms) k (Some i) at').1 in
      omega (arith, lt, first, second);
  behind = λ j k lt within at. let is : None ≡ Some
      j = (all-kept-at (length terms) j None at).1 in absurd (cc);
}

-- ---- one is taken out

-- what stands at j without the one at i stood at k before
abbrev IsPast : (i j k : ℕ) → Type 0
IsPast i j k = ((j < i) × (k ≡ j)) ⊎ ((i ≤ j) × (k ≡ j + 1))

past : (i j : ℕ) → (k : ℕ) × IsPast i j k
past i j = at (cases_lt j i)
  where
    at : (j < i) ⊎ (i ≤ j) → (k : ℕ) × IsPast i j k
    at (inl lt) = (j, inl (lt, refl))
    at (inr le) = (j + 1, inr (le, refl))

past-order : (i j k j' k' : ℕ) → j < k → IsPast i j j' → IsPast i k k' → j' < k'
past-order i j k j' k' lt (inl (a, b)) (inl (c, d)) = omega (arith, lt, a, b, c, d)
past-order i j k j' k' lt (inl (a, b)) (inr (c, d)) = omega (arith, lt, a, b, c, d)
past-order i j k j' k' lt (inr (a, b)) (inl (c, d)) = omega (arith, lt, a, b, c, d)
past-order i j k j' k' lt (inr (a, b)) (inr (c, d)) = omega (arith, lt, a, b, c, d)

past-within : (i j k n m : ℕ) → m + 1 ≡ n → j < m → IsPast i j k → k < n
past-within i j k n m one lt (inl (a, b)) = omega (arith, one, lt, b)
past-within i j k n m one lt (inr (a, b)) = omega (arith, one, lt, b)

get-past : {X : Type 0} (xs : List X) (i j k : ℕ) → i < length xs → IsPast i j k
    → slice_get (remove xs i) j ≡ slice_get xs k
get-past [] i j k within is = absurd (omega (arith, within))
get-past (x ∷ xs) zero j k within (inl (lt, is)) = absurd (omega (arith, lt))
get-past (x ∷ xs) zero j k within (inr (le, is)) =
    ap (slice_get (x ∷ xs)) (let e : suc j ≡ k = omega (arith, is) in e)
get-past (x ∷ xs) (suc i) zero k within (inl (lt, is)) = ap (slice_get (x ∷ xs)) (sym is)
get-past (x ∷ xs) (suc i) zero k within (inr (le, is)) = absurd (omega (arith, le))
get-past (x ∷ xs) (suc i) (suc j) zero within (inl (lt, is)) = absurd (omega (arith, is))
get-past (x ∷ xs) (suc i) (suc j) zero within (inr (le, is)) = absurd (omega (arith, is))
get-past (x ∷ xs) (suc i) (suc j) (suc k) within (inl (lt, is)) =
    get-past xs i j k (omega (arith, within)) (inl (omega (arith, lt), omega (arith, is)))
get-past (x ∷ xs) (suc i) (suc j) (suc k) within (inr (le, is)) =
    get-past xs i j k (omega (arith, within)) (inr (omega (arith, le), omega (arith, is)))

pub origins-removed : (old new : List Kind) (kept : List (Option ℕ)) (i : ℕ) → i < length new
    → AreOrigins old new kept → AreOrigins old (remove new i) (remove kept i)
origins-removed old new kept i within h = record {
  count = omega (arith, length-remove new i within, less, h.count);
  same = λ j origin at.
      let (k, is) = past i j in
      let (lt, same) = h.same k origin (sym (get-past kept i j k inside is) ∙ at) in
      (lt, get-past new i j k within is ∙ same);
  ascending = λ j k a b lt at at'.
      let (j', is) = past i j in
      let (k', is') = past i k in
      h.ascending j' k' a b (past-order i j k j' k' lt is is')
      (sym (get-past kept i j j' inside is) ∙ at) (sym (get-past kept i k k' inside is') ∙ at');
  behind = λ j k lt short at.
      let (j', is) = past i j in
      let (k', is') = past i k in
      get-past kept i k k' inside is' ∙ h.behind j' k' (past-order i j k j' k' lt is is')
      (past-within i k k' (length kept) (length (remove kept i)) less short is')
      (sym (get-past kept i j j' inside is) ∙ at);
}
  where
    inside : i < length kept
    inside = omega (arith, within, h.count)

    less : length (remove kept i) + 1 ≡ length kept
    less = length-remove kept i inside

-- ---- some in a row are taken out

-- behind the last there is nothing to take out
past-end : {X : Type 0} (xs : List X) (first count : ℕ) → length xs ≤ first + count
    → cut_out xs first (suc count) ≡ cut_out xs first count
past-end xs first count le =
    let more : drop (first + suc count) xs ≡ [] = drop_of_length-le xs (omega (arith, le)) in
    let here : drop (first + count) xs ≡ [] = drop_of_length-le xs le in
    ap (λ l. take first xs ++ l) (more ∙ sym here)

origins-cut : (old new : List Kind) (kept : List (Option ℕ)) (first count : ℕ)
    → AreOrigins old new kept → AreOrigins old (cut_out new first count) (cut_out kept first count)
origins-cut old new kept first zero h = rw (cut_out-none new first, cut_out-none kept first) h
origins-cut old new kept first (suc count) h =
    on (cases_lt (first + count) (length new)) (origins-cut old new kept first count h)
  where
    on : (first + count < length new) ⊎ (length new ≤ first + count)
        → AreOrigins old (cut_out new first count) (cut_out kept first count)
        → AreOrigins old (cut_out new first (suc count)) (cut_out kept first (suc count))
    on (inr le) before = rw (
      past-end new first count le,
      past-end kept first count (omega (arith, le, h.count)),
    ) before
    on (inl lt) before =
        let len = length-append (take first new) (drop (first + count) new) in
        let front = length-take-le first new (omega (arith, lt)) in
        let back = length-drop (first + count) new in
        let less = origins-removed old (cut_out new first count) (cut_out kept first count) first
        (omega (arith, lt, len, front, back)) before in
        let next : count + 1 ≡ suc count = omega arith in
        let terms : remove (cut_out new first count) first ≡ cut_out new first
        (suc count) = cut_out-more new first count lt ∙ ap (λ c. cut_out new first c) next in
        let origins : remove (cut_out kept first count) first ≡ cut_out kept first
        (suc count) = cut_out-more kept first count (omega (arith, lt, h.count))
        ∙ ap (λ c. cut_out kept first c) next in
        rw (← terms, ← origins) less

-- those of a line
origins-without : (old new : List Kind) (kept : List (Option ℕ)) (lines : List ℕ) (i : ℕ)
    → i < length lines → AreOrigins old new kept
    → AreOrigins old (without_terms lines i new) (without_terms lines i kept)
origins-without old new kept lines i lt h =
    let is = next-line lines i lt in
    rw is (origins-cut old new kept (terms_in (take i lines)) (width_of (get_or lines i 0)) h)

-- ---- one is added

get-old : {X : Type 0} (xs : List X) (x : X) (j : ℕ) → j < length xs
    → slice_get (xs ++ x ∷ []) j ≡ slice_get xs j
get-old [] x j lt = absurd (omega (arith, lt))
get-old (y ∷ xs) x zero lt = refl
get-old (y ∷ xs) x (suc j) lt = get-old xs x j (omega (arith, lt))

get-new : {X : Type 0} (xs : List X) (x : X) → slice_get (xs ++ x ∷ []) (length xs) ≡ Some x
get-new [] x = refl
get-new (y ∷ xs) x = get-new xs x

origins-added : (old new : List Kind) (kept : List (Option ℕ)) (term : Kind)
    → AreOrigins old new kept → AreOrigins old (new ++ term ∷ []) (kept ++ None ∷ [])
origins-added old new kept term h = record {
  count = omega (arith, length_push kept None, length_push new term, h.count);
  same = λ j i at.
      let (lt, before) = old-at j i at in
      let (within, same) = h.same j i before in
      (within, get-old new term j (omega (arith, lt, h.count)) ∙ same);
  ascending = λ j k a b lt at at'. h.ascending j k a b lt (old-at j a at).1 (old-at k b at').1;
  behind = λ j k lt short at. at-end k (omega (arith, short, length_push kept None))
      (λ within. h.behind j k lt within
      (sym (get-old kept None j (omega (arith, lt, within))) ∙ at));
}
  where
    -- an old place is that of an old term
    old-at : (j i : ℕ) → slice_get (kept ++ None ∷ []) j ≡ Some (Some i)
        → (j < length kept) × (slice_get kept j ≡ Some (Some i))
    old-at j i at = on (cases_lt j (length kept))
      where
        on : (j < length kept) ⊎ (length kept ≤ j)
            → (j < length kept) × (slice_get kept j ≡ Some (Some i))
        on (inl lt) = (lt, sym (get-old kept None j lt) ∙ at)
        on (inr le) =
            let short : j < length (kept ++ None ∷ []) = slice_get_within (kept ++ None ∷ []) j
            (Some i) at in
            let last : j ≡ length kept = omega (arith, short, le, length_push kept None) in
            let same : Some None ≡ Some (Some i) = sym (get-new kept None)
            ∙ (ap (slice_get (kept ++ None ∷ [])) (sym last) ∙ at) in
            let none : None ≡ Some i = same_Some None (Some i) same in
            absurd (cc)

    -- what stands at a place is None where it is so before the last
    at-end : (k : ℕ) → k < length kept + 1 → (k < length kept → slice_get kept k ≡ Some None)
        → slice_get (kept ++ None ∷ []) k ≡ Some None
    at-end k short before = on (cases_lt k (length kept))
      where
        on : (k < length kept) ⊎ (length kept ≤ k) → slice_get (kept ++ None ∷ []) k ≡ Some None
        on (inl lt) = get-old kept None k lt ∙ before lt
        on (inr le) =
            let last : k ≡ length kept = omega (arith, short, le) in
            ap (slice_get (kept ++ None ∷ [])) last ∙ get-new kept None

-- ---- some are added

pub origins-grown : (old new : List Kind) (kept : List (Option ℕ)) (more : List Kind)
    → AreOrigins old new kept
    → AreOrigins old (new ++ more) (kept ++ replicate (length more) None)
origins-grown old new kept [] h = rw (append-nil new, append-nil kept) h
origins-grown old new kept (term ∷ more) h =
    let terms : (new ++ term ∷ []) ++ more ≡ new ++ term ∷ more = append_snoc new term more in
    let all = replicate (length more) None in
    let origins : (kept ++ None ∷ []) ++ all ≡ kept ++ None ∷ all = append_snoc kept None all in
    rw (← terms, ← origins) (origins-grown old (new ++ term ∷ []) (kept ++ None ∷ []) more
    (origins-added old new kept term h))

-- how many more they are
pub grown-by : (old more new : List Kind) → new ≡ old ++ more
    → length new - length old ≡ length more
grown-by old more new is = omega (arith, ap length is, length-append old more)

-- a term line leaves the others where they are
pub added-longer : (old new : InstanceData) (tokens : List (List ℕ))
    → AddsTerm (state_at Terms old) tokens (state_at Terms new)
    → length old.terms ≤ length new.terms
added-longer old new tokens (term, weights, says, more, are, same) =
    let terms : new.terms ≡ old.terms ++ more = ap (λ (s : State). s.terms) same in
    omega (arith, ap length terms, length-append old.terms more)

-- ---- one line

-- what a line leads to keeps the origins
pub origins-edited : (old : List Kind) (e f : Editing) (tokens : List (List ℕ)) → Edits e tokens f
    → AreOrigins old e.instance.terms e.kept → AreOrigins old f.instance.terms f.kept
origins-edited old e f tokens (inl (text, i, is, number, same)) h =
    subst (λ (g : Editing). AreOrigins old g.instance.terms g.kept) (sym same)
    (origins-without old e.instance.terms e.kept e.instance.lines i number.0 h)
origins-edited old e f tokens (inr (rest, is, (term, weights, says, more, are, same), kept)) h =
    let terms : f.instance.terms ≡ e.instance.terms ++ more = ap (λ (s : State). s.terms) same in
    let count = grown-by e.instance.terms more f.instance.terms terms in
    let origins : f.kept ≡ e.kept ++ replicate (length more) None = kept
    ∙ ap (λ n. e.kept ++ replicate n None) count in
    rw (terms, origins) (origins-grown old e.instance.terms e.kept more h)

-- and the names
pub names-edited : (e f : Editing) (tokens : List (List ℕ)) → Edits e tokens f
    → f.instance.names ≡ e.instance.names
names-edited e f tokens (inl (text, i, is, number, same)) =
    ap (λ (g : Editing). g.instance.names) same
names-edited e f tokens (inr (rest, is, (term, weights, says, more, are, same), kept)) =
    ap (λ (s : State). s.names) same
