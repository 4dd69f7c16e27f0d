-- The walks over an edited instance begin at bases of its terms with small entries, and the bases
-- that proved the minimum of the old instance will do.
use Rattle.std.proofs.Common.{◌≡◌, ℕ, zero, suc, ◌+◌, ◌<◌, ◌≤◌, ◌^◌, List, [], ◌∷◌, ◌++◌, length, map, get_or, take, slice_get, Option, Some, None, ℤ, pos, ◌≤ℤ◌, refl, sym, ap, subst, ◌∙◌, arith}
use Rattle.std.specs.Prelude.{zip}
use Rattle.std.specs.List.{All}
use Rattle.std.proofs.lemmas.Int.{ints}
use Rattle.std.proofs.lemmas.Option.{same_Some, slice_get-get_or}
use Rattle.std.proofs.lemmas.List.{map_more, take_all}
use Rattle.std.proofs.lemmas.List.Elements.{All-nil, All-cons, All-head, All-tail}
use Rattle.std.proofs.lemmas.Slice.Zip.{length-zip, get_or-zip}
use Rattle.sfm_spec.specs.Bounds.{IsAtMost, IsFactor}
use Rattle.sfm_spec.specs.Families.{meanings, AreBases}
use Rattle.sfm_spec.specs.Walks.{base_at}
use Rattle.sfm_walk.proofs.Starting.{starts_within}
use Rattle.sfm_kind.specs.declared.kind.Kind.{Kind}
use Rattle.sfm_kind.specs.Kinds.{kind_places, kind_value, kind_size, kind_start, kind-starts, kind-starts_small}
use Rattle.sfm_edit.specs.Origins.{AreOrigins}
use Rattle.sfm_edit.specs.Resuming.{first_of, firsts_of, HasBaseAt, AreOldBases}

-- one term more
pub firsts-more : (kinds : List Kind) (kept : List (Option ℕ)) (rows : List (List ℤ)) (j : ℕ)
    (kind : Kind) → length kept ≡ length kinds → j < length kinds
    → map (λ (pair : Kind × Option ℕ). first_of rows pair.0 pair.1) (take (j + 1) (zip kinds kept))
    ≡ map (λ (pair : Kind × Option ℕ). first_of rows pair.0 pair.1) (take j (zip kinds kept))
    ++ first_of rows (get_or kinds j kind) (get_or kept j None) ∷ []
firsts-more kinds kept rows j kind count lt =
    let first = λ (pair : Kind × Option ℕ). first_of rows pair.0 pair.1 in
    let within : j < length (zip kinds kept) = omega (arith, lt, count, length-zip kinds kept) in
    map_more first (zip kinds kept) j (kind, None) within
    ∙ ap (λ (pair : Kind × Option ℕ). map first (take j (zip kinds kept)) ++ first pair ∷ [])
    (get_or-zip kinds kept j (kind, None) lt (omega (arith, lt, count)))

-- all of them
pub firsts-all : (kinds : List Kind) (kept : List (Option ℕ)) (rows : List (List ℤ)) (j : ℕ)
    → length kept ≡ length kinds → length kinds ≤ j
    → map (λ (pair : Kind × Option ℕ). first_of rows pair.0 pair.1) (take j (zip kinds kept))
    ≡ firsts_of kinds kept rows
firsts-all kinds kept rows j count le =
    ap (map (λ (pair : Kind × Option ℕ). first_of rows pair.0 pair.1))
    (take_all j (zip kinds kept) (omega (arith, le, count, length-zip kinds kept)))

-- the old bases of the terms behind the first
old-rest : (kind : Kind) (kinds : List Kind) (origin : Option ℕ) (kept : List (Option ℕ))
    (rows : List (List ℤ)) → AreOldBases (kind ∷ kinds) (origin ∷ kept) rows
    → AreOldBases kinds kept rows
old-rest kind kinds origin kept rows h = λ j i k at at'. h (suc j) i k at at'

-- they are bases
pub firsts-bases : (kinds : List Kind) (kept : List (Option ℕ)) (rows : List (List ℤ))
    → length kept ≡ length kinds → AreOldBases kinds kept rows
    → AreBases (pos 1) (meanings kind_places kind_value kinds) (firsts_of kinds kept rows)
firsts-bases [] kept rows count h = tt
firsts-bases (kind ∷ kinds) [] rows count h = absurd (omega (arith, count))
firsts-bases (kind ∷ kinds) (None ∷ kept) rows count h =
    let start = kind-starts kind (pos 1) (omega (arith, ints)) in (
      start.0,
      start.1,
      firsts-bases kinds kept rows (omega (arith, count))
          (old-rest kind kinds None kept rows h),
    )
firsts-bases (kind ∷ kinds) (Some i ∷ kept) rows count h =
    let old = h 0 i kind refl refl in (
      old.entries,
      old.base,
      firsts-bases kinds kept rows (omega (arith, count))
          (old-rest kind kinds (Some i) kept rows h),
    )

-- of small entries
small-start : (kind : Kind) → kind_size kind ≤ℤ pos (10 ^ 18)
    → All (IsAtMost (10 ^ 25)) (kind_start kind (pos 1))
small-start kind h =
    let one : IsFactor (pos 1) = record { low = omega (arith, ints); high = omega (arith, ints) } in
    let rows = starts_within kind_size kind_start (pos 1)
    (λ k. kind-starts_small k (pos 1) (omega (arith, ints))) one (kind ∷ [])
    (All-cons (λ k. kind_size k ≤ℤ pos (10 ^ 18)) kind [] h
    (All-nil (λ k. kind_size k ≤ℤ pos (10 ^ 18)))) in
    All-head (λ row. All (IsAtMost (10 ^ 25)) row) (kind_start kind (pos 1)) [] rows

pub firsts-small : (kinds : List Kind) (kept : List (Option ℕ)) (rows : List (List ℤ))
    → length kept ≡ length kinds → AreOldBases kinds kept rows
    → All (λ kind. kind_size kind ≤ℤ pos (10 ^ 18)) kinds
    → All (λ x. All (IsAtMost (10 ^ 25)) x) (firsts_of kinds kept rows)
firsts-small [] kept rows count h sizes = All-nil (λ x. All (IsAtMost (10 ^ 25)) x)
firsts-small (kind ∷ kinds) [] rows count h sizes = absurd (omega (arith, count))
firsts-small (kind ∷ kinds) (None ∷ kept) rows count h sizes =
    All-cons (λ x. All (IsAtMost (10 ^ 25)) x) (kind_start kind (pos 1)) (firsts_of kinds kept rows)
    (small-start kind (All-head (λ k. kind_size k ≤ℤ pos (10 ^ 18)) kind kinds sizes))
    (firsts-small kinds kept rows (omega (arith, count)) (old-rest kind kinds None kept rows h)
    (All-tail (λ k. kind_size k ≤ℤ pos (10 ^ 18)) kind kinds sizes))
firsts-small (kind ∷ kinds) (Some i ∷ kept) rows count h sizes =
    let old = h 0 i kind refl refl in
    All-cons (λ x. All (IsAtMost (10 ^ 25)) x) (base_at rows i) (firsts_of kinds kept rows)
    old.small
    (firsts-small kinds kept rows (omega (arith, count)) (old-rest kind kinds (Some i) kept rows h)
    (All-tail (λ k. kind_size k ≤ℤ pos (10 ^ 18)) kind kinds sizes))

-- ---- the bases of the old instance

bases-of : (kinds : List Kind) (rows : List (List ℤ)) (i : ℕ) (kind : Kind)
    → AreBases (pos 1) (meanings kind_places kind_value kinds) rows → slice_get kinds i ≡ Some kind
    → All (λ x. All (IsAtMost (10 ^ 25)) x) rows → HasBaseAt rows i kind
bases-of [] rows i kind h at small = absurd (cc)
bases-of (k ∷ kinds) [] i kind h at small = absurd h
bases-of (k ∷ kinds) (x ∷ rows) zero kind h at small =
    let same : k ≡ kind = same_Some k kind at in
    subst (HasBaseAt (x ∷ rows) 0) same (record {
      within = omega arith;
      entries = h.0;
      base = h.1;
      small = All-head (λ x. All (IsAtMost (10 ^ 25)) x) x rows small;
    })
bases-of (k ∷ kinds) (x ∷ rows) (suc i) kind h at small =
    let rest = bases-of kinds rows i kind h.2 at
    (All-tail (λ x. All (IsAtMost (10 ^ 25)) x) x rows small) in
    record {
      within = omega (arith, rest.within);
      entries = rest.entries;
      base = rest.base;
      small = rest.small;
    }

-- bases of all old terms, with entries as `minimise` gives them at 0/1, are old bases of the kept
-- ones
pub old-bases : (old new : List Kind) (kept : List (Option ℕ)) (rows : List (List ℤ))
    → AreOrigins old new kept → AreBases (pos 1) (meanings kind_places kind_value old) rows
    → All (λ x. All (IsAtMost (10 ^ 25)) x) rows → AreOldBases new kept rows
old-bases old new kept rows origins bases small = λ j i kind at at'.
    bases-of old rows i kind bases (sym (origins.same j i at').1 ∙ at) small

-- ---- one row of them

-- a kept term's old base is among the rows
pub old-row : (kinds : List Kind) (kept : List (Option ℕ)) (rows : List (List ℤ))
    → AreOldBases kinds kept rows → length kept ≡ length kinds → (j : ℕ) (kind : Kind)
    → j < length kinds → (origin : Option ℕ) → origin ≡ get_or kept j None
    → (i : ℕ) → origin ≡ Some i → i < length rows
old-row kinds kept rows h count j kind lt origin is i some =
    (h j i (get_or kinds j kind) (slice_get-get_or kinds j kind lt)
    (slice_get-get_or kept j None (omega (arith, lt, count)) ∙ ap Some (sym is ∙ some))).within

-- what is told of the term at a place and of its origin is told of the lists
pub row-at : (kinds : List Kind) (kept : List (Option ℕ)) (rows : List (List ℤ)) (j : ℕ)
    (kind : Kind) (origin : Option ℕ) → kind ≡ get_or kinds j kind → origin ≡ get_or kept j None
    → first_of rows kind origin ≡ first_of rows (get_or kinds j kind) (get_or kept j None)
row-at kinds kept rows j kind origin is from =
    ap (λ k. first_of rows k origin) is ∙ ap (first_of rows (get_or kinds j kind)) from
