use Rattle.std.proofs.Common.{◌≡◌, ◌<◌, ◌^◌, ℕ, List, [], ◌∷◌, length, map, get_or, ℤ, pos, ◌≤ℤ◌, sym, ap, ◌∙◌, rules, arith, FitsSigned}
use Rattle.std.proofs.lemmas.Int.{ints, to_z-of_z}
use Rattle.std.proofs.lemmas.List.{get_or_default, length-map}
use mir.Syntax.{w128}
use Rattle.sfm_spec.specs.Sets.{magnitudes}
use Rattle.sfm_spec.specs.Families.{Meaning, deficit, meanings, rest_at, sized_shift}
use Rattle.sfm_kind.specs.declared.kind.Kind.{Kind}
use Rattle.sfm_spec.specs.Walks.{base_at, term_at}
use Rattle.sfm_law.specs.Rest.{IsRest}
use Rattle.sfm_law.proofs.Lists.{meanings-at}
use Rattle.sfm_law.proofs.Rests.{rest-total}
use Rattle.sfm_extreme.proofs.Deficits.{deficit_by_rest}
use Rattle.sfm_kind.specs.Kinds.{kind_places, kind_value}
use Rattle.sfm_cert.specs.Form.{AreFormedRows}
use Rattle.sfm_sizes.proofs.Sized.{sized-small}
use Rattle.sfm_check.proofs.Forming.{row_count, row_width}
use Rattle.sfm_check.proofs.values.deficit_at.Goals.{After-deref}
use Rattle.sfm_check.proofs.values.deficit_at.Goals as goal

pub shift_by-requires-clause-sizes : goal.shift_by-requires-clause-sizes
shift_by-requires-clause-sizes c = rw c.requires.sizes.places c.requires.sizes

-- the shift is the number for each unit of size
shift : (c : After-deref) → c.deref.result.now ≡ sized_shift c.args.sizes.now c.args.num
shift c =
    let e = c.requires.entry in
    let fn : FitsSigned w128 c.args.num = omega (arith, ints, e) in
    c.deref.ensures.value ∙ simp to_z-of_z at c.in_ok-shift.ensures

shift-places : (c : After-deref) → length c.deref.result.now ≡ length c.args.instance.now.names
shift-places c = ap length (shift c) ∙ (length-map c.args.sizes.now _ ∙ c.requires.sizes.places)

-- its magnitudes are small
shift-small : (c : After-deref) → magnitudes c.deref.result.now ≤ℤ pos (10 ^ 36)
shift-small c =
    rw (shift c) (sized-small (10 ^ 30) (length c.args.instance.now.names) c.args.sizes.now
    c.args.num
    c.requires.entry c.requires.sizes)

pub rest_of-requires-clause-placed : goal.rest_of-requires-clause-placed
rest_of-requires-clause-placed c =
    rw (c.terms.ensures.terms, shift-places (goal.at.rest_of-requires-clause-placed c).After-deref)
    c.terms.ensures.bounded.placed

-- each row is as long as its term has places
entries : (ts : List Kind) (rows : List (List ℤ))
    → AreFormedRows (map (λ term. length (kind_places term)) ts) rows
    → (i : ℕ) → i < length ts → length (base_at rows i) ≡ length
    (term_at (meanings kind_places kind_value ts) i).places
entries [] rows f i l = absurd (omega (arith, l))
entries (t ∷ ts) rows f i l =
    let x = get_or (t ∷ ts) i t in
    row_width (t ∷ ts) rows i x f l (read i l)
    ∙ sym (ap (λ (m : Meaning). length m.places)
    (meanings-at kind_places kind_value (t ∷ ts) i x l (read i l))) where
      read : (i : ℕ) → i < length (t ∷ ts)
          → get_or (t ∷ ts) i t ≡ get_or (t ∷ ts) i (get_or (t ∷ ts) i t)
      read i l = get_or_default (t ∷ ts) i t (get_or (t ∷ ts) i t) l

pub rest_of-requires-clause-rows : goal.rest_of-requires-clause-rows
rest_of-requires-clause-rows c =
    rw c.terms.ensures.terms (row_count
    (map (λ term. length (kind_places term)) c.args.instance.now.terms) c.args.bases.now
    c.requires.bases ∙ length-map c.args.instance.now.terms (λ term. length (kind_places term)))

pub rest_of-requires-clause-small : goal.rest_of-requires-clause-small
rest_of-requires-clause-small c = c.requires.bases.small

pub rest_of-requires-clause-few : goal.rest_of-requires-clause-few
rest_of-requires-clause-few c = rw c.terms.ensures.terms c.terms.ensures.bounded.few_places

pub rest_of-requires-clause-entries : goal.rest_of-requires-clause-entries
rest_of-requires-clause-entries c =
    rw c.terms.ensures.terms (entries c.args.instance.now.terms c.args.bases.now c.requires.bases)

pub rest_of-requires-clause-shifts : goal.rest_of-requires-clause-shifts
rest_of-requires-clause-shifts c =
    shift-small (goal.at.rest_of-requires-clause-shifts c).After-deref

pub deficit_of-requires : goal.deficit_of-requires
deficit_of-requires c =
    let ts = c.args.instance.now.terms in
    let n = length c.args.instance.now.names in
    let b = c.terms.ensures.bounded in
    let few = b.few in
    let path = (goal.at.deficit_of-requires c).After-deref in
    let places = shift-places path in
    let rest : IsRest (meanings kind_places kind_value ts) c.deref.result.now c.args.bases.now
    c.in_ok-z.z.items = rw c.terms.ensures.terms at c.in_ok-z.ensures in
    rw c.deref-2.ensures.value (rest-total kind_places kind_value ts c.deref.result.now
    c.args.bases.now c.in_ok-z.z.items rest c.requires.bases.small b.few_places
    (omega (arith, few, places)) (shift-small path))

pub returns : goal.returns
returns c =
    let ms = meanings kind_places kind_value c.args.instance.now.terms in
    let n = length c.args.instance.now.names in
    let rows = c.args.bases.now in
    let e = c.requires.entry in
    let fn : FitsSigned w128 c.args.num = omega (arith, ints, e) in
    let fd : FitsSigned w128 c.deficit_of.result = search rules in
    let path = (goal.at.returns c).After-deref in
    let rest : IsRest ms c.deref.result.now rows c.in_ok-z.z.items = rw c.terms.ensures.terms at
    c.in_ok-z.ensures in
    let value = rw c.deref-2.ensures.value at c.deficit_of.ensures in
    let by = deficit_by_rest ms c.deref.result.now rows c.in_ok-z.z.items rest in
    let there : deficit (length c.deref.result.now) (rest_at ms rows c.deref.result.now) ≡ deficit n
    (rest_at ms rows (sized_shift c.args.sizes.now c.args.num)) =
    ap (λ k. deficit k (rest_at ms rows c.deref.result.now)) (shift-places path)
    ∙ ap (λ (z : List ℤ). deficit n (rest_at ms rows z)) (shift path) in
    simp to_z-of_z (value ∙ (by ∙ there))
