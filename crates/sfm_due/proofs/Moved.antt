-- A chain of walk moves, as the engine tells it, is a list of moves along shortest walks.
use Rattle.std.proofs.Common.{◌≡◌, ◌⊎◌, ℕ, zero, suc, ◌<◌, ◌≤◌, List, [], ◌∷◌, length, get_or, map, slice_get, Some, refl, sym, ap, ◌∙◌, subst, ℤ, pos, ◌≤ℤ◌, ◌<ℤ◌, arith, inl, inr}
use Rattle.std.specs.List.{AllZip, FoldsTo, zip}
use Rattle.std.proofs.lemmas.Bool.{cases_lt}
use Rattle.std.proofs.lemmas.Int.{ints}
use Rattle.std.proofs.lemmas.List.{ext_get_or, get_or_past}
use Rattle.std.proofs.lemmas.Option.{slice_get-get_or, slice_get_within, same_Some}
use Rattle.sfm_spec.specs.Families.{Meaning, AreBases, AreTerms, rest_at, sized_shift}
use Rattle.sfm_spec.specs.Walks.{AreSteps, AllCanMove, IsFewWalks, IsWalk, IsWalkChain, IsWalkMove, MovesAlong, base_at, last_of, no_term, term_at}
use Rattle.sfm_spec.specs.Walks as walks
use Rattle.sfm_spec.proofs.Moves.{move_none, move_more}
use Rattle.sfm_spec.proofs.Gain.{moves_along}
use Rattle.sfm_spec.proofs.MoveOrder.{bases-count}
use Rattle.sfm_spec.proofs.Walks.{bases-at, terms-at}
use Rattle.sfm_kind.specs.declared.kind.Kind.{Kind}
use Rattle.sfm_kind.specs.Kinds.{kind_start, kind-starts}
use Rattle.sfm_kind.specs.Limits.{AreInBounds}
use Rattle.sfm_kind.specs.Meanings.{AreStarts, IsStartOf}
use Rattle.sfm_kind.proofs.Meanings.{kinds-mean, kinds-start}
use Rattle.sfm_check.proofs.AllSlopes.{fit}
use Rattle.sfm_check.specs.Truth.{Section}
use Rattle.sfm_due.specs.Meanings.{meanings_of}
use Rattle.sfm_due.specs.Due.{IsReached}
use Rattle.sfm_due.specs.Moves.{Step, CanMove, Leads, Moves, moved_by}

module _ (terms : List Meaning) (q : ℤ) (bases : List (List ℤ)) (a : ℤ) where
  -- ---- the engine's steps as those of a move

  abbrev steps_of : (from : ℕ) (steps : List walks.Step) → AllCanMove terms q bases from steps a
      → List Step
  steps_of from [] h = []
  steps_of from (s ∷ steps) h = (s.term, h.0.u, h.0.v) ∷ steps_of s.to steps h.1

  length-steps_of : (from : ℕ) (steps : List walks.Step) (h : AllCanMove terms q bases from steps a)
      → length (steps_of from steps h) ≡ length steps
  length-steps_of from [] h = refl
  length-steps_of from (s ∷ steps) h = ap suc (length-steps_of s.to steps h.1)

  leads : (from : ℕ) (steps : List walks.Step) (h : AllCanMove terms q bases from steps a)
      → Leads terms q bases a from (steps_of from steps h) (last_of from steps)
  leads from [] h = refl
  leads from (s ∷ steps) h =
      let places = (term_at terms s.term).places in (
        s.to,
        (
          slice_get-get_or places h.0.u 0 h.0.u_in ∙ ap Some h.0.begins,
          slice_get-get_or places h.0.v 0 h.0.v_in ∙ ap Some h.0.ends,
          h.0.apart,
          h.0.base,
        ),
        leads s.to steps h.1,
      )

  -- ---- the steps of a move as the engine's

  abbrev engine_steps : (from : ℕ) (steps : List Step) (to : ℕ)
      → Leads terms q bases a from steps to → List walks.Step
  engine_steps from [] to h = []
  engine_steps from ((i, u, v) ∷ steps) to h =
      record { to = h.0; term = i } ∷ engine_steps h.0 steps to h.2

  length-engine_steps : (from : ℕ) (steps : List Step) (to : ℕ)
      (h : Leads terms q bases a from steps to)
      → length (engine_steps from steps to h) ≡ length steps
  length-engine_steps from [] to h = refl
  length-engine_steps from ((i, u, v) ∷ steps) to h = ap suc (length-engine_steps h.0 steps to h.2)

  last-engine_steps : (from : ℕ) (steps : List Step) (to : ℕ)
      (h : Leads terms q bases a from steps to) → last_of from (engine_steps from steps to h) ≡ to
  last-engine_steps from [] to h = h
  last-engine_steps from ((i, u, v) ∷ steps) to h = last-engine_steps h.0 steps to h.2

  -- a term past the last one has no places
  in_range : (i u e : ℕ) → slice_get (term_at terms i).places u ≡ Some e → i < length terms
  in_range i u e h = at (cases_lt i (length terms))
    where
      at : (i < length terms) ⊎ (length terms ≤ i) → i < length terms
      at (inl lt) = lt
      at (inr ge) =
          let none : slice_get (no_term.places) u ≡ Some
          e = subst (λ (t : Meaning). slice_get t.places u ≡ Some e)
          (get_or_past terms i no_term ge) h in
          absurd (omega (arith, slice_get_within no_term.places u e none))

  can_move : (from i u v to : ℕ) → CanMove terms q bases a from (i, u, v) to
      → walks.CanMove terms q bases from (record { to = to; term = i }) a
  can_move from i u v to h =
      let places = (term_at terms i).places in
      let lu = slice_get_within places u from h.0 in
      let lv = slice_get_within places v to h.1 in
      record {
        in_range = in_range i u from h.0;
        u = u;
        v = v;
        u_in = lu;
        v_in = lv;
        begins = same_Some (get_or places u 0) from (sym (slice_get-get_or places u 0 lu) ∙ h.0);
        ends = same_Some (get_or places v 0) to (sym (slice_get-get_or places v 0 lv) ∙ h.1);
        apart = h.2;
        base = h.3;
      }

  engine_can : (from : ℕ) (steps : List Step) (to : ℕ) (h : Leads terms q bases a from steps to)
      → AllCanMove terms q bases from (engine_steps from steps to h) a
  engine_can from [] to h = tt
  engine_can from ((i, u, v) ∷ steps) to h =
      (can_move from i u v h.0 h.1, engine_can h.0 steps to h.2)

  steps_fit : pos 1 ≤ℤ a → (from : ℕ) (steps : List walks.Step)
      → AllCanMove terms q bases from steps a → AreSteps terms q bases from steps
  steps_fit low from [] h = tt
  steps_fit low from (s ∷ steps) h = ((a, low, h.0), steps_fit low s.to steps h.1)

  -- a walk that ends elsewhere has a step
  walk_of : (shift : List ℤ) (from : ℕ) (steps : List walks.Step) → pos 1 ≤ℤ a
      → rest_at terms bases shift from <ℤ pos 0
      → pos 0 <ℤ rest_at terms bases shift (last_of from steps)
      → AllCanMove terms q bases from steps a → IsWalk terms q bases from steps
  walk_of shift from [] low below over h = absurd (omega (arith, ints, below, over))
  walk_of shift from (s ∷ steps) low below over h =
      record { steps_exist = omega arith; steps_fit = steps_fit low from (s ∷ steps) h }

  -- ---- the bases behind a move

  module _ (n : ℕ) (placed : AreTerms n terms) (are : AreBases q terms bases) where
    walk_moved : (from : ℕ) (steps : List walks.Step) (h : AllCanMove terms q bases from steps a)
        → IsWalkMove terms bases from steps a (moved_by a (steps_of from steps h) bases)
    walk_moved from [] h = move_none terms bases from a
    walk_moved from (s ∷ steps) h =
        let li = h.0.in_range in
        let lb : s.term < length bases = omega (arith, li, bases-count q terms bases are) in
        move_more terms bases (moved_by a (steps_of s.to steps h.1) bases) from s steps a h.0.u
        h.0.v (terms-at n terms s.term placed li).placed.distinct
        (bases-at q terms bases s.term are li).0
        h.0.u_in h.0.v_in h.0.apart h.0.begins h.0.ends lb (walk_moved s.to steps h.1)

  same_after : (from : ℕ) (steps : List walks.Step) (b c : List (List ℤ))
      → IsWalkMove terms bases from steps a b → IsWalkMove terms bases from steps a c → b ≡ c
  same_after from steps b c h g =
      ext_get_or [] b c (h.same_count ∙ sym g.same_count) (λ i l. row i) where
        row : (i : ℕ) → base_at b i ≡ base_at c i
        row i = ext_get_or (pos 0) (base_at b i) (base_at c i)
            (h.same_lengths i ∙ sym (g.same_lengths i)) (λ j l.
            let lj : j < length (base_at bases i) = omega (arith, l, h.same_lengths i) in
            h.changed i j lj ∙ sym (g.changed i j lj))

-- ---- a chain of moves

module _ (terms : List Meaning) (n : ℕ) (q : ℤ) (shift : List ℤ) (low : pos 1 ≤ℤ q)
    (placed : AreTerms n terms) where
  one_move : (bases after : List (List ℤ)) → AreBases q terms bases
      → MovesAlong terms q shift bases after → (a : ℤ) × Moves terms q shift bases a after
  one_move bases after are h = (
    h.a,
    record {
      first = h.first;
      steps = steps_of terms q bases h.a h.first h.steps h.by_steps;
      last = last_of h.first h.steps;
      some = h.some;
      walk = leads terms q bases h.a h.first h.steps h.by_steps;
      by_first = h.by_first;
      by_last = h.by_last;
      fewest = fewest;
      moved = same_after terms q bases h.a h.first h.steps after
          (moved_by h.a (steps_of terms q bases h.a h.first h.steps h.by_steps) bases) h.moved
          (walk_moved terms q bases h.a n placed are h.first h.steps h.by_steps);
    },
  ) where
    fewest : (others : List Step) (end : ℕ) → Leads terms q bases (pos 1) h.first others end
        → pos 0 <ℤ rest_at terms bases shift end
        → length (steps_of terms q bases h.a h.first h.steps h.by_steps) ≤ length others
    fewest others end can over =
        let others' = engine_steps terms q bases (pos 1) h.first others end can in
        let last : last_of h.first others' ≡ end = last-engine_steps terms q bases (pos 1) h.first
        others end can in
        let over' : pos 0 <ℤ rest_at terms bases shift (last_of h.first others') = rw last over in
        let walk = walk_of terms q bases (pos 1) shift h.first others' (omega (arith, ints))
        h.shortest.below over' (engine_can terms q bases (pos 1) h.first others end can) in
        let few = h.shortest.shortest.fewest others' walk over' in
        omega (
          arith,
          few,
          length-steps_of terms q bases h.a h.first h.steps h.by_steps,
          length-engine_steps terms q bases (pos 1) h.first others end can,
        )

  pub moves_of : (t : ℕ) (bases last : List (List ℤ)) → AreBases q terms bases
      → IsWalkChain terms q shift t bases last → (amounts : List ℤ) × (length amounts ≡ t)
      × FoldsTo (Moves terms q shift) bases amounts last
  moves_of zero bases last are h = ([], refl, sym h)
  moves_of (suc t) bases last are h =
      let (mid, move, rest) = h in
      let (a, moved) = one_move bases mid are move in
      let next = moves_along terms bases n q shift (omega (arith, ints, low)) placed are mid move in
      let (amounts, count, folds) = moves_of t mid last next.0 rest in
      (a ∷ amounts, omega (arith, count), (mid, moved, folds))

-- ---- the bases of a section

-- the first bases, kind by kind
each_start : (terms : List Kind) (meant : List Meaning) (q : ℤ) (firsts : List (List ℤ))
    → AreStarts terms meant q firsts
    → AllZip (λ (kind, term) first. IsStartOf kind term.value q first) (zip terms meant) firsts
each_start [] [] q [] h = tt
each_start [] [] q (x ∷ rows) h = absurd h
each_start [] (term ∷ meant) q rows h = absurd h
each_start (kind ∷ kinds) [] q rows h = absurd h
each_start (kind ∷ kinds) (term ∷ meant) q [] h = absurd h
each_start (kind ∷ kinds) (term ∷ meant) q (x ∷ rows) h = (h.0, each_start kinds meant q rows h.1)

abbrev starts_of : List Kind → ℤ → List (List ℤ)
starts_of terms q = map (λ kind. kind_start kind q) terms

start_bases : (terms : List Kind) (q : ℤ) → pos 1 ≤ℤ q
    → AreBases q (meanings_of terms) (starts_of terms q)
start_bases [] q low = tt
start_bases (kind ∷ kinds) q low =
    let h = kind-starts kind q low in (h.0, h.1, start_bases kinds q low)

pub reached : (terms : List Kind) (n : ℕ) (sizes : List ℤ) (section : Section) → AreInBounds n terms
    → pos 1 ≤ℤ section.den
    → IsFewWalks (meanings_of terms) n section.den (sized_shift sizes section.num)
    (starts_of terms section.den) section.bases
    → IsReached terms (meanings_of terms) n sizes section
reached terms n sizes section bounded low h =
    let (t, few, chain) = h in
    let (amounts, count, moved) = moves_of (meanings_of terms) n section.den
    (sized_shift sizes section.num) low (fit n terms bounded) t (starts_of terms section.den)
    section.bases (start_bases terms section.den low) chain in
    record {
      firsts = starts_of terms section.den;
      amounts = amounts;
      starts = each_start terms (meanings_of terms) section.den (starts_of terms section.den)
          (kinds-start terms (meanings_of terms) section.den (kinds-mean terms));
      few = omega (arith, few, count);
      moved = moved;
    }
