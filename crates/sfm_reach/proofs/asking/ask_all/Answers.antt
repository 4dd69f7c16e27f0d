use Rattle.std.proofs.Common.{◌≡◌, ◌≢◌, ◌⊎◌, inl, inr, ℕ, ◌+◌, ◌<◌, List, [], length, get_or, set, ℤ, sym, ap, subst, ◌∙◌, arith, FitsSigned, get_or-set_same, get_or-set_other, length-set}
use Rattle.std.proofs.lemmas.Bool.{cases_eq}
use Rattle.std.proofs.lemmas.Int.{to_z-of_z}
use Rattle.std.proofs.lemmas.List.{get_or_default, length-map}
use mir.Syntax.{w128}
use Rattle.sfm_spec.specs.Sets.{AreDistinct}
use Rattle.sfm_spec.specs.Terms.{SetFunction, times}
use Rattle.sfm_spec.specs.Families.{Meaning, meanings}
use Rattle.sfm_spec.specs.Walks.{base_at}
use Rattle.sfm_law.proofs.Lists.{meanings-at, length-meanings}
use Rattle.sfm_reach.specs.declared.bits.Bits.{Bits}
use Rattle.sfm_reach.specs.Based.{IsPlacedBase}
use Rattle.sfm_reach.specs.Reach.{IsReachTable, IsTable, kept_fits, table_at}
use Rattle.sfm_reach.proofs.Noting.{notes_put, sized_read, sized_set}
use Rattle.sfm_reach.proofs.Reaching.{table_steps}
use Rattle.sfm_reach.proofs.asking.ask_all.Goals as goal

-- one term more is asked
tables_more : {X : Type 0} (places : X → List ℕ) (value : X → SetFunction) (terms : List X) (q : ℤ)
    (bases : List (List ℤ)) (tables : List (List Bits)) (i : ℕ) (term : X) (rows : List Bits)
    → i < length terms → term ≡ get_or terms i term
    → i < length tables → AreDistinct (places term)
    → ((j : ℕ) → j < i → IsTable (meanings places value terms) q bases j (table_at tables j))
    → IsReachTable (places term) (times q (value term)) (base_at bases i) (length (places term))
    rows → (j : ℕ) → j < i + 1 → IsTable (meanings places value terms) q bases j
    (table_at (set tables i rows) j)
tables_more places value terms q bases tables i term rows l is inside distinct before told j lj =
    at (cases_eq j i) where
      Right : ℕ → Type 0
      Right k = IsTable (meanings places value terms) q bases k (table_at (set tables i rows) k)

      here : IsTable (meanings places value terms) q bases i rows
      here = table_steps (meanings places value terms) q bases i rows
          (rw (length-meanings places value terms) l)
          (subst AreDistinct
          (sym (ap (λ (m : Meaning). m.places) (meanings-at places value terms i term l is)))
          distinct)
          (rw (meanings-at places value terms i term l is) told)

      at : (j ≡ i) ⊎ (j ≢ i) → Right j
      at (inl same) = subst Right (sym same) (rw (get_or-set_same tables i rows [] inside) here)
      at (inr ne) = rw (get_or-set_other tables i j rows [] ne) (before j (omega (arith, lj, ne)))

pub ask_kept-requires-clause-noted : goal.ask_kept-requires-clause-noted
ask_kept-requires-clause-noted g c =
    let t = g.T.Term in
    let fq : FitsSigned w128 c.args.q = c.ranges.q in
    let inv = simp to_z-of_z at c.loop-i.invariant in
    let F : List ℤ → Type 0 = λ x. kept_fits t.fits c.index-terms-i.result
    c.index_mut-note.result.now c.args.q x in
    let noted : F c.row-x.result.now = subst F (sym c.row-x.ensures)
    (inv.3 c.loop-i.i c.loop-i-test.true c.index-terms-i.result c.index-terms-i.is
    c.index_mut-note.result.now c.index_mut-note.ensures.value) in
    simp to_z-of_z noted

pub loop-i-preserved : goal.loop-i-preserved
loop-i-preserved g c =
    let t = g.T.Term in
    let fq : FitsSigned w128 c.args.q = c.ranges.q in
    let terms = c.args.terms.now in
    let i = c.loop-i.i in
    let l = c.loop-i-test.true in
    let term = c.index-terms-i.result in
    let is = c.index-terms-i.is in
    let inv = simp to_z-of_z at c.loop-i.invariant in
    let tables = c.loop-i.rows.items in
    let inside : i < length tables = omega (arith, inv.0.count, length-map terms t.places, l) in
    let e = c.in_ok-ask_kept.ensures in
    let same = e.rows ∙ ap length
    (c.index_mut.ensures.value ∙ get_or_default tables i c.index_mut.result.now [] inside) in
    let shown : c.row-x.result.now ≡ base_at c.args.bases.now i = c.row-x.ensures in
    let told = simp to_z-of_z at (rw shown at e.asked) in
    let noted = rw shown at (simp to_z-of_z at e.noted) in
    let notes = c.loop-i.notes.items in
    let based = c.requires.based.each i l term is in
    simp to_z-of_z (
      sized_set _ tables i c.ask_kept.new.rows inv.0 same,
      tables_more t.places t.value_of terms c.args.q c.args.bases.now tables i term
          c.ask_kept.new.rows l is inside based.placed.distinct inv.1 told,
      length-set notes i c.ask_kept.new.kept ∙ inv.2,
      notes_put (kept_fits t.fits) c.args.q terms notes c.args.bases.now i term c.ask_kept.new.kept
          inv.2 l inv.3 is noted,
    )

pub returns : goal.returns
returns g c =
    let fq : FitsSigned w128 c.args.q = c.ranges.q in
    let inv = simp to_z-of_z at c.loop-i.invariant in
    record {
      count = inv.2;
      noted = inv.3;
      sized = inv.0;
      tables = λ i l. inv.1 i (omega (arith, l, c.loop-i.auto.i-end, c.loop-i-test.false));
    }

pub loop-i-init : goal.loop-i-init
loop-i-init g c =
    let t = g.T.Term in
    let fq : FitsSigned w128 c.args.q = c.ranges.q in
    simp to_z-of_z (
      c.requires.rows,
      (λ i l. absurd {A = IsTable (meanings t.places t.value_of c.args.terms.now) c.args.q
          c.args.bases.now i (table_at c.args.rows.now.items i)} (omega (arith, l))),
      c.requires.count,
      c.requires.noted,
    )

pub row-x-requires : goal.row-x-requires
row-x-requires g c = rw c.requires.based.count c.loop-i-test.true

pub ask_kept-requires-clause-based : goal.ask_kept-requires-clause-based
ask_kept-requires-clause-based g c =
    let t = g.T.Term in
    let fq : FitsSigned w128 c.args.q = c.ranges.q in
    let B : List ℤ → Type 0 = λ x. IsPlacedBase t.places t.value_of t.size_of c.index-terms-i.result
    c.args.q x in
    simp to_z-of_z (subst B (sym c.row-x.ensures)
    (c.requires.based.each c.loop-i.i c.loop-i-test.true c.index-terms-i.result
    c.index-terms-i.is))

pub ask_kept-requires-clause-rows : goal.ask_kept-requires-clause-rows
ask_kept-requires-clause-rows g c =
    let t = g.T.Term in
    let i = c.loop-i.i in
    let l = c.loop-i-test.true in
    let term = c.index-terms-i.result in
    let sized = sized_read t.places c.args.terms.now c.loop-i.rows.items i term
    c.index_mut.result.now c.loop-i.invariant.0 l c.index-terms-i.is
    c.index_mut.ensures.value in
    sized ∙ sym (ap length c.row-x.ensures
    ∙ (c.requires.based.each i l term c.index-terms-i.is).based.entries)
