-- How much can be exchanged at a base of a graphic term, and to whom an edge has room: by a split
-- in the test of one vertex, its root. Parts with an edge have its ends, so no test asks less of
-- them than that of an end. Where an edge u has room to another one e, a part with u and without e
-- has something left in each test, so the test of an end of e tells what u may get one of.
use Rattle.std.proofs.Common.{◌≡◌, ◌≢◌, ℕ, ◌<◌, Bool, false, List, [], ◌∷◌, length, get_or, set, ℤ, pos, ◌+ℤ◌, ◌-ℤ◌, ◌*ℤ◌, ◌≤ℤ◌, ◌<ℤ◌, refl, sym, ◌∙◌, arith, inr, ⊎_elim, length-set, get_or-set_other, get_or-set_same}
use Rattle.std.proofs.lemmas.Bool.{cases_eq, cases_lt, false≢true}
use Rattle.std.proofs.lemmas.Int.{ints, clamps, by_lt_z}
use Rattle.std.specs.Int.{int_min}
use Rattle.sfm_spec.specs.Bounds.{IsFactor}
use Rattle.sfm_spec.specs.Rows.{Depends}
use Rattle.sfm_spec.specs.Sets.{Has, sum_over}
use Rattle.sfm_spec.specs.Terms.{times, IsBase, IsCapacity, HasRoom, exchanged}
use Rattle.sfm_spec.specs.Kinds.{Edge, IsForest}
use Rattle.sfm_spec.proofs.Exchange.{base_between}
use Rattle.sfm_spec.proofs.Sums.{share, length-exchanged, sum_over-exchanged}
use Rattle.sfm_assign.specs.Splits.{CanBeMet}
use Rattle.sfm_assign.specs.Lenders.{IsMostUpto}
use Rattle.sfm_law.specs.Room.{IsReach, IsCapacityUpto}
use Rattle.sfm_law.proofs.Monotone.{AreCounts}
use Rattle.sfm_rank.proofs.Bases.{raised-counts, lower, least_capacity, whole_capacity, base_counts, given-counts, gives_room, room_gives}
use Rattle.sfm_matroid.specs.Amounts.{CanHold}
use Rattle.sfm_graphic.specs.Cuts.{IsWithinEnds}
use Rattle.sfm_graphic.specs.Forests.{forest-matroid, graphic-ranks}
use Rattle.sfm_matroid.specs.Givers.{IsGiver, IsRowIn}
use Rattle.sfm_matroid.proofs.Lending.{reach_row}
use Rattle.sfm_graphic.specs.Graphs.{graphic_rank, graphic_value}
use Rattle.sfm_graphic.specs.Notes.{end_demands}
use Rattle.sfm_graphic.specs.Numbered.{IsEndOf, numbered, end_lists, vertex_capacities, vertex_count}
use Rattle.sfm_graphic.specs.declared.graphic.Graphic.{Graphic}
use Rattle.sfm_matroid.proofs.Fits.{limit_of}
use Rattle.sfm_graphic.proofs.GraphicBases.{base_tests, capped_base}
use Rattle.sfm_graphic.proofs.MatroidTests.{numbered_tests}
use Rattle.sfm_graphic.proofs.Numbering.{length-vertices, vertices_bounded}
use Rattle.sfm_graphic.proofs.Numbers.{length-numbered, numbered_below}
use Rattle.sfm_graphic.proofs.OneTest.{IsLessWithout, end_below, end_enough, less_exchanged, less_raised, more_exchanged}
use Rattle.sfm_graphic.proofs.SplitTests.{split_within_ends, within_ends_split}

-- y passes the test of t
abbrev Passes : List Edge → ℤ → List ℤ → ℕ → Type 0
Passes edges c y t = IsWithinEnds (numbered edges) (vertex_count edges) c y t

-- y is split in the test of t
abbrev pub Splits : List Edge → ℤ → List ℤ → ℕ → Type 0
Splits edges c y t = CanBeMet y (end_lists (numbered edges))
    (vertex_capacities (vertex_count edges) c t)

module _ (k : ℕ) (q w : ℤ) (edges : List Edge) (same : length edges ≡ k) (low : pos 0 ≤ℤ (q *ℤ w))
    (x : List ℤ) (kx : length x ≡ k) (base : IsBase (times q (graphic_value w edges)) x) where
  sized : length x ≡ length edges
  sized = kx ∙ sym same

  numbered-sized : (y : List ℤ) → length y ≡ length x → length y ≡ length (numbered edges)
  numbered-sized y ky = ky ∙ (sized ∙ sym (length-numbered edges []))

  edge : (u : ℕ) → u < length x → u < length (numbered edges)
  edge u xu = let l = length-numbered edges [] in let s = sized in omega (arith, xu, s, l)

  root_below : (u r : ℕ) → u < length x → IsEndOf (numbered edges) u r → r < vertex_count edges
  root_below u r xu end = end_below (numbered edges) (vertex_count edges) (numbered_below edges [])
      u r (edge u xu) end

  counts : AreCounts x
  counts = base_counts (length edges) (vertex_count edges) q w low (IsForest edges)
      (graphic_rank edges) (forest-matroid edges) (graphic-ranks edges)
      (λ a x. IsWithinEnds (numbered edges) (vertex_count edges) (q *ℤ w) x a) x sized base

  passes : (t : ℕ) → t < vertex_count edges → Passes edges (q *ℤ w) x t
  passes t lt = base_tests k q w edges same low x kx base t lt

  split : (y : List ℤ) → length y ≡ length x → AreCounts y → (t : ℕ) → t < vertex_count edges
      → Passes edges (q *ℤ w) y t → Splits edges (q *ℤ w) y t
  split y ky cy t lt met = within_ends_split (numbered edges) (vertex_count edges)
      (numbered_below edges []) (q *ℤ w) y (numbered-sized y ky) t lt low cy met

  passed : (y : List ℤ) → length y ≡ length x → (t : ℕ) → t < vertex_count edges
      → Splits edges (q *ℤ w) y t → Passes edges (q *ℤ w) y t
  passed y ky t lt can = split_within_ends (numbered edges) (vertex_count edges)
      (numbered_below edges []) (q *ℤ w) y (numbered-sized y ky) t lt can

  -- a base is split in each test
  pub base_split : (t : ℕ) → t < vertex_count edges → Splits edges (q *ℤ w) x t
  base_split t lt = split x refl counts t lt (passes t lt)

  -- and so it is with nothing at a place
  pub rest_split : (v t : ℕ) → v < length x → t < vertex_count edges
      → Splits edges (q *ℤ w) (set x v (pos 0)) t
  rest_split v t xv lt = split (set x v (pos 0)) (length-set x v (pos 0)) few t lt
      ((numbered_tests edges q w low).smaller t (set x v (pos 0)) x lt
      (length-set x v (pos 0) ∙ sized) sized few
      (λ e h. at e (λ y. y ≤ℤ get_or x e (pos 0)) (λ same. let c = counts v xv in rw same c)
      (omega (arith, ints))) (passes t lt)) where
        at : (e : ℕ) (P : ℤ → Type 0) → (e ≡ v → P (pos 0)) → P (get_or x e (pos 0))
            → P (get_or (set x v (pos 0)) e (pos 0))
        at e P here there = ⊎_elim
            (λ (same : e ≡ v). rw (same, get_or-set_same x v (pos 0) (pos 0) xv) (here same))
            (λ (ne : e ≢ v). rw (get_or-set_other x v e (pos 0) (pos 0) ne) there)
            (cases_eq e v)

        few : AreCounts (set x v (pos 0))
        few e lt = let l = length-set x v (pos 0) in at e (λ y. pos 0 ≤ℤ y)
            (λ same. omega (arith, ints)) (counts e (omega (arith, lt, l)))

  -- what the test of an end allows an edge, all tests do
  own_end : (u r : ℕ) → u < length x → IsEndOf (numbered edges) u r → (y : List ℤ)
      → IsLessWithout u x y → Passes edges (q *ℤ w) y r → (t : ℕ) → t < vertex_count edges
      → Passes edges (q *ℤ w) y t
  own_end u r xu end y less here =
      end_enough (numbered edges) (vertex_count edges) (numbered_below edges []) (q *ℤ w) low x y x
      (numbered-sized x refl) (numbered-sized x refl) u u r (edge u xu) end less
      (λ s ks has out. absurd (false≢true (sym out ∙ has))) passes passes here

  -- and so does that of an end of another edge to which it has room, of one more
  led_end : (e r u : ℕ) → e < length x → IsEndOf (numbered edges) e r → u < length x
      → Depends (times q (graphic_value w edges)) x u e → (y : List ℤ) → IsLessWithout u x y
      → ((s : List Bool) → length s ≡ length x → sum_over s y ≤ℤ (sum_over s x +ℤ pos 1))
      → Passes edges (q *ℤ w) y r → (t : ℕ) → t < vertex_count edges → Passes edges (q *ℤ w) y t
  led_end e r u xe end xu lead y less more here = ⊎_elim
      (λ (is : e ≡ u). own_end u r xu (rw is at end) y less here)
      (λ (a, one, moved). ⊎_elim
      (λ (is : u ≡ e). own_end u r xu (rw (← is) at end) y less here)
      (λ (ne : u ≢ e).
      let z = exchanged x u e (pos 1) in
      let lz = length-exchanged x u e (pos 1) in
      let next = base_between base xu xe ne (pos 1) a (omega (arith, ints)) one moved in
      end_enough (numbered edges) (vertex_count edges) (numbered_below edges []) (q *ℤ w) low x y z
      (numbered-sized x refl) (numbered-sized z lz) u e r (edge e xe) end less (between ne lz)
      passes (λ t lt. base_tests k q w edges same low z (lz ∙ kx) next t lt) here)
      (cases_eq u e))
      lead where
        between : u ≢ e → length (exchanged x u e (pos 1)) ≡ length x → (s : List Bool)
            → length s ≡ length (exchanged x u e (pos 1)) → Has s u → get_or s e false ≡ false
            → sum_over s y ≤ℤ sum_over s (exchanged x u e (pos 1))
        between ne lz s ks has out =
            let m = more s (ks ∙ lz) in
            let sum = sum_over-exchanged s x u e (pos 1) (ks ∙ lz) xu xe ne in
            let su : share s u (pos 1) ≡ pos 1 = rw has refl in
            let se : share s e (pos 1) ≡ pos 0 = rw out refl in
            omega (arith, ints, m, sum, su, se)

  module _ (u v : ℕ) (xu : u < length x) (xv : v < length x) (ne : u ≢ v) where
    ku : u < length edges
    ku = let s = sized in omega (arith, xu, s)

    kv : v < length edges
    kv = let s = sized in omega (arith, xv, s)

    exchanged-places : length (exchanged x u v (pos 1)) ≡ length x
    exchanged-places = length-exchanged x u v (pos 1)

    giver_room : (e r : ℕ) → e < length x → IsEndOf (numbered edges) e r
        → Depends (times q (graphic_value w edges)) x u e → IsGiver x (q *ℤ w) u v
        → Splits edges (q *ℤ w) (exchanged x u v (pos 1)) r
        → HasRoom (times q (graphic_value w edges)) x u v
    giver_room e r xe end lead giver can =
        gives_room (length edges) (vertex_count edges) q w low (IsForest edges) (graphic_rank edges)
        (forest-matroid edges) (graphic-ranks edges)
        (λ a x. IsWithinEnds (numbered edges) (vertex_count edges) (q *ℤ w) x a)
        (numbered_tests edges q w low) x sized base u v ku kv ne (record {
          under_cap = giver.1;
          has = giver.2;
          met = led_end e r u xe end xu lead (exchanged x u v (pos 1))
              (less_exchanged x u v (pos 1) xu xv ne (omega (arith, ints)))
              (more_exchanged x u v xu xv ne)
              (passed (exchanged x u v (pos 1)) exchanged-places r (root_below e r xe end) can);
        })

    room_giver : (r : ℕ) → r < vertex_count edges → HasRoom (times q (graphic_value w edges)) x u v
        → IsGiver x (q *ℤ w) u v × Splits edges (q *ℤ w) (exchanged x u v (pos 1)) r
    room_giver r lr room =
        let give = room_gives (length edges) (vertex_count edges) q w low (IsForest edges)
        (graphic_rank edges) (forest-matroid edges) (graphic-ranks edges)
        (λ a x. IsWithinEnds (numbered edges) (vertex_count edges) (q *ℤ w) x a)
        (numbered_tests edges q w low) x sized base u v ku kv ne room in
        let cy = given-counts (length edges) (vertex_count edges) q w low (IsForest edges)
        (graphic_rank edges) (forest-matroid edges) (graphic-ranks edges)
        (λ a x. IsWithinEnds (numbered edges) (vertex_count edges) (q *ℤ w) x a)
        (numbered_tests edges q w low) x sized base u v ku kv ne give.has in (
          ((λ e. ne (sym e)), give.under_cap, give.has),
          split (exchanged x u v (pos 1)) exchanged-places cy r lr (give.met r lr),
        )

    -- x with u at a number and nothing at v
    abbrev with_u : ℤ → List ℤ
    with_u a = set (set x v (pos 0)) u a

    with-places : (a : ℤ) → length (with_u a) ≡ length x
    with-places a = length-set (set x v (pos 0)) u a ∙ length-set x v (pos 0)

    with-counts : (a : ℤ) → pos 0 ≤ℤ a → AreCounts (with_u a)
    with-counts a h = raised-counts (length edges) (vertex_count edges) q w low (IsForest edges)
        (graphic_rank edges) (forest-matroid edges) (graphic-ranks edges)
        (λ a x. IsWithinEnds (numbered edges) (vertex_count edges) (q *ℤ w) x a)
        (numbered_tests edges q w low) x sized base u v ku kv ne a h

    -- the most that u gets in the test of an end of it, up to what is wanted, what v has and what u
    -- lacks of q·w, is the room of (u, v) as far as it is wanted
    pub grown_capacity : (r : ℕ) → IsEndOf (numbered edges) u r → (wanted limit g : ℤ)
        → limit ≡ int_min wanted (int_min (get_or x v (pos 0)) ((q *ℤ w) -ℤ get_or x u (pos 0)))
        → IsMostUpto (end_demands (numbered edges) (vertex_count edges) (q *ℤ w) (set x v (pos 0))
        r) u limit g
        → IsCapacityUpto (times q (graphic_value w edges)) x u v wanted g
    grown_capacity r end wanted limit g is most =
        least_capacity (length edges) (vertex_count edges) q w low (IsForest edges)
        (graphic_rank edges) (forest-matroid edges) (graphic-ranks edges)
        (λ a x. IsWithinEnds (numbered edges) (vertex_count edges) (q *ℤ w) x a)
        (numbered_tests edges q w low) x sized base u v ku kv ne wanted g
        (let l = most.low in let h = most.high in omega (arith, ints, clamps, is, l, h)) (record {
          under_limit = let h = most.high in omega (arith, ints, clamps, is, h);
          under_v = let h = most.high in omega (arith, ints, clamps, is, h);
          under_cap = let h = most.high in omega (arith, ints, clamps, is, h);
          under_most = λ t lt. (
            get_or x u (pos 0) +ℤ g,
            own_end u r xu end (with_u (get_or x u (pos 0) +ℤ g))
                (less_raised x u v (get_or x u (pos 0) +ℤ g) xu xv (counts v xv)) met t lt,
            omega (arith, ints),
          );
          reached = by_lt_z g limit
              (λ less. inr
              (inr (inr (
                r,
                lr,
                get_or x u (pos 0) +ℤ g,
                record { reached = met; greatest = greatest less },
                omega (arith, ints),
              ))))
              (λ ge. let h = most.high in let e : g ≡ limit = omega (arith, ints, ge, h) in limit_of
              wanted (get_or x v (pos 0)) ((q *ℤ w) -ℤ get_or x u (pos 0)) g (e ∙ is) _);
        }) where
          lr : r < vertex_count edges
          lr = root_below u r xu end

          same_u : get_or (set x v (pos 0)) u (pos 0) ≡ get_or x u (pos 0)
          same_u = get_or-set_other x v u (pos 0) (pos 0) ne

          met : Passes edges (q *ℤ w) (with_u (get_or x u (pos 0) +ℤ g)) r
          met = passed (with_u (get_or x u (pos 0) +ℤ g)) (with-places (get_or x u (pos 0) +ℤ g)) r
              lr
              (rw same_u at most.reached)

          -- with one more than the most, the test is not met
          greatest : g <ℤ limit → (b : ℤ) → Passes edges (q *ℤ w) (with_u b) r
              → b ≤ℤ (get_or x u (pos 0) +ℤ g)
          greatest less b pb = by_lt_z (get_or x u (pos 0) +ℤ g) b
              (λ over.
              let cu = counts u xu in
              let lg = most.low in
              let next = get_or x u (pos 0) +ℤ (g +ℤ pos 1) in
              let hn : pos 0 ≤ℤ next = omega (arith, ints, cu, lg) in
              let pn = lower (length edges) (vertex_count edges) q w low (IsForest edges)
              (graphic_rank edges) (forest-matroid edges) (graphic-ranks edges)
              (λ a x. IsWithinEnds (numbered edges) (vertex_count edges) (q *ℤ w) x a)
              (numbered_tests edges q w low) x sized base u v ku kv ne r next b lr hn
              (omega (arith, ints, over)) pb in
              let can = split (with_u next) (with-places next) (with-counts next hn) r lr pn in
              let h = most.greatest (g +ℤ pos 1) (omega (arith, ints, lg))
              (omega (arith, ints, less))
              (rw same_u can) in
              absurd (omega (arith, ints, h)))
              (λ ge. ge)

    -- up to what v has, this is the room
    pub split_room : (g : ℤ) → IsCapacityUpto (times q (graphic_value w edges)) x u v
        (get_or x v (pos 0)) g → IsCapacity (times q (graphic_value w edges)) x u v g
    split_room g most = whole_capacity (length edges) (vertex_count edges) q w low (IsForest edges)
        (graphic_rank edges) (forest-matroid edges) (graphic-ranks edges)
        (λ a x. IsWithinEnds (numbered edges) (vertex_count edges) (q *ℤ w) x a)
        (numbered_tests edges q w low) x sized base u v ku kv ne g most

  -- a row in the split with the root at an end of an edge to which u has room, or which it is, is
  -- the reach of u
  pub row_reach : (e r u : ℕ) → e < length x → IsEndOf (numbered edges) e r → u < length x
      → Depends (times q (graphic_value w edges)) x u e → (to : List Bool) → length to ≡ length x
      → IsRowIn (end_demands (numbered edges) (vertex_count edges) (q *ℤ w) x r) (q *ℤ w) u to
      → IsReach (times q (graphic_value w edges)) x u to
  row_reach e r u xe end xu lead to places row =
      reach_row (times q (graphic_value w edges))
      (end_demands (numbered edges) (vertex_count edges) (q *ℤ w) x r) (q *ℤ w) u to places row
      (λ v xv ne giver can. giver_room u v xu xv ne e r xe end lead giver can)
      (λ v xv ne room. room_giver u v xu xv ne r (root_below e r xe end) room)

-- ---- no edges

no_edges : (edges : List Edge) (c : ℤ) (x : List ℤ) → length x ≡ length edges → length edges ≡ 0
    → Splits edges c x 0
no_edges [] c [] s z = (
  [],
  record {
    row_each = refl;
    cells = λ i lt. absurd (omega (arith, lt));
    amounts = λ i j. omega (arith, ints);
    met = λ i lt. absurd (omega (arith, lt));
    within = λ t lt. absurd (omega (arith, lt));
  },
)
no_edges [] c (y ∷ x) s z = absurd (omega (arith, s))
no_edges (edge ∷ edges) c x s z = absurd (omega (arith, z))

-- a base is split in the test of the first vertex
pub first_split : (k : ℕ) (q w : ℤ) (edges : List Edge) → length edges ≡ k → pos 0 ≤ℤ (q *ℤ w)
    → (x : List ℤ) → length x ≡ k → IsBase (times q (graphic_value w edges)) x
    → Splits edges (q *ℤ w) x 0
first_split k q w edges same low x kx base = ⊎_elim
    (λ (some : 0 < length edges).
    let first = (numbered_below edges [] 0
    (let l = length-numbered edges [] in omega (arith, l, some))).0 in
    base_split k q w edges same low x kx base 0 (omega (arith, first)))
    (λ none. no_edges edges (q *ℤ w) x (kx ∙ sym same) (omega (arith, none)))
    (cases_lt 0 (length edges))

-- an end of an edge of a term is one of its vertices
pub end_vertex : (s : Graphic) (u r : ℕ) → u < length s.places → IsEndOf (numbered s.ends) u r
    → r < vertex_count s.ends
end_vertex s u r lt end = let l = length-numbered s.ends [] in let k = s.same_count in end_below
    (numbered s.ends) (vertex_count s.ends) (numbered_below s.ends []) u r (omega (arith, lt, l, k))
    end

-- what stays without v is split in the test of any vertex, beside the split of a base
pub ends_hold : (s : Graphic) (q : ℤ) → IsFactor q → (x : List ℤ) → length x ≡ length s.places
    → IsBase (times q (graphic_value s.w s.ends)) x → (v r t : ℕ) → v < length x
    → r < vertex_count s.ends
    → CanHold (end_demands (numbered s.ends) (vertex_count s.ends) (q *ℤ s.w) x t) x v
    (vertex_capacities (vertex_count s.ends) (q *ℤ s.w) r)
ends_hold s q factor x sized base v r t xv lr =
    let all = capped_base s q factor x sized base in
    record {
      sized = refl;
      slots = length-vertices _ _ _ ∙ sym (length-vertices _ _ _);
      bounded = vertices_bounded (vertex_count s.ends) (q *ℤ s.w) r all.low all.high;
      met = rest_split (length s.places) q s.w s.ends s.same_count all.low x sized base v r xv lr;
    }
