-- Who can lend to a demand, as if it lacked one while all demands are met.
use Rattle.std.proofs.Common.{◌≡◌, ◌≢◌, ◌↔◌, ◌+◌, ◌<ℤ◌, IsTrue, ℕ, suc, ◌<◌, Bool, false, List, [], ◌∷◌, length, get_or, set, replicate, ℤ, pos, ◌+ℤ◌, ◌-ℤ◌, ◌≤ℤ◌, refl, sym, ap, ◌∙◌, arith, ⊎_elim, length-set, get_or-set_other, get_or-set_same}
use Rattle.std.proofs.lemmas.Int.{ints}
use Rattle.std.proofs.lemmas.Bool.{cases_eq, cases_lt, cases_Bool, false≢true}
use Rattle.std.proofs.lemmas.List.{set-get_or, length-replicate, get_or-replicate}
use Rattle.sfm_spec.specs.Sets.{Has, sum_over}
use Rattle.sfm_spec.specs.Bounds.{total_of}
use Rattle.sfm_spec.specs.Terms.{exchanged}
use Rattle.sfm_spec.proofs.Sums.{share, sum_over-set, length-exchanged, sum_over-exchanged}
use Rattle.sfm_cells.specs.Splits.{sum_at, amount_at, row_at, CanBeMet, Demands, AreDemands}
use Rattle.sfm_cells.specs.Cells.{joined, owners, cut, IsPart, IsMet, only, IsFilled}
use Rattle.sfm_cells.specs.Left.{AreLeft}
use Rattle.sfm_cells.specs.Lenders.{IsLender}
use Rattle.sfm_cells.proofs.Amounts.{only-same, only-other}
use Rattle.sfm_cells.proofs.Rows.{split_of_part}
use Rattle.sfm_cells.proofs.Hall.{closed_bounds}
use Rattle.sfm_cells.proofs.Outcomes.{changed-at, changed-other, asked_part, amounts_low, capacities_low}
use Rattle.sfm_split.specs.Search.{one_more, AreLenders}
use Rattle.sfm_split.proofs.Filling.{smaller}
use Rattle.sfm_split.proofs.Lending.{GetsOne}

module _ (d : Demands) (sound : AreDemands d) (u : ℕ) (lu : u < length d.demands) (y : List ℤ)
    (part : IsPart d.demands d.capacities (owners 0 d.lists) (joined d.lists) y)
    (met : IsMet d.demands (owners 0 d.lists) y) where
  abbrev whos : List ℕ
  whos = owners 0 d.lists

  abbrev slots : List ℕ
  slots = joined d.lists

  abbrev more : List ℤ
  more = one_more d.demands u

  more-places : length more ≡ length d.demands
  more-places = length-set d.demands u (amount_at d.demands u +ℤ pos 1)

  more-u : amount_at more u ≡ (amount_at d.demands u +ℤ pos 1)
  more-u = changed-at d.demands u lu (amount_at d.demands u +ℤ pos 1)

  more-other : (i : ℕ) → (i ≡ u → ⊥) → amount_at more i ≡ amount_at d.demands i
  more-other i ne = changed-other d.demands u lu (amount_at d.demands u +ℤ pos 1) i ne

  pub more_part : IsPart more d.capacities whos slots y
  more_part = asked_part d sound u lu (amount_at d.demands u) (amount_at d.demands u +ℤ pos 1) y
      (omega (arith, ints)) (rw (set-get_or d.demands u (pos 0)) part)

  gets : (i : ℕ) → i < length d.demands → sum_at i whos y ≡ amount_at d.demands i
  gets i lt = let p = part.got i lt in let m = met i lt in omega (arith, ints, p, m)

  -- as if one lacked: 1 at u, and nothing else
  pub lack_one : AreLeft more whos y (set (replicate (length d.demands) (pos 0)) u (pos 1))
  lack_one = record {
    places = length-set (replicate (length d.demands) (pos 0)) u (pos 1)
        ∙ (length-replicate (length d.demands) (pos 0) ∙ sym more-places);
    each = λ k lk.
        let n = length d.demands in
        let l = more-places in
        let lr = length-replicate n (pos 0) in
        let ln : k < length d.demands = omega (arith, lk, l) in
        let g = gets k ln in
        ⊎_elim
        (λ (q : k ≡ u).
        let s = get_or-set_same (replicate n (pos 0)) u (pos 1) (pos 0) (omega (arith, lu, lr)) in
        let m = more-u in
        let x = ap (λ i. amount_at (set (replicate n (pos 0)) u (pos 1)) i) q in
        let w = ap (λ i. amount_at more i) q in
        let z = ap (λ i. amount_at d.demands i) q in
        omega (arith, ints, g, s, m, x, w, z))
        (λ ne.
        let s = get_or-set_other (replicate n (pos 0)) u k (pos 1) (pos 0) ne in
        let r = get_or-replicate n k (pos 0) (pos 0) ln in
        let m = more-other k ne in
        omega (arith, ints, g, s, r, m))
        (cases_eq k u);
  }

  -- only u lacks something
  to_u : (less : ℕ → ℤ) (g : GetsOne more d.capacities whos slots y less) → g.to ≡ u
  to_u less g = ⊎_elim (λ q. q)
      (λ ne.
      let o = more-other g.to ne in
      let l = more-places in
      let lt = g.in_range in
      let m = met g.to (omega (arith, lt, l)) in
      let h = g.lacking in
      absurd (omega (arith, ints, o, m, h)))
      (cases_eq g.to u)

  -- what each demand gets then
  got-after : (less : ℕ → ℤ) (g : GetsOne more d.capacities whos slots y less) (i : ℕ)
      → i < length d.demands → sum_at i whos g.after ≡ (amount_at more i -ℤ less i)
  got-after less g i lt =
      let h = g.got i in
      let e = gets i lt in
      let q = ap (λ j. only j i (pos 1)) (to_u less g) in
      ⊎_elim
      (λ (s : i ≡ u). let o = only-same u i (pos 1)
      (sym s) in let m = more-u in let x = ap (λ j. amount_at more j)
      s in let z = ap (λ j. amount_at d.demands j)
      s in omega (arith, ints, h, e, q, o, m, x, z))
      (λ ne. let o = only-other u i (pos 1) (λ s. ne (sym s)) in let m = more-other i
      ne in omega (arith, ints, h, e, q, o, m))
      (cases_eq i u)

  -- demands that get exactly what they ask for are met
  met_by : (x : List ℤ) (less : ℕ → ℤ) (g : GetsOne more d.capacities whos slots y less)
      → length x ≡ length d.demands
      → ((i : ℕ) → i < length d.demands → amount_at x i ≡ (amount_at more i -ℤ less i))
      → CanBeMet x d.lists d.capacities
  met_by x less g lx is = (
    cut d.lists g.after,
    split_of_part x d.lists d.capacities g.after (sound.same ∙ sym lx)
        (record {
          cells = g.part.cells;
          amounts = g.part.amounts;
          got = λ i lt. let li : i < length d.demands = omega (arith, lt, lx) in let h = got-after
              less g i li in let e = is i li in omega (arith, ints, h, e);
          within = g.part.within;
        })
        (λ i lt. let li : i < length d.demands = omega (arith, lt, lx) in let h = got-after less g i
        li in let e = is i li in omega (arith, ints, h, e)),
  )

  pub more_met : GetsOne more d.capacities whos slots y (λ i. pos 0)
      → CanBeMet (one_more d.demands u) d.lists d.capacities
  more_met g = met_by more (λ i. pos 0) g more-places (λ i lt. omega (arith, ints))

  module _ (v : ℕ) (lv : v < length d.demands) (ne : v ≢ u) where
    exchanged-at : (i : ℕ) → i < length d.demands
        → amount_at (exchanged d.demands u v (pos 1)) i ≡ (amount_at more i -ℤ only v i (pos 1))
    exchanged-at i lt =
        let l = more-places in
        ⊎_elim
        (λ (q : i ≡ v).
        let o = only-same v i (pos 1) (sym q) in
        let g = get_or-set_same more v (amount_at d.demands v -ℤ pos 1) (pos 0)
        (omega (arith, lv, l)) in
        let m = more-other v ne in
        let x = ap (λ j. amount_at (exchanged d.demands u v (pos 1)) j) q in
        let z = ap (λ j. amount_at more j) q in
        omega (arith, ints, o, g, m, x, z))
        (λ nv.
        let o = only-other v i (pos 1) (λ s. nv (sym s)) in
        let g = get_or-set_other more v i (amount_at d.demands v -ℤ pos 1) (pos 0) nv in
        omega (arith, ints, o, g))
        (cases_eq i v)

    lent_met : GetsOne more d.capacities whos slots y (λ i. only v i (pos 1))
        → CanBeMet (exchanged d.demands u v (pos 1)) d.lists d.capacities
    lent_met g = met_by (exchanged d.demands u v (pos 1)) (λ i. only v i (pos 1)) g
        (length-exchanged d.demands u v (pos 1)) exchanged-at

  -- u lies in a closed set, with all that lack something
  module _ (s : List Bool) (filled : IsFilled more d.capacities whos slots y s) where
    has_u : Has s u
    has_u = let l = more-places in let m = more-u in let g = gets u lu in filled.lacking u
        (omega (arith, lu, l)) (omega (arith, ints, m, g))

    places : length s ≡ length d.demands
    places = filled.places ∙ more-places

    -- demands that can be met ask for no more within the set
    bound : (x : List ℤ) → length x ≡ length d.demands → CanBeMet x d.lists d.capacities
        → sum_over s x ≤ℤ sum_over s d.demands
    bound x lx can = closed_bounds d.demands d.capacities d.lists y sound.same sound.exist part s
        places filled.closed x lx can

    pub not_more : CanBeMet (one_more d.demands u) d.lists d.capacities → ⊥
    not_more can =
        let p = places in
        let b = bound more more-places can in
        let e = rw has_u at (sum_over-set s d.demands u (amount_at d.demands u +ℤ pos 1) p lu) in
        absurd (omega (arith, ints, b, e))

    not_lent : (v : ℕ) → v < length d.demands → v ≢ u
        → CanBeMet (exchanged d.demands u v (pos 1)) d.lists d.capacities → Has s v
    not_lent v lv ne can = ⊎_elim (λ has. has)
        (λ out.
        let b = bound (exchanged d.demands u v (pos 1)) (length-exchanged d.demands u v (pos 1))
        can in
        let e = sum_over-exchanged s d.demands u v (pos 1) places lu lv (λ q. ne (sym q)) in
        let su : share s u (pos 1) ≡ pos 1 = rw has_u refl in
        let sv : share s v (pos 1) ≡ pos 0 = rw out refl in
        absurd (omega (arith, ints, b, e, su, sv)))
        (cases_Bool (get_or s v false))

    -- its other members are those that can lend, if each can give one up
    pub lenders_are : ((v : ℕ) → Has s v
        → GetsOne more d.capacities whos slots y (λ i. only v i (pos 1)))
        → AreLenders d.demands d.lists d.capacities u s
    lenders_are lends = record {
      places = places;
      full = not_more;
      exact = λ v lv ne. ((λ has. lent_met v lv ne (lends v has)), (λ can. not_lent v lv ne can));
    }

-- where u can get one more as it is, each demand that asks for something can lend to it
pub lent_from_more : (d : Demands) → AreDemands d → (u v : ℕ) → u < length d.demands
    → v < length d.demands → v ≢ u → pos 1 ≤ℤ amount_at d.demands v
    → CanBeMet (one_more d.demands u) d.lists d.capacities
    → CanBeMet (exchanged d.demands u v (pos 1)) d.lists d.capacities
lent_from_more d sound u v lu lv ne some can =
    smaller (one_more d.demands u) (exchanged d.demands u v (pos 1)) d.lists d.capacities
    (sound.same ∙ sym places) (length-exchanged d.demands u v (pos 1) ∙ sym places) sound.exist
    (λ i lt. each i (omega (arith, lt, places))) (capacities_low d sound) can where
      places : length (one_more d.demands u) ≡ length d.demands
      places = length-set d.demands u (amount_at d.demands u +ℤ pos 1)

      more-low : (i : ℕ) → i < length d.demands → pos 0 ≤ℤ amount_at (one_more d.demands u) i
      more-low i lt =
          let low = amounts_low d sound i lt in
          ⊎_elim
          (λ (q : i ≡ u). let e = changed-at d.demands u lu
          (amount_at d.demands u +ℤ pos 1) in let p = ap (λ j. amount_at (one_more d.demands u) j)
          q in let r = ap (λ j. amount_at d.demands j) q in omega (arith, ints, low, e, p, r))
          (λ nu. let e = changed-other d.demands u lu (amount_at d.demands u +ℤ pos 1) i
          nu in omega (arith, ints, low, e))
          (cases_eq i u)

      each : (i : ℕ) → i < length d.demands
          → (pos 0 ≤ℤ amount_at (exchanged d.demands u v (pos 1)) i)
          × (amount_at (exchanged d.demands u v (pos 1)) i ≤ℤ amount_at (one_more d.demands u) i)
      each i lt =
          let low = more-low i lt in
          ⊎_elim
          (λ (q : i ≡ v).
          let g = get_or-set_same (one_more d.demands u) v (amount_at d.demands v -ℤ pos 1) (pos 0)
          (omega (arith, lv, places)) in
          let m = changed-other d.demands u lu (amount_at d.demands u +ℤ pos 1) v ne in
          let x = ap (λ j. amount_at (exchanged d.demands u v (pos 1)) j) q in
          let z = ap (λ j. amount_at (one_more d.demands u) j) q in
          (omega (arith, ints, g, x, some), omega (arith, ints, g, m, x, z)))
          (λ nv. let g = get_or-set_other (one_more d.demands u) v i
          (amount_at d.demands v -ℤ pos 1)
          (pos 0) nv in (omega (arith, ints, g, low), omega (arith, ints, g)))
          (cases_eq i v)

-- a demand that can be met is not negative
amount_low : (x : List ℤ) (lists : List (List ℕ)) (capacities : List ℤ) (i : ℕ)
    → length lists ≡ length x → i < length x → CanBeMet x lists capacities → pos 0 ≤ℤ amount_at x i
amount_low x lists capacities i same lt (rows, h) =
    let l : i < length lists = omega (arith, lt, same) in
    let t = total_low (row_at rows i) (λ j. h.amounts i j) in
    let m = h.met i l in
    omega (arith, ints, t, m) where
      total_low : (row : List ℤ) → ((j : ℕ) → pos 0 ≤ℤ amount_at row j) → pos 0 ≤ℤ total_of row
      total_low [] low = omega (arith, ints)
      total_low (a ∷ row) low = let r = total_low row (λ j. low (suc j)) in let h = low
          0 in omega (arith, ints, r, h)

-- those that can lend to u are the others of its set
pub lenders_but : (d : Demands) → AreDemands d → (u : ℕ) → u < length d.demands → (s : List Bool)
    → AreLenders d.demands d.lists d.capacities u s → (v : ℕ) → v < length d.demands
    → Has (set s u false) v ↔ IsLender d.demands d.lists d.capacities u v
lenders_but d sound u lu s lend v lv = (to, from) where
  other : Has (set s u false) v → v ≢ u
  other has q = let p = lend.places in false≢true
      (sym (ap (λ k. get_or (set s u false) k false) q
      ∙ get_or-set_same s u false false (omega (arith, p, lu))) ∙ has)

  to : Has (set s u false) v → IsLender d.demands d.lists d.capacities u v
  to has =
      let ne = other has in
      let met = (lend.exact v lv ne).0 (sym (get_or-set_other s u v false false ne) ∙ has) in
      let l = length-exchanged d.demands u v (pos 1) in
      let low = amount_low (exchanged d.demands u v (pos 1)) d.lists d.capacities v
      (sound.same ∙ sym l) (omega (arith, lv, l)) met in
      let e = get_or-set_same (one_more d.demands u) v (amount_at d.demands v -ℤ pos 1) (pos 0)
      (let m = length-set d.demands u
      (amount_at d.demands u +ℤ pos 1) in omega (arith, m, lv)) in
      record { other = ne; asks = omega (arith, ints, low, e); met = met }

  from : IsLender d.demands d.lists d.capacities u v → Has (set s u false) v
  from h = get_or-set_other s u v false false h.other ∙ (lend.exact v lv h.other).1 h.met

-- where u can get one more, they are all others that ask for something
pub lenders_all : (d : Demands) → AreDemands d → (u v : ℕ) → u < length d.demands
    → v < length d.demands → CanBeMet (one_more d.demands u) d.lists d.capacities
    → ((v ≢ u) × (pos 0 <ℤ amount_at d.demands v)) ↔ IsLender d.demands d.lists d.capacities u v
lenders_all d sound u v lu lv more = (
  (λ (ne, some). record {
    other = ne;
    asks = some;
    met = lent_from_more d sound u v lu lv ne (omega (arith, ints, some)) more;
  }),
  (λ h. (h.other, h.asks)),
)

-- one demand more is told
pub told_more : (IsTold : ℕ → Type 0) (to : List Bool) (n : ℕ) (b : Bool) → n < length to
    → ((v : ℕ) → v < n → Has to v ↔ IsTold v) → IsTrue b ↔ IsTold n → (v : ℕ) → v < n + 1
    → Has (set to n b) v ↔ IsTold v
told_more IsTold to n b lt told here v le = ⊎_elim
    (λ (l : v < n). rw (get_or-set_other to n v b false (λ q. omega (arith, q, l))) (told v l))
    (λ ge. let q : v ≡ n = omega (arith, ge, le) in rw (q, get_or-set_same to n b false lt) here)
    (cases_lt v n)
