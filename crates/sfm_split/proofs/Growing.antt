-- One demand raised as far as it goes, up to a limit, while all others are met.
use Rattle.std.proofs.Common.{◌≡◌, ℕ, ◌<◌, Bool, false, List, [], ◌∷◌, length, get_or, set, ℤ, pos, ◌+ℤ◌, ◌-ℤ◌, ◌≤ℤ◌, Option, None, sym, ap, arith, ⊎_elim, length-set, get_or-set_other, get_or-set_same, ◌∙◌}
use Rattle.std.proofs.lemmas.Int.{ints, by_lt_z}
use Rattle.std.proofs.lemmas.Bool.{cases_eq, cases_Bool, false≢true}
use Rattle.std.proofs.lemmas.List.{set-set, set-get_or}
use Rattle.sfm_cells.specs.Splits.{sum_at, amount_at, IsAmount, Demands, AreDemands}
use Rattle.sfm_cells.specs.Cells.{joined, owners, cut, AreCells, IsPart, IsMet, IsFilled}
use Rattle.sfm_cells.specs.Left.{AreLeft, ListsLacking}
use Rattle.sfm_cells.specs.Lenders.{with_more, IsMostUpto}
use Rattle.sfm_cells.proofs.Rows.{split_of_part}
use Rattle.sfm_cells.proofs.Hall.{most_of_closed}
use Rattle.sfm_cells.proofs.Leaving.{listed_one}
use Rattle.sfm_cells.proofs.Outcomes.{cells_for, amounts_low, changed-at, changed-other, asked_part}
use Rattle.sfm_split.specs.Search.{IsSearch, GetsMore}
use Rattle.sfm_split.specs.Pours.{IsPouring, AreRaised, AreWithin}
use Rattle.sfm_split.specs.Grown.{MayGrow, IsGrown}
use Rattle.sfm_split.specs.declared.nodes.Node.{Node}
use Rattle.sfm_split.proofs.Fills.{stuck_filled}
use Rattle.sfm_split.proofs.Pours.{pouring_begun}
use Rattle.sfm_split.proofs.Searches.{founds, founds_are}

module _ (d : Demands) (sound : AreDemands d) (u : ℕ) (lu : u < length d.demands) (limit : ℤ)
    (low : pos 0 ≤ℤ limit) (y : List ℤ)
    (part : IsPart d.demands d.capacities (owners 0 d.lists) (joined d.lists) y) where
  -- the amounts by which the demands are met are still amounts when one of them asks for more
  pub growing_part : IsPart (with_more d u limit).demands d.capacities (owners 0 d.lists)
      (joined d.lists) y
  growing_part = asked_part d sound u lu (amount_at d.demands u) (amount_at d.demands u +ℤ limit) y
      (omega (arith, ints, low)) (rw (set-get_or d.demands u (pos 0)) part)

  -- what they leave then: u lacks what it asks for besides, and the others nothing
  module _ (met : IsMet d.demands (owners 0 d.lists) y) (before : List ℤ)
      (left : AreLeft d.demands (owners 0 d.lists) y before) where
    nothing : (k : ℕ) → k < length d.demands → amount_at before k ≡ pos 0
    nothing k lk = let m = met k lk in let p = part.got k lk in let e = left.each k
        lk in omega (arith, ints, m, p, e)

    pub growing_left : AreLeft (with_more d u limit).demands (owners 0 d.lists) y
        (set before u limit)
    growing_left =
        let la = length-set d.demands u (amount_at d.demands u +ℤ limit) in
        let lb = left.places in
        record {
          places = length-set before u limit ∙ (left.places ∙ sym la);
          each = λ k lt.
              let lk : k < length d.demands = omega (arith, lt, la) in
              let z = nothing k lk in
              let l = left.each k lk in
              ⊎_elim
              (λ (q : k ≡ u).
              let e = changed-at d.demands u lu (amount_at d.demands u +ℤ limit) in
              let h = get_or-set_same before u limit (pos 0) (omega (arith, lu, lb)) in
              let f = ap (λ i. amount_at (with_more d u limit).demands i) q in
              let g = ap (λ i. amount_at (set before u limit) i) q in
              let w = ap (λ i. amount_at d.demands i) q in
              omega (arith, ints, z, l, e, h, f, g, w))
              (λ ne.
              let e = changed-other d.demands u lu (amount_at d.demands u +ℤ limit) k ne in
              let h = get_or-set_other before u k limit (pos 0) ne in
              omega (arith, ints, l, e, h))
              (cases_eq k u);
        }

    pub growing_listed : ListsLacking (set before u limit) (u ∷ [])
    growing_listed =
        let lb = left.places in
        let ls = length-set before u limit in
        listed_one (set before u limit) u (omega (arith, lu, lb, ls))
        (λ i lt ne. let o = get_or-set_other before u i limit (pos 0) ne in let z = nothing i
        (omega (arith, lt, lb, ls)) in omega (arith, ints, o, z))

  -- what a filling then tells
  module _ (lacks rooms z lacks' rooms' : List ℤ) (nodes : List (Option Node))
      (ll : AreLeft (with_more d u limit).demands (owners 0 d.lists) y lacks)
      (lr : AreLeft d.capacities (joined d.lists) y rooms)
      (raised : AreRaised (owners 0 d.lists) (joined d.lists) y lacks rooms z lacks' rooms')
      (s : IsSearch (owners 0 d.lists) (joined d.lists) z lacks' rooms' nodes None) where
    growing_cells : AreCells (length (with_more d u limit).demands) (length d.capacities)
        (owners 0 d.lists) (joined d.lists)
    growing_cells = rw (length-set d.demands u (amount_at d.demands u +ℤ limit)) (cells_for d sound)

    pub growing_pouring : IsPouring (with_more d u limit).demands d.capacities (owners 0 d.lists)
        (joined d.lists) y z lacks' rooms'
    growing_pouring = raised.each (with_more d u limit).demands d.capacities y growing_cells
        (pouring_begun (with_more d u limit).demands d.capacities (owners 0 d.lists)
        (joined d.lists) y lacks rooms growing_part ll lr)

    pub growing_filled : IsFilled (with_more d u limit).demands d.capacities (owners 0 d.lists)
        (joined d.lists) z (founds nodes)
    growing_filled = stuck_filled (with_more d u limit).demands d.capacities (owners 0 d.lists)
        (joined d.lists) z lacks' rooms' nodes (founds nodes) growing_cells growing_pouring.part
        growing_pouring.lacks_are growing_pouring.rooms_are s.places s.begins s.ended
        (founds_are nodes)

  module _ (met : IsMet d.demands (owners 0 d.lists) y) (z : List ℤ) (t : List Bool)
      (pz : IsPart (with_more d u limit).demands d.capacities (owners 0 d.lists) (joined d.lists) z)
      (fz : IsFilled (with_more d u limit).demands d.capacities (owners 0 d.lists) (joined d.lists)
      z t)
      (more : GetsMore (owners 0 d.lists) y z) (g : ℤ)
      (is : g ≡ (sum_at u (owners 0 d.lists) z -ℤ amount_at d.demands u)) where
    abbrev asked : ℤ → List ℤ
    asked b = (with_more d u b).demands

    places : (b : ℤ) → length (asked b) ≡ length d.demands
    places b = length-set d.demands u (amount_at d.demands u +ℤ b)

    at_u : (b : ℤ) → amount_at (asked b) u ≡ (amount_at d.demands u +ℤ b)
    at_u b = changed-at d.demands u lu (amount_at d.demands u +ℤ b)

    at_other : (b : ℤ) (i : ℕ) → (i ≡ u → ⊥) → amount_at (asked b) i ≡ amount_at d.demands i
    at_other b i ne = changed-other d.demands u lu (amount_at d.demands u +ℤ b) i ne

    -- u gets exactly what it asks for then
    gets : (i : ℕ) → i ≡ u → sum_at i (owners 0 d.lists) z ≡ amount_at (asked g) i
    gets i q =
        let a = ap (λ k. amount_at (asked g) k) q in
        let b = ap (λ k. sum_at k (owners 0 d.lists) z) q in
        let e = at_u g in
        omega (arith, ints, a, b, e, is)

    pub grown_part : IsPart (asked g) d.capacities (owners 0 d.lists) (joined d.lists) z
    grown_part = record {
      cells = pz.cells;
      amounts = pz.amounts;
      got = λ i lt.
          let lg = places g in
          let ll = places limit in
          let p = pz.got i (omega (arith, lt, lg, ll)) in
          ⊎_elim
          (λ (q : i ≡ u). let h = gets i q in omega (arith, ints, h))
          (λ ne. let a = at_other g i ne in let b = at_other limit i
          ne in omega (arith, ints, p, a, b))
          (cases_eq i u);
      within = pz.within;
    }

    pub grown_met : IsMet (asked g) (owners 0 d.lists) z
    grown_met i lt =
        let lg = places g in
        ⊎_elim
        (λ (q : i ≡ u). let h = gets i q in omega (arith, ints, h))
        (λ ne. let m = met i (omega (arith, lt, lg)) in let a = at_other g i ne in let r = more
        i in omega (arith, ints, m, a, r))
        (cases_eq i u)

    pub grown_most : IsMostUpto d u limit g
    grown_most = record {
      low = (let m = met u lu in let r = more u in omega (arith, ints, m, r, is));
      high = (let l = places limit in let p = pz.got u (omega (arith, l, lu)) in let e = at_u
          limit in omega (arith, ints, p, e, is));
      reached = (
        cut d.lists z,
        split_of_part (asked g) d.lists d.capacities z
            (sound.same ∙ sym (places g)) grown_part grown_met,
      );
      greatest = λ b some le can.
          let l = places limit in
          let e = at_u limit in
          ⊎_elim
          (λ has.
          let h = most_of_closed (asked limit) d.capacities d.lists z
          (sound.same ∙ sym (places limit)) sound.exist pz t fz.places fz.closed u has
          (amount_at d.demands u +ℤ b)
          (rw (set-set d.demands u (amount_at d.demands u +ℤ limit)
          (amount_at d.demands u +ℤ b)) can) in
          omega (arith, ints, h, is))
          (λ out. by_lt_z (sum_at u (owners 0 d.lists) z) (amount_at (asked limit) u)
          (λ less. absurd (false≢true (sym out ∙ fz.lacking u (omega (arith, lu, l)) less)))
          (λ ge. omega (arith, ints, ge, e, is, le)))
          (cases_Bool (get_or t u false));
    }

-- and so it stays an amount
pub grown_amount : (d : Demands) → AreDemands d → (u : ℕ) → u < length d.demands → (limit g : ℤ)
    → IsAmount (amount_at d.demands u +ℤ limit) → IsMostUpto d u limit g
    → IsAmount (amount_at d.demands u +ℤ g)
grown_amount d sound u lu limit g top most =
    let a = amounts_low d sound u lu in
    let low = most.low in
    let high = most.high in
    let t = top.high in
    record { low = omega (arith, ints, a, low); high = omega (arith, ints, high, t) }

-- u is raised as far as it goes, and what is left tells by how much
pub record IsRaisedMost (d : Demands) (whos slots : List ℕ) (u : ℕ) (limit : ℤ)
    (z lacks rooms : List ℤ) : Type 0 where
  pub places : length lacks ≡ length d.demands
  pub low : pos 0 ≤ℤ amount_at lacks u
  pub high : amount_at lacks u ≤ℤ limit
  pub grown : IsGrown d whos slots z rooms u limit (limit -ℤ amount_at lacks u)

-- the same for the cells of a split
module _ (d : Demands) (whos slots : List ℕ) (y before rooms : List ℤ) (u : ℕ) (limit : ℤ)
    (h : MayGrow d whos slots y before rooms u limit) where
  part0 : IsPart d.demands d.capacities (owners 0 d.lists) (joined d.lists) y
  part0 = rw (h.met.in_order, h.met.in_lists) at h.met.part

  met0 : IsMet d.demands (owners 0 d.lists) y
  met0 = rw h.met.in_order at h.met.met

  before0 : AreLeft d.demands (owners 0 d.lists) y before
  before0 = rw h.met.in_order at h.lacks_are

  lacks0 : AreLeft (with_more d u limit).demands (owners 0 d.lists) y (set before u limit)
  lacks0 = growing_left d h.sound u h.place limit h.low y part0 met0 before before0

  pub may_listed : ListsLacking (set before u limit) (u ∷ [])
  may_listed = growing_listed d h.sound u h.place limit h.low y part0 met0 before before0

  rooms0 : AreLeft d.capacities (joined d.lists) y rooms
  rooms0 = rw h.met.in_lists at h.left

  pub may_within : AreWithin whos slots y (set before u limit) rooms
  may_within = rw (h.met.in_order, h.met.in_lists) (record {
    demands = (with_more d u limit).demands;
    capacities = d.capacities;
    cells = rw (length-set d.demands u (amount_at d.demands u +ℤ limit)) (cells_for d h.sound);
    bounded = h.sound.bounded;
    part = growing_part d h.sound u h.place limit h.low y part0;
    lacks_are = lacks0;
    rooms_are = rooms0;
  })

  module _ (z lacks' rooms' : List ℤ) (nodes : List (Option Node))
      (raised : AreRaised whos slots y (set before u limit) rooms z lacks' rooms')
      (s : IsSearch whos slots z lacks' rooms' nodes None) where
    raised0 : AreRaised (owners 0 d.lists) (joined d.lists) y (set before u limit) rooms z lacks'
        rooms'
    raised0 = rw (h.met.in_order, h.met.in_lists) at raised

    search0 : IsSearch (owners 0 d.lists) (joined d.lists) z lacks' rooms' nodes None
    search0 = rw (h.met.in_order, h.met.in_lists) at s

    pouring : IsPouring (with_more d u limit).demands d.capacities (owners 0 d.lists)
        (joined d.lists) y z lacks' rooms'
    pouring = growing_pouring d h.sound u h.place limit h.low y part0 (set before u limit) rooms z
        lacks' rooms' nodes lacks0 rooms0 raised0 search0

    may_places : length lacks' ≡ length d.demands
    may_places = pouring.lacks_are.places ∙ length-set d.demands u (amount_at d.demands u +ℤ limit)

    -- what u lacks in the end
    lacking : amount_at lacks' u ≡ ((amount_at d.demands u +ℤ limit) -ℤ sum_at u (owners 0 d.lists)
        z)
    lacking =
        let e = changed-at d.demands u h.place (amount_at d.demands u +ℤ limit) in
        let l = length-set d.demands u (amount_at d.demands u +ℤ limit) in
        let lu = h.place in
        let each = pouring.lacks_are.each u (omega (arith, lu, l)) in
        omega (arith, ints, e, each)

    may_lack : (pos 0 ≤ℤ amount_at lacks' u) × (amount_at lacks' u ≤ℤ limit)
    may_lack =
        let lu = h.place in
        let l = length-set d.demands u (amount_at d.demands u +ℤ limit) in
        let e = changed-at d.demands u h.place (amount_at d.demands u +ℤ limit) in
        let got = pouring.part.got u (omega (arith, lu, l)) in
        let k = lacking in
        let m = met0 u lu in
        let r = pouring.more u in
        (omega (arith, ints, got, e, k), omega (arith, ints, k, m, r))

    grown : IsGrown d whos slots z rooms' u limit (limit -ℤ amount_at lacks' u)
    grown = record {
      met = record {
        in_order = h.met.in_order;
        in_lists = h.met.in_lists;
        part = rw (h.met.in_order, h.met.in_lists)
            (grown_part d h.sound u h.place limit h.low y part0 met0 z (founds nodes) pouring.part
            filled pouring.more more told);
        met = rw h.met.in_order (grown_met d h.sound u h.place limit h.low y part0 met0 z
            (founds nodes) pouring.part filled pouring.more more told);
      };
      left = rw h.met.in_lists pouring.rooms_are;
      amount = grown_amount d h.sound u h.place limit more h.small most;
      most = most;
    } where
      more : ℤ
      more = limit -ℤ amount_at lacks' u

      told : more ≡ (sum_at u (owners 0 d.lists) z -ℤ amount_at d.demands u)
      told = let k = lacking in omega (arith, ints, k)

      filled : IsFilled (with_more d u limit).demands d.capacities (owners 0 d.lists)
          (joined d.lists) z (founds nodes)
      filled = growing_filled d h.sound u h.place limit h.low y part0 (set before u limit) rooms z
          lacks' rooms' nodes lacks0 rooms0 raised0 search0

      most : IsMostUpto d u limit more
      most = grown_most d h.sound u h.place limit h.low y part0 met0 z (founds nodes) pouring.part
          filled pouring.more more told

    pub may_grow : IsRaisedMost d whos slots u limit z lacks' rooms'
    may_grow = record { places = may_places; low = may_lack.0; high = may_lack.1; grown = grown }
