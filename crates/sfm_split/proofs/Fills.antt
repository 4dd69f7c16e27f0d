-- What a turn of filling changes, and what is told when there is nothing more to change.
use Rattle.std.proofs.Common.{◌≡◌, ℕ, zero, suc, ◌<◌, ◌^◌, Bool, true, false, List, [], ◌∷◌, length, get_or, ℤ, pos, negsuc, ◌+ℤ◌, ◌≤ℤ◌, ◌<ℤ◌, Option, Some, refl, sym, ap, ◌∙◌, arith, ⊎_elim}
use Rattle.std.specs.List.{All}
use Rattle.std.proofs.lemmas.Int.{ints}
use Rattle.std.proofs.lemmas.Bool.{cases_eq, cases_Bool, false≢true}
use Rattle.std.proofs.lemmas.List.{length-replicate}
use Rattle.std.proofs.lemmas.List.Elements.{All-get_or}
use Rattle.sfm_spec.specs.Sets.{Has, whole_set, sum_over}
use Rattle.sfm_spec.specs.Bounds.{total_of}
use Rattle.sfm_spec.proofs.Sets.{Has-whole}
use Rattle.sfm_spec.proofs.Sizes.{weight-whole}
use Rattle.sfm_cells.specs.Splits.{sum_at, amount_at, IsCapacity}
use Rattle.sfm_cells.specs.Cells.{label_at, sum_in, AreCells, IsPart, IsFilled}
use Rattle.sfm_cells.specs.Left.{AreLeft}
use Rattle.sfm_cells.proofs.Amounts.{tally, length-tally, tally-at, sum_over-tally, sum_over-le, sum_over-lt, only-same, only-other}
use Rattle.sfm_split.specs.Search.{node_at, HasRoots, IsStuck, IsFoundSet, IsRaised, GetsMore}
use Rattle.sfm_split.specs.declared.nodes.Node.{Node}
use Rattle.sfm_split.proofs.Searches.{some_apart}

sum_in-whole : (n : ℕ) (js : List ℕ) (y : List ℤ) → length y ≡ length js
    → ((e : ℕ) → e < length js → label_at js e < n) → sum_in (whole_set n) js y ≡ total_of y
sum_in-whole n [] [] same below = refl
sum_in-whole n [] (a ∷ y) same below = absurd (omega arith)
sum_in-whole n (j ∷ js) [] same below = absurd (omega arith)
sum_in-whole n (j ∷ js) (a ∷ y) same below =
    let r = sum_in-whole n js y (omega arith) (λ e lt. below (suc e) (omega arith)) in
    let h = Has-whole n j (below 0 (omega arith)) in
    rw h (omega (arith, ints, r))

-- all amounts together, counted by the demands
total-tally : (n : ℕ) (js : List ℕ) (y : List ℤ) → length y ≡ length js
    → ((e : ℕ) → e < length js → label_at js e < n)
    → sum_over (whole_set n) (tally n js y) ≡ total_of y
total-tally n js y same below = sum_over-tally n (whole_set n) js y (length-replicate n true) below
    ∙ sum_in-whole n js y same below

in_whole : (n i : ℕ) → Has (whole_set n) i → i < n
in_whole zero i h = absurd (false≢true h)
in_whole (suc n) zero h = omega arith
in_whole (suc n) (suc i) h = let r = in_whole n i h in omega (arith, r)

-- the demands together are no less than what they get
pub total_bound : (demands capacities : List ℤ) (m : ℕ) (whos slots : List ℕ) (y : List ℤ)
    → AreCells (length demands) m whos slots → IsPart demands capacities whos slots y
    → total_of y ≤ℤ total_of demands
total_bound demands capacities m whos slots y cells part =
    let n = length demands in
    let t = total-tally n whos y part.cells cells.owned in
    let w = weight-whole n demands refl in
    let len = length-tally n whos y in
    let lw = length-replicate n true in
    let s = sum_over-le (whole_set n) (tally n whos y) demands (lw ∙ sym len) (sym len) (λ i has.
    let lt = in_whole n i has in
    let g = tally-at n i whos y lt in
    let p = part.got i lt in
    omega (arith, ints, g, p)) in
    omega (arith, ints, t, w, s)

-- what falls at each turn
abbrev pub to_nat : ℤ → ℕ
to_nat (pos n) = n
to_nat (negsuc n) = 0

pub to_nat_falls : (a b : ℤ) → pos 0 ≤ℤ a → a <ℤ b → to_nat a < to_nat b
to_nat_falls (pos a) (pos b) low less = omega (arith, ints, less)
to_nat_falls (pos a) (negsuc b) low less = absurd (omega (arith, ints, less))
to_nat_falls (negsuc a) b low less = absurd (omega (arith, ints, low))

-- what is left is not negative, and with what is taken makes the total
pub left_low : (totals : List ℤ) (labels : List ℕ) (y left : List ℤ) → AreLeft totals labels y left
    → ((k : ℕ) → k < length totals → sum_at k labels y ≤ℤ amount_at totals k) → (k : ℕ)
    → k < length left → pos 0 ≤ℤ amount_at left k
left_low totals labels y left h within k lt =
    let p = h.places in
    let lk : k < length totals = omega (arith, p, lt) in
    let e = h.each k lk in
    let w = within k lk in
    omega (arith, ints, e, w)

pub left_small : (capacities : List ℤ) (slots : List ℕ) (y rooms : List ℤ)
    → All IsCapacity capacities → AreLeft capacities slots y rooms → (s : ℕ) → s < length rooms
    → (sum_at s slots y +ℤ amount_at rooms s) ≤ℤ pos (10 ^ 24)
left_small capacities slots y rooms bounded h s lt =
    let p = h.places in
    let lk : s < length capacities = omega (arith, p, lt) in
    let e = h.each s lk in
    let b = (All-get_or IsCapacity capacities s (pos 0) lk bounded).high in
    omega (arith, ints, e, b)

pub below_nodes : (nodes : List (Option Node)) (i : ℕ) (b : Node) → node_at nodes i ≡ Some b
    → i < length nodes
below_nodes [] i b is = cc
below_nodes (o ∷ nodes) zero b is = omega arith
below_nodes (o ∷ nodes) (suc i) b is = let r = below_nodes nodes i b is in omega (arith, r)

-- one demand gets more, within what it lacks, and one slot, within its room
module _ (demands capacities : List ℤ) (whos slots : List ℕ) (y lacks rooms : List ℤ)
    (nodes : List (Option Node)) (last : ℕ) (a : ℤ) (z : List ℤ)
    (cells : AreCells (length demands) (length capacities) whos slots)
    (part : IsPart demands capacities whos slots y)
    (ll : AreLeft demands whos y lacks) (lr : AreLeft capacities slots y rooms)
    (places : length nodes ≡ length lacks) (lt : last < length whos) (some : pos 1 ≤ℤ a)
    (fits : a ≤ℤ amount_at rooms (label_at slots last))
    (r : IsRaised whos slots nodes lacks last a y z) where
  pub root_in : r.root < length demands
  root_in = let b = below_nodes nodes r.root r.node
      r.is_node in let p = ll.places in omega (arith, b, places, p)

  pub raised_more : GetsMore whos y z
  raised_more i = let g = r.got i in let s = some in ⊎_elim
      (λ (q : r.root ≡ i). let o = only-same r.root i a q in omega (arith, ints, g, o, s))
      (λ ne. let o = only-other r.root i a ne in omega (arith, ints, g, o))
      (cases_eq r.root i)

  pub raised_part : IsPart demands capacities whos slots z
  raised_part = record {
    cells = r.cells ∙ part.cells;
    amounts = r.amounts;
    got = λ i li.
        let g = r.got i in
        let p = part.got i li in
        ⊎_elim
        (λ (q : r.root ≡ i).
        let o = only-same r.root i a q in
        let e = r.enough in
        let l = ll.each i li in
        let w = ap (λ k. amount_at lacks k) q in
        omega (arith, ints, g, o, e, l, w))
        (λ ne. let o = only-other r.root i a ne in omega (arith, ints, g, o, p))
        (cases_eq r.root i);
    within = λ s ls.
        let g = r.loads s in
        let p = part.within s ls in
        let f = fits in
        ⊎_elim
        (λ (q : label_at slots last ≡ s).
        let o = only-same (label_at slots last) s a q in
        let l = lr.each s ls in
        let w = ap (λ k. amount_at rooms k) q in
        omega (arith, ints, g, o, l, w, f))
        (λ ne. let o = only-other (label_at slots last) s a ne in omega (arith, ints, g, o, p))
        (cases_eq (label_at slots last) s);
  }

  pub raised_total : total_of y <ℤ total_of z
  raised_total =
      let n = length demands in
      let t = total-tally n whos y part.cells cells.owned in
      let u = total-tally n whos z (r.cells ∙ part.cells) cells.owned in
      let ly = length-tally n whos y in
      let lz = length-tally n whos z in
      let lw = length-replicate n true in
      let root = root_in in
      let g = r.got r.root in
      let o = only-same r.root r.root a refl in
      let gy = tally-at n r.root whos y root in
      let gz = tally-at n r.root whos z root in
      let s = some in
      let m = sum_over-lt (whole_set n) (tally n whos y) (tally n whos z) r.root (lw ∙ sym ly)
      (lz ∙ sym ly) (λ i has.
      let li = in_whole n i has in
      let hy = tally-at n i whos y li in
      let hz = tally-at n i whos z li in
      let more = raised_more i in
      omega (arith, ints, hy, hz, more)) (Has-whole n r.root root)
      (omega (arith, ints, g, o, gy, gz, s)) in
      omega (arith, ints, t, u, m)

-- a search that ended without room tells a closed set with all demands that lack something
pub stuck_filled : (demands capacities : List ℤ) (whos slots : List ℕ) (y lacks rooms : List ℤ)
    (nodes : List (Option Node)) (s : List Bool)
    → AreCells (length demands) (length capacities) whos slots
    → IsPart demands capacities whos slots y
    → AreLeft demands whos y lacks → AreLeft capacities slots y rooms → length nodes ≡ length lacks
    → HasRoots lacks nodes → IsStuck whos slots y rooms nodes → IsFoundSet nodes s
    → IsFilled demands capacities whos slots y s
stuck_filled demands capacities whos slots y lacks rooms nodes s cells part ll lr places begins
    stuck set = record {
      places = set.places ∙ (places ∙ ll.places);
      closed = record {
        full = λ e lt has.
            let f = stuck.full e lt (set.members (label_at whos e) has) in
            let h = lr.each (label_at slots e) (cells.exist e lt) in
            omega (arith, ints, f, h);
        none = λ e f le lf has shared out.
            let o = cells.owned f lf in
            let p = ll.places in
            let n = stuck.none e f le lf (set.members (label_at whos e) has) shared
            (set.others (label_at whos f) (omega (arith, o, p, places)) out) in
            let low = part.amounts f in
            omega (arith, ints, n, low);
      };
      lacking = λ i lt less.
          let h = ll.each i lt in
          let p = ll.places in
          let (b, is) = begins i (omega (arith, ints, h, less)) in
          ⊎_elim (λ has. has)
          (λ out. absurd (some_apart (node_at nodes i)
          (set.others i (omega (arith, lt, p, places)) out) is)) (cases_Bool (get_or s i false));
    }
