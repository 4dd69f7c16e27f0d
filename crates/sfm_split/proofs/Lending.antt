-- One more for a demand that lacks something: by a slot with room, or by a demand that was found
-- and gives up one.
use Rattle.std.proofs.Common.{◌≡◌, ℕ, ◌<◌, Bool, true, false, nat_eq, if◌then◌else◌, List, [], ◌∷◌, zero, suc, length, set, ℤ, pos, neg_ℤ, ◌+ℤ◌, ◌-ℤ◌, ◌≤ℤ◌, ◌<ℤ◌, Option, Some, None, refl, sym, ap, ◌∙◌, arith, ⊎_elim, length-set, get_or-set_other, get_or-set_same}
use Rattle.std.proofs.lemmas.Int.{ints}
use Rattle.std.proofs.lemmas.Bool.{cases_eq, cases_lt}
use Rattle.sfm_cells.specs.Splits.{sum_at, amount_at}
use Rattle.sfm_cells.specs.Cells.{label_at, AreCells, IsPart, only}
use Rattle.sfm_cells.specs.Left.{AreLeft}
use Rattle.sfm_cells.proofs.Amounts.{AreAmounts, only-same, only-other}
use Rattle.sfm_split.specs.Search.{node_at, IsBranch, AreNodes, AreRoots, IsEnd}
use Rattle.sfm_split.specs.declared.nodes.Link.{Link}
use Rattle.sfm_split.specs.declared.nodes.Node.{Node}
use Rattle.sfm_split.proofs.Ways.{branches_of, carries_of}
use Rattle.sfm_split.proofs.Augments.{put-sum, only-neg, moving_begun}
use Rattle.sfm_split.proofs.Fills.{below_nodes, raised_part}
use Rattle.sfm_split.proofs.Filling.{either, move_exists}

-- amounts by which a demand that lacks something gets one more, and each demand otherwise what it
-- got less what is told
pub record GetsOne (demands capacities : List ℤ) (whos slots : List ℕ) (y : List ℤ)
    (less : ℕ → ℤ) : Type 0 where
  pub after : List ℤ
  pub part : IsPart demands capacities whos slots after
  pub to : ℕ
  pub in_range : to < length demands
  pub lacking : sum_at to whos y <ℤ amount_at demands to
  pub got : (i : ℕ) → sum_at i whos after ≡ ((sum_at i whos y +ℤ only to i (pos 1)) -ℤ less i)

apart : {A : Type 0} {b : A} → None ≡ Some b → ⊥
apart h = cc

same_some : {a b : Node} → Some a ≡ Some b → a ≡ b
same_some h = cc

only-low : (j k : ℕ) → pos 0 ≤ℤ only j k (pos 1)
only-low j k = at (nat_eq j k) where
  at : (t : Bool) → pos 0 ≤ℤ (if t then pos 1 else pos 0)
  at true = omega (arith, ints)
  at false = omega (arith, ints)

-- ---- the nodes below a level

abbrev IsBelow : ℕ → Option Node → Option Node → Type 0
IsBelow level o lower = ((b : Node) → o ≡ Some b → b.level < level → lower ≡ Some b)
    × ((b : Node) → lower ≡ Some b → (o ≡ Some b) × (b.level < level))

abbrev AreBelow : ℕ → List (Option Node) → List (Option Node) → Type 0
AreBelow level nodes lower = (i : ℕ) → IsBelow level (node_at nodes i) (node_at lower i)

one_below : (level : ℕ) (o : Option Node) → (lower : Option Node) × IsBelow level o lower
one_below level None = (None, ((λ b is lt. is), (λ b is. absurd (apart is))))
one_below level (Some d) = ⊎_elim
    (λ (lt : d.level < level). (
      Some d,
      (
        (λ b is l. is),
        (λ b is. (is, let q = ap (λ (n : Node). n.level) (same_some is) in omega (arith, q, lt))),
      ),
    ))
    (λ ge. (
      None,
      (
        (λ b is l. absurd (let q = ap (λ (n : Node). n.level)
            (same_some is) in omega (arith, q, l, ge))),
        (λ b is. absurd (apart is)),
      ),
    ))
    (cases_lt d.level level)

all_below : (level : ℕ) (nodes : List (Option Node)) → (lower : List (Option Node))
    × AreBelow level nodes lower
all_below level [] = ([], λ i. ((λ b is l. is), (λ b is. absurd (apart is))))
all_below level (o ∷ nodes) = put (one_below level o) (all_below level nodes) where
  put : ((lower : Option Node) × IsBelow level o lower)
      → ((lower : List (Option Node)) × AreBelow level nodes lower) → (lower : List (Option Node))
      × AreBelow level (o ∷ nodes) lower
  put (first, h) (rest, hs) = (first ∷ rest, each) where
    each : (i : ℕ) → IsBelow level (node_at (o ∷ nodes) i) (node_at (first ∷ rest) i)
    each zero = h
    each (suc i) = hs i

module _ (demands capacities : List ℤ) (whos slots : List ℕ) (y lacks rooms : List ℤ)
    (nodes : List (Option Node)) (cells : AreCells (length demands) (length capacities) whos slots)
    (part : IsPart demands capacities whos slots y)
    (ll : AreLeft demands whos y lacks) (lr : AreLeft capacities slots y rooms)
    (places : length nodes ≡ length lacks) (tree : AreNodes whos slots y nodes)
    (roots : AreRoots lacks nodes) where
  -- a node without a link is that of a demand that lacks something
  root_lacks : (i : ℕ) (b : Node) → node_at nodes i ≡ Some b → b.link ≡ None → (i < length demands)
      × (sum_at i whos y <ℤ amount_at demands i)
  root_lacks i b is none =
      let lt = below_nodes nodes i b is in
      let p = ll.places in
      let li : i < length demands = omega (arith, lt, places, p) in
      let one = roots i b is none in
      let l = ll.each i li in
      (li, omega (arith, ints, one, l))

  -- a slot with room gives one more
  pub raise_one : (last : ℕ) → IsEnd whos slots rooms nodes last
      → GetsOne demands capacities whos slots y (λ i. pos 0)
  raise_one last end =
      let (b, is) = end.found in
      let begun = moving_begun (length demands) (length capacities) whos slots nodes lacks last
      (pos 1) (amount_at y last +ℤ pos 1) y cells part.cells part.amounts end.cell
      (omega (arith, ints)) (carries_of whos slots y nodes tree lacks roots (label_at whos last)
      b is) refl in
      let (z, r) = move_exists (length demands) (length capacities) whos slots cells
      (suc begun.here.level) nodes lacks last (pos 1) y (set y last (amount_at y last +ℤ pos 1))
      (label_at whos last) part.cells (branches_of whos slots y nodes tree)
      (omega (arith, ints)) begun (omega arith) in
      let some : pos 1 ≤ℤ pos 1 = omega (arith, ints) in
      let (lt, lacking) = root_lacks r.root r.node r.is_node r.is_root in
      record {
        after = z;
        part = raised_part demands capacities whos slots y lacks rooms nodes last (pos 1) z cells
            part ll lr places end.cell some end.room r;
        to = r.root;
        in_range = lt;
        lacking = lacking;
        got = λ i. let g = r.got i in omega (arith, ints, g);
      }

  -- so does a demand that was found: it gives one up on a slot that the demand can use from which
  -- it was found
  module _ (v : ℕ) (b : Node) (is : node_at nodes v ≡ Some b) (l : Link) (linked : b.link ≡ Some l)
      (lower : List (Option Node)) (below : AreBelow b.level nodes lower) where
    k : IsBranch whos slots nodes v b l
    k = (tree v b is l linked).branch

    abbrev given : List ℤ
    given = set y l.own (amount_at y l.own +ℤ neg_ℤ (pos 1))

    sized : length given ≡ length whos
    sized = length-set y l.own (amount_at y l.own +ℤ neg_ℤ (pos 1)) ∙ part.cells

    given-got : (i : ℕ) → sum_at i whos given ≡ (sum_at i whos y -ℤ only v i (pos 1))
    given-got i =
        let p = put-sum i whos y l.own (neg_ℤ (pos 1)) (amount_at y l.own +ℤ neg_ℤ (pos 1)) refl
        part.cells k.own_in in
        let o = only-neg (label_at whos l.own) i (pos 1) in
        let w = ap (λ j. only j i (pos 1)) k.mine in
        omega (arith, ints, p, o, w)

    given-loads : (s : ℕ) → sum_at s slots
        given ≡ (sum_at s slots y -ℤ only (label_at slots l.other) s (pos 1))
    given-loads s =
        let h = cells.same in
        let lt = k.own_in in
        let p = put-sum s slots y l.own (neg_ℤ (pos 1)) (amount_at y l.own +ℤ neg_ℤ (pos 1)) refl
        (part.cells ∙ sym h) (omega (arith, h, lt)) in
        let o = only-neg (label_at slots l.own) s (pos 1) in
        let w = ap (λ j. only j s (pos 1)) k.shared in
        omega (arith, ints, p, o, w)

    amounts : AreAmounts given
    amounts e = ⊎_elim
        (λ (q : e ≡ l.own).
        let lt = k.own_in in
        let c = part.cells in
        let g = get_or-set_same y l.own (amount_at y l.own +ℤ neg_ℤ (pos 1)) (pos 0)
        (omega (arith, lt, c)) in
        let p = ap (λ i. amount_at given i) q in
        let h = (tree v b is l linked).has in
        omega (arith, ints, g, p, h))
        (λ ne. let g = get_or-set_other y l.own e (amount_at y l.own +ℤ neg_ℤ (pos 1)) (pos 0)
        ne in let h = part.amounts e in omega (arith, ints, g, h))
        (cases_eq e l.own)

    -- the nodes below that of v have what they can move as before
    lower_tree : AreNodes whos slots given lower
    lower_tree i d at m eq =
        let (old, lt) = (below i).1 d at in
        let j = (tree i d old m eq).branch in
        let low = j.lower in
        let ne : m.own ≡ l.own → ⊥ = λ q.
        let same : i ≡ v = sym j.mine ∙ (ap (λ e. label_at whos e) q ∙ k.mine) in
        let level = ap (λ (n : Node). n.level)
        (same_some (sym old ∙ (ap (λ e. node_at nodes e) same ∙ is))) in
        absurd (omega (arith, level, lt)) in
        record {
          branch = record {
            own_in = j.own_in;
            other_in = j.other_in;
            mine = j.mine;
            shared = j.shared;
            parent = j.parent;
            is_parent =
                (below (label_at whos m.other)).0 j.parent j.is_parent (omega (arith, low, lt));
            lower = j.lower;
          };
          has = rw (get_or-set_other y l.own m.own (amount_at y l.own +ℤ neg_ℤ (pos 1)) (pos 0) ne)
              (tree i d old m eq).has;
        }

    lower_roots : AreRoots lacks lower
    lower_roots i d at none = roots i d ((below i).1 d at).0 none

    lend_by : GetsOne demands capacities whos slots y (λ i. only v i (pos 1))
    lend_by =
        let begun = moving_begun (length demands) (length capacities) whos slots lower lacks l.other
        (pos 1) (amount_at given l.other +ℤ pos 1) given cells sized amounts k.other_in
        (omega (arith, ints)) (carries_of whos slots given lower lower_tree lacks lower_roots
        (label_at whos l.other) k.parent
        ((below (label_at whos l.other)).0 k.parent k.is_parent k.lower)) refl in
        let (z, r) = move_exists (length demands) (length capacities) whos slots cells
        (suc begun.here.level) lower lacks l.other (pos 1) given
        (set given l.other (amount_at given l.other +ℤ pos 1)) (label_at whos l.other) sized
        (branches_of whos slots given lower lower_tree) (omega (arith, ints)) begun
        (omega arith) in
        let (root, lt) = (below r.root).1 r.node r.is_node in
        let (li, lacking) = root_lacks r.root r.node root r.is_root in
        record {
          after = z;
          part = record {
            cells = r.cells ∙ sized;
            amounts = r.amounts;
            got = λ i lt.
                let g = r.got i in
                let h = given-got i in
                let p = part.got i lt in
                let low = only-low v i in
                ⊎_elim
                (λ (q : r.root ≡ i). let o = only-same r.root i (pos 1)
                q in let x = ap (λ j. sum_at j whos y)
                q in let a = ap (λ j. amount_at demands j)
                q in omega (arith, ints, g, h, low, o, x, a, lacking))
                (λ ne. let o = only-other r.root i (pos 1)
                ne in omega (arith, ints, g, h, p, low, o))
                (cases_eq r.root i);
            within = λ s ls. let g = r.loads s in let h = given-loads s in let p = part.within s
                ls in omega (arith, ints, g, h, p);
          };
          to = r.root;
          in_range = li;
          lacking = lacking;
          got = λ i. let g = r.got i in let h = given-got i in omega (arith, ints, g, h);
        }

  pub lend_one : (v : ℕ) (b : Node) → node_at nodes v ≡ Some b
      → GetsOne demands capacities whos slots y (λ i. only v i (pos 1))
  lend_one v b is = either b.link
      (λ l linked. let (lower, below) = all_below b.level nodes in lend_by v b is l linked lower
      below)
      (λ none. let (lt, lacking) = root_lacks v b is
      none in record {
        after = y;
        part = part;
        to = v;
        in_range = lt;
        lacking = lacking;
        got = λ i. omega (arith, ints);
      })
