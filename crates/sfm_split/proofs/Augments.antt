-- An amount moved along the links of a search, one demand after the other.
use Rattle.std.proofs.Common.{◌≡◌, ℕ, ◌<◌, ◌≤◌, List, length, set, ℤ, pos, neg_ℤ, ◌+ℤ◌, ◌-ℤ◌, ◌≤ℤ◌, if◌then◌else◌, true, false, nat_eq, Option, Some, None, refl, sym, ap, ◌∙◌, arith, ⊎_elim, length-set, get_or-set_other, get_or-set_same}
use Rattle.std.proofs.lemmas.Int.{ints}
use Rattle.std.proofs.lemmas.Bool.{cases_eq}
use Rattle.sfm_cells.specs.Splits.{sum_at, amount_at}
use Rattle.sfm_cells.specs.Cells.{label_at, AreCells, only}
use Rattle.sfm_cells.proofs.Amounts.{AreAmounts, sum_at-set, sum_at-holds, only-same, only-other}
use Rattle.sfm_split.specs.Search.{node_at, IsBranch, AreBranches, Carries, IsRaised}
use Rattle.sfm_split.specs.declared.nodes.Link.{Link}
use Rattle.sfm_split.specs.declared.nodes.Node.{Node}
use Rattle.sfm_split.proofs.Ways.{carries_here, carries_on, carries_end}

-- an amount that the demand `who` holds too much, on its way from the last cell
pub record IsMoving (whos slots : List ℕ) (nodes : List (Option Node)) (lacks : List ℤ) (last : ℕ)
    (a : ℤ) (y z : List ℤ) (who : ℕ) : Type 0 where
  pub cells : length z ≡ length y
  pub amounts : (e : ℕ) → pos 0 ≤ℤ amount_at z e
  pub got : (i : ℕ) → sum_at i whos z ≡ (sum_at i whos y +ℤ only who i a)
  pub loads : (s : ℕ) → sum_at s slots z ≡ (sum_at s slots y +ℤ only (label_at slots last) s a)
  pub here : Node
  pub is_here : node_at nodes who ≡ Some here
  pub way : Carries whos nodes y lacks a who
  pub kept : (e : ℕ) (b : Node) → node_at nodes (label_at whos e) ≡ Some b → b.level ≤ here.level
      → amount_at y e ≤ℤ amount_at z e

pub only-neg : (j k : ℕ) (a : ℤ) → only j k (neg_ℤ a) ≡ neg_ℤ (only j k a)
only-neg j k a = at (nat_eq j k) where
  at : (t : _) → (if t then neg_ℤ a else pos 0) ≡ neg_ℤ (if t then a else pos 0)
  at true = refl
  at false = refl

-- one amount changed by a
pub put-sum : (k : ℕ) (js : List ℕ) (y : List ℤ) (e : ℕ) (a b : ℤ) → b ≡ (amount_at y e +ℤ a)
    → length y ≡ length js → e < length js
    → sum_at k js (set y e b) ≡ (sum_at k js y +ℤ only (label_at js e) k a)
put-sum k js y e a b is same lt = ap (λ x. sum_at k js (set y e x)) is
    ∙ sum_at-set k js y e a same lt

some_same : {a b : Node} → Some a ≡ Some b → b ≡ a
some_same h = cc

pub moving_begun : (n m : ℕ) (whos slots : List ℕ) (nodes : List (Option Node)) (lacks : List ℤ)
    (last : ℕ) (a x : ℤ) (y : List ℤ) → AreCells n m whos slots → length y ≡ length whos
    → AreAmounts y → last < length whos → pos 0 ≤ℤ a
    → Carries whos nodes y lacks a (label_at whos last)
    → x ≡ (amount_at y last +ℤ a) → IsMoving whos slots nodes lacks last a y (set y last x)
    (label_at whos last)
moving_begun n m whos slots nodes lacks last a x y cells same low lt some way is = record {
  cells = length-set y last x;
  amounts = λ e. let r = rises e in let l = low e in omega (arith, ints, r, l);
  got = λ i. put-sum i whos y last a x is same lt;
  loads = λ s. let h = cells.same in put-sum s slots y last a x is (same ∙ sym h)
      (omega (arith, h, lt));
  here = (carries_here whos nodes y lacks a (label_at whos last) way).0;
  is_here = (carries_here whos nodes y lacks a (label_at whos last) way).1;
  way = way;
  kept = λ e b at le. rises e;
} where
  rises : (e : ℕ) → amount_at y e ≤ℤ amount_at (set y last x) e
  rises e = ⊎_elim
      (λ (q : e ≡ last).
      let g = get_or-set_same y last x (pos 0) (omega (arith, same, lt)) in
      let p = ap (λ i. amount_at (set y last x) i) q in
      let r = ap (λ i. amount_at y i) q in
      omega (arith, ints, g, p, r, is, some))
      (λ ne. let g = get_or-set_other y last e x (pos 0) ne in omega (arith, ints, g))
      (cases_eq e last)

module _ (n m : ℕ) (whos slots : List ℕ) (nodes : List (Option Node)) (lacks : List ℤ) (last : ℕ)
    (a : ℤ) (y z : List ℤ) (who : ℕ) (cells : AreCells n m whos slots)
    (same : length y ≡ length whos) (tree : AreBranches whos slots nodes)
    (inv : IsMoving whos slots nodes lacks last a y z who) where
  -- no slot holds more than before, but the last one by a
  pub moving_small : (c : ℤ) → ((e : ℕ) → e < length whos → sum_at (label_at slots e) slots y ≤ℤ c)
      → (sum_at (label_at slots last) slots y +ℤ a) ≤ℤ c → (e : ℕ) → e < length whos
      → amount_at z e ≤ℤ c
  moving_small c small room e lt =
      let l = inv.cells in
      let h = cells.same in
      let b = sum_at-holds slots z e inv.amounts (omega (arith, l, same, h))
      (omega (arith, h, lt)) in
      let s = inv.loads (label_at slots e) in
      ⊎_elim
      (λ (q : label_at slots last ≡ label_at slots e). let o = only-same (label_at slots last)
      (label_at slots e) a q in let p = ap (λ k. sum_at k slots y)
      q in omega (arith, ints, b, s, o, p, room))
      (λ ne. let o = only-other (label_at slots last) (label_at slots e) a ne in let t = small e
      lt in omega (arith, ints, b, s, o, t))
      (cases_eq (label_at slots last) (label_at slots e))

  -- the amount can be taken off the own cell of the link
  pub moving_has : (l : Link) → inv.here.link ≡ Some l → (l.own < length whos)
      × (l.other < length whos) × (a ≤ℤ amount_at z l.own)
  moving_has l is =
      let k = tree who inv.here l inv.is_here is in
      let r = inv.kept l.own inv.here (ap (λ i. node_at nodes i) k.mine ∙ inv.is_here)
      (omega arith) in
      let (h, rest) = carries_on whos nodes y lacks a who inv.here l inv.way inv.is_here is in
      (k.own_in, k.other_in, omega (arith, ints, r, h))

  -- and put on the other one
  pub moving_step : (l : Link) → inv.here.link ≡ Some l → (u v : ℤ) → u ≡ (amount_at z l.own -ℤ a)
      → v ≡ (amount_at (set z l.own u) l.other +ℤ a) → pos 0 ≤ℤ a
      → IsMoving whos slots nodes lacks last a y (set (set z l.own u) l.other v)
      (label_at whos l.other)
  moving_step l is u v iu iv some = record {
    cells = length-set (set z l.own u) l.other v ∙ (length-set z l.own u ∙ inv.cells);
    amounts = λ e. second e;
    got = λ i.
        let p = put-sum i whos z l.own (neg_ℤ a) u (omega (arith, ints, iu)) lz k.own_in in
        let q = put-sum i whos (set z l.own u) l.other a v iv (length-set z l.own u ∙ lz)
        k.other_in in
        let o = only-neg (label_at whos l.own) i a in
        let w = ap (λ j. only j i a) k.mine in
        let g = inv.got i in
        omega (arith, ints, p, q, o, w, g);
    loads = λ s.
        let h = cells.same in
        let p = put-sum s slots z l.own (neg_ℤ a) u (omega (arith, ints, iu)) (lz ∙ sym h)
        (let i = k.own_in in omega (arith, h, i)) in
        let q = put-sum s slots (set z l.own u) l.other a v iv (length-set z l.own u ∙ (lz ∙ sym h))
        (let i = k.other_in in omega (arith, h, i)) in
        let o = only-neg (label_at slots l.own) s a in
        let w = ap (λ j. only j s a) k.shared in
        let g = inv.loads s in
        omega (arith, ints, p, q, o, w, g);
    here = k.parent;
    is_here = k.is_parent;
    way = (carries_on whos nodes y lacks a who inv.here l inv.way inv.is_here is).1;
    kept = λ e b at le.
        let lower = k.lower in
        let ne : e ≡ l.own → ⊥ = λ q.
        let same_node : inv.here ≡ b = some_same
        (sym at ∙ (ap (λ i. node_at nodes (label_at whos i)) q
        ∙ (ap (λ i. node_at nodes i) k.mine ∙ inv.is_here))) in
        let same_level = ap (λ (d : Node). d.level) same_node in
        absurd (omega (arith, lower, le, same_level)) in
        let o = get_or-set_other z l.own e u (pos 0) ne in
        let r = inv.kept e b at (omega (arith, lower, le)) in
        let t = rises e in
        omega (arith, ints, o, r, t);
  } where
    k : IsBranch whos slots nodes who inv.here l
    k = tree who inv.here l inv.is_here is

    lz : length z ≡ length whos
    lz = inv.cells ∙ same

    own_z : l.own < length z
    own_z = let i = k.own_in in omega (arith, i, lz)

    other_z : l.other < length (set z l.own u)
    other_z = let i = k.other_in in let s = length-set z l.own u in omega (arith, i, lz, s)

    first : (e : ℕ) → pos 0 ≤ℤ amount_at (set z l.own u) e
    first e = ⊎_elim
        (λ (q : e ≡ l.own).
        let g = get_or-set_same z l.own u (pos 0) own_z in
        let p = ap (λ i. amount_at (set z l.own u) i) q in
        let h = (moving_has l is).2 in
        omega (arith, ints, g, p, h, iu))
        (λ ne. let g = get_or-set_other z l.own e u (pos 0) ne in let h = inv.amounts
        e in omega (arith, ints, g, h))
        (cases_eq e l.own)

    rises : (e : ℕ) → amount_at (set z l.own u) e ≤ℤ amount_at (set (set z l.own u) l.other v) e
    rises e = ⊎_elim
        (λ (q : e ≡ l.other).
        let g = get_or-set_same (set z l.own u) l.other v (pos 0) other_z in
        let p = ap (λ i. amount_at (set (set z l.own u) l.other v) i) q in
        let r = ap (λ i. amount_at (set z l.own u) i) q in
        omega (arith, ints, g, p, r, iv, some))
        (λ ne. let g = get_or-set_other (set z l.own u) l.other e v (pos 0)
        ne in omega (arith, ints, g))
        (cases_eq e l.other)

    second : (e : ℕ) → pos 0 ≤ℤ amount_at (set (set z l.own u) l.other v) e
    second e = let f = first e in let r = rises e in omega (arith, ints, f, r)

  pub moving_lower : (l : Link) → inv.here.link ≡ Some l → (b : Node)
      → node_at nodes (label_at whos l.other) ≡ Some b → b.level < inv.here.level
  moving_lower l is b at =
      let k = tree who inv.here l inv.is_here is in
      let q : k.parent ≡ b = some_same (sym at ∙ k.is_parent) in
      let p = ap (λ (d : Node). d.level) q in
      let h = k.lower in
      omega (arith, p, h)

  pub moving_done : inv.here.link ≡ None → (r : IsRaised whos slots nodes lacks last a y z)
      × (r.root ≡ who)
  moving_done none = (
    record {
      root = who;
      node = inv.here;
      is_node = inv.is_here;
      is_root = none;
      enough = carries_end whos nodes y lacks a who inv.here inv.way inv.is_here none;
      cells = inv.cells;
      amounts = inv.amounts;
      got = inv.got;
      loads = inv.loads;
    },
    refl,
  )

-- the level of a node
abbrev pub level_of : Option Node → ℕ
level_of None = 0
level_of (Some b) = b.level

pub level_some : (o : Option Node) (b : Node) → o ≡ Some b → level_of o ≡ b.level
level_some o b h = ap level_of h

-- what the two changes of a step need
pub record Passes (whos : List ℕ) (z : List ℤ) (l : Link) (a n c : ℤ) : Type 0 where
  pub own_in : l.own < length whos
  pub other_in : l.other < length whos
  pub own_z : l.own < length z
  pub own_low : pos 0 ≤ℤ (amount_at z l.own +ℤ n)
  pub own_high : (amount_at z l.own +ℤ n) ≤ℤ c
  pub other_z : l.other < length (set z l.own (amount_at z l.own +ℤ n))
  pub other_low : pos 0 ≤ℤ (amount_at (set z l.own (amount_at z l.own +ℤ n)) l.other +ℤ a)
  pub other_high : (amount_at (set z l.own (amount_at z l.own +ℤ n)) l.other +ℤ a) ≤ℤ c

pub moving_passes : (n m : ℕ) (whos slots : List ℕ) (nodes : List (Option Node)) (lacks : List ℤ)
    (last : ℕ) (a : ℤ) (y z : List ℤ) (who : ℕ) → AreCells n m whos slots → length y ≡ length whos
    → AreBranches whos slots nodes
    → (inv : IsMoving whos slots nodes lacks last a y z who) (c : ℤ)
    → ((e : ℕ) → e < length whos → sum_at (label_at slots e) slots y ≤ℤ c)
    → (sum_at (label_at slots last) slots y +ℤ a) ≤ℤ c → pos 0 ≤ℤ a
    → (l : Link) → inv.here.link ≡ Some l → (b : ℤ) → (b +ℤ a) ≡ pos 0 → Passes whos z l a b c
moving_passes n m whos slots nodes lacks last a y z who cells same tree inv c small room some l is b
    minus =
    let (own_in, other_in, has) = moving_has n m whos slots nodes lacks last a y z who cells same
    tree inv l is in
    let u = amount_at z l.own +ℤ b in
    let v = amount_at (set z l.own u) l.other +ℤ a in
    let next = moving_step n m whos slots nodes lacks last a y z who cells same tree inv l is u v
    (omega (arith, ints, minus)) refl some in
    let lz = inv.cells in
    let ls = length-set z l.own u in
    let small_own = moving_small n m whos slots nodes lacks last a y z who cells same tree inv c
    small room l.own own_in in
    let small_other = moving_small n m whos slots nodes lacks last a y
    (set (set z l.own u) l.other v) (label_at whos l.other) cells same tree next c small room
    l.other other_in in
    let low_other = next.amounts l.other in
    let other_z : l.other < length (set z l.own u) = omega (arith, other_in, lz, same, ls) in
    let g = get_or-set_same (set z l.own u) l.other v (pos 0) other_z in
    record {
      own_in = own_in;
      other_in = other_in;
      own_z = omega (arith, own_in, lz, same);
      own_low = omega (arith, ints, has, minus);
      own_high = omega (arith, ints, small_own, minus, some);
      other_z = other_z;
      other_low = omega (arith, ints, low_other, g);
      other_high = omega (arith, ints, small_other, g);
    }
