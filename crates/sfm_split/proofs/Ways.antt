-- The way of an amount along the links of a search, from a demand to one that lacks as much.
use Rattle.std.proofs.Common.{◌≡◌, ℕ, zero, suc, ◌<◌, List, ℤ, pos, ◌≤ℤ◌, Option, Some, None, refl, sym, ap, ◌∙◌, arith}
use Rattle.std.proofs.lemmas.Int.{ints}
use Rattle.sfm_cells.specs.Splits.{amount_at}
use Rattle.sfm_cells.specs.Cells.{label_at}
use Rattle.sfm_split.specs.Search.{node_at, AreNodes, AreRoots, AreBranches, Carries, at_root, by_link}
use Rattle.sfm_split.specs.declared.nodes.Link.{Link}
use Rattle.sfm_split.specs.declared.nodes.Node.{Node}

same_node : {a b : Node} → Some a ≡ Some b → a ≡ b
same_node h = cc

same_link : {a b : Link} → Some a ≡ Some b → a ≡ b
same_link h = cc

no_link : {l : Link} → None ≡ Some l → ⊥
no_link h = cc

by_option : {A P : Type 0} (o : Option A) → ((x : A) → o ≡ Some x → P) → (o ≡ None → P) → P
by_option None f g = g refl
by_option (Some x) f g = f x refl

module _ (whos : List ℕ) (nodes : List (Option Node)) (y lacks : List ℤ) (a : ℤ) where
  -- a demand on the way was found
  pub carries_here : (i : ℕ) → Carries whos nodes y lacks a i → (b : Node)
      × (node_at nodes i ≡ Some b)
  carries_here i (at_root _ b is none le) = (b, is)
  carries_here i (by_link _ b l is linked le rest) = (b, is)

  -- it has the amount on the own cell of its link, and the way goes on from the other one
  pub carries_on : (i : ℕ) (b : Node) (l : Link) → Carries whos nodes y lacks a i
      → node_at nodes i ≡ Some b → b.link ≡ Some l → (a ≤ℤ amount_at y l.own)
      × Carries whos nodes y lacks a (label_at whos l.other)
  carries_on i b l (at_root _ d is none le) here linked =
      let q : d ≡ b = same_node (sym is ∙ here) in
      absurd (no_link (sym none ∙ (ap (λ (n : Node). n.link) q ∙ linked)))
  carries_on i b l (by_link _ d m is on le rest) here linked =
      let q : d ≡ b = same_node (sym is ∙ here) in
      let e : m ≡ l = same_link (sym on ∙ (ap (λ (n : Node). n.link) q ∙ linked)) in
      rw (← e) (le, rest)

  -- without a link it lacks as much
  pub carries_end : (i : ℕ) (b : Node) → Carries whos nodes y lacks a i → node_at nodes i ≡ Some b
      → b.link ≡ None → a ≤ℤ amount_at lacks i
  carries_end i b (at_root _ d is none le) here out = le
  carries_end i b (by_link _ d m is on le rest) here out =
      let q : d ≡ b = same_node (sym is ∙ here) in
      absurd (no_link (sym out ∙ (ap (λ (n : Node). n.link) (sym q) ∙ on)))

-- ---- the nodes of a search

module _ (whos slots : List ℕ) (y : List ℤ) (nodes : List (Option Node))
    (tree : AreNodes whos slots y nodes) where
  pub branches_of : AreBranches whos slots nodes
  branches_of i b l is linked = (tree i b is l linked).branch

  module _ (lacks : List ℤ) (roots : AreRoots lacks nodes) where
    carries_by : (fuel i : ℕ) (b : Node) → node_at nodes i ≡ Some b → b.level < fuel
        → Carries whos nodes y lacks (pos 1) i
    carries_by zero i b is few = absurd (omega (arith, few))
    carries_by (suc fuel) i b is few = at (carries_by fuel) where
      at : ((i : ℕ) (b : Node) → node_at nodes i ≡ Some b → b.level < fuel
          → Carries whos nodes y lacks (pos 1) i) → Carries whos nodes y lacks (pos 1) i
      at rest = by_option b.link
          (λ l linked.
          let k = (tree i b is l linked).branch in
          let lower = k.lower in
          by_link i b l is linked (tree i b is l linked).has
          (rest (label_at whos l.other) k.parent k.is_parent (omega (arith, lower, few))))
          (λ none. at_root i b is none (roots i b is none))

    -- something can move from each demand that was found
    pub carries_of : (i : ℕ) (b : Node) → node_at nodes i ≡ Some b
        → Carries whos nodes y lacks (pos 1) i
    carries_of i b is = carries_by (suc b.level) i b is (omega arith)

-- ---- on the way

-- a demand on the way from i: what can move from it, as far as the amount goes that the links on
-- the way have, can move from i
pub record IsOnWay (whos slots : List ℕ) (nodes : List (Option Node)) (y lacks : List ℤ) (most : ℤ)
    (i who : ℕ) (flow : ℤ) : Type 0 where
  pub here : Node
  pub is_here : node_at nodes who ≡ Some here
  pub under : flow ≤ℤ most
  pub back : (a : ℤ) → a ≤ℤ flow → Carries whos nodes y lacks a who → Carries whos nodes y lacks a i
  pub some : AreNodes whos slots y nodes → pos 1 ≤ℤ most → pos 1 ≤ℤ flow

module _ (whos slots : List ℕ) (nodes : List (Option Node)) (y lacks : List ℤ) (most : ℤ)
    (i : ℕ) where
  pub way_begun : (b : Node) → node_at nodes i ≡ Some b
      → IsOnWay whos slots nodes y lacks most i i most
  way_begun b is = record {
    here = b;
    is_here = is;
    under = omega (arith, ints);
    back = λ a le way. way;
    some = λ tree one. one;
  }

  module _ (who : ℕ) (flow : ℤ) (inv : IsOnWay whos slots nodes y lacks most i who flow) where
    pub way_more : AreBranches whos slots nodes → (l : Link) → inv.here.link ≡ Some l → (less : ℤ)
        → less ≤ℤ flow → less ≤ℤ amount_at y l.own
        → (pos 1 ≤ℤ flow → pos 1 ≤ℤ amount_at y l.own → pos 1 ≤ℤ less)
        → IsOnWay whos slots nodes y lacks most i (label_at whos l.other) less
    way_more tree l linked less low has some =
        let k = tree who inv.here l inv.is_here linked in
        let under = inv.under in
        record {
          here = k.parent;
          is_here = k.is_parent;
          under = omega (arith, ints, low, under);
          back = λ a le way. inv.back a (omega (arith, ints, le, low))
              (by_link who inv.here l inv.is_here linked (omega (arith, ints, le, has)) way);
          some = λ full one. some (inv.some full one) (full who inv.here inv.is_here l linked).has;
        }

    -- at its end
    pub way_done : inv.here.link ≡ None → (less : ℤ) → less ≤ℤ flow → less ≤ℤ amount_at lacks who
        → Carries whos nodes y lacks less i
    way_done none less low lack = inv.back less low (at_root who inv.here inv.is_here none lack)

    pub way_some : inv.here.link ≡ None → (less : ℤ)
        → (pos 1 ≤ℤ flow → pos 1 ≤ℤ amount_at lacks who → pos 1 ≤ℤ less)
        → AreNodes whos slots y nodes → AreRoots lacks nodes → pos 1 ≤ℤ most → pos 1 ≤ℤ less
    way_some none less some full roots one =
        some (inv.some full one) (roots who inv.here inv.is_here none)
