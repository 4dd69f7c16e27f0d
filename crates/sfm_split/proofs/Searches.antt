-- A search level by level, which no code makes: marks on slots, and nodes that are found from them.
-- By it amounts that cannot be raised are shown to exist.
use Rattle.std.proofs.Common.{◌≡◌, ℕ, zero, suc, ◌+◌, ◌<◌, ◌≤◌, Bool, true, false, List, [], ◌∷◌, is_some, length, get_or, set, replicate, ℤ, pos, ◌≤ℤ◌, ◌<ℤ◌, Option, Some, None, refl, sym, ap, ◌∙◌, arith, cond, ⊎_elim, length-set, get_or-set_other, get_or-set_same}
use Rattle.std.proofs.lemmas.Int.{ints}
use Rattle.std.specs.Bool.{MatchBool}
use Rattle.sfm_spec.specs.Sets.{Has, empty_set}
use Rattle.std.proofs.lemmas.Bool.{cases_eq, cases_lt, false≢true}
use Rattle.std.proofs.lemmas.List.{length-replicate}
use Rattle.sfm_cells.specs.Splits.{amount_at}
use Rattle.sfm_cells.specs.Cells.{label_at}
use Rattle.sfm_split.specs.Search.{node_at, missing, IsFound, IsNode, AreNodes, AreRoots, HasRoots, IsRoot, AreRootsOf, IsMarkOf, IsStuck, IsFoundSet}
use Rattle.sfm_split.specs.declared.nodes.Link.{Link}
use Rattle.sfm_split.specs.declared.nodes.Node.{Node}

-- ---- words of a search by levels

-- a demand is found at a level, from another
pub record IsNewNode (whos slots : List ℕ) (y : List ℤ) (nodes : List (Option Node)) (level i : ℕ)
    (b : Node) : Type 0 where
  pub out : node_at nodes i ≡ None
  pub at_level : b.level ≡ level
  pub linked : (b.link ≡ None) → ⊥
  pub node : IsNode whos slots y nodes i b

-- more nodes, all of one level; those of before stay
pub record IsGrown (whos slots : List ℕ) (y : List ℤ) (level : ℕ)
    (before after : List (Option Node)) : Type 0 where
  pub places : length after ≡ length before
  pub tree : AreNodes whos slots y after
  pub kept : (i : ℕ) (b : Node) → node_at before i ≡ Some b → node_at after i ≡ Some b
  pub new : (i : ℕ) (b : Node) → node_at before i ≡ None → node_at after i ≡ Some b
      → (b.level ≡ level) × ((b.link ≡ None) → ⊥)

-- a slot is marked with a cell of a demand that was found, and has no room
pub record IsMark (whos slots : List ℕ) (rooms : List ℤ) (nodes : List (Option Node))
    (s e : ℕ) : Type 0 where
  pub cell : e < length whos
  pub slot : label_at slots e ≡ s
  pub found : IsFound nodes (label_at whos e)
  pub full : amount_at rooms s ≤ℤ pos 0

abbrev pub mark_at : List (Option ℕ) → ℕ → Option ℕ
mark_at marks s = get_or marks s None

abbrev pub AreMarks : List ℕ → List ℕ → List ℤ → List (Option Node) → List (Option ℕ) → Type 0
AreMarks whos slots rooms nodes marks = (s e : ℕ) → mark_at marks s ≡ Some e
    → IsMark whos slots rooms nodes s e

-- each slot of a demand that was found is marked
abbrev pub AllMarked : List ℕ → List ℕ → List (Option Node) → List (Option ℕ) → Type 0
AllMarked whos slots nodes marks = (e : ℕ) → e < length whos → IsFound nodes (label_at whos e)
    → (f : ℕ) × (mark_at marks (label_at slots e) ≡ Some f)

-- no demand that was not found has anything on a marked slot
abbrev pub NoneHas : List ℕ → List ℕ → List ℤ → List (Option Node) → List (Option ℕ) → Type 0
NoneHas whos slots y nodes marks = (e f : ℕ) → e < length whos
    → node_at nodes (label_at whos e) ≡ None → mark_at marks (label_at slots e) ≡ Some f
    → amount_at y e ≤ℤ pos 0

-- ---- marks

pub record IsMarkingTo (whos slots : List ℕ) (rooms : List ℤ) (nodes : List (Option Node))
    (marks : List (Option ℕ)) (e : ℕ) : Type 0 where
  pub places : length marks ≡ length rooms
  pub sound : AreMarks whos slots rooms nodes marks
  pub upto : (d : ℕ) → d < e → IsFound nodes (label_at whos d) → (f : ℕ)
      × (mark_at marks (label_at slots d) ≡ Some f)

pub mark_put : (whos slots : List ℕ) (rooms : List ℤ) (nodes : List (Option Node))
    (marks : List (Option ℕ)) (e : ℕ) → e < length whos → label_at slots e < length rooms
    → IsFound nodes (label_at whos e) → amount_at rooms (label_at slots e) ≤ℤ pos 0
    → IsMarkingTo whos slots rooms nodes marks e
    → IsMarkingTo whos slots rooms nodes (set marks (label_at slots e) (Some e)) (e + 1)
mark_put whos slots rooms nodes marks e lt below found full inv = record {
  places = length-set marks s (Some e) ∙ inv.places;
  sound = λ t f is. ⊎_elim
      (λ (q : t ≡ s).
      let h : f ≡ e = some_same (sym (ap (λ k. mark_at (set marks s (Some e)) k) q ∙ here) ∙ is) in
      record {
        cell = omega (arith, h, lt);
        slot = ap (λ k. label_at slots k) h ∙ sym q;
        found = rw h found;
        full = rw q full;
      })
      (λ ne. inv.sound t f (sym (get_or-set_other marks s t (Some e) None ne) ∙ is))
      (cases_eq t s);
  upto = λ d less has. ⊎_elim
      (λ (q : label_at slots d ≡ s). (e, ap (λ k. mark_at (set marks s (Some e)) k) q ∙ here))
      (λ ne. ⊎_elim
      (λ (before : d < e). let (f, is) = inv.upto d before
      has in (f, get_or-set_other marks s (label_at slots d) (Some e) None ne ∙ is))
      (λ (ge : e ≤ d). let q : d ≡ e = omega (
        arith,
        ge,
        less,
      ) in absurd (ne (ap (λ k. label_at slots k) q)))
      (cases_lt d e))
      (cases_eq (label_at slots d) s);
} where
  s : ℕ
  s = label_at slots e

  here : mark_at (set marks s (Some e)) s ≡ Some e
  here = let p = inv.places in get_or-set_same marks (label_at slots e) (Some e) None
      (omega (arith, p, below))

  some_same : {a b : ℕ} → Some a ≡ Some b → b ≡ a
  some_same h = cc

pub mark_skip : (whos slots : List ℕ) (rooms : List ℤ) (nodes : List (Option Node))
    (marks : List (Option ℕ)) (e : ℕ)
    → (IsFound nodes (label_at whos e) → (f : ℕ) × (mark_at marks (label_at slots e) ≡ Some f))
    → IsMarkingTo whos slots rooms nodes marks e → IsMarkingTo whos slots rooms nodes marks (e + 1)
mark_skip whos slots rooms nodes marks e skipped inv = record {
  places = inv.places;
  sound = inv.sound;
  upto = λ d less has. ⊎_elim
      (λ (before : d < e). inv.upto d before has)
      (λ (ge : e ≤ d). let q : d ≡ e = omega (arith, ge, less) in rw q (skipped (rw q at has)))
      (cases_lt d e);
}

-- ---- nodes that are found from marks

-- what is told of a node stays true when nodes are added
pub node_kept : (whos slots : List ℕ) (y : List ℤ) (before after : List (Option Node)) (i : ℕ)
    (b : Node) → ((j : ℕ) (d : Node) → node_at before j ≡ Some d → node_at after j ≡ Some d)
    → IsNode whos slots y before i b → IsNode whos slots y after i b
node_kept whos slots y before after i b kept h l is =
    let k = (h l is).branch in
    record {
      branch = record {
        own_in = k.own_in;
        other_in = k.other_in;
        mine = k.mine;
        shared = k.shared;
        parent = k.parent;
        is_parent = kept (label_at whos l.other) k.parent k.is_parent;
        lower = k.lower;
      };
      has = (h l is).has;
    }

-- the node of a demand that has something on a slot that one of a lower level could use
pub linked_node : (whos slots : List ℕ) (y : List ℤ) (nodes : List (Option Node)) (level : ℕ)
    (link : Link) → link.own < length whos → link.other < length whos
    → label_at slots link.own ≡ label_at slots link.other
    → (parent : Node) → node_at nodes (label_at whos link.other) ≡ Some parent
    → parent.level < level → pos 1 ≤ℤ amount_at y link.own
    → IsNode whos slots y nodes (label_at whos link.own)
    (record { level = level; link = Some link })
linked_node whos slots y nodes level link own other shared parent is lower has l eq =
    rw (← same_link link l eq)
    (record {
      branch = record {
        own_in = own;
        other_in = other;
        mine = refl;
        shared = shared;
        parent = parent;
        is_parent = is;
        lower = lower;
      };
      has = has;
    })
  where
    same_link : (a b : Link) → Some a ≡ Some b → a ≡ b
    same_link a b h = cc

pub missing-set : (nodes : List (Option Node)) (i : ℕ) (b : Node) → i < length nodes
    → node_at nodes i ≡ None → suc (missing (set nodes i (Some b))) ≡ missing nodes
missing-set [] i b lt none = absurd (omega arith)
missing-set (None ∷ nodes) zero b lt none = refl
missing-set (Some d ∷ nodes) zero b lt none = cc
missing-set (None ∷ nodes) (suc i) b lt none =
    let r = missing-set nodes i b (omega arith) none in omega (arith, r)
missing-set (Some d ∷ nodes) (suc i) b lt none = missing-set nodes i b (omega arith) none

pub missing_few : (nodes : List (Option Node)) → missing nodes ≤ length nodes
missing_few [] = omega arith
missing_few (None ∷ nodes) = let r = missing_few nodes in omega (arith, r)
missing_few (Some d ∷ nodes) = let r = missing_few nodes in omega (arith, r)

pub record IsGrowingTo (whos slots : List ℕ) (y : List ℤ) (level : ℕ) (marks : List (Option ℕ))
    (before after : List (Option Node)) (grew : Bool) (e : ℕ) : Type 0 where
  pub grown : IsGrown whos slots y level before after
  pub passed : (d f : ℕ) → d < e → node_at after (label_at whos d) ≡ None
      → mark_at marks (label_at slots d) ≡ Some f → amount_at y d ≤ℤ pos 0
  pub more : grew ≡ true → missing after < missing before
  pub same : grew ≡ false → after ≡ before

pub grow_none : (whos slots : List ℕ) (y : List ℤ) (level : ℕ) (marks : List (Option ℕ))
    (nodes : List (Option Node)) → AreNodes whos slots y nodes
    → IsGrowingTo whos slots y level marks nodes nodes false 0
grow_none whos slots y level marks nodes tree = record {
  grown = record {
    places = refl;
    tree = tree;
    kept = λ i b is. is;
    new = λ i b none is. absurd (apart b (sym none ∙ is));
  };
  passed = λ d f lt. absurd (omega arith);
  more = λ t. absurd (false≢true t);
  same = λ t. refl;
} where
  apart : (b : Node) → None ≡ Some b → ⊥
  apart b h = cc

pub grow_skip : (whos slots : List ℕ) (y : List ℤ) (level : ℕ) (marks : List (Option ℕ))
    (before after : List (Option Node)) (grew : Bool) (e : ℕ)
    → (node_at after (label_at whos e) ≡ None → (f : ℕ) → mark_at marks (label_at slots e) ≡ Some f
    → amount_at y e ≤ℤ pos 0)
    → IsGrowingTo whos slots y level marks before after grew e
    → IsGrowingTo whos slots y level marks before after grew (e + 1)
grow_skip whos slots y level marks before after grew e skipped inv = record {
  grown = inv.grown;
  passed = λ d f lt none is. ⊎_elim
      (λ (less : d < e). inv.passed d f less none is)
      (λ (ge : e ≤ d). let q : d ≡ e = omega (arith, ge, lt) in rw q
      (skipped (rw q at none) f (rw q at is)))
      (cases_lt d e);
  more = inv.more;
  same = inv.same;
}

pub grow_put : (whos slots : List ℕ) (y : List ℤ) (level : ℕ) (marks : List (Option ℕ))
    (before after : List (Option Node)) (grew : Bool) (e : ℕ) (b : Node)
    → label_at whos e < length before → IsNewNode whos slots y after level (label_at whos e) b
    → IsGrowingTo whos slots y level marks before after grew e
    → IsGrowingTo whos slots y level marks before (set after (label_at whos e) (Some b)) true
    (e + 1)
grow_put whos slots y level marks before after grew e b below fresh inv = record {
  grown = record {
    places = length-set after i (Some b) ∙ inv.grown.places;
    tree = λ j d is. ⊎_elim
        (λ (q : j ≡ i). let h : d ≡ b = some_same
        (sym (ap (λ k. node_at (set after i (Some b)) k) q ∙ here) ∙ is) in rw (q, h)
        (node_kept whos slots y after (set after i (Some b)) i b kept fresh.node))
        (λ ne. node_kept whos slots y after (set after i (Some b)) j d kept
        (inv.grown.tree j d (sym (get_or-set_other after i j (Some b) None ne) ∙ is)))
        (cases_eq j i);
    kept = λ j d is. kept j d (inv.grown.kept j d is);
    new = λ j d out is. ⊎_elim
        (λ (q : j ≡ i). let h : d ≡ b = some_same
        (sym (ap (λ k. node_at (set after i (Some b)) k) q ∙ here)
        ∙ is) in (rw h fresh.at_level, rw h fresh.linked))
        (λ ne. inv.grown.new j d out (sym (get_or-set_other after i j (Some b) None ne) ∙ is))
        (cases_eq j i);
  };
  passed = λ d f lt out is. ⊎_elim
      (λ (q : label_at whos d ≡ i).
      absurd (apart b (sym out ∙ (ap (λ k. node_at (set after i (Some b)) k) q ∙ here))))
      (λ ne. ⊎_elim
      (λ (less : d < e). inv.passed d f less
      (sym (get_or-set_other after i (label_at whos d) (Some b) None ne) ∙ out) is)
      (λ (ge : e ≤ d). let q : d ≡ e = omega (
        arith,
        ge,
        lt,
      ) in absurd (ne (ap (λ k. label_at whos k) q)))
      (cases_lt d e))
      (cases_eq (label_at whos d) i);
  more = λ t. fewer grew inv.more inv.same;
  same = λ t. absurd (false≢true (sym t));
} where
  i : ℕ
  i = label_at whos e

  in_range : i < length after
  in_range = let p = inv.grown.places in omega (arith, p, below)

  here : node_at (set after i (Some b)) i ≡ Some b
  here = get_or-set_same after i (Some b) None in_range

  apart : (b : Node) → None ≡ Some b → ⊥
  apart b h = cc

  some_same : {a b : Node} → Some a ≡ Some b → b ≡ a
  some_same h = cc

  kept : (j : ℕ) (d : Node) → node_at after j ≡ Some d → node_at (set after i (Some b)) j ≡ Some d
  kept j d is = ⊎_elim
      (λ (q : j ≡ label_at whos e).
      absurd (apart d (sym fresh.out ∙ (ap (λ k. node_at after k) (sym q) ∙ is))))
      (λ ne. get_or-set_other after (label_at whos e) j (Some b) None ne ∙ is)
      (cases_eq j (label_at whos e))

  fewer : (grew : Bool) → (grew ≡ true → missing after < missing before)
      → (grew ≡ false → after ≡ before) → missing (set after i (Some b)) < missing before
  fewer true more same = let m = missing-set after (label_at whos e) b in_range
      fresh.out in let h = more refl in omega (arith, m, h)
  fewer false more same = let m = missing-set after (label_at whos e) b in_range
      fresh.out in let h = ap missing (same refl) in omega (arith, m, h)

-- ---- turns

-- a search after some turns
pub record IsSearching (whos slots : List ℕ) (y lacks rooms : List ℤ) (nodes : List (Option Node))
    (marks : List (Option ℕ)) (level : ℕ) (grew : Bool) : Type 0 where
  pub places : length nodes ≡ length lacks
  pub mark_places : length marks ≡ length rooms
  pub tree : AreNodes whos slots y nodes
  pub roots : AreRoots lacks nodes
  pub begins : HasRoots lacks nodes
  pub sound : AreMarks whos slots rooms nodes marks
  pub levels : (i : ℕ) (b : Node) → node_at nodes i ≡ Some b → b.level ≤ level
  pub counted : level + missing nodes ≤ length lacks + cond grew 0 1
  pub stuck : grew ≡ false → IsStuck whos slots y rooms nodes

-- the marks tell of nodes below the next level
pub marks_below : (whos slots : List ℕ) (rooms : List ℤ) (nodes : List (Option Node))
    (marks : List (Option ℕ)) (level : ℕ) → AreMarks whos slots rooms nodes marks
    → ((i : ℕ) (b : Node) → node_at nodes i ≡ Some b → b.level ≤ level) → (s e : ℕ)
    → mark_at marks s ≡ Some e → IsMarkOf whos slots nodes (level + 1) s e
marks_below whos slots rooms nodes marks level sound levels s e is =
    let m = sound s e is in
    let (b, at) = m.found in
    record {
      cell = m.cell;
      slot = m.slot;
      node = b;
      is_node = at;
      lower = (let h = levels (label_at whos e) b at in omega (arith, h));
    }

-- the marks stay when nodes are added
pub marks_kept : (whos slots : List ℕ) (before after : List (Option Node)) (marks : List (Option ℕ))
    (level : ℕ) → ((j : ℕ) (d : Node) → node_at before j ≡ Some d → node_at after j ≡ Some d)
    → ((s e : ℕ) → mark_at marks s ≡ Some e → IsMarkOf whos slots before level s e) → (s e : ℕ)
    → mark_at marks s ≡ Some e → IsMarkOf whos slots after level s e
marks_kept whos slots before after marks level kept marked s e is =
    let m = marked s e is in record {
      cell = m.cell;
      slot = m.slot;
      node = m.node;
      is_node = kept (label_at whos e) m.node m.is_node;
      lower = m.lower;
    }

pub search_begun : (whos slots : List ℕ) (y lacks rooms : List ℤ) (nodes : List (Option Node))
    (marks : List (Option ℕ)) → length marks ≡ length rooms → ((s : ℕ) → mark_at marks s ≡ None)
    → AreRootsOf lacks nodes
    → IsSearching whos slots y lacks rooms nodes marks 0 true
search_begun whos slots y lacks rooms nodes marks lm unmarked h = record {
  places = h.places;
  mark_places = lm;
  tree = λ i b is l k. absurd (linkless (sym ((root i b is).1) ∙ k));
  roots = λ i b is none. (root i b is).2;
  begins = λ i less. found (amount_at lacks i) (node_at nodes i) less (h.each i (in_range i less));
  sound = λ s e is. absurd (markless (sym (unmarked s) ∙ is));
  levels = λ i b is. let r = root i b is in let l = r.0 in omega (arith, l);
  counted = (let m = missing_few nodes in let p = h.places in omega (arith, m, p));
  stuck = λ t. absurd (false≢true (sym t));
} where
  linkless : {l : Link} → None ≡ Some l → ⊥
  linkless h = cc

  markless : {e : ℕ} → None ≡ Some e → ⊥
  markless h = cc

  at : (lack : ℤ) (o : Option Node) (b : Node) → o ≡ Some b → IsRoot lack o → (b.level ≡ 0)
      × (b.link ≡ None) × (pos 1 ≤ℤ lack)
  at lack None b is r = cc
  at lack (Some d) b is r = let q : d ≡ b = cc in rw (← q) r

  below : (nodes : List (Option Node)) (i : ℕ) (b : Node) → node_at nodes i ≡ Some b
      → i < length nodes
  below [] i b is = cc
  below (o ∷ nodes) zero b is = omega arith
  below (o ∷ nodes) (suc i) b is = let r = below nodes i b is in omega (arith, r)

  root : (i : ℕ) (b : Node) → node_at nodes i ≡ Some b → (b.level ≡ 0) × (b.link ≡ None)
      × (pos 1 ≤ℤ amount_at lacks i)
  root i b is = let l = below nodes i b is in let p = h.places in at (amount_at lacks i)
      (node_at nodes i) b is (h.each i (omega (arith, l, p)))

  in_range : (i : ℕ) → pos 0 <ℤ amount_at lacks i → i < length lacks
  in_range i less = go lacks i less where
    go : (x : List ℤ) (i : ℕ) → pos 0 <ℤ amount_at x i → i < length x
    go [] i less = absurd (omega (arith, ints, less))
    go (a ∷ x) zero less = omega arith
    go (a ∷ x) (suc i) less = let r = go x i less in omega (arith, r)

  found : (lack : ℤ) (o : Option Node) → pos 0 <ℤ lack → IsRoot lack o → (b : Node) × (o ≡ Some b)
  found lack None less r = absurd (omega (arith, ints, less, r))
  found lack (Some b) less r = (b, refl)

-- one turn without an end
pub search_turned : (whos slots : List ℕ) (y lacks rooms : List ℤ)
    (before after : List (Option Node)) (old marks : List (Option ℕ)) (level : ℕ) (was grew : Bool)
    → was ≡ true → IsSearching whos slots y lacks rooms before old level was
    → length marks ≡ length rooms → AreMarks whos slots rooms before marks
    → AllMarked whos slots before marks
    → IsGrown whos slots y (level + 1) before after → NoneHas whos slots y after marks
    → (grew ≡ true → missing after < missing before) → (grew ≡ false → after ≡ before)
    → IsSearching whos slots y lacks rooms after marks (level + 1) grew
search_turned whos slots y lacks rooms before after old marks level was grew turned inv lm sound all
    grown none more same = record {
      places = grown.places ∙ inv.places;
      mark_places = lm;
      tree = grown.tree;
      roots = λ i b is out. old_or_new i
          (λ (d : Node) (h : node_at before i ≡ Some d). let q : d ≡ b = some_same
          (sym is ∙ grown.kept i d h) in inv.roots i b (rw q at h) out)
          (λ h. absurd ((grown.new i b h is).1 out));
      begins = λ i less. let (b, is) = inv.begins i less in (b, grown.kept i b is);
      sound = λ s e is. let m = sound s e
          is in let (b, at) = m.found in record {
            cell = m.cell;
            slot = m.slot;
            found = (b, grown.kept (label_at whos e) b at);
            full = m.full;
          };
      levels = λ i b is. old_or_new i
          (λ (d : Node) (h : node_at before i ≡ Some d). let q : d ≡ b = some_same
          (sym is ∙ grown.kept i d h) in let l = inv.levels i b (rw q at h) in omega (arith, l))
          (λ h. let l = (grown.new i b h is).0 in omega (arith, l));
      counted = counts grew more same;
      stuck = λ t. rw (same t) (record {
        full = λ e lt has. let (f, is) = all e lt has in (sound (label_at slots e) f is).full;
        none = λ e f le lf has shared out. let (g, is) = all e le has in none f g lf
            (rw (same t) out)
            (ap (λ k. mark_at marks k) shared ∙ is);
      });
    } where
      some_same : {a b : Node} → Some a ≡ Some b → b ≡ a
      some_same h = cc

      split : {P : Type 0} (o : Option Node) → ((d : Node) → o ≡ Some d → P) → (o ≡ None → P) → P
      split None f g = g refl
      split (Some d) f g = f d refl

      old_or_new : {P : Type 0} (i : ℕ) → ((d : Node) → node_at before i ≡ Some d → P)
          → (node_at before i ≡ None → P) → P
      old_or_new i f g = split (node_at before i) f g

      counts : (grew : Bool) → (grew ≡ true → missing after < missing before)
          → (grew ≡ false → after ≡ before) → (level + 1) + missing after ≤ length lacks + cond grew
          0 1
      counts true more same = let h = more refl in let c = rw turned at
          inv.counted in omega (arith, h, c)
      counts false more same = let h = ap missing (same refl) in let c = rw turned at
          inv.counted in omega (arith, h, c)

-- ---- the found demands as a set

pub record IsFoundTo (nodes : List (Option Node)) (s : List Bool) (i : ℕ) : Type 0 where
  pub places : length s ≡ length nodes
  pub members : (j : ℕ) → Has s j → IsFound nodes j
  pub others : (j : ℕ) → j < i → get_or s j false ≡ false → node_at nodes j ≡ None

pub found_none : (nodes : List (Option Node)) → IsFoundTo nodes (empty_set (length nodes)) 0
found_none nodes = record {
  places = length-replicate (length nodes) false;
  members = λ j h. absurd (none_in (length nodes) j h);
  others = λ j lt. absurd (omega arith);
} where
  none_in : (k p : ℕ) → Has (empty_set k) p → ⊥
  none_in zero p h = false≢true h
  none_in (suc k) zero h = false≢true h
  none_in (suc k) (suc p) h = none_in k p h

pub found_put : (nodes : List (Option Node)) (s : List Bool) (i : ℕ) → i < length nodes
    → IsFound nodes i → IsFoundTo nodes s i → IsFoundTo nodes (set s i true) (i + 1)
found_put nodes s i lt found inv = record {
  places = length-set s i true ∙ inv.places;
  members = λ j h. ⊎_elim (λ (q : j ≡ i). rw q found)
      (λ ne. inv.members j (sym (get_or-set_other s i j true false ne) ∙ h)) (cases_eq j i);
  others = λ j less out. ⊎_elim
      (λ (q : j ≡ i). let p = inv.places in let t = get_or-set_same s i true false
      (omega (arith, p, lt)) in absurd (false≢true
      (sym out ∙ (ap (λ k. get_or (set s i true) k false) q ∙ t))))
      (λ ne. let l : j < i = omega (arith, less, ne) in inv.others j l
      (sym (get_or-set_other s i j true false ne) ∙ out))
      (cases_eq j i);
}

pub found_skip : (nodes : List (Option Node)) (s : List Bool) (i : ℕ) → node_at nodes i ≡ None
    → IsFoundTo nodes s i → IsFoundTo nodes s (i + 1)
found_skip nodes s i none inv = record {
  places = inv.places;
  members = inv.members;
  others = λ j less out. ⊎_elim (λ (l : j < i). inv.others j l out)
      (λ (ge : i ≤ j). let q : j ≡ i = omega (arith, ge, less) in rw q none) (cases_lt j i);
}

-- such a set, where it is not made
abbrev pub founds : List (Option Node) → List Bool
founds [] = []
founds (o ∷ nodes) = is_some o ∷ founds nodes

pub founds_are : (nodes : List (Option Node)) → IsFoundSet nodes (founds nodes)
founds_are nodes = record {
  places = places nodes;
  members = members nodes;
  others = others nodes;
} where
  places : (nodes : List (Option Node)) → length (founds nodes) ≡ length nodes
  places [] = refl
  places (o ∷ nodes) = let r = places nodes in omega (arith, r)

  members : (nodes : List (Option Node)) (i : ℕ) → Has (founds nodes) i → IsFound nodes i
  members [] i h = absurd (false≢true h)
  members (None ∷ nodes) zero h = absurd (false≢true h)
  members (Some b ∷ nodes) zero h = (b, refl)
  members (o ∷ nodes) (suc i) h = members nodes i h

  others : (nodes : List (Option Node)) (i : ℕ) → i < length nodes
      → get_or (founds nodes) i false ≡ false → node_at nodes i ≡ None
  others [] i lt out = absurd (omega (arith, lt))
  others (None ∷ nodes) zero lt out = refl
  others (Some b ∷ nodes) zero lt out = absurd (false≢true (sym out))
  others (o ∷ nodes) (suc i) lt out = others nodes i (omega (arith, lt)) out

-- ---- what the code tells

pub found_of : (o : Option Node) → MatchBool (is_some o) ((b : Node) × (o ≡ Some b)) (o ≡ None)
found_of None = refl
found_of (Some b) = (b, refl)

pub marked_of : (o : Option ℕ) → MatchBool (is_some o) ((f : ℕ) × (o ≡ Some f)) (o ≡ None)
marked_of None = refl
marked_of (Some f) = (f, refl)

pub some_apart : {A : Type 0} {a : A} (o : Option A) → o ≡ None → o ≡ Some a → ⊥
some_apart {a = a} o n s = apart (sym n ∙ s) where
  apart : None ≡ Some a → ⊥
  apart h = cc

pub none_marked : (m s : ℕ) → mark_at (replicate m None) s ≡ None
none_marked zero s = refl
none_marked (suc m) zero = refl
none_marked (suc m) (suc s) = none_marked m s
