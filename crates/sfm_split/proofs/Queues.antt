-- A search by a queue: what stays true when one more demand is found, when a slot is marked, and
-- when a demand is handled.
use Rattle.std.proofs.Common.{◌≡◌, ℕ, zero, suc, ◌+◌, ◌<◌, ◌≤◌, Bool, true, false, List, [], ◌∷◌, ◌++◌, length, set, replicate, ℤ, pos, ◌≤ℤ◌, Option, Some, None, refl, sym, ap, ◌∙◌, arith, ⊎_elim, length-set, get_or-set_other, get_or-set_same}
use Rattle.std.proofs.lemmas.Int.{by_lt_z}
use Rattle.std.proofs.lemmas.Bool.{cases_eq, cases_lt}
use Rattle.std.proofs.lemmas.List.{length_push, get_or_push, get_or_append_left, length-replicate}
use Rattle.sfm_spec.specs.Sets.{Has}
use Rattle.sfm_spec.proofs.Lattice.{none_in_empty}
use Rattle.sfm_cells.specs.Splits.{amount_at}
use Rattle.sfm_cells.specs.Cells.{label_at}
use Rattle.sfm_cells.specs.Left.{ListsLacking}
use Rattle.sfm_split.specs.Search.{node_at, missing, IsFound, IsNode, AreRoots, HasRoots, IsRoot, AreRootsOf, AreQueued, IsProgress, IsFurther, IsHandled, IsEnd, IsSearch}
use Rattle.sfm_split.specs.declared.nodes.Link.{Link}
use Rattle.sfm_split.specs.declared.nodes.Node.{Node}
use Rattle.sfm_split.proofs.Searches.{node_kept, missing-set, missing_few, search_begun, none_marked, some_apart}

same_some : {a b : Node} → Some a ≡ Some b → b ≡ a
same_some h = cc

split : {P : Type 0} (o : Option Node) → ((d : Node) → o ≡ Some d → P) → (o ≡ None → P) → P
split None f g = g refl
split (Some d) f g = f d refl

pub no_link : (b : Node) (l : Link) → b.link ≡ Some l → (b.link ≡ None) → ⊥
no_link b l is none = apart (sym none ∙ is) where
  apart : None ≡ Some l → ⊥
  apart h = cc

-- ---- what a queue tells

in_nodes : (nodes : List (Option Node)) (i : ℕ) (b : Node) → node_at nodes i ≡ Some b
    → i < length nodes
in_nodes [] i b is = cc
in_nodes (o ∷ nodes) zero b is = omega arith
in_nodes (o ∷ nodes) (suc i) b is = let r = in_nodes nodes i b is in omega (arith, r)

pub member_in : (nodes : List (Option Node)) (queue : List ℕ) (k : ℕ) → AreQueued nodes queue
    → k < length queue → label_at queue k < length nodes
member_in nodes queue k q lt = let (b, is) = q.members k lt in in_nodes nodes (label_at queue k) b
    is

pub missing_all : (nodes : List (Option Node)) → ((i : ℕ) → node_at nodes i ≡ None)
    → missing nodes ≡ length nodes
missing_all [] none = refl
missing_all (None ∷ nodes) none = let r = missing_all nodes (λ i. none (suc i)) in omega (arith, r)
missing_all (Some b ∷ nodes) none = absurd (some_apart (Some b) (none 0) refl)

pub none_missing : (nodes : List (Option Node)) → missing nodes ≡ length nodes → (i : ℕ)
    → node_at nodes i ≡ None
none_missing [] all zero = refl
none_missing [] all (suc i) = refl
none_missing (None ∷ nodes) all zero = refl
none_missing (None ∷ nodes) all (suc i) = none_missing nodes (omega (arith, all)) i
none_missing (Some b ∷ nodes) all i =
    let few = missing_few nodes in absurd (omega (arith, all, few))

-- where no demand was found, the queue is empty
pub queued_empty : (nodes : List (Option Node)) → ((i : ℕ) → node_at nodes i ≡ None)
    → AreQueued nodes []
queued_empty nodes none = record {
  queued = λ i found. let (b, is) = found in absurd (some_apart (node_at nodes i) (none i) is);
  members = λ k lt. absurd (omega (arith, lt));
  counted = (let m = missing_all nodes none in omega (arith, m));
}

pub none_found : (n i : ℕ) → node_at (replicate n None) i ≡ None
none_found zero i = refl
none_found (suc n) zero = refl
none_found (suc n) (suc i) = none_found n i

-- one more demand was found, and stands at the end
pub queued_more : (nodes : List (Option Node)) (queue : List ℕ) (i : ℕ) (b : Node)
    → i < length nodes → node_at nodes i ≡ None → AreQueued nodes queue
    → AreQueued (set nodes i (Some b)) (queue ++ i ∷ [])
queued_more nodes queue i b lt out q = record {
  queued = λ j found.
      let (d, is) = found in
      let p = length_push queue i in
      ⊎_elim
      (λ (e : j ≡ i). (
        length queue,
        omega (arith, p),
        get_or_push queue i 0 (length queue) refl
            ∙ sym e,
      ))
      (λ ne. let (k, lk, e) = q.queued j
      (d, sym (get_or-set_other nodes i j (Some b) None ne) ∙ is) in (
        k,
        omega (arith, p, lk),
        get_or_append_left queue (i ∷ []) 0 k lk ∙ e,
      ))
      (cases_eq j i);
  members = λ k lk. ⊎_elim
      (λ (l : k < length queue). rw (get_or_append_left queue (i ∷ []) 0 k l)
      (let (d, is) = q.members k l in (d, kept (label_at queue k) d is)))
      (λ ge. let p = length_push queue i in let e : k ≡ length
      queue = omega (arith, ge, lk, p) in rw (e, get_or_push queue i 0 (length queue) refl)
      (b, get_or-set_same nodes i (Some b) None lt))
      (cases_lt k (length queue));
  counted = (let p = length_push queue i in let m = missing-set nodes i b lt
      out in let c = q.counted in let l = length-set nodes i (Some b) in omega (arith, p, m, c, l));
} where
  kept : (j : ℕ) (d : Node) → node_at nodes j ≡ Some d → node_at (set nodes i (Some b)) j ≡ Some d
  kept j d is = ⊎_elim
      (λ (e : j ≡ i). absurd (some_apart (node_at nodes i) out
      (ap (λ k. node_at nodes k) (sym e) ∙ is)))
      (λ ne. get_or-set_other nodes i j (Some b) None ne ∙ is)
      (cases_eq j i)

-- ---- the first demands

-- of the first k demands of a list, those that lack something were found, and no others
pub record AreRootsTo (lacks : List ℤ) (list : List ℕ) (nodes : List (Option Node)) (queue : List ℕ)
    (k : ℕ) : Type 0 where
  pub places : length nodes ≡ length lacks
  pub found : (i : ℕ) (b : Node) → node_at nodes i ≡ Some b → IsRoot (amount_at lacks i) (Some b)
  pub done : (j : ℕ) → j < k → node_at nodes (label_at list j) ≡ None
      → amount_at lacks (label_at list j) ≤ℤ pos 0
  pub in_queue : AreQueued nodes queue

pub roots_none : (lacks : List ℤ) (list : List ℕ) (nodes : List (Option Node))
    → length nodes ≡ length lacks → ((i : ℕ) → node_at nodes i ≡ None)
    → AreRootsTo lacks list nodes [] 0
roots_none lacks list nodes places none = record {
  places = places;
  found = λ i b is. absurd (some_apart (node_at nodes i) (none i) is);
  done = λ j lt. absurd (omega (arith, lt));
  in_queue = queued_empty nodes none;
}

module _ (lacks : List ℤ) (list : List ℕ) (nodes : List (Option Node)) (queue : List ℕ) (k : ℕ)
    (inv : AreRootsTo lacks list nodes queue k) where
  roots_on : (node_at nodes (label_at list k) ≡ None → amount_at lacks (label_at list k) ≤ℤ pos 0)
      → AreRootsTo lacks list nodes queue (k + 1)
  roots_on here = record {
    places = inv.places;
    found = inv.found;
    done = λ j lt none. ⊎_elim
        (λ (l : j < k). inv.done j l none)
        (λ ge. let q : j ≡ k = omega (arith, ge, lt) in rw q
        (here (ap (λ m. node_at nodes (label_at list m)) (sym q) ∙ none)))
        (cases_lt j k);
    in_queue = inv.in_queue;
  }

  pub roots_skip : amount_at lacks (label_at list k) ≤ℤ pos 0
      → AreRootsTo lacks list nodes queue (k + 1)
  roots_skip full = roots_on (λ none. full)

  -- the next demand was found before
  pub roots_again : IsFound nodes (label_at list k) → AreRootsTo lacks list nodes queue (k + 1)
  roots_again found = let (b, is) = found in roots_on
      (λ none. absurd (some_apart (node_at nodes (label_at list k)) none is))

  module _ (h : ListsLacking lacks list) (lk : k < length list)
      (fresh : node_at nodes (label_at list k) ≡ None) where
    in_range : label_at list k < length nodes
    in_range = let b = h.below k lk in let p = inv.places in omega (arith, b, p)

    pub roots_put : (b : Node) → IsRoot (amount_at lacks (label_at list k)) (Some b)
        → AreRootsTo lacks list (set nodes (label_at list k) (Some b))
        (queue ++ label_at list k ∷ []) (k + 1)
    roots_put b root = record {
      places = length-set nodes i (Some b) ∙ inv.places;
      found = λ m d is. ⊎_elim
          (λ (q : m ≡ i). rw (
            q,
            same_some
                (sym (ap (λ e. node_at (set nodes i (Some b)) e) q ∙ here) ∙ is),
          ) root)
          (λ ne. inv.found m d (sym (get_or-set_other nodes i m (Some b) None ne) ∙ is))
          (cases_eq m i);
      done = λ j lt none. ⊎_elim
          (λ (q : label_at list j ≡ i).
          absurd (some_apart (node_at (set nodes i (Some b)) i)
          (ap (λ m. node_at (set nodes i (Some b)) m) (sym q) ∙ none) here))
          (λ ne. inv.done j (earlier j lt ne)
          (sym (get_or-set_other nodes i (label_at list j) (Some b) None ne) ∙ none))
          (cases_eq (label_at list j) i);
      in_queue = queued_more nodes queue i b in_range fresh inv.in_queue;
    } where
      i : ℕ
      i = label_at list k

      here : node_at (set nodes (label_at list k) (Some b)) (label_at list k) ≡ Some b
      here = get_or-set_same nodes (label_at list k) (Some b) None in_range

      earlier : (j : ℕ) → j < k + 1 → (label_at list j ≡ label_at list k → ⊥) → j < k
      earlier j lt ne = ⊎_elim
          (λ (l : j < k). l)
          (λ ge. let q : j ≡ k = omega (arith, ge, lt) in absurd (ne (ap (λ m. label_at list m) q)))
          (cases_lt j k)

  pub roots_all : ListsLacking lacks list → length list ≤ k → AreRootsOf lacks nodes
  roots_all h past = record {
    places = inv.places;
    each = λ i lt. root i lt (node_at nodes i) refl;
  } where
    root : (i : ℕ) → i < length lacks → (o : Option Node) → node_at nodes i ≡ o
        → IsRoot (amount_at lacks i) o
    root i lt (Some b) is = inv.found i b is
    root i lt None is = by_lt_z (pos 0) (amount_at lacks i)
        (λ some. let (j, lj, q) = h.all i lt some in let d = inv.done j (omega (arith, lj, past))
        (ap (λ m. node_at nodes m) q ∙ is) in rw (← q) d)
        (λ none. none)

-- ---- one more demand

pub further_none : (nodes : List (Option Node)) (queue : List ℕ) → IsFurther nodes queue nodes queue
further_none nodes queue = record {
  places = refl;
  kept = λ i b is. is;
  new = λ i b none is. absurd (some_apart (node_at nodes i) none is);
  first = λ k lt. (lt, refl);
}

pub further_more : (before middle after : List (Option Node)) (queue longer longest : List ℕ)
    → IsFurther before queue middle longer → IsFurther middle longer after longest
    → IsFurther before queue after longest
further_more before middle after queue longer longest f g = record {
  places = g.places ∙ f.places;
  kept = λ i b is. g.kept i b (f.kept i b is);
  new = λ i b none is. split (node_at middle i)
      (λ d (at : node_at middle i ≡ Some d). let q : d ≡ b = same_some
      (sym is ∙ g.kept i d at) in rw (← q) (f.new i d none at))
      (λ out. g.new i b out is);
  first = λ k lt. let (l, q) = f.first k lt in let (m, r) = g.first k l in (m, r ∙ q);
}

module _ (whos slots : List ℕ) (y : List ℤ) (nodes : List (Option Node)) (marks : List Bool)
    (queue : List ℕ) (inv : IsProgress whos slots y nodes marks queue) where
  module _ (i : ℕ) (b : Node) (lt : i < length nodes) (out : node_at nodes i ≡ None)
      (node : IsNode whos slots y nodes i b) (level : b.level ≡ length queue)
      (linked : (b.link ≡ None) → ⊥) where
    abbrev after : List (Option Node)
    after = set nodes i (Some b)

    here : node_at (set nodes i (Some b)) i ≡ Some b
    here = get_or-set_same nodes i (Some b) None lt

    kept : (j : ℕ) (d : Node) → node_at nodes j ≡ Some d → node_at (set nodes i (Some b)) j ≡ Some d
    kept j d is = ⊎_elim
        (λ (q : j ≡ i). absurd (some_apart (node_at nodes i) out
        (ap (λ k. node_at nodes k) (sym q) ∙ is)))
        (λ ne. get_or-set_other nodes i j (Some b) None ne ∙ is)
        (cases_eq j i)

    at_here : (j : ℕ) (d : Node) → j ≡ i → node_at (set nodes i (Some b)) j ≡ Some d → d ≡ b
    at_here j d q is = same_some (sym (ap (λ k. node_at (set nodes i (Some b)) k) q ∙ here) ∙ is)

    before : (j : ℕ) (d : Node) → (j ≡ i → ⊥) → node_at (set nodes i (Some b)) j ≡ Some d
        → node_at nodes j ≡ Some d
    before j d ne is = sym (get_or-set_other nodes i j (Some b) None ne) ∙ is

    pub found_further : IsFurther nodes queue (set nodes i (Some b)) (queue ++ i ∷ [])
    found_further = record {
      places = length-set nodes i (Some b);
      kept = kept;
      new = λ j d none is. ⊎_elim
          (λ (q : j ≡ i). rw (at_here j d q is) linked)
          (λ ne. absurd (some_apart (node_at nodes j) none (before j d ne is)))
          (cases_eq j i);
      first = λ k lk. (
        (let p = length_push queue i in omega (arith, p, lk)),
        get_or_append_left queue (i ∷ []) 0 k lk,
      );
    }

    pub found_progress : IsProgress whos slots y (set nodes i (Some b)) marks (queue ++ i ∷ [])
    found_progress = record {
      tree = λ j d is. ⊎_elim
          (λ (q : j ≡ i). rw (q, at_here j d q is)
          (node_kept whos slots y nodes (set nodes i (Some b)) i b kept node))
          (λ ne. node_kept whos slots y nodes (set nodes i (Some b)) j d kept
          (inv.tree j d (before j d ne is)))
          (cases_eq j i);
      levels = λ j d is.
          let p = length_push queue i in
          ⊎_elim
          (λ (q : j ≡ i). let h = ap (λ (n : Node). n.level)
          (at_here j d q is) in omega (arith, p, h, level))
          (λ ne. let l = inv.levels j d (before j d ne is) in omega (arith, p, l))
          (cases_eq j i);
      in_queue = queued_more nodes queue i b lt out inv.in_queue;
      swept = λ s f has lf is none. inv.swept s f has lf is (⊎_elim
          (λ (q : label_at whos f ≡ i).
          absurd (some_apart (node_at (set nodes i (Some b)) (label_at whos f)) none
          (ap (λ k. node_at (set nodes i (Some b)) k) q ∙ here)))
          (λ ne. sym (get_or-set_other nodes i (label_at whos f) (Some b) None ne) ∙ none)
          (cases_eq (label_at whos f) i));
    }

  -- a slot is marked once all demands that have something there were found
  pub marked_progress : (s : ℕ) → ((f : ℕ) → f < length whos → label_at slots f ≡ s
      → node_at nodes (label_at whos f) ≡ None → amount_at y f ≤ℤ pos 0)
      → IsProgress whos slots y nodes (set marks s true) queue
  marked_progress s all = record {
    tree = inv.tree;
    levels = inv.levels;
    in_queue = inv.in_queue;
    swept = λ t f has lf is none. ⊎_elim
        (λ (q : t ≡ s). all f lf (is ∙ q) none)
        (λ ne. inv.swept t f (sym (get_or-set_other marks s t true false ne) ∙ has) lf is none)
        (cases_eq t s);
  }

-- ---- marks

pub marked_here : (marks : List Bool) (s : ℕ) → s < length marks → Has (set marks s true) s
marked_here marks s lt = get_or-set_same marks s true false lt

pub marked_kept : (marks : List Bool) (s t : ℕ) → s < length marks → Has marks t
    → Has (set marks s true) t
marked_kept marks s t lt has = ⊎_elim
    (λ (q : t ≡ s). rw q (marked_here marks s lt))
    (λ ne. get_or-set_other marks s t true false ne ∙ has)
    (cases_eq t s)

pub marked_full : (marks : List Bool) (rooms : List ℤ) (s : ℕ) → amount_at rooms s ≤ℤ pos 0
    → ((t : ℕ) → Has marks t → amount_at rooms t ≤ℤ pos 0) → (t : ℕ) → Has (set marks s true) t
    → amount_at rooms t ≤ℤ pos 0
marked_full marks rooms s full all t has = ⊎_elim
    (λ (q : t ≡ s). rw q full)
    (λ ne. all t (sym (get_or-set_other marks s t true false ne) ∙ has))
    (cases_eq t s)

-- a demand that was not found before was not before that
pub out_before : (before : List (Option Node)) (queue : List ℕ) (after : List (Option Node))
    (longer : List ℕ) → IsFurther before queue after longer → (i : ℕ) → node_at after i ≡ None
    → node_at before i ≡ None
out_before before queue after longer f i none =
    split (node_at before i) (λ d is. absurd (some_apart (node_at after i) none (f.kept i d is)))
    (λ out. out)

-- ---- the search

pub record IsSearchedTo (whos slots : List ℕ) (y lacks rooms : List ℤ) (nodes : List (Option Node))
    (marks : List Bool) (queue : List ℕ) (next : ℕ) : Type 0 where
  pub places : length nodes ≡ length lacks
  pub mark_places : length marks ≡ length rooms
  pub roots : AreRoots lacks nodes
  pub begins : HasRoots lacks nodes
  pub progress : IsProgress whos slots y nodes marks queue
  pub full : (s : ℕ) → Has marks s → amount_at rooms s ≤ℤ pos 0
  pub handled : (k e : ℕ) → k < next → e < length whos → label_at whos e ≡ label_at queue k
      → Has marks (label_at slots e)

pub searched_begun : (whos slots : List ℕ) (y lacks rooms : List ℤ) (nodes : List (Option Node))
    (queue : List ℕ) → AreRootsOf lacks nodes → AreQueued nodes queue
    → IsSearchedTo whos slots y lacks rooms nodes (replicate (length rooms) false) queue 0
searched_begun whos slots y lacks rooms nodes queue roots in_queue =
    let h = search_begun whos slots y lacks rooms nodes (replicate (length rooms) None)
    (length-replicate (length rooms) None) (none_marked (length rooms)) roots in
    record {
      places = h.places;
      mark_places = length-replicate (length rooms) false;
      roots = h.roots;
      begins = h.begins;
      progress = record {
        tree = h.tree;
        levels = λ i b is. let l = h.levels i b is in let (k, lk, q) = in_queue.queued i
            (b, is) in omega (arith, l, lk);
        in_queue = in_queue;
        swept = λ s f has. absurd (none_in_empty (length rooms) s has);
      };
      full = λ s has. absurd (none_in_empty (length rooms) s has);
      handled = λ k e lt. absurd (omega (arith, lt));
    }

module _ (whos slots : List ℕ) (y lacks rooms : List ℤ) (nodes : List (Option Node))
    (marks : List Bool) (queue : List ℕ) (next i : ℕ) (nodes' : List (Option Node))
    (marks' : List Bool) (queue' : List ℕ)
    (inv : IsSearchedTo whos slots y lacks rooms nodes marks queue next) (lt : next < length queue)
    (is : i ≡ label_at queue next)
    (h : IsHandled whos slots y rooms nodes marks queue nodes' marks' queue') where
  roots_after : AreRoots lacks nodes'
  roots_after j b at none = split (node_at nodes j)
      (λ d (old : node_at nodes j ≡ Some d). let q : d ≡ b = same_some
      (sym at ∙ h.further.kept j d old) in inv.roots j b (rw q at old) none)
      (λ out. absurd (h.further.new j b out at none))

  begins_after : HasRoots lacks nodes'
  begins_after j less = let (b, at) = inv.begins j less in (b, h.further.kept j b at)

  pub searched_more : ((e : ℕ) → e < length whos → label_at whos e ≡ i
      → Has marks' (label_at slots e)) → IsSearchedTo whos slots y lacks rooms nodes' marks' queue'
      (next + 1)
  searched_more told = record {
    places = h.further.places ∙ inv.places;
    mark_places = h.places;
    roots = roots_after;
    begins = begins_after;
    progress = h.progress;
    full = h.full;
    handled = λ k e lk le own. ⊎_elim
        (λ (l : k < next). let (m, q) = h.further.first k (omega (arith, l, lt)) in h.kept
        (label_at slots e) (inv.handled k e l le (own ∙ q)))
        (λ ge. let n : k ≡ next = omega (arith, ge, lk) in let (m, q) = h.further.first next
        lt in told e le (own ∙ (ap (λ j. label_at queue' j) n ∙ (q ∙ sym is))))
        (cases_lt k next);
  }

  pub searched_end : (last : ℕ) → IsEnd whos slots rooms nodes' last
      → IsSearch whos slots y lacks rooms nodes' (Some last)
  searched_end last end = record {
    places = h.further.places ∙ inv.places;
    tree = h.progress.tree;
    roots = roots_after;
    begins = begins_after;
    ended = end;
  }

-- the queue has run out
pub searched_stuck : (whos slots : List ℕ) (y lacks rooms : List ℤ) (nodes : List (Option Node))
    (marks : List Bool) (queue : List ℕ) (next : ℕ) → length queue ≤ next
    → IsSearchedTo whos slots y lacks rooms nodes marks queue next
    → IsSearch whos slots y lacks rooms nodes None
searched_stuck whos slots y lacks rooms nodes marks queue next past inv = record {
  places = inv.places;
  tree = inv.progress.tree;
  roots = inv.roots;
  begins = inv.begins;
  ended = record {
    full = λ e lt found. inv.full (label_at slots e) (marked e lt found);
    none = λ e f le lf found shared out. inv.progress.swept (label_at slots e) f (marked e le found)
        lf shared out;
  };
} where
  marked : (e : ℕ) → e < length whos → IsFound nodes (label_at whos e)
      → Has marks (label_at slots e)
  marked e lt found = let (k, lk, q) = inv.progress.in_queue.queued (label_at whos e)
      found in inv.handled k e (omega (arith, lk, past)) lt (sym q)

-- each turn handles one more of the demands
pub queue_few : (whos slots : List ℕ) (y lacks rooms : List ℤ) (nodes : List (Option Node))
    (marks : List Bool) (queue : List ℕ) (next : ℕ)
    → IsSearchedTo whos slots y lacks rooms nodes marks queue next → length queue ≤ length lacks
queue_few whos slots y lacks rooms nodes marks queue next inv =
    let c = inv.progress.in_queue.counted in let p = inv.places in omega (arith, c, p)
