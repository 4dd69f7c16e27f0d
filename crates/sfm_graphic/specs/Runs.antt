-- Edges taken one after another: the ends of a taken edge get one label, and all ends with equal
-- labels are joined. Textbook: Schrijver, Combinatorial Optimization, section 50 (Kruskal's
-- method).
use Rattle.std.proofs.Common.{◌≡◌, ◌≢◌, ◌⊎◌, ℕ, zero, suc, ◌+◌, ◌<◌, ◌≤◌, Bool, true, false, not, ◌&&◌, List, [], ◌∷◌, length, get_or, set, nat_eq, if◌then◌else◌, refl, sym, ap, ◌∙◌, arith, inl, inr, ⊎_elim, length-set}
use Rattle.std.proofs.lemmas.Bool.{false≢true, cases_eq, cases_Bool, cases_lt, eq-eqb, and_parts}
use Rattle.std.proofs.lemmas.List.{length-replicate}
use Rattle.sfm_spec.specs.Sets.{Has, IsWithin, size}
use Rattle.sfm_spec.specs.Kinds.{Edge}
use Rattle.sfm_spec.proofs.Sizes.{size-empty}
use Rattle.sfm_rank.proofs.Members.{has_or_out, has_set, nothing, set_within, size-in}
use Rattle.sfm_matroid.specs.Counts.{count_below, unit_of}
use Rattle.sfm_graphic.specs.Graphs.{EndsBelow, edge_at, label, renamed, taken, takes}
use Rattle.sfm_matroid.specs.Counting.{count-same, count-without, eqb_apart}

-- g does not tell the ends of the edges of s below n apart
abbrev pub Joins : List Edge → List Bool → ℕ → (ℕ → ℕ) → Type 0
Joins edges s n g = (e : ℕ) → e < n → Has s e → g (edge_at edges e).tail ≡ g (edge_at edges e).head

-- ---- labels

renamed-is : (a l : ℕ) → renamed l a l ≡ a
renamed-is a l = rw (eq-eqb l l refl) refl

renamed-other : (b a l : ℕ) → l ≢ b → renamed b a l ≡ l
renamed-other b a l ne = rw (eqb_apart l b ne) refl

renamed-new : (b a : ℕ) → renamed b a a ≡ a
renamed-new b a = at (nat_eq a b) where
  at : (t : Bool) → (if t then a else a) ≡ a
  at true = refl
  at false = refl

module _ (edges : List Edge) (s : List Bool) where
  -- an edge more
  label-in : (n x : ℕ) → Has s n
      → label edges s (suc n) x ≡ renamed (label edges s n (edge_at edges n).tail)
      (label edges s n (edge_at edges n).head) (label edges s n x)
  label-in n x h = rw h refl

  label-out : (n x : ℕ) → get_or s n false ≡ false → label edges s (suc n) x ≡ label edges s n x
  label-out n x h = rw h refl

  -- what had the label of the tail gets that of the head, and all else keeps its own
  pub label-moved : (n x : ℕ) → Has s n → label edges s n x ≡ label edges s n (edge_at edges n).tail
      → label edges s (suc n) x ≡ label edges s n (edge_at edges n).head
  label-moved n x h same = label-in n x h
      ∙ (ap (λ l. renamed (label edges s n (edge_at edges n).tail)
      (label edges s n (edge_at edges n).head) l) same
      ∙ renamed-is (label edges s n (edge_at edges n).head)
      (label edges s n (edge_at edges n).tail))

  pub label-kept : (n x : ℕ) → Has s n → label edges s n x ≢ label edges s n (edge_at edges n).tail
      → label edges s (suc n) x ≡ label edges s n x
  label-kept n x h ne = label-in n x h ∙ renamed-other (label edges s n (edge_at edges n).tail)
      (label edges s n (edge_at edges n).head) (label edges s n x) ne

  label-head : (n x : ℕ) → Has s n → label edges s n x ≡ label edges s n (edge_at edges n).head
      → label edges s (suc n) x ≡ label edges s n (edge_at edges n).head
  label-head n x h same = label-in n x h
      ∙ (ap (λ l. renamed (label edges s n (edge_at edges n).tail)
      (label edges s n (edge_at edges n).head) l) same
      ∙ renamed-new (label edges s n (edge_at edges n).tail)
      (label edges s n (edge_at edges n).head))

  -- an edge that is not taken changes no label
  pub label-idle : (n x : ℕ) → takes edges s n ≡ false → label edges s (suc n) x ≡ label edges s n x
  label-idle n x idle = ⊎_elim (λ h.
      inside h (cases_eq (label edges s n (edge_at edges n).tail)
      (label edges s n (edge_at edges n).head))
      (cases_eq (label edges s n x) (label edges s n (edge_at edges n).tail))) (label-out n x)
      (cases_Bool (get_or s n false)) where
        inside : Has s n → (label edges s n (edge_at edges n).tail ≡ label edges s n
            (edge_at edges n).head) ⊎ (label edges s n (edge_at edges n).tail ≢ label edges s n
            (edge_at edges n).head)
            → (label edges s n x ≡ label edges s n (edge_at edges n).tail)
            ⊎ (label edges s n x ≢ label edges s n (edge_at edges n).tail)
            → label edges s (suc n) x ≡ label edges s n x
        inside h (inr apart) c = absurd (false≢true (sym idle ∙ rw (h, eqb_apart _ _ apart) refl))
        inside h (inl same) (inl e) = label-moved n x h e ∙ (sym same ∙ sym e)
        inside h (inl same) (inr ne) = label-kept n x h ne

  -- a label is its own label
  pub label-twice : (n x : ℕ) → label edges s n (label edges s n x) ≡ label edges s n x
  label-twice zero x = refl
  label-twice (suc n) x = ⊎_elim
      (λ h. inside h (cases_eq (label edges s n x) (label edges s n (edge_at edges n).tail))
      (label-twice n x) (label-twice n (edge_at edges n).head))
      (λ h. rw (label-out n x h, label-out n (label edges s n x) h) (label-twice n x))
      (cases_Bool (get_or s n false)) where
        inside : Has s n → (label edges s n x ≡ label edges s n (edge_at edges n).tail)
            ⊎ (label edges s n x ≢ label edges s n (edge_at edges n).tail)
            → label edges s n (label edges s n x) ≡ label edges s n x
            → label edges s n (label edges s n (edge_at edges n).head) ≡ label edges s n
            (edge_at edges n).head → label edges s (suc n) (label edges s (suc n) x) ≡ label
            edges s (suc n) x
        inside h (inl same) rx ra =
            let u = label-moved n x h same in
            ap (label edges s (suc n)) u
            ∙ (label-head n (label edges s n (edge_at edges n).head) h ra ∙ sym u)
        inside h (inr ne) rx ra =
            let u = label-kept n x h ne in
            ap (label edges s (suc n)) u
            ∙ (label-kept n (label edges s n x) h (λ e. ne (sym rx ∙ e)) ∙ (rx ∙ sym u))

  -- the ends of each edge so far have one label
  pub label-joins : (n : ℕ) → Joins edges s n (label edges s n)
  label-joins zero e lt h = absurd (omega arith)
  label-joins (suc n) e lt h = ⊎_elim
      (λ (less : e < n). ap (λ l. if get_or s n false then renamed
      (label edges s n (edge_at edges n).tail) (label edges s n (edge_at edges n).head) l else
      l) (label-joins n e less h))
      (λ (ge : n ≤ e).
      let same : e ≡ n = omega arith in
      let h' : Has s n = rw same at h in
      rw same (label-moved n (edge_at edges n).tail h' refl
      ∙ sym (label-head n (edge_at edges n).head h' refl)))
      (cases_lt e n)

  -- what does not tell joined ends apart does not tell a vertex from its label
  pub label-blind : (n : ℕ) (g : ℕ → ℕ) → Joins edges s n g → (x : ℕ) → g (label edges s n x) ≡ g x
  label-blind zero g joins x = refl
  label-blind (suc n) g joins x = ⊎_elim
      (λ h. inside h (cases_eq (label edges s n x) (label edges s n (edge_at edges n).tail))
      (label-blind n g (λ e lt. joins e (omega arith))))
      (λ h. ap g (label-out n x h) ∙ label-blind n g (λ e lt. joins e (omega arith)) x)
      (cases_Bool (get_or s n false)) where
        inside : Has s n → (label edges s n x ≡ label edges s n (edge_at edges n).tail)
            ⊎ (label edges s n x ≢ label edges s n (edge_at edges n).tail)
            → ((y : ℕ) → g (label edges s n y) ≡ g y) → g (label edges s (suc n) x) ≡ g x
        inside h (inl same) r = ap g (label-moved n x h same)
            ∙ (r (edge_at edges n).head
            ∙ (sym (joins n (omega arith) h)
            ∙ (sym (r (edge_at edges n).tail) ∙ (ap g (sym same) ∙ r x))))
        inside h (inr ne) r = ap g (label-kept n x h ne) ∙ r x

-- ---- vertices

-- more than each end of each edge
abbrev pub above_ends : List Edge → ℕ
above_ends [] = 0
above_ends (edge ∷ edges) = suc (edge.tail + edge.head + above_ends edges)

pub ends_below : (edges : List Edge) → EndsBelow edges (above_ends edges)
ends_below [] e lt = absurd (omega arith)
ends_below (edge ∷ edges) zero lt = (omega arith, omega arith)
ends_below (edge ∷ edges) (suc e) lt =
    let r = ends_below edges e (omega arith) in (omega (arith, r.0), omega (arith, r.1))

module _ (edges : List Edge) (s : List Bool) (ks : length s ≡ length edges) where
  -- ---- what is taken

  pub taken-places : (n : ℕ) → length (taken edges s n) ≡ length edges
  taken-places zero = length-replicate (length edges) false
  taken-places (suc n) = at (takes edges s n) (taken-places n) where
    at : (b : Bool) → length (taken edges s n) ≡ length edges
        → length (if b then set (taken edges s n) n true else taken edges s n) ≡ length edges
    at true r = length-set (taken edges s n) n true ∙ r
    at false r = r

  pub taken_within : (n : ℕ) → IsWithin (taken edges s n) s
  taken_within zero e h = absurd (nothing (length edges) e h)
  taken_within (suc n) e h = at (takes edges s n) refl (taken_within n) e h where
    at : (b : Bool) → takes edges s n ≡ b → IsWithin (taken edges s n) s
        → IsWithin (if b then set (taken edges s n) n true else taken edges s n) s
    at true is r = set_within (taken edges s n) s n r
        (and_parts (get_or s n false)
        (not (nat_eq (label edges s n (edge_at edges n).tail)
        (label edges s n (edge_at edges n).head))) is).0
    at false is r = r

  pub taken_under : (n e : ℕ) → Has (taken edges s n) e → e < n
  taken_under zero e h = absurd (nothing (length edges) e h)
  taken_under (suc n) e h = at (takes edges s n) (taken_under n e) h where
    at : (b : Bool) → (Has (taken edges s n) e → e < n)
        → Has (if b then set (taken edges s n) n true else taken edges s n) e → e < suc n
    at true r h = ⊎_elim (λ (same : e ≡ n). omega (arith, same))
        (λ old. let u = r old in omega (arith, u)) (has_set (taken edges s n) n e h)
    at false r h = let u = r h in omega (arith, u)

  pub taken-new : (n : ℕ) → get_or (taken edges s n) n false ≡ false
  taken-new n = has_or_out (taken edges s n) n (λ h. let u = taken_under n n h in omega (arith, u))

module _ (edges : List Edge) (s : List Bool) (ks : length s ≡ length edges) (m : ℕ)
    (below : EndsBelow edges m) where
  pub label_below : (n x : ℕ) → n ≤ length edges → x < m → label edges s n x < m
  label_below zero x le lt = lt
  label_below (suc n) x le lt = at (get_or s n false)
      (nat_eq (label edges s n x) (label edges s n (edge_at edges n).tail))
      (label_below n x (omega arith) lt)
      (label_below n (edge_at edges n).head (omega arith) (below n (omega arith)).1) where
        at : (b c : Bool) → label edges s n x < m → label edges s n (edge_at edges n).head < m
            → (if b then (if c then label edges s n (edge_at edges n).head else label edges s n x)
            else
            label edges s n x) < m
        at true true old new = new
        at true false old new = old
        at false c old new = old

  -- vertices that are their own labels
  abbrev pub roots : ℕ → ℕ
  roots n = count_below m (λ x. nat_eq (label edges s n x) x)

  -- each edge taken makes one root fewer
  pub taken-roots : (n : ℕ) → n ≤ length edges → size (taken edges s n) + roots n ≡ m
  taken-roots zero le = let z = size-empty (length edges) in let a = count-all
      m in omega (arith, z, a) where
        count-all : (n : ℕ) → count_below n (λ x. nat_eq x x) ≡ n
        count-all zero = refl
        count-all (suc n) = let r = count-all n in let h : unit_of
            (nat_eq n n) ≡ 1 = rw (eq-eqb n n refl) refl in omega (arith, r, h)
  taken-roots (suc n) le = at (cases_Bool (get_or s n false))
      (cases_eq (label edges s n (edge_at edges n).tail) (label edges s n (edge_at edges n).head))
      (taken-roots n (omega arith)) where
        b : ℕ
        b = label edges s n (edge_at edges n).tail

        a : ℕ
        a = label edges s n (edge_at edges n).head

        unchanged : takes edges s n ≡ false → size (taken edges s n) + roots n ≡ m
            → size (taken edges s (suc n)) + roots (suc n) ≡ m
        unchanged t r =
            let c = count-same m (λ x. nat_eq (label edges s (suc n) x) x)
            (λ x. nat_eq (label edges s n x) x)
            (λ x lt. ap (λ l. nat_eq l x) (label-idle edges s n x t)) in
            let z : size (taken edges s (suc n)) ≡ size (taken edges s n) = rw t refl in
            omega (arith, c, z, r)

        at : Has s n ⊎ (get_or s n false ≡ false)
            → (label edges s n (edge_at edges n).tail ≡ label edges s n (edge_at edges n).head)
            ⊎ (label edges s n (edge_at edges n).tail ≢ label edges s n (edge_at edges n).head)
            → size (taken edges s n) + roots n ≡ m
            → size (taken edges s (suc n)) + roots (suc n) ≡ m
        at (inr out) same r = unchanged (rw out refl) r
        at (inl has) (inl same) r = unchanged (rw (has, eq-eqb _ _ same) refl) r
        at (inl has) (inr apart) r =
            let t : takes edges s n ≡ true = rw (has, eqb_apart _ _ apart) refl in
            let z : size (taken edges s (suc n)) ≡ size (set (taken edges s n) n true) = rw t
            refl in
            let one = size-in (taken edges s n) n
            (let p = taken-places edges s ks n in omega (arith, p, le)) (taken-new edges s ks n) in
            let c = count-same m (λ x. nat_eq (label edges s (suc n) x) x)
            (λ x. not (nat_eq x (label edges s n (edge_at edges n).tail)) && nat_eq
            (label edges s n x) x) (λ x lt.
            root x (cases_eq x (label edges s n (edge_at edges n).tail))
            (cases_eq (label edges s n x) (label edges s n (edge_at edges n).tail))) in
            let w = count-without m (λ x. nat_eq (label edges s n x) x)
            (label edges s n (edge_at edges n).tail)
            (label_below n (edge_at edges n).tail (omega arith) (below n (omega arith)).0)
            (eq-eqb _ _ (label-twice edges s n (edge_at edges n).tail)) in
            omega (arith, z, one, c, w, r) where
              root : (x : ℕ) → (x ≡ label edges s n (edge_at edges n).tail)
                  ⊎ (x ≢ label edges s n (edge_at edges n).tail)
                  → (label edges s n x ≡ label edges s n (edge_at edges n).tail)
                  ⊎ (label edges s n x ≢ label edges s n (edge_at edges n).tail)
                  → nat_eq (label edges s (suc n) x)
                  x ≡ (not (nat_eq x (label edges s n (edge_at edges n).tail)) && nat_eq
                  (label edges s n x) x)
              root x (inl is) (inl same) =
                  let l = label-moved edges s n x has same in
                  eqb_apart _ _ (λ e. apart (sym is ∙ (sym e ∙ l)))
                  ∙ ap (λ t. not t && nat_eq (label edges s n x) x) (sym (eq-eqb _ _ is))
              root x (inl is) (inr ne) =
                  absurd (ne (ap (label edges s n) is
                  ∙ label-twice edges s n (edge_at edges n).tail))
              root x (inr isnt) (inl same) =
                  let l = label-moved edges s n x has same in
                  let left = eqb_apart (label edges s (suc n) x) x
                  (λ e. let ax = sym l ∙ e in apart
                  (sym same ∙ (ap (label edges s n) (sym ax)
                  ∙ label-twice edges s n (edge_at edges n).head))) in
                  let right = eqb_apart (label edges s n x) x (λ e. isnt (sym e ∙ same)) in
                  left ∙ sym (ap (λ t. not t && nat_eq (label edges s n x) x) (eqb_apart _ _ isnt)
                  ∙ right)
              root x (inr isnt) (inr ne) =
                  let l = label-kept edges s n x has ne in
                  ap (λ l. nat_eq l x) l ∙ ap (λ t. not t && nat_eq (label edges s n x) x)
                  (sym (eqb_apart _ _ isnt))
