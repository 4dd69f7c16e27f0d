-- Vertices numbered in the order in which they first stand among the ends: each number is below
-- that of the vertices, ends with one number are one, and so which sets are taken and how large
-- they are stays.
use Rattle.std.proofs.Common.{◌≡◌, ◌≢◌, ◌⊎◌, ℕ, zero, suc, ◌+◌, ◌*◌, ◌<◌, ◌≤◌, Bool, true, false, not, List, [], ◌∷◌, ◌++◌, length, get_or, nat_eq, if◌then◌else◌, refl, sym, ap, ◌∙◌, arith, inl, inr, ⊎_elim}
use Rattle.std.specs.List.{position_or_len}
use Rattle.std.proofs.lemmas.Bool.{cases_eq, cases_lt, eq-eqb, eqb-true}
use Rattle.std.proofs.lemmas.List.{length-append, length-map, get_or-map}
use Rattle.std.proofs.lemmas.List.Folds.{position_or_len_push}
use Rattle.std.proofs.lemmas.List.Sums.{passes_at_first, prefix_len-le-length}
use Rattle.sfm_spec.specs.Sets.{empty_set, size}
use Rattle.sfm_spec.specs.Kinds.{Edge, no_edge}
use Rattle.sfm_graphic.specs.Graphs.{EndsBelow, edge_at, graphic_rank, label, taken, takes}
use Rattle.sfm_graphic.specs.Numbered.{IsEnd, number, numbered, place_of, renumbered, vertex_count, vertices_after, vertices_of, with_vertex}
use Rattle.sfm_matroid.specs.Counting.{eqb_apart}

-- ---- lists in which vertices stand

abbrev pub Stands : List ℕ → ℕ → Type 0
Stands vertices v = place_of vertices v < length vertices

-- what stands in a place is in it
stands_at : (vertices : List ℕ) (v : ℕ) → Stands vertices v
    → get_or vertices (place_of vertices v) 0 ≡ v
stands_at vertices v lt = eqb-true (get_or vertices (place_of vertices v) 0) v
    (passes_at_first (λ u. nat_eq u v) vertices 0 lt)

-- what stands in a list stands there with another one behind
stands_on : (vertices : List ℕ) (v u : ℕ) → Stands vertices v → Stands (with_vertex vertices u) v
stands_on vertices v u lt = at (nat_eq (place_of vertices u) (length vertices)) where
  at : (b : Bool) → Stands (if b then vertices ++ u ∷ [] else vertices) v
  at true =
      let l = length-append vertices (u ∷ []) in
      let out : nat_eq (place_of vertices v) (length vertices) ≡ false = eqb_apart
      (place_of vertices v) (length vertices) (λ e. omega (arith, e, lt)) in
      let e : place_of (vertices ++ u ∷ []) v ≡ place_of vertices v = rw out at
      (position_or_len_push (λ x. nat_eq x v) vertices u) in
      omega (arith, l, e, lt)
  at false = lt

-- and so does the one behind
stands_behind : (vertices : List ℕ) (v : ℕ) → Stands (with_vertex vertices v) v
stands_behind vertices v = at (cases_eq (place_of vertices v) (length vertices)) where
  not_last : (n m : ℕ) → n ≤ m → n ≢ m → n < m
  not_last n m le ne = ⊎_elim (λ (lt : n < m). lt)
      (λ (ge : m ≤ n). absurd (ne (omega (arith, le, ge)))) (cases_lt n m)

  at : (place_of vertices v ≡ length vertices) ⊎ (place_of vertices v ≢ length vertices)
      → Stands (with_vertex vertices v) v
  at (inl same) =
      let l = length-append vertices (v ∷ []) in
      let e : place_of (vertices ++ v ∷ []) v ≡ length
      vertices + 0 = rw (eq-eqb (place_of vertices v) (length vertices) same, eq-eqb v v refl)
      at (position_or_len_push (λ x. nat_eq x v) vertices v) in
      rw (eq-eqb (place_of vertices v) (length vertices) same) (omega (arith, l, e))
  at (inr ne) =
      let most : position_or_len (λ u. nat_eq u v) vertices ≤ length vertices = prefix_len-le-length
      (λ x. not (nat_eq x v)) vertices in
      rw (eqb_apart (place_of vertices v) (length vertices) ne)
      (not_last (place_of vertices v) (length vertices) most ne)

-- one more at most
length-with : (vertices : List ℕ) (v : ℕ) → length (with_vertex vertices v) ≤ suc (length vertices)
length-with vertices v = at (nat_eq (place_of vertices v) (length vertices)) where
  at : (b : Bool) → length (if b then vertices ++ v ∷ [] else vertices) ≤ suc (length vertices)
  at true = let l = length-append vertices (v ∷ []) in omega (arith, l)
  at false = omega arith

-- ---- the vertices of edges

stands_after : (vertices : List ℕ) (edges : List Edge) (v : ℕ) → Stands vertices v
    → Stands (vertices_after vertices edges) v
stands_after vertices [] v lt = lt
stands_after vertices (edge ∷ edges) v lt =
    stands_after (with_vertex (with_vertex vertices edge.tail) edge.head) edges v
    (stands_on (with_vertex vertices edge.tail) v edge.head (stands_on vertices v edge.tail lt))

-- each end stands among them
ends_stand : (vertices : List ℕ) (edges : List Edge) (v : ℕ) → IsEnd edges v
    → Stands (vertices_after vertices edges) v
ends_stand vertices [] v (e, lt, is) = absurd (omega (arith, lt))
ends_stand vertices (edge ∷ edges) v (zero, lt, inl is) =
    let front = with_vertex vertices edge.tail in
    stands_after (with_vertex front edge.head) edges v
    (stands_on front v edge.head (rw is (stands_behind vertices edge.tail)))
ends_stand vertices (edge ∷ edges) v (zero, lt, inr is) =
    let front = with_vertex vertices edge.tail in
    stands_after (with_vertex front edge.head) edges v (rw is (stands_behind front edge.head))
ends_stand vertices (edge ∷ edges) v (suc e, lt, is) =
    ends_stand (with_vertex (with_vertex vertices edge.tail) edge.head) edges v (e, omega arith, is)

-- two for each edge at most
length-after : (vertices : List ℕ) (edges : List Edge)
    → length (vertices_after vertices edges) ≤ length vertices + 2 * length edges
length-after vertices [] = omega arith
length-after vertices (edge ∷ edges) =
    let front = with_vertex vertices edge.tail in
    let r : length (vertices_after (with_vertex front edge.head) edges) ≤ length
    (with_vertex front edge.head) + 2 * length edges =
    length-after (with_vertex front edge.head) edges in
    let a = length-with vertices edge.tail in
    let b = length-with front edge.head in
    omega (arith, r, a, b)

pub few_vertices : (edges : List Edge) → vertex_count edges ≤ 2 * length edges
few_vertices edges = let h = length-after [] edges in omega (arith, h)

-- ---- ends and their numbers

end_tail : (edges : List Edge) (e : ℕ) → e < length edges → IsEnd edges (edge_at edges e).tail
end_tail edges e lt = (e, lt, inl refl)

end_head : (edges : List Edge) (e : ℕ) → e < length edges → IsEnd edges (edge_at edges e).head
end_head edges e lt = (e, lt, inr refl)

-- each end has a number below that of the vertices, and stands in the place of it
number-end : (edges : List Edge) (v : ℕ) → IsEnd edges v → (number edges v < vertex_count edges)
    × (get_or (vertices_of edges) (number edges v) 0 ≡ v)
number-end edges v end = let stands = ends_stand [] edges v
    end in (stands, stands_at (vertices_of edges) v stands)

-- ends with one number are one
number-apart : (edges : List Edge) (v u : ℕ) → IsEnd edges v → IsEnd edges u
    → nat_eq (number edges v) (number edges u) ≡ nat_eq v u
number-apart edges v u hv hu = ⊎_elim
    (λ same. eq-eqb (number edges v) (number edges u) (ap (number edges) same)
    ∙ sym (eq-eqb v u same))
    (λ ne. eqb_apart (number edges v) (number edges u)
    (λ same. ne (sym (number-end edges v hv).1
    ∙ (ap (λ n. get_or (vertices_of edges) n 0) same ∙ (number-end edges u hu).1)))
    ∙ sym (eqb_apart v u ne))
    (cases_eq v u)

module _ (edges : List Edge) (s : List Bool) where
  numbered-at : (e : ℕ) → e < length edges → edge_at (numbered edges) e ≡ renumbered (number edges)
      (edge_at edges e)
  numbered-at e lt = get_or-map (renumbered (number edges)) edges e no_edge no_edge lt

  pub length-numbered : length (numbered edges) ≡ length edges
  length-numbered = length-map edges (renumbered (number edges))

  pub numbered_below : EndsBelow (numbered edges) (vertex_count edges)
  numbered_below e lt =
      let l = length-numbered in
      let le : e < length edges = omega (arith, lt, l) in
      rw (numbered-at e le) (
        (number-end edges (edge_at edges e).tail (end_tail edges e le)).0,
        (number-end edges (edge_at edges e).head (end_head edges e le)).0,
      )

  -- an end gets the label of an end
  label_end : (n x : ℕ) → n ≤ length edges → IsEnd edges x → IsEnd edges (label edges s n x)
  label_end zero x le end = end
  label_end (suc n) x le end = at (get_or s n false)
      (nat_eq (label edges s n x) (label edges s n (edge_at edges n).tail))
      (label_end n x (omega arith) end)
      (label_end n (edge_at edges n).head (omega arith) (end_head edges n (omega arith))) where
        at : (b c : Bool) → IsEnd edges (label edges s n x)
            → IsEnd edges (label edges s n (edge_at edges n).head)
            → IsEnd edges
            (if b then (if c then label edges s n (edge_at edges n).head else label edges s n x)
            else
            label edges s n x)
        at true true old new = new
        at true false old new = old
        at false c old new = old

  -- the labels of numbers are the numbers of labels
  label-number : (n x : ℕ) → n ≤ length edges → IsEnd edges x
      → label (numbered edges) s n (number edges x) ≡ number edges (label edges s n x)
  label-number zero x le end = refl
  label-number (suc n) x le end =
      let t = (edge_at edges n).tail in
      let h = (edge_at edges n).head in
      let et = end_tail edges n (omega arith) in
      let eh = end_head edges n (omega arith) in
      rw (
        numbered-at n (omega arith),
        label-number n x (omega arith) end,
        label-number n t (omega arith) et,
        label-number n h (omega arith) eh,
        number-apart edges (label edges s n x) (label edges s n t)
            (label_end n x (omega arith) end) (label_end n t (omega arith) et),
      )
      (at (get_or s n false) (nat_eq (label edges s n x) (label edges s n t))) where
        at : (b c : Bool)
            → (if b then (if c then number edges (label edges s n (edge_at edges n).head) else
            number edges (label edges s n x)) else number edges (label edges s n x))
            ≡ number edges
            (if b then (if c then label edges s n (edge_at edges n).head else label edges s n x)
            else label edges s n x)
        at true true = refl
        at true false = refl
        at false c = refl

  takes-number : (n : ℕ) → n < length edges → takes (numbered edges) s n ≡ takes edges s n
  takes-number n lt =
      let et = end_tail edges n lt in
      let eh = end_head edges n lt in
      rw (
        numbered-at n lt,
        label-number n (edge_at edges n).tail (omega arith) et,
        label-number n (edge_at edges n).head (omega arith) eh,
        number-apart edges (label edges s n (edge_at edges n).tail)
            (label edges s n (edge_at edges n).head)
            (label_end n (edge_at edges n).tail (omega arith) et)
            (label_end n (edge_at edges n).head (omega arith) eh),
      ) refl

  taken-number : (n : ℕ) → n ≤ length edges → taken (numbered edges) s n ≡ taken edges s n
  taken-number zero le = ap empty_set length-numbered
  taken-number (suc n) le = rw (takes-number n (omega arith), taken-number n (omega arith)) refl

  pub rank-number : graphic_rank (numbered edges) s ≡ graphic_rank edges s
  rank-number = ap (λ k. size (taken (numbered edges) s k)) length-numbered
      ∙ ap size (taken-number (length edges) (omega arith))
