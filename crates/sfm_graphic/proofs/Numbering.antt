-- Numbers of ends and demands of edges, place by place.
use Rattle.std.proofs.Common.{◌≡◌, ℕ, zero, suc, ◌+◌, ◌<◌, ◌≤◌, ◌^◌, List, [], ◌∷◌, ◌++◌, length, take, drop, get_or, replicate, ℤ, pos, ◌≤ℤ◌, refl, sym, ap, ◌∙◌, arith, length-set}
use Rattle.std.specs.List.{All}
use Rattle.std.proofs.lemmas.Int.{ints}
use Rattle.std.proofs.lemmas.List.{drop_more, get_or-map, get_or-replicate, length-map, length-replicate, set_past}
use Rattle.std.proofs.lemmas.List.Elements.{All-set}
use Rattle.std.proofs.lemmas.Grind.{take_at_read}
use Rattle.sfm_spec.specs.Kinds.{no_edge}
use Rattle.sfm_assign.specs.Splits.{IsCapacity}
use Rattle.sfm_graphic.specs.Ends.{edges_of, edge_of}
use Rattle.sfm_graphic.specs.Graphs.{edge_at, EndsBelow}
use Rattle.sfm_graphic.specs.Numbered.{number, numbered, renumbered, ends_of, end_lists, vertices_after, vertex_capacities, with_vertex}
use Rattle.sfm_graphic.proofs.Labels.{length-edges}

-- the vertices, with those of an edge more
pub vertices-step : (vertices : List ℕ) (pairs : List (ℕ × ℕ)) (e : ℕ) → e < length pairs
    → vertices_after vertices (edges_of (drop e pairs)) ≡ vertices_after
    (with_vertex (with_vertex vertices (get_or pairs e (0, 0)).0) (get_or pairs e (0, 0)).1)
    (edges_of (drop (e + 1) pairs))
vertices-step vertices pairs e lt =
    ap (λ ps. vertices_after vertices (edges_of ps)) (drop_more pairs e (0, 0) lt)

pub pair-edge : (pairs : List (ℕ × ℕ)) (e : ℕ) → e < length pairs
    → edge_at (edges_of pairs) e ≡ edge_of (get_or pairs e (0, 0))
pair-edge pairs e lt = get_or-map edge_of pairs e (0, 0) no_edge lt

pub pair-below : (pairs : List (ℕ × ℕ)) (m e : ℕ) → EndsBelow (edges_of pairs) m → e < length pairs
    → ((get_or pairs e (0, 0)).0 < m) × ((get_or pairs e (0, 0)).1 < m)
pair-below pairs m e below lt =
    let l = length-edges pairs in let h = below e
    (omega (arith, lt, l)) in rw (pair-edge pairs e lt) at h

-- a number more
pub numbers-push : (pairs items : List (ℕ × ℕ)) (i a b : ℕ) → i < length pairs
    → edges_of items ≡ take i (numbered (edges_of pairs))
    → a ≡ number (edges_of pairs) (get_or pairs i (0, 0)).0
    → b ≡ number (edges_of pairs) (get_or pairs i (0, 0)).1
    → edges_of (items ++ (a, b) ∷ []) ≡ take (i + 1) (numbered (edges_of pairs))
numbers-push pairs items i a b lt inv ea eb =
    let edges = edges_of pairs in
    let l = length-edges pairs in
    let n = length-map edges (renumbered (number edges)) in
    let more = (take_at_read (numbered edges) i no_edge (omega (arith, n, l, lt))).1 in
    let here = get_or-map (renumbered (number edges)) edges i no_edge no_edge (omega (arith, l, lt))
    ∙ ap (renumbered (number edges)) (pair-edge pairs i lt) in
    joined items ∙ (ap (λ es. es ++ edge_of (a, b) ∷ []) inv
    ∙ (ap (λ edge. take i (numbered edges) ++ edge ∷ []) (rw (ea, eb) (sym here))
    ∙ sym more)) where
      joined : (items : List (ℕ × ℕ)) → edges_of (items ++ (a, b) ∷ []) ≡ edges_of items ++ edge_of
          (a, b) ∷ []
      joined [] = refl
      joined (p ∷ items) = ap (λ es. edge_of p ∷ es) (joined items)

pub length-vertices : (m : ℕ) (c : ℤ) (a : ℕ) → length (vertex_capacities m c a) ≡ m
length-vertices m c a = length-set _ a _ ∙ length-replicate m c

-- a number past all vertices is no vertex
pub vertices-past : (m : ℕ) (c : ℤ) (a : ℕ) → m ≤ a → vertex_capacities m c a ≡ replicate m c
vertices-past m c a le = set_past (replicate m c) a (pos 0)
    (let l = length-replicate m c in omega (arith, l, le))

pub vertices_bounded : (m : ℕ) (c : ℤ) (a : ℕ) → pos 0 ≤ℤ c → c ≤ℤ pos (10 ^ 24)
    → All IsCapacity (vertex_capacities m c a)
vertices_bounded m c a low high =
    All-set IsCapacity (replicate m c) a (pos 0)
    (record { low = omega (arith, ints); high = omega (arith, ints) })
    (λ k d lt. let l = length-replicate m c in rw (get_or-replicate m k c d (omega (arith, l, lt)))
    (record { low = low; high = high }))

-- two slots of m
pub two-below : (items : List ℕ) (a b m : ℕ) → items ≡ a ∷ b ∷ [] → a < m → b < m → (k d : ℕ)
    → k < length items → get_or items k d < m
two-below items a b m is ha hb k d lt =
    rw is (at k (let l = ap length is in omega (arith, lt, l))) where
      at : (k : ℕ) → k < 2 → get_or (a ∷ b ∷ []) k d < m
      at zero lt = ha
      at (suc zero) lt = hb
      at (suc (suc k)) lt = absurd (omega (arith, lt))

-- a demand more
pub lists-push : (pairs : List (ℕ × ℕ)) (lists : List (List ℕ)) (items : List ℕ) (e : ℕ)
    → e < length pairs → lists ≡ take e (end_lists (edges_of pairs))
    → items ≡ (get_or pairs e (0, 0)).0 ∷ (get_or pairs e (0, 0)).1 ∷ []
    → lists ++ items ∷ [] ≡ take (e + 1) (end_lists (edges_of pairs))
lists-push pairs lists items e lt inv is =
    let edges = edges_of pairs in
    let l = length-edges pairs in
    let n = length-map edges ends_of in
    let more = (take_at_read (end_lists edges) e [] (omega (arith, n, l, lt))).1 in
    let here = get_or-map ends_of edges e no_edge [] (omega (arith, l, lt))
    ∙ ap ends_of (pair-edge pairs e lt) in
    ap (λ ls. ls ++ items ∷ []) inv
    ∙ (ap (λ slots. take e (end_lists edges) ++ slots ∷ []) (is ∙ sym here) ∙ sym more)
