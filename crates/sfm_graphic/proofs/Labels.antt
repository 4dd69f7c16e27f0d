-- The labels of the ends of all edges, place by place.
use Rattle.std.proofs.Common.{◌≡◌, ℕ, zero, suc, ◌+◌, ◌<◌, Bool, true, false, not, ◌&&◌, ⊎_elim, List, [], ◌∷◌, length, map, get_or, set, nat_eq, if◌then◌else◌, refl, sym, ap, ◌∙◌, arith}
use Rattle.std.proofs.lemmas.Bool.{cases_eq, eq-eqb}
use Rattle.sfm_spec.specs.Sets.{Has}
use Rattle.sfm_spec.specs.Kinds.{Edge}
use Rattle.sfm_matroid.specs.Counting.{eqb_apart}
use Rattle.sfm_graphic.specs.Graphs.{edge_at, renamed, label, taken}
use Rattle.sfm_graphic.specs.Ends.{edges_of, both_renamed, labels_at}

-- the labels of the ends of an edge, and of all edges, after those edges of s that are numbered
-- below n
abbrev pub end_labels : List Edge → List Bool → ℕ → Edge → ℕ × ℕ
end_labels edges s n edge = (label edges s n edge.tail, label edges s n edge.head)

abbrev pub labels_of : List Edge → List Bool → ℕ → List (ℕ × ℕ)
labels_of edges s n = map (end_labels edges s n) edges

pub length-edges : (pairs : List (ℕ × ℕ)) → length (edges_of pairs) ≡ length pairs
length-edges [] = refl
length-edges (pair ∷ pairs) = let r : length (edges_of pairs) ≡ length pairs = length-edges
    pairs in omega (arith, r)

pub labels-first : (s : List Bool) (pairs : List (ℕ × ℕ)) → pairs ≡ labels_of (edges_of pairs) s 0
labels-first s pairs = sym (at pairs) where
  at : (rest : List (ℕ × ℕ)) → map (end_labels (edges_of pairs) s 0) (edges_of rest) ≡ rest
  at [] = refl
  at (pair ∷ rest) = ap (λ r. pair ∷ r) (at rest)

pub labels-at : (edges : List Edge) (s : List Bool) (n e : ℕ) → e < length edges
    → labels_at (labels_of edges s n)
    e ≡ (label edges s n (edge_at edges e).tail, label edges s n (edge_at edges e).head)
labels-at edges s n e lt = at edges e lt where
  at : (rest : List Edge) (e : ℕ) → e < length rest
      → labels_at (map (end_labels edges s n) rest)
      e ≡ (label edges s n (edge_at rest e).tail, label edges s n (edge_at rest e).head)
  at [] e lt = absurd (omega (arith, lt))
  at (edge ∷ rest) zero lt = refl
  at (edge ∷ rest) (suc e) lt = at rest e (omega arith)

-- an edge more
pub labels-in : (edges : List Edge) (s : List Bool) (n : ℕ) → Has s n
    → labels_of edges s (suc n) ≡ map
    (both_renamed (label edges s n (edge_at edges n).tail) (label edges s n (edge_at edges n).head))
    (labels_of edges s n)
labels-in edges s n has = at edges where
  one : (x : ℕ) → label edges s (suc n) x ≡ renamed (label edges s n (edge_at edges n).tail)
      (label edges s n (edge_at edges n).head) (label edges s n x)
  one x = rw has refl

  at : (rest : List Edge) → map (end_labels edges s (suc n)) rest
      ≡ map (both_renamed (label edges s n (edge_at edges n).tail)
      (label edges s n (edge_at edges n).head)) (map (end_labels edges s n) rest)
  at [] = refl
  at (edge ∷ rest) = rw (one edge.tail, one edge.head, at rest) refl

pub labels-out : (edges : List Edge) (s : List Bool) (n : ℕ) → get_or s n false ≡ false
    → labels_of edges s (suc n) ≡ labels_of edges s n
labels-out edges s n out = at edges where
  one : (x : ℕ) → label edges s (suc n) x ≡ label edges s n x
  one x = rw out refl

  at : (rest : List Edge) → map (end_labels edges s (suc n)) rest ≡ map (end_labels edges s n) rest
  at [] = refl
  at (edge ∷ rest) = rw (one edge.tail, one edge.head, at rest) refl

-- a label put for itself changes nothing
pub both_renamed-same : (a : ℕ) (labels : List (ℕ × ℕ)) → map (both_renamed a a) labels ≡ labels
both_renamed-same a [] = refl
both_renamed-same a (pair ∷ labels) = rw (one pair.0, one pair.1, both_renamed-same a labels)
    refl where
      one : (x : ℕ) → renamed a a x ≡ x
      one x = ⊎_elim (λ e. rw (eq-eqb x a e) (sym e)) (λ ne. rw (eqb_apart x a ne) refl)
          (cases_eq x a)

-- ---- the labels as they are kept

module _ (edges : List Edge) (s : List Bool) (n : ℕ) (lt : n < length edges) (labels : List (ℕ × ℕ))
    (are : labels ≡ labels_of edges s n) where
  here : labels_at labels n ≡ (
    label edges s n (edge_at edges n).tail,
    label edges s n (edge_at edges n).head,
  )
  here = ap (λ ls. labels_at ls n) are ∙ labels-at edges s n n lt

  pub labels-next : Has s n → map (both_renamed (labels_at labels n).0 (labels_at labels n).1)
      labels ≡ labels_of edges s (n + 1)
  labels-next has =
      let e : n + 1 ≡ suc n = omega arith in
      rw (e, here)
      (ap (map (both_renamed (label edges s n (edge_at edges n).tail)
      (label edges s n (edge_at edges n).head))) are ∙ sym (labels-in edges s n has))

  pub labels-same : get_or s n false ≡ false → labels ≡ labels_of edges s (n + 1)
  labels-same out = let e : n + 1 ≡ suc n = omega arith in rw e
      (are ∙ sym (labels-out edges s n out))

  pub taken-next : (t : List Bool) → t ≡ taken edges s n → Has s n
      → (if nat_eq (labels_at labels n).0 (labels_at labels n).1 then t else set t n true) ≡ taken
      edges s (n + 1)
  taken-next t is has =
      let e : n + 1 ≡ suc n = omega arith in
      rw (e, here, has, is)
      (at (nat_eq (label edges s n (edge_at edges n).tail)
      (label edges s n (edge_at edges n).head))) where
        at : (b : Bool) → (if b then taken edges s n else set (taken edges s n) n true)
            ≡ (if (true && not b) then set (taken edges s n) n true else taken edges s n)
        at true = refl
        at false = refl

  pub taken-same : (t : List Bool) → t ≡ taken edges s n → get_or s n false ≡ false
      → t ≡ taken edges s (n + 1)
  taken-same t is out = let e : n + 1 ≡ suc n = omega arith in rw (e, out) is

pub renamed_all : (from to : ℕ) (old new : List (ℕ × ℕ)) → length new ≡ length old
    → ((i : ℕ) → i < length old → labels_at new i ≡ both_renamed from to (labels_at old i))
    → new ≡ map (both_renamed from to) old
renamed_all from to [] [] same h = refl
renamed_all from to [] (p ∷ new) same h = absurd (omega arith)
renamed_all from to (o ∷ old) [] same h = absurd (omega arith)
renamed_all from to (o ∷ old) (p ∷ new) same h =
    rw (
      h 0 (omega arith),
      renamed_all from to old new (omega arith)
          (λ i lt. h (suc i) (omega arith)),
    ) refl

pub renamed_equal : (labels : List (ℕ × ℕ)) (a b : ℕ) → a ≡ b
    → labels ≡ map (both_renamed a b) labels
renamed_equal labels a b same = rw same (sym (both_renamed-same b labels))
