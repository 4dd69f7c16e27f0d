-- Trails: distinct edges of a set, taken one after another from one vertex to another.
-- Textbook: Schrijver, Combinatorial Optimization, section 3.
use Rattle.std.proofs.Common.{◌≡◌, ◌≢◌, ◌⊎◌, ℕ, zero, suc, ◌<◌, Bool, true, false, List, [], ◌∷◌, ◌++◌, length, get_or, set, map, if◌then◌else◌, refl, sym, ap, ◌∙◌, arith, inl, inr, ⊎_elim}
use Rattle.std.specs.List.{All}
use Rattle.std.proofs.lemmas.Bool.{false≢true, cases_eq}
use Rattle.std.proofs.lemmas.List.Elements.{All-head, All-tail}
use Rattle.sfm_spec.specs.Sets.{Has, AreDistinct}
use Rattle.sfm_spec.specs.Kinds.{Edge, Way, begin_of, end_of, LeadsHome, IsClosedTrail, IsForest}
use Rattle.sfm_rank.proofs.Members.{has_set, set_has, set_here}
use Rattle.sfm_graphic.specs.Graphs.{edge_at}

-- no way takes the edge e
abbrev pub Misses : ℕ → List Way → Type 0
Misses e [] = Unit {0}
Misses e (way ∷ ways) = (way.edge ≢ e) × Misses e ways

-- distinct edges of t, from one vertex to another
abbrev pub IsTrail : List Edge → List Bool → ℕ → ℕ → List Way → Type 0
IsTrail edges t home at [] = at ≡ home
IsTrail edges t home at (way ∷ ways) = Has t way.edge × (begin_of edges way ≡ at)
    × Misses way.edge ways × IsTrail edges t home (end_of edges way) ways

-- ---- trails and the closed trails of the definition

misses-apart : (e : ℕ) (ways : List Way) (i : ℕ) → Misses e ways
    → i < length (map (λ way. way.edge) ways) → get_or (map (λ way. way.edge) ways) i 0 ≢ e
misses-apart e [] i m lt = absurd (omega arith)
misses-apart e (way ∷ ways) zero m lt = m.0
misses-apart e (way ∷ ways) (suc i) m lt = misses-apart e ways i m.1 (omega arith)

apart-misses : (e : ℕ) (ways : List Way)
    → ((i : ℕ) → i < length (map (λ way. way.edge) ways)
    → get_or (map (λ way. way.edge) ways) i 0 ≢ e) → Misses e ways
apart-misses e [] h = tt
apart-misses e (way ∷ ways) h =
    (h 0 (omega arith), apart-misses e ways (λ i lt. h (suc i) (omega arith)))

trail-members : (edges : List Edge) (t : List Bool) (home at : ℕ) (ways : List Way)
    → IsTrail edges t home at ways → All (λ way. Has t way.edge) ways
trail-members edges t home at [] h i d lt = absurd (omega arith)
trail-members edges t home at (way ∷ ways) h zero d lt = h.0
trail-members edges t home at (way ∷ ways) h (suc i) d lt =
    trail-members edges t home (end_of edges way) ways h.3 i d (omega arith)

trail-distinct : (edges : List Edge) (t : List Bool) (home at : ℕ) (ways : List Way)
    → IsTrail edges t home at ways → AreDistinct (map (λ way. way.edge) ways)
trail-distinct edges t home at [] h i j li lj e = absurd (omega arith)
trail-distinct edges t home at (way ∷ ways) h zero zero li lj e = refl
trail-distinct edges t home at (way ∷ ways) h zero (suc j) li lj e =
    absurd (misses-apart way.edge ways j h.2 (omega arith) (sym e))
trail-distinct edges t home at (way ∷ ways) h (suc i) zero li lj e =
    absurd (misses-apart way.edge ways i h.2 (omega arith) e)
trail-distinct edges t home at (way ∷ ways) h (suc i) (suc j) li lj e =
    let r = trail-distinct edges t home (end_of edges way) ways h.3 i j (omega arith) (omega arith)
    e in omega (arith, r)

trail-leads : (edges : List Edge) (t : List Bool) (home at : ℕ) (ways : List Way)
    → IsTrail edges t home at ways → LeadsHome edges home at ways
trail-leads edges t home at [] h = h
trail-leads edges t home at (way ∷ ways) h =
    (h.1, trail-leads edges t home (end_of edges way) ways h.3)

trail-from : (edges : List Edge) (t : List Bool) (home at : ℕ) (ways : List Way)
    → All (λ way. Has t way.edge) ways → AreDistinct (map (λ way. way.edge) ways)
    → LeadsHome edges home at ways → IsTrail edges t home at ways
trail-from edges t home at [] members distinct leads = leads
trail-from edges t home at (way ∷ ways) members distinct leads = (
  All-head (λ way. Has t way.edge) way ways members,
  leads.0,
  apart-misses way.edge ways (λ i lt e. let d = distinct (suc i) 0 (omega arith) (omega arith)
      e in omega (arith, d)),
  trail-from edges t home (end_of edges way) ways
      (All-tail (λ way. Has t way.edge) way ways members)
      (λ i j li lj e. let d = distinct (suc i) (suc j) (omega arith) (omega arith)
      e in omega (arith, d)) leads.1,
)

-- a trail back to its beginning, that takes an edge
pub closed_from : (edges : List Edge) (t : List Bool) (first : Way) (ways : List Way)
    → IsTrail edges t (begin_of edges first) (begin_of edges first) (first ∷ ways)
    → IsClosedTrail edges t first ways
closed_from edges t first ways h = record {
  members = trail-members edges t (begin_of edges first) (begin_of edges first) (first ∷ ways) h;
  distinct = trail-distinct edges t (begin_of edges first) (begin_of edges first) (first ∷ ways) h;
  closed = trail-leads edges t (begin_of edges first) (end_of edges first) ways h.3;
}

pub closed_trail : (edges : List Edge) (t : List Bool) (first : Way) (ways : List Way)
    → IsClosedTrail edges t first ways
    → IsTrail edges t (begin_of edges first) (begin_of edges first) (first ∷ ways)
closed_trail edges t first ways h = trail-from edges t (begin_of edges first) (begin_of edges first)
    (first ∷ ways) h.members h.distinct (refl, h.closed)

-- ---- what is the same along a trail

-- g does not tell the ends of the edges of t apart
abbrev pub IsBlind : List Edge → List Bool → (ℕ → ℕ) → Type 0
IsBlind edges t g = (e : ℕ) → Has t e → g (edge_at edges e).tail ≡ g (edge_at edges e).head

-- the ends of a way are the ends of its edge
way-ends : (edges : List Edge) (g : ℕ → ℕ) (way : Way)
    → g (edge_at edges way.edge).tail ≡ g (edge_at edges way.edge).head
    → g (begin_of edges way) ≡ g (end_of edges way)
way-ends edges g way same = at way.is_back where
  at : (b : Bool) → g (if b then (edge_at edges way.edge).head else (edge_at edges way.edge).tail)
      ≡ g (if b then (edge_at edges way.edge).tail else (edge_at edges way.edge).head)
  at true = sym same
  at false = same

way-tail : (edges : List Edge) (g : ℕ → ℕ) (way : Way)
    → g (edge_at edges way.edge).tail ≡ g (edge_at edges way.edge).head
    → g (edge_at edges way.edge).tail ≡ g (begin_of edges way)
way-tail edges g way same = at way.is_back where
  at : (b : Bool) → g (edge_at edges way.edge).tail ≡ g
      (if b then (edge_at edges way.edge).head else (edge_at edges way.edge).tail)
  at true = same
  at false = refl

pub along : (edges : List Edge) (t : List Bool) (g : ℕ → ℕ) → IsBlind edges t g
    → (home at : ℕ) (ways : List Way) → IsTrail edges t home at ways → g at ≡ g home
along edges t g blind home at [] h = ap g h
along edges t g blind home at (way ∷ ways) h = ap g (sym h.1)
    ∙ (way-ends edges g way (blind way.edge h.0) ∙ along edges t g blind home (end_of edges way)
    ways h.3)

-- an edge whose ends are told apart from a trail's is not on it
pub off_trail : (edges : List Edge) (t : List Bool) (g : ℕ → ℕ) → IsBlind edges t g
    → (home at : ℕ) (ways : List Way) (e : ℕ) → IsTrail edges t home at ways
    → g (edge_at edges e).tail ≢ g at → Misses e ways
off_trail edges t g blind home at [] e h ne = tt
off_trail edges t g blind home at (way ∷ ways) e h ne = (
  (λ same. ne (ap (λ i. g (edge_at edges i).tail) (sym same)
      ∙ (way-tail edges g way (blind way.edge h.0) ∙ ap g h.1))),
  off_trail edges t g blind home (end_of edges way) ways e h.3
      (λ same. ne (same ∙ (sym (way-ends edges g way (blind way.edge h.0)) ∙ ap g h.1))),
)

-- ---- an edge more

module _ (edges : List Edge) (t : List Bool) (e : ℕ) where
  -- what of a trail with the edge e is without it
  pub without_edge : (home at : ℕ) (ways : List Way) → IsTrail edges (set t e true) home at ways
      → Misses e ways → IsTrail edges t home at ways
  without_edge home at [] h m = h
  without_edge home at (way ∷ ways) h m = (
    ⊎_elim (λ same. absurd (m.0 same)) (λ old. old) (has_set t e way.edge h.0),
    h.1,
    h.2,
    without_edge home (end_of edges way) ways h.3 m.1,
  )

  pub with_edge : (home at : ℕ) (ways : List Way) → IsTrail edges t home at ways
      → IsTrail edges (set t e true) home at ways
  with_edge home at [] h = h
  with_edge home at (way ∷ ways) h =
      (set_has t e way.edge h.0, h.1, h.2, with_edge home (end_of edges way) ways h.3)

  -- the trail takes the edge e, and what does not tell the ends of the others apart tells its
  -- beginning and its end from one another only by the ends of e
  abbrev Passes : (ℕ → ℕ) → ℕ → ℕ → Type 0
  Passes g home at = ((g at ≡ g (edge_at edges e).tail) × (g (edge_at edges e).head ≡ g home))
      ⊎ ((g at ≡ g (edge_at edges e).head) × (g (edge_at edges e).tail ≡ g home))

  passes : (g : ℕ → ℕ) → IsBlind edges t g → (home at : ℕ) (ways : List Way)
      → IsTrail edges (set t e true) home at ways → Misses e ways ⊎ Passes g home at
  passes g blind home at [] h = inl tt
  passes g blind home at (way ∷ ways) h = ⊎_elim
      (λ (same : way.edge ≡ e).
      let rest = along edges t g blind home (end_of edges way) ways
      (without_edge home (end_of edges way) ways h.3
      (let m : Misses way.edge ways = h.2 in rw same at m)) in
      inr (here way.is_back same (ap g h.1) rest))
      (λ (ne : way.edge ≢ e).
      let old : Has t way.edge = ⊎_elim (λ same. absurd (ne same)) (λ old. old)
      (has_set t e way.edge h.0) in
      let step = sym (ap g h.1) ∙ way-ends edges g way (blind way.edge old) in
      ⊎_elim (λ m. inl (ne, m)) (λ p.
      inr (⊎_elim (λ q. inl (step ∙ q.0, q.1)) (λ q. inr (step ∙ q.0, q.1)) p))
      (passes g blind home (end_of edges way) ways h.3))
      (cases_eq way.edge e) where
        here : (b : Bool) → way.edge ≡ e
            → g (if b then (edge_at edges way.edge).head else (edge_at edges way.edge).tail) ≡ g at
            → g (if b then (edge_at edges way.edge).tail else (edge_at edges way.edge).head) ≡ g
            home → Passes g home at
        here true same begins ends =
            inr (
              sym begins ∙ ap (λ i. g (edge_at edges i).head) same,
              ap (λ i. g (edge_at edges i).tail) (sym same) ∙ ends,
            )
        here false same begins ends =
            inl (
              sym begins ∙ ap (λ i. g (edge_at edges i).tail) same,
              ap (λ i. g (edge_at edges i).head) (sym same) ∙ ends,
            )

  -- an edge between vertices that a forest does not join makes a forest with it
  pub forest_more : (g : ℕ → ℕ) → IsBlind edges t g
      → g (edge_at edges e).tail ≢ g (edge_at edges e).head → IsForest edges t
      → IsForest edges (set t e true)
  forest_more g blind apart forest first ways closed =
      let h = closed_trail edges (set t e true) first ways closed in
      ⊎_elim
      (λ m. forest first ways (closed_from edges t first ways
      (without_edge (begin_of edges first) (begin_of edges first) (first ∷ ways) h m)))
      (λ p. ⊎_elim (λ q. apart (sym q.0 ∙ sym q.1)) (λ q. apart (q.1 ∙ q.0)) p)
      (passes g blind (begin_of edges first) (begin_of edges first) (first ∷ ways) h)

  -- a trail of other edges misses e
  pub never_on : (home at : ℕ) (ways : List Way) → get_or t e false ≡ false
      → IsTrail edges t home at ways → Misses e ways
  never_on home at [] out h = tt
  never_on home at (way ∷ ways) out h = (
    (λ (same : way.edge ≡ e). false≢true
        (sym out ∙ (let m : Has t way.edge = h.0 in rw same at m))),
    never_on home (end_of edges way) ways out h.3,
  )

  misses-join : (d : ℕ) (ways : List Way) (way : Way) (more : List Way) → Misses d ways
      → way.edge ≢ d → Misses d more → Misses d (ways ++ way ∷ more)
  misses-join d [] way more m ne n = (ne, n)
  misses-join d (w ∷ ways) way more m ne n = (m.0, misses-join d ways way more m.1 ne n)

  -- two trails, and the edge e from the end of one to the beginning of the other
  pub joined : (g : ℕ → ℕ) → IsBlind edges t g → e < length t → get_or t e false ≡ false
      → (home at : ℕ) (way : Way) (ways more : List Way) → way.edge ≡ e
      → g at ≢ g (end_of edges way)
      → IsTrail edges t (begin_of edges way) at ways → IsTrail edges t home (end_of edges way) more
      → IsTrail edges (set t e true) home at (ways ++ way ∷ more)
  joined g blind lt out home at way [] more is apart first second = (
    rw is (set_here t e lt),
    sym first,
    rw is (never_on home (end_of edges way) more out second),
    with_edge home (end_of edges way) more second,
  )
  joined g blind lt out home at way (w ∷ ways) more is apart first second =
      let same = blind w.edge first.0 in
      let here : g (begin_of edges w) ≡ g at = ap g first.1 in (
        set_has t e w.edge first.0,
        first.1,
        misses-join w.edge ways way more first.2
            (λ eq. false≢true (sym out ∙ (let m : Has t w.edge = first.0 in rw (sym eq ∙ is) at m)))
            (off_trail edges t g blind home (end_of edges way) more w.edge second
            (λ eq. apart (sym here ∙ (sym (way-tail edges g w same) ∙ eq)))),
        joined g blind lt out home (end_of edges w) way ways more is
            (λ eq. apart (sym here ∙ (way-ends edges g w same ∙ eq))) first.3 second,
      )
