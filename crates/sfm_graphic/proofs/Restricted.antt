-- A part of the kept elements is independent among these where it is so among all: each edge of a
-- closed trail goes by its number among the kept ones or by its place among all.
use Rattle.std.proofs.Common.{◌≡◌, ◌↔◌, ℕ, zero, suc, ◌<◌, Bool, List, [], ◌∷◌, length, get_or, map, take, if◌then◌else◌, refl, sym, ap, ◌∙◌, subst, arith}
use Rattle.std.specs.List.{All}
use Rattle.std.proofs.lemmas.List.{length-map}
use Rattle.std.proofs.lemmas.List.Elements.{All-head, All-map, All-tail}
use Rattle.sfm_spec.specs.Sets.{Has, AreDistinct, size}
use Rattle.sfm_spec.specs.Kinds.{Edge, Way, no_edge, begin_of, end_of, LeadsHome, IsForest}
use Rattle.sfm_layers.specs.Kept.{kept, spread}
use Rattle.sfm_layers.proofs.Kept.{kept-at, kept-nth, nth_kept, number-one, spread-has}
use Rattle.sfm_matroid.proofs.KeptPlaces.{member_below, nth-one, spread_nth}

-- a way along the edge that f gives, in the same direction
abbrev moved : (ℕ → ℕ) → Way → Way
moved f way = record { edge = f way.edge; is_back = way.is_back }

moved-edge : (f : ℕ → ℕ) (ways : List Way) (i : ℕ) → i < length ways
    → get_or (map (λ (way : Way). way.edge) (map (moved f) ways)) i 0 ≡ f
    (get_or (map (λ (way : Way). way.edge) ways) i 0)
moved-edge f [] i lt = absurd (omega (arith, lt))
moved-edge f (way ∷ ways) zero lt = refl
moved-edge f (way ∷ ways) (suc i) lt = moved-edge f ways i (omega (arith, lt))

edge-in : (t : List Bool) (ways : List Way) (i : ℕ) → All (λ (way : Way). Has t way.edge) ways
    → i < length ways → Has t (get_or (map (λ (way : Way). way.edge) ways) i 0)
edge-in t [] i members lt = absurd (omega (arith, lt))
edge-in t (way ∷ ways) zero members lt = All-head (λ (way : Way). Has t way.edge) way ways members
edge-in t (way ∷ ways) (suc i) members lt =
    edge-in t ways i (All-tail (λ (way : Way). Has t way.edge) way ways members) (omega (arith, lt))

length-edges_of : (ways : List Way) → length (map (λ (way : Way). way.edge) ways) ≡ length ways
length-edges_of ways = length-map ways (λ (way : Way). way.edge)

-- f gives each edge of t one of u with the same ends, and no edge twice
record IsCopy (edges others : List Edge) (t u : List Bool) (f : ℕ → ℕ) : Type 0 where
  within : (e : ℕ) → Has t e → Has u (f e)
  ends : (e : ℕ) → Has t e → get_or others (f e) no_edge ≡ get_or edges e no_edge
  apart : (d e : ℕ) → Has t d → Has t e → f d ≡ f e → d ≡ e

module _ (edges others : List Edge) (t u : List Bool) (f : ℕ → ℕ)
    (copy : IsCopy edges others t u f) where
  begins : (way : Way) → Has t way.edge → begin_of others (moved f way) ≡ begin_of edges way
  begins way h = ap (λ (e : Edge). if way.is_back then e.head else e.tail) (copy.ends way.edge h)

  leaves : (way : Way) → Has t way.edge → end_of others (moved f way) ≡ end_of edges way
  leaves way h = ap (λ (e : Edge). if way.is_back then e.tail else e.head) (copy.ends way.edge h)

  leads : (home at : ℕ) (ways : List Way) → All (λ (way : Way). Has t way.edge) ways
      → LeadsHome edges home at ways → LeadsHome others home at (map (moved f) ways)
  leads home at [] members h = h
  leads home at (way ∷ ways) members h =
      let here : Has t way.edge = All-head (λ (way : Way). Has t way.edge) way ways members in (
        begins way here ∙ h.0,
        subst (λ at_end. LeadsHome others home at_end (map (moved f) ways))
            (sym (leaves way here)) (leads home (end_of edges way) ways
            (All-tail (λ (way : Way). Has t way.edge) way ways members) h.1),
      )

  moved-members : (ways : List Way) → All (λ (way : Way). Has t way.edge) ways
      → All (λ (way : Way). Has u way.edge) (map (moved f) ways)
  moved-members ways members = All-map (λ (way : Way). Has u way.edge) (moved f) ways
      (λ i d lt. copy.within (get_or ways i d).edge (members i d lt))

  moved-distinct : (ways : List Way) → All (λ (way : Way). Has t way.edge) ways
      → AreDistinct (map (λ (way : Way). way.edge) ways)
      → AreDistinct (map (λ (way : Way). way.edge) (map (moved f) ways))
  moved-distinct ways members distinct i j li lj same =
      let a = length-edges_of (map (moved f) ways) in
      let b = length-map ways (moved f) in
      let c = length-edges_of ways in
      let ki : i < length ways = omega (arith, a, b, li) in
      let kj : j < length ways = omega (arith, a, b, lj) in
      distinct i j (omega (arith, c, ki)) (omega (arith, c, kj))
      (copy.apart (get_or (map (λ (way : Way). way.edge) ways) i 0)
      (get_or (map (λ (way : Way). way.edge) ways) j 0)
      (edge-in t ways i members ki) (edge-in t ways j members kj)
      (sym (moved-edge f ways i ki) ∙ (same ∙ moved-edge f ways j kj)))

  forest-copied : IsForest others u → IsForest edges t
  forest-copied forest first ways trail =
      let here : Has t first.edge = All-head (λ (way : Way). Has t way.edge) first ways
      trail.members in
      let rest : All (λ (way : Way). Has t way.edge) ways = All-tail (λ (way : Way). Has t way.edge)
      first ways trail.members in
      let on : LeadsHome others (begin_of edges first) (end_of edges first)
      (map (moved f) ways) = leads (begin_of edges first) (end_of edges first) ways rest
      trail.closed in
      forest (moved f first) (map (moved f) ways) (record {
        members = moved-members (first ∷ ways) trail.members;
        distinct = moved-distinct (first ∷ ways) trail.members trail.distinct;
        closed = subst (λ home. LeadsHome others home (end_of others (moved f first))
            (map (moved f) ways)) (sym (begins first here))
            (subst (λ at_end. LeadsHome others (begin_of edges first) at_end (map (moved f) ways))
            (sym (leaves first here)) on);
      })

module _ (keep : List Bool) (edges : List Edge) (same : length keep ≡ length edges) (u : List Bool)
    (each : length u ≡ size keep) where
  pub graphic-spread : IsForest (kept keep edges) u ↔ IsForest edges (spread keep u)
  graphic-spread = (
    forest-copied edges (kept keep edges) (spread keep u) u (λ e. size (take e keep)) (record {
      within = λ e h. (spread-has keep u e h).1;
      ends = λ e h. kept-at keep edges e no_edge same (spread-has keep u e h).0;
      apart = λ d e hd he. number-one keep d e (spread-has keep u d hd).0
          (spread-has keep u e he).0;
    }),
    forest-copied (kept keep edges) edges u (spread keep u) (nth_kept keep) (record {
      within = spread_nth keep u each;
      ends = λ i h. sym (kept-nth keep edges i no_edge same (member_below keep u each i h));
      apart = λ i j hi hj. nth-one keep i j (member_below keep u each i hi)
          (member_below keep u each j hj);
    }),
  )
