-- The greatest forest that is kept.
use Rattle.std.proofs.Common.{◌≡◌, ℕ, Bool, true, List, length, sym, ap, ◌∙◌}
use Rattle.std.proofs.lemmas.List.{length-replicate}
use Rattle.sfm_spec.specs.Sets.{size, whole_set}
use Rattle.sfm_spec.specs.Kinds.{Edge}
use Rattle.sfm_graphic.specs.Graphs.{taken, graphic_basis, graphic_rank}
use Rattle.sfm_graphic.specs.Runs.{taken-places}
use Rattle.sfm_graphic.specs.Ends.{edges_of}
use Rattle.sfm_graphic.specs.declared.graphic.Graphic.{Graphic}
use Rattle.sfm_graphic.proofs.Labels.{length-edges}

pub length-basis : (edges : List Edge) → length (graphic_basis edges) ≡ length edges
length-basis edges = taken-places edges (whole_set (length edges))
    (length-replicate (length edges) true) (length edges)

pub basis_from : (pairs : List (ℕ × ℕ)) (all basis : List Bool) → all ≡ whole_set (length pairs)
    → basis ≡ taken (edges_of pairs) all (length pairs) → basis ≡ graphic_basis (edges_of pairs)
basis_from pairs all basis e b =
    b ∙ (ap (λ s. taken (edges_of pairs) s (length pairs)) e
    ∙ ap (λ m. taken (edges_of pairs) (whole_set m) m) (sym (length-edges pairs)))

-- what is kept of a term has its places
pub graphic_kept : (s : Graphic) → length s.basis ≡ length s.places
graphic_kept s = ap length s.based ∙ (length-basis s.ends ∙ s.same_count)

-- how many are taken is the rank
pub rank_taken : (pairs : List (ℕ × ℕ)) (edges : List Edge) (s t : List Bool)
    → edges_of pairs ≡ edges → t ≡ taken (edges_of pairs) s (length pairs)
    → size t ≡ graphic_rank edges s
rank_taken pairs edges s t is taken_is =
    let n = sym (length-edges pairs) ∙ ap length is in
    ap size taken_is ∙ (ap (λ m. size (taken (edges_of pairs) s m)) n
    ∙ ap (λ es. size (taken es s (length edges))) is)
