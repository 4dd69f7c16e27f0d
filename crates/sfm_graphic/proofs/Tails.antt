-- How the code tells tails.
use Rattle.std.proofs.Common.{◌≡◌, ◌≢◌, ℕ, ◌<◌, List, length, get_or, sym, ap, ◌∙◌, arith}
use Rattle.sfm_spec.specs.Kinds.{Edge}
use Rattle.sfm_graphic.specs.Ends.{edges_of}
use Rattle.sfm_graphic.specs.Numbered.{IsTail}
use Rattle.sfm_graphic.proofs.Labels.{length-edges}
use Rattle.sfm_graphic.proofs.Numbering.{pair-edge}

pub tail_at : (pairs : List (ℕ × ℕ)) (a e : ℕ) → e < length pairs → (get_or pairs e (0, 0)).0 ≡ a
    → IsTail (edges_of pairs) a
tail_at pairs a e lt is = (
  e,
  (let l = length-edges pairs in omega (arith, l, lt)),
  sym is ∙ sym (ap (λ (edge : Edge). edge.tail) (pair-edge pairs e lt)),
)

pub no_tail : (pairs : List (ℕ × ℕ)) (a : ℕ)
    → ((e : ℕ) → e < length pairs → (get_or pairs e (0, 0)).0 ≢ a) → IsTail (edges_of pairs) a → ⊥
no_tail pairs a none (e, lt, is) =
    let l = length-edges pairs in
    let le : e < length pairs = omega (arith, l, lt) in
    none e le (sym (is ∙ ap (λ (edge : Edge). edge.tail) (pair-edge pairs e le)))
