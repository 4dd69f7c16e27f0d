-- What a term of any kind is once it is turned round, and the laws that its calls rest on.
use Rattle.std.specs.Prelude.{◌≡◌, Bool, List, length, ℤ, pos, neg_ℤ, ◌*ℤ◌, ◌≤ℤ◌, Some}
use Rattle.std.specs.List.{All}
use Rattle.sfm_spec.specs.Terms.{SetFunction, times, IsFamily, IsSubmodular, IsBase}
use Rattle.sfm_kind.specs.Meanings.{kind_places}
use Rattle.sfm_kind.specs.Kinds.{kind_value, kind_size, kind_start, kind-family, kind-submodular, kind-bounded, kind-starts, kind-starts_small, kind-starts_times}
use Rattle.sfm_kind.specs.declared.kind.Kind.{Kind}
use Rattle.sfm_flip.specs.Flipped.{flipped, negated}
use Rattle.sfm_flip.specs.FlipLaws.{flipped-family, flipped-submodular, flipped-bounded, flipped-starts, flipped-starts_small}
use Rattle.sfm_flip.specs.Known.{IsNoted}
use Rattle.sfm_flip.specs.declared.note.FlipNote.{FlipNote}
use Rattle.sfm_spec.proofs.Scaled.{times-neg}
use Rattle.std.proofs.Common.{map, List, [], ◌∷◌, ap, sym, refl, ◌∙◌, neg_ℤ}

-- the values of the term turned round
abbrev pub flip_value : Kind → SetFunction
flip_value kind = flipped (length (kind_places kind)) (kind_value kind)

-- a bound on the magnitude of each value: that of two values of the term
abbrev pub flip_size : Kind → ℤ
flip_size kind = pos 2 *ℤ kind_size kind

-- the first base: that of the term, with each sign turned
abbrev pub flip_start : Kind → ℤ → List ℤ
flip_start kind q = negated (kind_start kind q)

-- the note keeps the negated base, and what is kept beside that is true there
abbrev pub flip_fits : Kind → FlipNote → ℤ → List ℤ → Type 0
flip_fits kind note q x = (note.base ≡ negated x) × IsNoted kind q note

pub flip-family : (kind : Kind) → IsFamily (length (kind_places kind)) (flip_value kind)
flip-family kind = flipped-family (length (kind_places kind)) (kind_value kind) (kind-family kind)
    (kind-submodular kind)

pub flip-submodular : (kind : Kind) → IsSubmodular (length (kind_places kind)) (flip_value kind)
flip-submodular kind = flipped-submodular (length (kind_places kind)) (kind_value kind)
    (kind-family kind) (kind-submodular kind)

pub flip-bounded : (kind : Kind) (s : List Bool) (a : ℤ) → length s ≡ length (kind_places kind)
    → flip_value kind s ≡ Some a
    → (neg_ℤ (flip_size kind) ≤ℤ a) × (a ≤ℤ flip_size kind)
flip-bounded kind = flipped-bounded (length (kind_places kind)) (kind_value kind) (kind-family kind)
    (kind-submodular kind) (kind_size kind) (kind-bounded kind)

pub flip-starts : (kind : Kind) (q : ℤ) → pos 1 ≤ℤ q
    → (length (flip_start kind q) ≡ length (kind_places kind))
    × IsBase (times q (flip_value kind)) (flip_start kind q)
flip-starts kind q low = flipped-starts (length (kind_places kind)) (kind_value kind)
    (kind-family kind) (kind-submodular kind) q low (kind_start kind q) (kind-starts kind q low)

pub flip-starts_small : (kind : Kind) (q : ℤ) → pos 1 ≤ℤ q
    → All (λ a. (neg_ℤ ((pos 2 *ℤ q) *ℤ flip_size kind) ≤ℤ a)
    × (a ≤ℤ ((pos 2 *ℤ q) *ℤ flip_size kind))) (flip_start kind q)
flip-starts_small kind q low = flipped-starts_small (kind_size kind) q (kind_start kind q)
    (kind-starts_small kind q low)

pub flip-starts_times : (kind : Kind) (q : ℤ)
    → flip_start kind q ≡ map (λ a. q *ℤ a) (flip_start kind (pos 1))
flip-starts_times kind q = ap negated (kind-starts_times kind q)
    ∙ at (kind_start kind (pos 1)) where
      at : (x : List ℤ) → negated (map (λ a. q *ℤ a) x) ≡ map (λ a. q *ℤ a) (negated x)
      at [] = refl
      at (a ∷ x) = ap (λ b. b ∷ negated (map (λ a. q *ℤ a) x)) (sym (times-neg q a))
          ∙ ap (λ r. (q *ℤ neg_ℤ a) ∷ r) (at x)
