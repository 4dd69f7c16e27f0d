-- What the code keeps of the groups: the base of the matroid.
use Rattle.std.proofs.Common.{◌≡◌, ◌≤◌, ℕ, Bool, true, List, length, ap, ◌∙◌, arith}
use Rattle.std.proofs.lemmas.List.{length-replicate}
use Rattle.sfm_spec.specs.Sets.{whole_set, size}
use Rattle.sfm_spec.specs.Kinds.{Group}
use Rattle.sfm_spec.proofs.Sizes.{size_below_length}
use Rattle.sfm_laminar.specs.Groups.{AreGroups}
use Rattle.sfm_laminar.specs.Grown.{grown}
use Rattle.sfm_laminar.specs.LaminarLaws.{basis_of, laminar-first}

pub length-basis : (k : ℕ) (groups : List Group) → AreGroups k groups
    → length (basis_of k groups) ≡ k
length-basis k groups ok = (laminar-first k groups ok).places

pub basis-few : (k : ℕ) (groups : List Group) → AreGroups k groups → size (basis_of k groups) ≤ k
basis-few k groups ok = let b = size_below_length (basis_of k groups) in let l = length-basis k
    groups ok in omega (arith, b, l)

pub basis_from : (k : ℕ) (groups : List Group) (all basis : List Bool) → all ≡ whole_set k
    → basis ≡ grown (length all) groups all (length all) → basis ≡ basis_of k groups
basis_from k groups all basis e b =
    b ∙ (ap (λ s. grown (length s) groups s (length s)) e
    ∙ ap (λ n. grown n groups (whole_set k) n) (length-replicate k true))
