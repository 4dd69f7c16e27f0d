-- What holds of the value that is there.
use Rattle.std.proofs.Common.{◌≡◌, Option, Some, None, IsSome, refl}
use Rattle.std.specs.Prelude.{MatchOption}

pub match_some : {A : Type 0} (o : Option A) (x : A) (P : Type 0) (Q : A → Type 0)
    → MatchOption o P Q → o ≡ Some x → Q x
match_some o x P Q h e = rw e at h

pub some_if_not : {A : Type 0} (o : Option A) (P : Type 0) (Q : A → Type 0) → MatchOption o P Q
    → (P → ⊥) → IsSome o
some_if_not None P Q h refuted = absurd (refuted h)
some_if_not (Some x) P Q h refuted = refl

pub match_none : {A : Type 0} (o : Option A) (P : Type 0) (Q : A → Type 0) → MatchOption o P Q
    → ((x : A) → o ≡ Some x → ⊥) → P
match_none None P Q h other = h
match_none (Some x) P Q h other = absurd (other x refl)
