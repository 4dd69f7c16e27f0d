-- Values that are there.
use Rattle.std.proofs.Common.{◌≡◌, Option, Some, None, true, is_some, refl}
use Rattle.std.proofs.lemmas.Bool.{false≢true}

pub some_there : {A : Type 0} (o : Option A) → is_some o ≡ true → (a : A) × (o ≡ Some a)
some_there None is = absurd (false≢true is)
some_there (Some a) is = (a, refl)
