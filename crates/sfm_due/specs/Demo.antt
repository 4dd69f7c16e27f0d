-- What a demonstration writes: what an answer of its instance says, in one line, or the first fault of its text.
use Rattle.std.specs.Prelude.{◌≡◌, ◌⊎◌, ℕ, List, ◌++◌, length, codes}
use Rattle.std.specs.Fmt.{decimal, signed_decimal}
use Rattle.sfm_spec.specs.Laws.{ones}
use Rattle.sfm_spec.specs.Sets.{size}
use Rattle.sfm_cert.specs.Answer.{Answer}
use Rattle.sfm_cert.specs.Solved.{form_of}
use Rattle.sfm_check.specs.Truth.{IsRightFile}
use Rattle.sfm_demo.specs.DemoText.{demo_text_of}
use Rattle.sfm_text.specs.Language.{IsFaultIn}
use Rattle.sfm_text.specs.GoodText.{instance_language}
use Rattle.sfm_due.specs.Due.{IsAsked, NamesFault, Question}

-- the line of what an answer says: the seed, the least value, how many elements the least and the greatest minimiser have, how many
-- blocks and slopes there are, and that it is valid
abbrev pub demo_line : ℕ → Answer → List ℕ
demo_line seed a = codes "demo " ++ decimal seed ++ codes " minimum " ++ signed_decimal a.value ++ codes " least " ++ decimal (size a.least) ++ codes " greatest " ++ decimal (size a.greatest)
    ++ codes " blocks " ++ decimal (length a.blocks) ++ codes " slopes " ++ decimal (length a.breaks) ++ codes " valid\n"

-- the written line tells what a right file for what is asked says
pub record IsDemoed (seed : ℕ) (asked : Question) (written : List ℕ) : Type 0 where
  pub file : List ℕ
  pub right : IsRightFile (form_of asked.instance) asked.meant (ones (length asked.instance.names)) file
  pub named : written ≡ demo_line seed right.answer

-- what is due to be written for a seed, and the code
abbrev pub IsDueToDemo : ℕ → List ℕ → ℕ → Type 0
IsDueToDemo seed written code = ((asked : Question) × IsAsked (demo_text_of seed) asked × IsDemoed seed asked written × (code ≡ 0))
    ⊎ (NamesFault (codes "refused") (IsFaultIn instance_language (demo_text_of seed)) written × (code ≡ 2))
