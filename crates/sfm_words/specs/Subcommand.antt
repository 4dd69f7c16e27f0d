-- The commands, and the subcommands of the command line that ask for them.
use Rattle.std.specs.Prelude.{ℕ, List, [], ◌∷◌, codes}
use Rattle.clap.specs.Words.{Text}

-- to solve an instance, or to check an answer of one, each by the names of files; a demonstration, on the instance of a seed;
-- to weigh an instance by the sizes in a second file, or to check an answer of that; to ask for the best set with the pins in a
-- second file; for the most level base of an instance; to solve an instance with the edits in a second file; or for the common
-- vectors of two instances, or to check a text that tells one
pub data Command : Type 0 where
  solve : Text → Command
  check : Text → Text → Command
  demo : ℕ → Command
  weigh : Text → Text → Command
  weighed : Text → Text → Text → Command
  ask : Text → Text → Command
  level : Text → Command
  edit : Text → Text → Command
  meet : Text → Text → Command
  met : Text → Text → Text → Command

-- what follows the word of a subcommand, and the command that it makes: names of files, in arguments of these names, by their
-- places from 0; or a number, in the argument of this name
pub data Maker : Type 0 where
  files : List Text → ((ℕ → Text) → Command) → Maker
  number : Text → (ℕ → Command) → Maker

-- the subcommands, each by its word
abbrev pub subcommands : List (Text × Maker)
subcommands =
    (codes "solve", files (codes "FILE" ∷ []) (λ given. solve (given 0)))
    ∷ (codes "check", files (codes "FILE" ∷ codes "ANSWER" ∷ []) (λ given. check (given 0) (given 1)))
    ∷ (codes "demo", number (codes "SEED") demo)
    ∷ (codes "weigh", files (codes "FILE" ∷ codes "SIZES" ∷ []) (λ given. weigh (given 0) (given 1)))
    ∷ (codes "weighed", files (codes "FILE" ∷ codes "SIZES" ∷ codes "ANSWER" ∷ []) (λ given. weighed (given 0) (given 1) (given 2)))
    ∷ (codes "ask", files (codes "FILE" ∷ codes "PINS" ∷ []) (λ given. ask (given 0) (given 1)))
    ∷ (codes "level", files (codes "FILE" ∷ []) (λ given. level (given 0)))
    ∷ (codes "edit", files (codes "FILE" ∷ codes "EDITS" ∷ []) (λ given. edit (given 0) (given 1)))
    ∷ (codes "meet", files (codes "LEFT" ∷ codes "RIGHT" ∷ []) (λ given. meet (given 0) (given 1)))
    ∷ (codes "met", files (codes "LEFT" ∷ codes "RIGHT" ∷ codes "ANSWER" ∷ []) (λ given. met (given 0) (given 1) (given 2)))
    ∷ []
