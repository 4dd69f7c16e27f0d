-- Which answers a text can hold: their numbers, sets and lists have the sizes that the ground and the terms ask for.
use Rattle.std.specs.Prelude.{◌≡◌, ℕ, ◌<◌, ◌≤◌, Bool, List, length, map, ℤ}
use Rattle.std.specs.List.{All}
use Rattle.std.specs.List.Sorted.{IsStrictlyIncreasing}
use Rattle.sfm_spec.specs.Sets.{Has}
use Rattle.sfm_spec.specs.Bounds.{IsEntry, IsFactor}
use Rattle.sfm_spec.specs.Slopes.{IsLowest}
use Rattle.sfm_spec.specs.Blocks.{Block, block_at}
use Rattle.sfm_cert.specs.Answer.{Answer, Break, Form}

-- a set of n places with at least one member
pub record IsSomeSet (n : ℕ) (s : List Bool) : Type 0 where
  pub places : length s ≡ n
  pub some : (e : ℕ) × Has s e

-- the block that stands behind i others: it needs some of these
pub record IsFormedBlock (n i : ℕ) (block : Block) : Type 0 where
  pub members : IsSomeSet n block.members
  pub ascending : IsStrictlyIncreasing block.needs
  pub before : All (λ j. (1 ≤ j) × (j ≤ i)) block.needs

-- a row of small numbers for each term, as long as the term has elements
pub record AreFormedRows (widths : List ℕ) (rows : List (List ℤ)) : Type 0 where
  pub widths_are : map length rows ≡ widths
  pub small : All (λ x. All IsEntry x) rows

-- a slope in lowest terms with a set, and bases
pub record IsFormedBreak (n : ℕ) (widths : List ℕ) (b : Break) : Type 0 where
  pub lowest : IsLowest b.num b.den
  pub entry : IsEntry b.num
  pub factor : IsFactor b.den
  pub members : IsSomeSet n b.members
  pub bases : AreFormedRows widths b.bases

-- the answer has the form that names and terms ask of it
pub record IsFormed (form : Form) (a : Answer) : Type 0 where
  pub value : IsEntry a.value
  pub least : length a.least ≡ length form.names
  pub greatest : length a.greatest ≡ length form.names
  pub blocks : (i : ℕ) → i < length a.blocks → IsFormedBlock (length form.names) i (block_at a.blocks i)
  pub bases : AreFormedRows form.widths a.bases
  pub breaks : All (IsFormedBreak (length form.names) form.widths) a.breaks
