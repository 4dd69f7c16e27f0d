-- The pieces of the text as the code writes them: names, for which nothing is drawn, numbers, and
-- the lines of all terms.
use Rattle.std.specs.Prelude.{◌≡◌, ℕ, List, ◌∷◌, ◌++◌, ℤ, pos}
use Rattle.std.specs.Fmt.{signed_decimal}
use Rattle.std.specs.List.{flat_map}
use Rattle.sfm_demo.specs.declared.kind.Item.{Item}
use Rattle.sfm_demo.specs.declared.kind.Item.TheVariants.{Pair, Edge, Entry}
use Rattle.sfm_demo.specs.declared.kind.LineKind.TheVariants.{Cut, Need, Cover, Concave, Uniform, Laminar, Graphic, Transversal, Table}
use Rattle.sfm_demo.specs.Draws.{Drawing, draw, done, ◌>>=◌, ◌>>◌}
use Rattle.sfm_demo.specs.DemoText.{each, edge, element, entry, level, lines, pair, set_values}

-- the text that is drawn from a state on stands behind what was there, and its draws are made
pub record IsPut (piece : Drawing (List ℕ)) (out more : List ℕ) (from to : ℕ) : Type 0 where
  pub text : more ≡ out ++ (piece from).value
  pub after : to ≡ (piece from).state

-- the text of an element with what is drawn for it
abbrev pub item_of : Item → ℕ → Drawing (List ℕ)
item_of Pair = pair
item_of Edge = edge
item_of Entry = entry

-- the names of so many elements from p on, each a step behind the one before, round the 200
unfoldable pub names : ℕ → ℕ → ℕ → List ℕ
names p step count = (each element p step count 0).value

-- each number behind a space
abbrev pub numbers : List ℤ → List ℕ
numbers xs = flat_map (λ a. 32 ∷ signed_decimal a) xs

-- the lines of the terms behind the weights: those of four kinds, and those of the others
abbrev pub first_lines : Drawing (List ℕ)
first_lines = lines 100 Cut >> lines 20 Need >> lines 20 Cover >> lines 10 Concave

abbrev pub last_lines : Drawing (List ℕ)
last_lines = lines 5 Uniform >> lines 5 Laminar >> lines 5 Graphic >> lines 5 Transversal >> lines 5
    Table

unfoldable pub term_lines : Drawing (List ℕ)
term_lines = first_lines >> last_lines

-- the values of the sets of a table
unfoldable pub table_drawn : Drawing (List ℤ)
table_drawn = do
  x ← level
  y ← level
  z ← level
  t ← draw 300
  done (set_values x y z (pos t))
