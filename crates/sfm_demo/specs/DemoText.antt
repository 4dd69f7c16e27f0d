-- The text of a demonstration instance: 200 elements, and 176 terms of all kinds, drawn from a seed. Texts that `>>` joins stand one
-- behind another, and so do those of the lines of a `do` block. The draws are made in the order in which they are named.
use Prim.Native.String.{String}
use Rattle.std.specs.Prelude.{ℕ, zero, suc, ◌+◌, ◌-◌, ◌*◌, ◌%◌, List, [], ◌∷◌, ◌++◌, codes, ℤ, pos, ◌+ℤ◌, ◌-ℤ◌}
use Rattle.std.specs.Fmt.{decimal, signed_decimal}
use Rattle.std.specs.List.{flat_map}
use Rattle.sfm_demo.specs.declared.kind.LineKind.{LineKind}
use Rattle.sfm_demo.specs.declared.kind.LineKind.TheVariants.{Cut, Need, Cover, Concave, Uniform, Laminar, Graphic, Transversal, Table}
use Rattle.sfm_demo.specs.Draws.{Drawing, draw, done, ◌>>=◌, ◌>>◌}

-- a text for which nothing is drawn
abbrev pub say : String → Drawing (List ℕ)
say text = done (codes text)

-- the name of an element behind a space
unfoldable pub element : ℕ → Drawing (List ℕ)
element e = done (codes " e" ++ decimal e)

-- a drawn number below k
abbrev pub number : ℕ → Drawing (List ℕ)
number k = draw k >>= λ n. done (decimal n)

-- two different drawn numbers below k, each behind a text
abbrev pub two : ℕ → String → String → Drawing (List ℕ)
two k first second = do
  a ← draw k
  d ← draw (k - 1)
  say first >> done (decimal a) >> say second >> done (decimal ((a + 1 + d) % k))

-- the texts for 0, 1, 2 and so on, n of them
unfoldable pub series : ℕ → (ℕ → Drawing (List ℕ)) → Drawing (List ℕ)
series zero text = say ""
series (suc n) text = series n text >> text n

-- a text for each of so many elements from p on, each a step behind the one before, round the 200
unfoldable pub each : (ℕ → Drawing (List ℕ)) → ℕ → ℕ → ℕ → Drawing (List ℕ)
each text p step count = series count (λ j. text ((p + step * j) % 200))

-- the same from a drawn element on
abbrev pub some : (ℕ → Drawing (List ℕ)) → ℕ → ℕ → Drawing (List ℕ)
some text step count = draw 200 >>= λ p. each text p step count

-- an element and its weight, from -1000 to 1000
unfoldable pub pair : ℕ → Drawing (List ℕ)
pair e = element e >> say ":" >> (draw 2001 >>= λ w. done (signed_decimal (pos w -ℤ pos 1000)))

-- an element and two of six vertices
unfoldable pub edge : ℕ → Drawing (List ℕ)
edge e = element e >> say "=v" >> number 6 >> say "-v" >> number 6

-- an element and two different ones of five slots
unfoldable pub entry : ℕ → Drawing (List ℕ)
entry e = element e >> two 5 "=s" ",s"

-- so many numbers that follow a: their increments fall, each being the one before, at first d, less a draw
unfoldable pub falling : ℕ → ℤ → ℤ → Drawing (List ℕ)
falling zero a d = say ""
falling (suc n) a d = do
  less ← draw 150
  say " " >> done (signed_decimal (a +ℤ (d -ℤ pos less))) >> falling n (a +ℤ (d -ℤ pos less)) (d -ℤ pos less)

-- a number from -200 to 200
unfoldable pub level : Drawing ℤ
level = draw 401 >>= λ n. done (pos n -ℤ pos 200)

-- the values of the sets of three elements, by their numbers: what the members bring, and t where there are any
unfoldable pub set_values : ℤ → ℤ → ℤ → ℤ → List ℤ
set_values x y z t = pos 0 ∷ (x +ℤ t) ∷ (y +ℤ t) ∷ (x +ℤ y +ℤ t) ∷ (z +ℤ t) ∷ (x +ℤ z +ℤ t) ∷ (y +ℤ z +ℤ t) ∷ (x +ℤ y +ℤ z +ℤ t) ∷ []

-- a line of each kind of term
unfoldable pub line_of : LineKind → Drawing (List ℕ)
line_of Cut = say "cut " >> number 400 >> two 200 " e" " e"
line_of Need = say "need" >> two 200 " e" " e"
line_of Cover = say "cover " >> number 1500 >> some element 7 6
line_of Concave = do
  p ← draw 200
  d ← draw 600
  say "concave " >> done (decimal d) >> falling 7 (pos d) (pos d)
  say " :" >> each element p 11 8
line_of Uniform = say "rank " >> number 500 >> say " uniform " >> (draw 9 >>= λ c. done (decimal (1 + c))) >> say " :" >> some element 3 10
line_of Laminar = do
  say "rank " >> number 500
  c ← draw 2
  p ← draw 200
  say " laminar :" >> each element p 1 10 >> say " ; 4" >> each element p 1 6
  say " ; " >> done (decimal (1 + c)) >> each element p 1 3
line_of Graphic = say "rank " >> number 500 >> say " graphic :" >> some edge 13 10
line_of Transversal = say "rank " >> number 500 >> say " transversal :" >> some entry 9 8
line_of Table = do
  p ← draw 200
  x ← level
  y ← level
  z ← level
  t ← draw 300
  say "table" >> done (flat_map (λ a. 32 ∷ signed_decimal a) (set_values x y z (pos t))) >> say " :" >> each element p 17 3

-- so many lines of a kind
unfoldable pub lines : ℕ → LineKind → Drawing (List ℕ)
lines n kind = series n (λ i. line_of kind >> say "\n")

-- all lines
abbrev pub demo : Drawing (List ℕ)
demo = do
  say "sfm 1\nground" >> each element 0 1 200
  say "\nweight" >> each pair 0 1 200
  say "\n" >> lines 100 Cut >> lines 20 Need >> lines 20 Cover >> lines 10 Concave
  lines 5 Uniform >> lines 5 Laminar >> lines 5 Graphic >> lines 5 Transversal >> lines 5 Table
  say "end\n"

-- the text of a seed
unfoldable pub demo_text_of : ℕ → List ℕ
demo_text_of seed = (demo seed).value
