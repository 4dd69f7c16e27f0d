-- The words of one subcommand: where clap finds no fault it takes them, and its matches hold a
-- command.
use Rattle.std.proofs.Common.{◌≡◌, ◌∙◌, ◌&&◌, ◌+◌, ◌≤◌, ℕ, Bool, List, [], ◌∷◌, refl, sym, ap, subst, true, false, Some, None, Option, inl, inr, cond}
use Rattle.std.specs.Prelude.{⊤, fold}
use Rattle.std.specs.List.{list_all}
use Rattle.std.specs.Option.{option_map_or}
use Rattle.clap.specs.declared.error.kind.ErrorKind.TheVariants.{UnknownArgument, InvalidSubcommand}
use Rattle.clap.specs.Kinds.{Kinds, or_else}
use Rattle.clap.specs.Faults.{check_fault, defaults_fault, positional_fault, settle_fault, step_fault, stray_fault, turn_fault, walk_fault}
use Rattle.clap.specs.Takes.{default_passes, is_valid, settle_passes, step_passes, turn_passes, walk_passes}
use Rattle.clap.specs.Walk.{Held, Row, Rule, Text, Walk, arg_by_index, finished, settled, to_positional, value, walked}
use Rattle.clap.specs.Simple.{Shape}
use Rattle.clap.specs.ValueTests.{accepts}
use Rattle.clap.specs.declared.builder.value_parser.ValueParser.{ValueParser}
use Rattle.sfm_words.specs.Command.{Command, command_by, demo}
use Rattle.sfm_words.proofs.Turns.{HasHelpOnly, IsValue, at, dashes, dashes_or_value, holding, none_of, not_none, value_fault, value_passes, value_walks}

-- the fault of what is held at the end, and the same as a test
abbrev pub end_fault : Shape → Held → Kinds
end_fault s h = or_else (settle_fault s.rules s.args_override_self h)
    (or_else (defaults_fault (settled s.rules h).rows s.rules)
    (check_fault s (finished s.rules h) false))

abbrev end_passes : Shape → Held → Bool
end_passes s h = settle_passes s.rules s.args_override_self h &&
    (list_all default_passes s.rules && is_valid s (finished s.rules h) false)

-- the walk over the rest of the words has no fault, nor has what is held after it
pub record IsFree (s : Shape) (w : Walk) (words : List Text) : Type 0 where
  pub walk : walk_fault s [] w words ≡ []
  pub end : end_fault s (fold (walked s.rules []) w words).held ≡ []

-- a seed is one of those that the line takes
abbrev pub HasSmallSeed : Command → Type 0
HasSmallSeed (demo seed) = seed ≤ 999999999
HasSmallSeed _ = ⊤

-- what is held at the end passes, and holds the command
pub record HoldsCommand (s : Shape) (h : Held) (command : Command) : Type 0 where
  pub passes : end_passes s h ≡ true
  pub found : command_by (s.name, finished s.rules h) ≡ Some command
  pub small : HasSmallSeed command

-- the walk over the rest of the words passes, and comes to the command
pub record Reaches (s : Shape) (w : Walk) (words : List Text) (command : Command) : Type 0 where
  pub walk : walk_passes s [] w words ≡ true
  pub end : HoldsCommand s (fold (walked s.rules []) w words).held command

-- words with no fault come to some command
abbrev pub ReachesIfFree : Shape → Walk → List Text → Type 0
ReachesIfFree s w words = IsFree s w words → (command : Command) × Reaches s w words command

-- ---- one more word

turn_of : (s : Shape) (w : Walk) (word : Text) (words : List Text) → IsFree s w (word ∷ words)
    → turn_fault s [] w word ≡ []
unfolding walk_fault
turn_of s w word words e = (none_of _ _ e.walk).0

next_of : (s : Shape) (w : Walk) (word : Text) (words : List Text) → IsFree s w (word ∷ words)
    → IsFree s (walked s.rules [] w word) words
unfolding walk_fault
next_of s w word words e = record { walk = (none_of _ _ e.walk).1; end = e.end }

module _ {s : Shape} {w w' : Walk} {word : Text} (goes : walked s.rules [] w word ≡ w')
    (passes : turn_passes s [] w word ≡ true) (words : List Text) where
  ahead : (command : Command) → Reaches s w' words command → Reaches s w (word ∷ words) command
  unfolding walk_passes
  ahead command r =
      let from = subst (λ w. Reaches s w words command) (sym goes) r in
      record { walk = rw (passes, from.walk) refl; end = from.end }

  onward : ReachesIfFree s w' words → ReachesIfFree s w (word ∷ words)
  onward then e =
      let (command, r) = then (subst (λ w. IsFree s w words) goes (next_of s w word words e)) in
      (command, ahead command r)

after_dashes : (c : List Rule) (rows : List Row) (pending : Option (Text × List Text)) (k : ℕ)
    → walked c [] (at rows pending k false) dashes ≡ at rows pending k true
unfolding walked
after_dashes c rows pending k = refl

after_trailing : (c : List Rule) (rows : List Row) (pending : Option (Text × List Text)) (k : ℕ)
    (word : Text)
    → walked c [] (at rows pending k true) word ≡ to_positional c (arg_by_index c k) word
    (at rows pending k true) (holding rows pending)
unfolding walked
after_trailing c rows pending k word = refl

-- ---- places

stray : (s : Shape) (k : ℕ) (h : Held) → arg_by_index s.rules k ≡ None → step_fault s k h value ≡ []
    → ⊥
stray s k h none e = go s.is_leaf
    (sym (ap (λ o. option_map_or (λ a. positional_fault s.rules s.args_override_self a h) o
    (stray_fault s)) none) ∙ e)
  where
    go : (b : Bool) → cond b (UnknownArgument ∷ []) (UnknownArgument ∷ InvalidSubcommand ∷ []) ≡ []
        → ⊥
    go true e = not_none _ _ e
    go false e = not_none _ _ e

-- an argument that has to be there has a place, where the value before it is taken
pub record IsPlace (s : Shape) (rows : List Row) (pending : Option (Text × List Text)) (k : ℕ)
    (Taken : Type 0) (id : Text) (rows' : List Row) : Type 0 where
  pub fault : step_fault s k (holding rows pending) value ≡ [] → Taken
  pub passes : Taken → step_passes s k (holding rows pending) value ≡ true
  pub wants : end_fault s (holding rows pending) ≡ [] → ⊥
  pub goes : (is_trailing : Bool) (word : Text)
      → to_positional s.rules (arg_by_index s.rules k) word (at rows pending k is_trailing)
      (holding rows pending) ≡ at rows' (Some (id, word ∷ [])) (k + 1) is_trailing

-- a word is plainly a value of that form
pub record IsPlain (form : ValueParser) (word : Text) : Type 0 where
  pub is : IsValue word
  pub taken : accepts false form word ≡ true

-- words, and a command: no words, and this command
abbrev pub Ends : Command → List Text → Command → Type 0
Ends made [] command = made ≡ command
Ends made (word ∷ words) command = ⊥

-- a word of that form, and the rest by it
abbrev pub Then : ValueParser → (Text → List Text → Command → Type 0) → List Text → Command
    → Type 0
Then form Rest [] command = ⊥
Then form Rest (word ∷ words) command = IsPlain form word × Rest word words command

-- the rest of the words comes to a command where it has no fault, and to its own where it is plain
-- and the value before it is taken
pub record Handles (s : Shape) (rows : List Row) (pending : Option (Text × List Text)) (k : ℕ)
    (Taken : Type 0) (Plain : List Text → Command → Type 0) : Type 0 where
  pub free : (is_trailing : Bool) (words : List Text)
      → ReachesIfFree s (at rows pending k is_trailing) words
  pub plain : Taken → (words : List Text) (command : Command) → Plain words command
      → Reaches s (at rows pending k false) words command

module _ (s : Shape) (only : HasHelpOnly s.rules) (rows : List Row)
    (pending : Option (Text × List Text)) (k : ℕ) where
  abbrev here : Bool → Walk
  here = at rows pending k

  -- where the next word is two hyphens or a value
  dashes_or : (word : Text) (words : List Text) → ReachesIfFree s (here true) words
      → (IsValue word → ReachesIfFree s (here false) (word ∷ words))
      → ReachesIfFree s (here false) (word ∷ words)
  dashes_or word words then or e =
      let turn = turn_of s (here false) word words e in
      elim (dashes_or_value s [] rows pending k word only refl turn) [
        | inl is ↦ subst (λ v. ReachesIfFree s (here false) (v ∷ words)) (sym is)
            (onward (after_dashes s.rules rows pending k) refl words then) e
        | inr is ↦ or is e
      ]

  -- no place is left
  module _ {Taken : Type 0} (made : Command) (none : arg_by_index s.rules k ≡ None)
      (taken : end_fault s (holding rows pending) ≡ [] → Taken)
      (holds : Taken → HoldsCommand s (holding rows pending) made) where
    full : (is_trailing : Bool) (words : List Text) → ReachesIfFree s (here is_trailing) words
    unfolding walk_passes
    full is_trailing [] e = (made, record { walk = refl; end = holds (taken e.end) })
    full true (word ∷ words) e =
        absurd (stray s k (holding rows pending) none (turn_of s (here true) word words e))
    full false (word ∷ words) e = dashes_or word words (full true words) (λ is e.
        let turn = turn_of s (here false) word words e in
        absurd (stray s k (holding rows pending) none
        (value_fault s [] word refl is rows pending k turn))) e

    full_plain : Taken → (words : List Text) (command : Command) → Ends made words command
        → Reaches s (here false) words command
    unfolding walk_passes
    full_plain t [] command is =
        subst (Reaches s (here false) []) is (record { walk = refl; end = holds t })
    full_plain t (word ∷ words) command is = absurd is

    pub handles_end : Handles s rows pending k Taken (Ends made)
    handles_end = record { free = full; plain = full_plain }

  -- the place of an argument that has to be there
  module _ {Taken : Type 0} {id : Text} {rows' : List Row}
      (place : IsPlace s rows pending k Taken id rows')
      (form : ValueParser) (Rest : Text → List Text → Command → Type 0)
      (then : (word : Text)
      → Handles s rows' (Some (id, word ∷ [])) (k + 1) (accepts false form word ≡ true)
      (Rest word)) where
    value_goes : (word : Text) → IsValue word
        → walked s.rules [] (here false) word ≡ at rows' (Some (id, word ∷ [])) (k + 1) false
    value_goes word is = value_walks s.rules [] word refl is rows pending k ∙ place.goes false word

    at_place : (is_trailing : Bool) (words : List Text)
        → ReachesIfFree s (here is_trailing) words
    at_place is_trailing [] e = absurd (place.wants e.end)
    at_place true (word ∷ words) e =
        onward (after_trailing s.rules rows pending k word ∙ place.goes true word)
        (place.passes (place.fault (turn_of s (here true) word words e))) words
        ((then word).free true words) e
    at_place false (word ∷ words) e = dashes_or word words (at_place true words) (λ is e.
        let turn = value_fault s [] word refl is rows pending k
        (turn_of s (here false) word words e) in
        onward (value_goes word is)
        (value_passes s [] word refl is rows pending k (place.passes (place.fault turn))) words
        ((then word).free false words) e) e

    at_place_plain : Taken → (words : List Text) (command : Command)
        → Then form Rest words command → Reaches s (here false) words command
    at_place_plain t [] command rest = absurd rest
    at_place_plain t (word ∷ words) command (is, rest) =
        ahead (value_goes word is.is)
        (value_passes s [] word refl is.is rows pending k (place.passes t)) words command
        ((then word).plain is.taken words command rest)

    pub handles_place : Handles s rows pending k Taken (Then form Rest)
    handles_place = record { free = at_place; plain = at_place_plain }
