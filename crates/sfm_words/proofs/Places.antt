-- The arguments of a subcommand, one behind another: how a value is held, used and told of by the
-- next, whatever its form and the name of its argument.
use Rattle.std.proofs.Common.{◌≡◌, ◌∙◌, ◌+◌, ℕ, Bool, List, [], ◌∷◌, refl, sym, ap, true, false, Option, Some, None, cond}
use Rattle.std.specs.Prelude.{⊤, fold, min}
use Rattle.std.proofs.Math.Bool.{or-false}
use Rattle.std.specs.List.{list_all}
use Rattle.clap.specs.Lexer.{usize_max}
use Rattle.clap.specs.Values.{reading_of}
use Rattle.clap.specs.ValueTests.{accepts}
use Rattle.clap.specs.Words.{Row, Rule, Shape, Text}
use Rattle.clap.specs.Walk.{arg_by_id, arg_by_index, default_rows, finished, has_row, is_empty, is_pending, reading_by, settled_rows, used, with_default}
use Rattle.clap.specs.Takes.{default_passes, is_valid, settle_passes}
use Rattle.clap.specs.Simple.{filled, with_index}
use Rattle.clap.specs.Faults.{check_fault, settle_fault}
use Rattle.clap.specs.Kinds.{or_else}
use Rattle.clap.specs.Values.{refused_kind}
use Rattle.clap.specs.declared.builder.value_parser.ValueParser.{ValueParser}
use Rattle.clap.specs.declared.parser.matches.ValueSource.TheVariants.{CommandLine}
use Rattle.clap.proofs.SimpleLemmas.{is_nil}
use Rattle.clap.proofs.WalkLemmas.{both}
use Rattle.sfm_words.specs.Line.{word_rule}
use Rattle.sfm_words.specs.Command.{Command, command_by}
use Rattle.sfm_words.proofs.Turns.{holding, none_of, not_none}
use Rattle.sfm_words.proofs.Levels.{HasSmallSeed, HoldsCommand, IsPlace, end_fault}

-- the argument of that form, as it is built at a place
abbrev pub place : ValueParser → ℕ → Text → Rule
place form k id = with_index k (filled (word_rule form id))

-- what is found for it
abbrev pub row : ValueParser → Text → Text → Row
row form id word = record {
  id = id;
  values = word ∷ [];
  count = None;
  source = Some CommandLine;
  reading = reading_of form;
}

-- ---- no default values

abbrev is_bare : Rule → Bool
is_bare a = is_empty a.defaults

with_none : (a : Rule) (rows : List Row) → is_bare a ≡ true → with_default rows a ≡ rows
with_none a rows bare = go (has_row a.id rows)
  where
    go : (b : Bool) → cond b rows (default_rows a.id (reading_by a) a.defaults rows) ≡ rows
    go true = refl
    go false = ap (λ ds. default_rows a.id (reading_by a) ds rows) (is_nil a.defaults bare)

-- arguments with no default value add no rows
kept : (rules : List Rule) (rows : List Row) → list_all is_bare rules ≡ true
    → fold with_default rows rules ≡ rows
kept [] rows bare = refl
kept (a ∷ rules) rows bare =
    let parts = both _ _ bare in
    ap (λ r. fold with_default r rules) (with_none a rows parts.0) ∙ kept rules rows parts.1

-- ---- what is held

-- what is held has no fault only where the last value is taken, passes there, and leads to the rows
pub record IsHeld (s : Shape) (rows : List Row) (pending : Option (Text × List Text))
    (Taken : Type 0) (rows' : List Row) : Type 0 where
  pub fault : settle_fault s.rules s.args_override_self (holding rows pending) ≡ [] → Taken
  pub passes : Taken → settle_passes s.rules s.args_override_self (holding rows pending) ≡ true
  pub stored : settled_rows s.rules pending rows ≡ rows'

pub nothing : {s : Shape} → IsHeld s [] None ⊤ []
nothing = record { fault = λ e. tt; passes = λ t. refl; stored = refl }

-- a value that waits to be used, the first of its argument
pub waiting : {s : Shape} (form : ValueParser) (j : ℕ) (id : Text) (rows rows' : List Row)
    (word : Text) → arg_by_id s.rules id ≡ Some (place form j id) → has_row id rows ≡ false
    → used (place form j id) (word ∷ []) rows ≡ rows'
    → IsHeld s rows (Some (id, word ∷ [])) (accepts false form word ≡ true) rows'
waiting form j id rows rows' word known fresh stored = record {
  fault = λ e. go (accepts false form word) (rw (known, fresh) at e);
  passes = λ taken. rw (known, fresh, taken) refl;
  stored = rw (known, stored) refl;
}
  where
    go : (b : Bool) → or_else (cond b [] (refused_kind form ∷ [])) [] ≡ [] → b ≡ true
    go true e = refl
    go false e = absurd (not_none _ _ e)

module _ {s : Shape} {rows : List Row} {pending : Option (Text × List Text)} {Taken : Type 0}
    {rows' : List Row} (h : IsHeld s rows pending Taken rows')
    (bare : list_all is_bare s.rules ≡ true) where
  finished_is : finished s.rules (holding rows pending) ≡ rows'
  finished_is = ap (λ r. fold with_default r s.rules) h.stored ∙ kept s.rules rows' bare

  -- the next argument has its place
  pub has_place : (form : ValueParser) (k : ℕ) (id : Text)
      → arg_by_index s.rules k ≡ Some (place form k id)
      → is_pending (place form k id) pending ≡ false → min (k + 1) usize_max ≡ k + 1
      → (check_fault s rows' false ≡ [] → ⊥) → IsPlace s rows pending k Taken id rows'
  has_place form k id here apart step lacks = record {
    fault = λ e. h.fault (rw (here, apart) at e);
    passes = λ t. rw (here, apart) (h.passes t);
    wants = λ e. lacks (sym (ap (λ r. check_fault s r false) finished_is)
        ∙ (none_of _ _ (none_of _ _ e).1).1);
    goes = λ t word. rw (here, apart, h.stored, step, or-false t) refl;
  }

  -- the value was the last
  pub holds : (command : Command) → list_all default_passes s.rules ≡ true
      → is_valid s rows' false ≡ true → command_by (s.name, rows') ≡ Some command
      → HasSmallSeed command → Taken → HoldsCommand s (holding rows pending) command
  holds command defaults valid found small t = record {
    passes = rw (h.passes t, defaults, finished_is) valid;
    found = rw finished_is found;
    small = small;
  }

pub taken_at_end : {s : Shape} {rows : List Row} {pending : Option (Text × List Text)}
    {Taken : Type 0} {rows' : List Row} → IsHeld s rows pending Taken rows'
    → end_fault s (holding rows pending) ≡ [] → Taken
taken_at_end h e = h.fault (none_of _ _ e).0
