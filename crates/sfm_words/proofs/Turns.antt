-- What a word is to a command with no flag but that for help: two hyphens, a value, or a fault.
use Rattle.std.proofs.Common.{◌≡◌, ◌∙◌, ◌⊎◌, arith, ℕ, zero, suc, Bool, List, [], ◌∷◌, refl, sym, ap, true, false, Some, None, Option, inl, inr, cond, length, lt-ltb, nat_lt}
use Rattle.std.specs.Prelude.{slice_get}
use Rattle.std.specs.Option.{option_map_or}
use Rattle.std.specs.Str.{bytes_eq, chars}
use Rattle.std.proofs.lemmas.Slice.Eq.{bytes_eq-Decides}
use Rattle.clap.specs.Lexer.{long_of, short_of}
use Rattle.clap.specs.Kinds.{Kinds, or_else}
use Rattle.clap.specs.Faults.{bundle_fault, bundle_step_fault, flag_word_fault, flags_fault, other_fault, long_fault, react_fault, short_fault, step_fault, turn_fault}
use Rattle.clap.specs.Takes.{bundle_step_passes, flags_pass, step_passes, turn_passes}
use Rattle.clap.specs.Walk.{Held, Names, Row, Rule, Text, Walk, after_flag, after_step, arg_by_index, arg_by_long, arg_by_short, bundle_met, idle, plain, short_or_plain, subcommand_met, to_positional, value, walked, word_met}
use Rattle.clap.specs.Simple.{Shape, filled, help_rule}
use Rattle.clap.proofs.WalkLemmas.{bundle_ends}

-- ---- lists of faults

pub not_none : {X : Type 0} (x : X) (xs : List X) → x ∷ xs ≡ [] → ⊥
not_none x xs e = let bad : suc (length xs) ≡ 0 = ap length e in absurd (omega arith)

pub none_of : (a b : Kinds) → or_else a b ≡ [] → (a ≡ []) × (b ≡ [])
none_of [] b e = (refl, e)
none_of (k ∷ ks) b e = absurd (not_none k ks e)

-- a word with a first byte is not empty
pub some_word : (x : ℕ) (xs : Text) → nat_lt 0 (length (x ∷ xs)) ≡ true
some_word x xs = lt-ltb 0 (length (x ∷ xs)) (omega arith)

-- ---- where a level stands

-- what is held, with no flag to pass over
abbrev pub holding : List Row → Option (Text × List Text) → Held
holding rows pending = record { rows = rows; pending = pending; skip = 0 }

-- between two words, where no option waits
abbrev pub at : List Row → Option (Text × List Text) → ℕ → Bool → Walk
at rows pending position is_trailing = record {
  held = holding rows pending;
  waiting = idle;
  position = position;
  is_trailing = is_trailing;
  stopped = None;
}

-- two hyphens
abbrev pub dashes : Text
dashes = 45 ∷ 45 ∷ []

-- the word is neither two hyphens nor a flag
pub record IsValue (word : Text) : Type 0 where
  pub apart : bytes_eq word dashes ≡ false
  pub long : long_of word ≡ None
  pub short : (flags : Text) → short_of word ≡ Some flags → slice_get (chars flags) 0 ≡ None

abbrev pub help : Rule
help = filled help_rule

-- the only flag is that for help
pub record HasHelpOnly (c : List Rule) : Type 0 where
  pub long : (name : Text) → (arg_by_long c name ≡ None) ⊎ (arg_by_long c name ≡ Some help)
  pub short : (x : ℕ) → (arg_by_short c x ≡ None) ⊎ (arg_by_short c x ≡ Some help)

help_fails : (c : List Rule) (again : Bool) (h : Held) → react_fault c again help [] h ≡ [] → ⊥
help_fails c again h e = not_none _ _ (none_of _ _ e).1

long_fails : (c : List Rule) (again : Bool) (name : Text) (v : Option Text) (h : Held)
    → HasHelpOnly c → long_fault c again (arg_by_long c name) v h ≡ [] → ⊥
long_fails c again name v h only e = elim (only.long name) [
  | inl none ↦ not_none _ _ (sym (ap (λ o. long_fault c again o v h) none) ∙ e)
  | inr some ↦ go v (sym (ap (λ o. long_fault c again o v h) some) ∙ e)
]
  where
    go : (v : Option Text) → long_fault c again (Some help) v h ≡ [] → ⊥
    go None e = help_fails c again h e
    go (Some t) e = not_none _ _ e

short_fails : (c : List Rule) (again : Bool) (x : ℕ) (rest : Text) (h : Held) (next : Held → Kinds)
    → HasHelpOnly c → short_fault c again (arg_by_short c x) rest h next ≡ [] → ⊥
short_fails c again x rest h next only e = elim (only.short x) [
  | inl none ↦ not_none _ _ (sym (ap (λ o. short_fault c again o rest h next) none) ∙ e)
  | inr some ↦ help_fails c again h
      (none_of _ _ (sym (ap (λ o. short_fault c again o rest h next) some) ∙ e)).0
]

bundle_is_none : (c : List Rule) (again : Bool) (flags : Text) (h : Held) → HasHelpOnly c
    → bundle_fault c again flags (record h { skip = 0 }) ≡ [] → slice_get (chars flags) 0 ≡ None
unfolding flags_fault chars
bundle_is_none c again [] h only e = refl
bundle_is_none c again (x ∷ flags) h only e = go (slice_get (chars (x ∷ flags)) 0) e
  where
    go : (o : Option ℕ) → bundle_step_fault c again o (x ∷ flags) 0 (record h { skip = 0 })
        (flags_fault c again (length flags)) ≡ [] → o ≡ None
    go None e = refl
    go (Some y) e = absurd (short_fails c again y _ (record h { skip = 0 }) _ only e)

-- a word that is no fault is two hyphens or a value
pub dashes_or_value : (s : Shape) (names : Names) (rows : List Row)
    (pending : Option (Text × List Text)) (position : ℕ) (word : Text)
    → HasHelpOnly s.rules → subcommand_met names idle word ≡ None
    → turn_fault s names (at rows pending position false) word ≡ [] → (word ≡ dashes)
    ⊎ IsValue word
dashes_or_value s names rows pending position word only met e =
    go (bytes_eq word dashes) refl (sym (ap (λ o. other_fault s o word h) met) ∙ (none_of _ _ e).0)
  where
    h : Held
    h = holding rows pending

    again : Bool
    again = s.args_override_self

    no_long : (o : Option (Text × Option Text)) → flag_word_fault s.rules again o word h ≡ []
        → (o ≡ None) × (flag_word_fault s.rules again None word h ≡ [])
    no_long None e = (refl, e)
    no_long (Some p) e = absurd (long_fails s.rules again p.0 p.1 h only e)

    no_short : (o : Option Text) (flags : Text)
        → option_map_or (λ flags. bundle_fault s.rules again flags h) o [] ≡ [] → o ≡ Some flags
        → slice_get (chars flags) 0 ≡ None
    no_short o flags e is = bundle_is_none s.rules again flags h only
        (sym (ap (λ o. option_map_or (λ flags. bundle_fault s.rules again flags h) o []) is) ∙ e)

    go : (b : Bool) → bytes_eq word dashes ≡ b
        → cond b [] (flag_word_fault s.rules again (long_of word) word h) ≡ [] → (word ≡ dashes)
        ⊎ IsValue word
    go true is e = inl ((bytes_eq-Decides word dashes).0 is)
    go false is e =
        let none = no_long (long_of word) e in
        inr (record {
          apart = is;
          long = none.0;
          short = λ flags. no_short (short_of word) flags none.1;
        })

-- ---- a value

module _ (c : List Rule) (names : Names) (word : Text) (met : subcommand_met names idle word ≡ None)
    (is : IsValue word) where
  bundle_plain : (flags : Text) (h : Held) → short_of word ≡ Some flags
      → bundle_met c (length flags) flags 0 plain h ≡ (h, plain)
  bundle_plain flags h at = sym (bundle_ends c (length flags) flags 0 plain h
      (sym (is.short flags at)))

  short_plain : (rows : List Row) (pending : Option (Text × List Text)) (o : Option Text)
      → short_of word ≡ o
      → short_or_plain c idle word o (holding rows pending) ≡ (holding rows pending, value)
  short_plain rows pending None at = refl
  short_plain rows pending (Some flags) at =
      ap (λ p. after_flag c idle word p.0 p.1) (bundle_plain flags (holding rows pending) at)

  pub value_met : (rows : List Row) (pending : Option (Text × List Text)) (position : ℕ)
      → word_met c names false idle position word
      (holding rows pending) ≡ (holding rows pending, value)
  value_met rows pending position =
      rw (met, is.apart, is.long) (short_plain rows pending (short_of word) refl)

  pub value_walks : (rows : List Row) (pending : Option (Text × List Text)) (position : ℕ)
      → walked c names (at rows pending position false) word ≡ to_positional c
      (arg_by_index c position) word (at rows pending position false) (holding rows pending)
  unfolding walked
  value_walks rows pending position =
      ap (λ p. after_step c word (at rows pending position false) p.0 p.1)
      (value_met rows pending position)

module _ (s : Shape) (names : Names) (word : Text) (met : subcommand_met names idle word ≡ None)
    (is : IsValue word) where
  pub value_fault : (rows : List Row) (pending : Option (Text × List Text)) (position : ℕ)
      → turn_fault s names (at rows pending position false) word ≡ []
      → step_fault s position (holding rows pending) value ≡ []
  value_fault rows pending position e =
      sym (ap (λ p. step_fault s position p.0 p.1)
      (value_met s.rules names word met is rows pending position)) ∙ (none_of _ _ e).1

  no_flags : (k : ℕ) (flags : Text) (h : Held) → slice_get (chars flags) 0 ≡ None
      → flags_pass s.rules s.args_override_self k flags 0 h ≡ true
  unfolding flags_pass
  no_flags zero flags h none = refl
  no_flags (suc k) flags h none =
      ap (λ o. bundle_step_passes s.rules s.args_override_self o flags 0 h
      (flags_pass s.rules s.args_override_self k)) none

  short_passes : (h : Held) (o : Option Text) → short_of word ≡ o
      → option_map_or (λ flags. flags_pass s.rules s.args_override_self (length flags) flags 0 h) o
      true ≡ true
  short_passes h None at = refl
  short_passes h (Some flags) at = no_flags (length flags) flags h (is.short flags at)

  pub value_passes : (rows : List Row) (pending : Option (Text × List Text)) (position : ℕ)
      → step_passes s position (holding rows pending) value ≡ true
      → turn_passes s names (at rows pending position false) word ≡ true
  value_passes rows pending position e =
      rw (
        value_met s.rules names word met is rows pending position,
        met,
        is.apart,
        is.long,
        short_passes (holding rows pending) (short_of word) refl,
      ) e
