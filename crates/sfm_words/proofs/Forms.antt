-- The words behind that of a subcommand, for each form of them: where clap finds no fault it takes
-- them, and finds a command; and where they are plain, theirs.
use Rattle.std.proofs.Common.{◌^◌, ◌≡◌, ◌≤◌, ◌⊎◌, ◌==◌, ◌||◌, ℕ, Bool, List, [], ◌∷◌, refl, true, false, Some, None, inl, inr, codes, cond, get_or}
use Rattle.std.specs.Prelude.{⊤, nat_lt}
use Rattle.std.specs.Map.{lookup}
use Rattle.std.specs.Str.{bytes_eq}
use Rattle.std.specs.Str.Parse.{digits_value, without_leading_plus}
use Rattle.std.proofs.lemmas.Bool.{leb-true}
use Rattle.std.proofs.lemmas.Slice.Eq.{bytes_eq-Decides}
use Rattle.clap.specs.Words.{Rule, Shape, Text}
use Rattle.clap.specs.Walk.{arg_by_long, arg_by_short}
use Rattle.clap.specs.Simple.{built_leaf, inherited, with_leaf_noted}
use Rattle.clap.specs.ValueTests.{accepts, is_numeral}
use Rattle.clap.specs.declared.builder.value_parser.ValueParser.{ValueParser}
use Rattle.clap.specs.declared.builder.value_parser.ValueParser.TheVariants.{NonEmptyString, Unsigned}
use Rattle.clap.proofs.WalkLemmas.{both}
use Rattle.sfm_words.specs.Line.{app_of, sfm_line}
use Rattle.sfm_words.specs.Command.{Command}
use Rattle.sfm_words.specs.Subcommand.{Maker, files, number, subcommands}
use Rattle.sfm_words.proofs.Turns.{HasHelpOnly, help, not_none, holding}
use Rattle.sfm_words.proofs.Levels.{Ends, Handles, HasSmallSeed, HoldsCommand, Then, handles_end, handles_place}
use Rattle.sfm_words.proofs.Places.{IsHeld, has_place, holds, nothing, row, taken_at_end, waiting}

-- a subcommand as it is built
abbrev pub sub_of : Text → Maker → Shape
sub_of verb maker = built_leaf
    (inherited (with_leaf_noted (record sfm_line.top { is_built = true }))
    (app_of (verb, maker)).top)

same : (a : Text) → bytes_eq a a ≡ true
same a = (bytes_eq-Decides a a).1 refl

help_or_none : (b : Bool) → (cond b (Some help) None ≡ None) ⊎ (cond b (Some help) None ≡ Some help)
help_or_none true = inr refl
help_or_none false = inl refl

-- rules that know the flag for help by its two names, and no other flag
pub has_help_only : (rules : List Rule)
    → ((name : Text) → arg_by_long rules name ≡ cond (bytes_eq (codes "help") name || false)
    (Some help) None)
    → ((x : ℕ) → arg_by_short rules x ≡ cond ((104 == x) || false) (Some help) None)
    → HasHelpOnly rules
has_help_only rules long short = record {
  long = λ name. rw (long name) (help_or_none _);
  short = λ x. rw (short x) (help_or_none _);
}

-- ---- the words of each form

-- words that are read, and plain ones that are a command's
abbrev pub HandlesWords : Shape → (List Text → Command → Type 0) → Type 0
HandlesWords s Plain = Handles s [] None 1 ⊤ Plain

abbrev name : ValueParser
name = NonEmptyString

-- a whole number that the line takes
abbrev whole : ValueParser
whole = Unsigned 0 999999999

-- words that are plainly names of files, one for each argument, and the command that they make
abbrev pub PlainNames : List Text → (List Text → Command) → List Text → Command → Type 0
PlainNames [] make = Ends (make [])
PlainNames (a ∷ names) make = Then name (λ x. PlainNames names (λ texts. make (x ∷ texts)))

-- the command that is made of the texts, each by its place
abbrev pub made_by : ((ℕ → Text) → Command) → List Text → Command
made_by make texts = make (λ i. get_or texts i [])

-- the number of a text
abbrev pub value_of : Text → ℕ
value_of text = digits_value 10 (without_leading_plus text)

module _ (verb a : Text) (make : (ℕ → Text) → Command)
    (listed : lookup (λ word. bytes_eq word verb) subcommands ≡ Some (files (a ∷ []) make))
    (small : (given : ℕ → Text) → HasSmallSeed (make given)) where
  abbrev one_sub : Shape
  one_sub = sub_of verb (files (a ∷ []) make)

  one_helps : HasHelpOnly one_sub.rules
  one_helps = has_help_only _ (λ long. refl) (λ short. refl)

  one_a : (x : Text) → IsHeld one_sub [] (Some (a, x ∷ [])) (accepts false name x ≡ true)
      (row name a x ∷ [])
  one_a x = waiting name 1 a [] _ x (rw (same a) refl) refl refl

  one_words : HandlesWords one_sub (PlainNames (a ∷ []) (made_by make))
  one_words = handles_place one_sub one_helps [] None 1
      (has_place nothing refl name 1 a refl refl refl (λ e. not_none _ _ e)) name _ (λ x.
      handles_end one_sub one_helps [] (Some (a, x ∷ [])) 2 (made_by make (x ∷ [])) refl
      (taken_at_end (one_a x)) (holds (one_a x) refl (made_by make (x ∷ [])) refl
      (rw (same a) refl) (rw (listed, same a) refl) (small _)))

module _ (verb a b : Text) (make : (ℕ → Text) → Command)
    (listed : lookup (λ word. bytes_eq word verb) subcommands ≡ Some (files (a ∷ b ∷ []) make))
    (ab : bytes_eq a b ≡ false) (small : (given : ℕ → Text) → HasSmallSeed (make given)) where
  abbrev two_sub : Shape
  two_sub = sub_of verb (files (a ∷ b ∷ []) make)

  two_helps : HasHelpOnly two_sub.rules
  two_helps = has_help_only _ (λ long. refl) (λ short. refl)

  two_a : (x : Text) → IsHeld two_sub [] (Some (a, x ∷ [])) (accepts false name x ≡ true)
      (row name a x ∷ [])
  two_a x = waiting name 1 a [] _ x (rw (same a) refl) refl refl

  two_b : (x y : Text) → IsHeld two_sub (row name a x ∷ []) (Some (b, y ∷ []))
      (accepts false name y ≡ true) (row name a x ∷ row name b y ∷ [])
  two_b x y = waiting name 2 b _ _ y (rw (ab, same b) refl) (rw ab refl) (rw (ab, ab) refl)

  two_words : HandlesWords two_sub (PlainNames (a ∷ b ∷ []) (made_by make))
  two_words = handles_place two_sub two_helps [] None 1
      (has_place nothing refl name 1 a refl refl refl (λ e. not_none _ _ e)) name _ (λ x.
      handles_place two_sub two_helps [] (Some (a, x ∷ [])) 2
      (has_place (two_a x) refl name 2 b refl ab refl
      (λ e. not_none _ _ (rw (same a, ab) at e))) name _ (λ y.
      handles_end two_sub two_helps _ (Some (b, y ∷ [])) 3 (made_by make (x ∷ y ∷ [])) refl
      (taken_at_end (two_b x y)) (holds (two_b x y) refl (made_by make (x ∷ y ∷ [])) refl
      (rw (same a, ab, same b) refl) (rw (listed, same a, ab, same b) refl) (small _))))

module _ (verb a b c : Text) (make : (ℕ → Text) → Command)
    (listed : lookup (λ word. bytes_eq word verb) subcommands ≡ Some (files (a ∷ b ∷ c ∷ []) make))
    (ab : bytes_eq a b ≡ false) (ac : bytes_eq a c ≡ false) (bc : bytes_eq b c ≡ false)
    (small : (given : ℕ → Text) → HasSmallSeed (make given)) where
  abbrev three_sub : Shape
  three_sub = sub_of verb (files (a ∷ b ∷ c ∷ []) make)

  three_helps : HasHelpOnly three_sub.rules
  three_helps = has_help_only _ (λ long. refl) (λ short. refl)

  three_a : (x : Text) → IsHeld three_sub [] (Some (a, x ∷ [])) (accepts false name x ≡ true)
      (row name a x ∷ [])
  three_a x = waiting name 1 a [] _ x (rw (same a) refl) refl refl

  three_b : (x y : Text) → IsHeld three_sub (row name a x ∷ []) (Some (b, y ∷ []))
      (accepts false name y ≡ true) (row name a x ∷ row name b y ∷ [])
  three_b x y = waiting name 2 b _ _ y (rw (ab, same b) refl) (rw ab refl) (rw (ab, ab) refl)

  three_c : (x y z : Text) → IsHeld three_sub (row name a x ∷ row name b y ∷ [])
      (Some (c, z ∷ [])) (accepts false name z ≡ true)
      (row name a x ∷ row name b y ∷ row name c z ∷ [])
  three_c x y z = waiting name 3 c _ _ z (rw (ac, bc, same c) refl) (rw (ac, bc) refl)
      (rw (ac, bc, ac, bc) refl)

  three_words : HandlesWords three_sub (PlainNames (a ∷ b ∷ c ∷ []) (made_by make))
  three_words = handles_place three_sub three_helps [] None 1
      (has_place nothing refl name 1 a refl refl refl (λ e. not_none _ _ e)) name _ (λ x.
      handles_place three_sub three_helps [] (Some (a, x ∷ [])) 2
      (has_place (three_a x) refl name 2 b refl ab refl
      (λ e. not_none _ _ (rw (same a, ab) at e))) name _ (λ y.
      handles_place three_sub three_helps _ (Some (b, y ∷ [])) 3
      (has_place (three_b x y) refl name 3 c refl bc refl
      (λ e. not_none _ _ (rw (same a, ab, same b, ac, bc) at e))) name _ (λ z.
      handles_end three_sub three_helps _ (Some (c, z ∷ [])) 4 (made_by make (x ∷ y ∷ z ∷ [])) refl
      (taken_at_end (three_c x y z))
      (holds (three_c x y z) refl (made_by make (x ∷ y ∷ z ∷ [])) refl
      (rw (same a, ab, same b, ac, bc, same c) refl)
      (rw (listed, same a, ab, same b, ac, bc, same c) refl) (small _)))))

module _ (verb a : Text) (make : ℕ → Command)
    (listed : lookup (λ word. bytes_eq word verb) subcommands ≡ Some (number a make))
    (small : (n : ℕ) → n ≤ 999999999 → HasSmallSeed (make n)) where
  abbrev number_sub : Shape
  number_sub = sub_of verb (number a make)

  number_helps : HasHelpOnly number_sub.rules
  number_helps = has_help_only _ (λ long. refl) (λ short. refl)

  number_a : (x : Text) → IsHeld number_sub [] (Some (a, x ∷ [])) (accepts false whole x ≡ true)
      (row whole a x ∷ [])
  number_a x = waiting whole 1 a [] _ x (rw (same a) refl) refl refl

  number_holds : (x : Text) → accepts false whole x ≡ true
      → HoldsCommand number_sub (holding [] (Some (a, x ∷ []))) (make (value_of x))
  number_holds x is =
      let read = both _ _ is in
      let bounds = both _ _ read.1 in
      let numeral : is_numeral (without_leading_plus x) ≡ true = read.0 in
      let fits : nat_lt (value_of x) (2 ^ 64) ≡ true = bounds.0 in
      holds (number_a x) refl (make (value_of x)) refl (rw (same a) refl)
      (rw (listed, same a, numeral, fits) refl)
      (small (value_of x) (leb-true _ _ (both _ _ bounds.1).1)) is

  number_words : HandlesWords number_sub (Then whole (λ x. Ends (make (value_of x))))
  number_words = handles_place number_sub number_helps [] None 1
      (has_place nothing refl whole 1 a refl refl refl (λ e. not_none _ _ e)) whole _ (λ x.
      handles_end number_sub number_helps [] (Some (a, x ∷ [])) 2 (make (value_of x)) refl
      (taken_at_end (number_a x)) (number_holds x))

-- ---- any form

-- one to three names, which are apart
abbrev pub AreApart : List Text → Type 0
AreApart (a ∷ []) = ⊤
AreApart (a ∷ b ∷ []) = bytes_eq a b ≡ false
AreApart (a ∷ b ∷ c ∷ []) =
    (bytes_eq a b ≡ false) × (bytes_eq a c ≡ false) × (bytes_eq b c ≡ false)
AreApart names = ⊥

-- the names of the arguments are apart, and the line takes the seed of a command that has one
abbrev pub IsGood : Maker → Type 0
IsGood (files names make) = AreApart names × ((given : ℕ → Text) → HasSmallSeed (make given))
IsGood (number a make) = (n : ℕ) → n ≤ 999999999 → HasSmallSeed (make n)

-- words that are plainly those of the form, and their command
abbrev pub PlainWords : Maker → List Text → Command → Type 0
PlainWords (files names make) = PlainNames names (made_by make)
PlainWords (number a make) = Then whole (λ x. Ends (make (value_of x)))

pub handles_words : (verb : Text) (maker : Maker)
    → lookup (λ word. bytes_eq word verb) subcommands ≡ Some maker → IsGood maker
    → HandlesWords (sub_of verb maker) (PlainWords maker)
handles_words verb (files [] make) listed good = absurd good.0
handles_words verb (files (a ∷ []) make) listed (apart, small) = one_words verb a make listed small
handles_words verb (files (a ∷ b ∷ []) make) listed (ab, small) =
    two_words verb a b make listed ab small
handles_words verb (files (a ∷ b ∷ c ∷ []) make) listed ((ab, ac, bc), small) =
    three_words verb a b c make listed ab ac bc small
handles_words verb (files (a ∷ b ∷ c ∷ d ∷ names) make) listed good = absurd good.0
handles_words verb (number a make) listed small = number_words verb a make listed small
