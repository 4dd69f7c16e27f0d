-- What a term of each kind means: its places, its values, its size and its first base, each by definition. The values of a
-- rank are told by the relation of the textbook, so that nothing here says how a rank is found.
-- Textbook: Schrijver, Combinatorial Optimization, sections 39, 44 and 45.
use Rattle.std.specs.Prelude.{◌≡◌, ℕ, Bool, List, [], ◌∷◌, length, unwrap_or, ℤ, pos, ◌+ℤ◌, ◌≤ℤ◌}
use Rattle.sfm_spec.specs.Sets.{size, magnitudes, whole_set}
use Rattle.sfm_spec.specs.Terms.{SetFunction, IsGreedy}
use Rattle.sfm_spec.specs.Families.{Meaning}
use Rattle.sfm_spec.specs.Kinds.{weight_value, cut_value, cover_value, need_value, table_value, concave_value, IsWithinCaps, IsForest, IsMatchable}
use Rattle.sfm_spec.specs.Laws.{ones}
use Rattle.sfm_layers.specs.Weights.{IsWeightedRank}
use Rattle.sfm_simple.specs.TableLaws.{greatest}
use Rattle.sfm_kind.specs.declared.kind.Kind.{Kind}
use Rattle.sfm_kind.specs.declared.kind.Kind.TheVariants.{Weight, Cut, Cover, Need, Table, Concave, Uniform, Laminar, Graphic, Transversal}

-- the places of the ground, by local place
abbrev pub kind_places : Kind → List ℕ
kind_places (Weight term) = term.places
kind_places (Cut term) = term.places
kind_places (Cover term) = term.places
kind_places (Need term) = term.places
kind_places (Table term) = term.places
kind_places (Concave term) = term.places
kind_places (Uniform term) = term.places
kind_places (Laminar term) = term.places
kind_places (Graphic term) = term.places
kind_places (Transversal term) = term.places

-- the parts of a rank that are independent; no other term has such
abbrev pub IsIndependentIn : Kind → List Bool → Type 0
IsIndependentIn (Uniform term) t = pos (size t) ≤ℤ term.cap
IsIndependentIn (Laminar term) t = IsWithinCaps term.groups t
IsIndependentIn (Graphic term) t = IsForest term.ends t
IsIndependentIn (Transversal term) t = IsMatchable term.entries t
IsIndependentIn _ t = ⊥

-- what each independent element of a rank counts
abbrev pub factor_of : Kind → ℤ
factor_of (Uniform term) = term.w
factor_of (Laminar term) = term.w
factor_of (Graphic term) = term.w
factor_of (Transversal term) = term.w
factor_of _ = pos 0

-- these are the values of a term, by definition: those of a rank are w times the greatest weight of an independent part,
-- where each place weighs 1
abbrev pub IsValueOf : Kind → SetFunction → Type 0
IsValueOf (Weight term) f = f ≡ weight_value term.weights
IsValueOf (Cut term) f = f ≡ cut_value term.c
IsValueOf (Cover term) f = f ≡ cover_value term.w
IsValueOf (Need term) f = f ≡ need_value
IsValueOf (Table term) f = f ≡ table_value term.values
IsValueOf (Concave term) f = f ≡ concave_value term.values
IsValueOf kind f = IsWeightedRank (factor_of kind) (IsIndependentIn kind) (ones (length (kind_places kind))) f

-- what a term means: its places, and its values by definition
pub record IsMeaningOf (kind : Kind) (term : Meaning) : Type 0 where
  pub places : term.places ≡ kind_places kind
  pub values : IsValueOf kind term.value

-- the value of all k places
abbrev pub value_of_all : ℕ → SetFunction → ℤ
value_of_all k f = unwrap_or (f (whole_set k)) (pos 0)

-- the size of a term with the values f: the magnitudes of weights, added; the number of a cut or a cover; 0 for a
-- condition; the greatest magnitude that is listed; for a rank the value of all places
abbrev pub size_by : Kind → SetFunction → ℤ
size_by (Weight term) f = magnitudes term.weights
size_by (Cut term) f = term.c
size_by (Cover term) f = term.w
size_by (Need term) f = pos 0
size_by (Table term) f = greatest term.values
size_by (Concave term) f = greatest term.values
size_by kind f = value_of_all (length (kind_places kind)) f

-- the sizes of all terms, added
abbrev pub total_by : List Kind → List Meaning → ℤ
total_by [] meant = pos 0
total_by (kind ∷ kinds) [] = pos 0
total_by (kind ∷ kinds) (term ∷ meant) = size_by kind term.value +ℤ total_by kinds meant

-- the first base of q times a term with the values f: 0 and 0 for a condition, and else the greedy vector
abbrev pub IsStartOf : Kind → SetFunction → ℤ → List ℤ → Type 0
IsStartOf (Need term) f q x = x ≡ pos 0 ∷ pos 0 ∷ []
IsStartOf kind f q x = IsGreedy q f (length (kind_places kind)) x

-- the first bases of q times all terms, in order
abbrev pub AreStarts : List Kind → List Meaning → ℤ → List (List ℤ) → Type 0
AreStarts [] [] q [] = Unit {0}
AreStarts (kind ∷ kinds) (term ∷ meant) q (x ∷ rows) = IsStartOf kind term.value q x × AreStarts kinds meant q rows
AreStarts kinds meant q rows = ⊥
