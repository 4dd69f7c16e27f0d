-- The members of each kind are what its meaning says by definition, and a meaning leaves no choice:
-- two of one term have the same value on each part of its places, and so the same size and the same
-- first bases.
use Rattle.std.proofs.Common.{◌≡◌, ℕ, ◌+◌, ◌-◌, ◌≤◌, Bool, true, false, List, [], ◌∷◌, length, map, replicate, ℤ, pos, ◌*ℤ◌, Some, unwrap_or, refl, sym, ap, ◌∙◌, arith}
use Rattle.std.specs.List.{AllZip}
use Rattle.std.specs.Int.{int_min}
use Rattle.std.proofs.lemmas.Int.{ints}
use Rattle.std.proofs.lemmas.List.{length-append, length-replicate}
use Rattle.sfm_spec.specs.Sets.{whole_set}
use Rattle.sfm_spec.specs.Terms.{SetFunction, first_places, IsGreedy}
use Rattle.sfm_spec.specs.Families.{Meaning, meanings}
use Rattle.sfm_spec.specs.Kinds.{IsWithinCaps, IsForest, IsMatchable}
use Rattle.sfm_spec.specs.Laws.{ones}
use Rattle.sfm_spec.proofs.Ones.{ones-places}
use Rattle.sfm_layers.specs.Weights.{IsWeightedRank}
use Rattle.sfm_layers.proofs.Ones.{greatest-one, weighted-rank}
use Rattle.sfm_spec.proofs.Sizes.{size-whole}
use Rattle.sfm_simple.specs.TableLaws.{greatest, table-greedy}
use Rattle.sfm_simple.specs.WeightLaws.{weight-greedy}
use Rattle.sfm_simple.specs.CutLaws.{cut-greedy}
use Rattle.sfm_simple.specs.CoverLaws.{cover-greedy}
use Rattle.sfm_concave.specs.ConcaveLaws.{concave-greedy}
use Rattle.sfm_concave.specs.ConcaveLaws as concaves
use Rattle.sfm_concave.specs.UniformLaws.{uniform-greedy}
use Rattle.sfm_concave.proofs.UniformRanks.{uniform-weighted}
use Rattle.sfm_laminar.specs.LaminarLaws.{laminar_value, laminar-function, laminar-greedy}
use Rattle.sfm_graphic.specs.Graphs.{graphic_value}
use Rattle.sfm_matroid.specs.Slots.{transversal_value}
use Rattle.sfm_graphic.specs.GraphicLaws.{graphic-function, graphic-greedy}
use Rattle.sfm_matroid.specs.TransversalLaws.{transversal-function, transversal-greedy}
use Rattle.sfm_kind.specs.Kinds.{kind_value, kind_size, kind_start}
use Rattle.sfm_kind.specs.Meanings.{kind_places, IsIndependentIn, IsValueOf, IsMeaningOf, value_of_all, size_by, total_by, IsStartOf, AreStarts}
use Rattle.sfm_kind.specs.Limits.{total_size_of}
use Rattle.sfm_kind.specs.declared.kind.Kind.{Kind}
use Rattle.sfm_kind.specs.declared.kind.Kind.TheVariants.{Weight, Cut, Cover, Need, Table, Concave, Uniform, Laminar, Graphic, Transversal}

-- ---- the members tell a meaning

pub kind-means : (kind : Kind)
    → IsMeaningOf kind (record { places = kind_places kind; value = kind_value kind })
kind-means (Weight term) = record { places = refl; values = refl }
kind-means (Cut term) = record { places = refl; values = refl }
kind-means (Cover term) = record { places = refl; values = refl }
kind-means (Need term) = record { places = refl; values = refl }
kind-means (Table term) = record { places = refl; values = refl }
kind-means (Concave term) = record { places = refl; values = refl }
kind-means (Uniform term) = record {
  places = refl;
  values = uniform-weighted (length term.places) term.w term.cap term.cap_low;
}
kind-means (Laminar term) = record {
  places = refl;
  values = weighted-rank (length term.places) term.w (IsWithinCaps term.groups)
      (laminar_value (length term.places) term.w term.groups)
      (laminar-function (length term.places) term.w term.groups term.grouped);
}
kind-means (Graphic term) = record {
  places = refl;
  values = weighted-rank (length term.places) term.w (IsForest term.ends)
      (graphic_value term.w term.ends)
      (graphic-function (length term.places) term.w term.ends term.same_count);
}
kind-means (Transversal term) = record {
  places = refl;
  values = weighted-rank (length term.places) term.w (IsMatchable term.entries)
      (transversal_value term.w term.entries)
      (transversal-function (length term.places) term.w term.entries term.same_count);
}

pub kinds-mean : (terms : List Kind)
    → AllZip IsMeaningOf terms (meanings kind_places kind_value terms)
kinds-mean [] = tt
kinds-mean (kind ∷ terms) = (kind-means kind, kinds-mean terms)

-- ---- two meanings of one term agree

-- those of a rank, as a part has one greatest weight
ranks-agree : (k : ℕ) (w : ℤ) (IsIndependent : List Bool → Type 0) (f g : SetFunction)
    → IsWeightedRank w IsIndependent (ones k) f → IsWeightedRank w IsIndependent (ones k) g
    → (s : List Bool) → length s ≡ k → f s ≡ g s
ranks-agree k w IsIndependent f g hf hg s ks =
    let (a, ra, ea) = hf s (ks ∙ sym (ones-places k)) in
    let (b, rb, eb) = hg s (ks ∙ sym (ones-places k)) in
    ea ∙ (ap (λ r. Some (w *ℤ r)) (greatest-one IsIndependent (ones k) s a b ra rb) ∙ sym eb)

one-value : (f g h : SetFunction) → f ≡ h → g ≡ h → (s : List Bool) → f s ≡ g s
one-value f g h e d s = ap (λ (p : SetFunction). p s) (e ∙ sym d)

pub values-agree : (kind : Kind) (f g : SetFunction) → IsValueOf kind f → IsValueOf kind g
    → (s : List Bool) → length s ≡ length (kind_places kind) → f s ≡ g s
values-agree (Weight term) f g e d s ks = one-value f g _ e d s
values-agree (Cut term) f g e d s ks = one-value f g _ e d s
values-agree (Cover term) f g e d s ks = one-value f g _ e d s
values-agree (Need term) f g e d s ks = one-value f g _ e d s
values-agree (Table term) f g e d s ks = one-value f g _ e d s
values-agree (Concave term) f g e d s ks = one-value f g _ e d s
values-agree (Uniform term) f g e d s ks =
    ranks-agree (length term.places) term.w (IsIndependentIn (Uniform term)) f g e d s ks
values-agree (Laminar term) f g e d s ks =
    ranks-agree (length term.places) term.w (IsWithinCaps term.groups) f g e d s ks
values-agree (Graphic term) f g e d s ks =
    ranks-agree (length term.places) term.w (IsForest term.ends) f g e d s ks
values-agree (Transversal term) f g e d s ks =
    ranks-agree (length term.places) term.w (IsMatchable term.entries) f g e d s ks

-- ---- the size

greatest-same : (values : List ℤ) → greatest values ≡ concaves.greatest values
greatest-same values = refl

of-all-same : (k : ℕ) (f g : SetFunction) → ((s : List Bool) → length s ≡ k → f s ≡ g s)
    → value_of_all k f ≡ value_of_all k g
of-all-same k f g same = ap (λ v. unwrap_or v (pos 0))
    (same (whole_set k) (length-replicate k true))

size-by-value : (kind : Kind) → size_by kind (kind_value kind) ≡ kind_size kind
size-by-value (Weight term) = refl
size-by-value (Cut term) = refl
size-by-value (Cover term) = refl
size-by-value (Need term) = refl
size-by-value (Table term) = refl
size-by-value (Concave term) = greatest-same term.values
size-by-value (Uniform term) =
    ap (λ c. term.w *ℤ int_min (pos c) term.cap) (size-whole (length term.places))
size-by-value (Laminar term) = refl
size-by-value (Graphic term) = rw (← term.same_count) refl
size-by-value (Transversal term) = rw (← term.same_count) refl

size-same : (kind : Kind) (f g : SetFunction)
    → ((s : List Bool) → length s ≡ length (kind_places kind) → f s ≡ g s)
    → size_by kind f ≡ size_by kind g
size-same (Weight term) f g same = refl
size-same (Cut term) f g same = refl
size-same (Cover term) f g same = refl
size-same (Need term) f g same = refl
size-same (Table term) f g same = refl
size-same (Concave term) f g same = refl
size-same (Uniform term) f g same = of-all-same (length term.places) f g same
size-same (Laminar term) f g same = of-all-same (length term.places) f g same
size-same (Graphic term) f g same = of-all-same (length term.places) f g same
size-same (Transversal term) f g same = of-all-same (length term.places) f g same

-- the size by any values of the term is its size
pub kind-size : (kind : Kind) (f : SetFunction) → IsValueOf kind f → size_by kind f ≡ kind_size kind
kind-size kind f is = size-same kind f (kind_value kind)
    (values-agree kind f (kind_value kind) is (kind-means kind).values) ∙ size-by-value kind

-- and so of all terms
pub total-size : (terms : List Kind) (meant : List Meaning) → AllZip IsMeaningOf terms meant
    → total_by terms meant ≡ total_size_of terms
total-size [] [] h = refl
total-size [] (term ∷ meant) h = absurd h
total-size (kind ∷ terms) [] h = absurd h
total-size (kind ∷ terms) (term ∷ meant) h =
    omega (arith, ints, kind-size kind term.value h.0.values, total-size terms meant h.1)

-- ---- the first base

length-first_places : (k j : ℕ) → j ≤ k → length (first_places k j) ≡ k
length-first_places k j h = omega (
  arith,
  length-append (replicate j true) (replicate (k - j) false),
  length-replicate j true,
  length-replicate (k - j) false,
)

greedy-same : (k : ℕ) (q : ℤ) (f g : SetFunction) (x : List ℤ)
    → ((s : List Bool) → length s ≡ k → f s ≡ g s) → IsGreedy q f k x → IsGreedy q g k x
greedy-same k q f g x same h = record {
  places = h.places;
  gains = λ j a b lt ea eb. h.gains j a b lt
      (same (first_places k (j + 1)) (length-first_places k (j + 1) (omega arith)) ∙ ea)
      (same (first_places k j) (length-first_places k j (omega arith)) ∙ eb);
}

start-by-value : (kind : Kind) (q : ℤ) → IsStartOf kind (kind_value kind) q (kind_start kind q)
start-by-value (Weight term) q = weight-greedy (length term.places) term.weights q term.same_count
start-by-value (Cut term) q = cut-greedy (length term.places) q term.c term.two
start-by-value (Cover term) q = cover-greedy (length term.places) q term.w term.elements.some
start-by-value (Need term) q = refl
start-by-value (Table term) q = table-greedy (length term.places) q term.values
start-by-value (Concave term) q = concave-greedy (length term.places) q term.values
start-by-value (Uniform term) q = uniform-greedy (length term.places) q term.w term.cap term.cap_low
start-by-value (Laminar term) q = laminar-greedy (length term.places) term.w term.groups term.low
    term.grouped q
start-by-value (Graphic term) q =
    graphic-greedy (length term.places) term.w term.ends term.same_count term.low q
start-by-value (Transversal term) q = transversal-greedy (length term.places) term.w term.entries
    term.same_count term.low q

start-same : (kind : Kind) (q : ℤ) (f g : SetFunction) (x : List ℤ)
    → ((s : List Bool) → length s ≡ length (kind_places kind) → f s ≡ g s) → IsStartOf kind f q x
    → IsStartOf kind g q x
start-same (Weight term) q f g x same h = greedy-same (length term.places) q f g x same h
start-same (Cut term) q f g x same h = greedy-same (length term.places) q f g x same h
start-same (Cover term) q f g x same h = greedy-same (length term.places) q f g x same h
start-same (Need term) q f g x same h = h
start-same (Table term) q f g x same h = greedy-same (length term.places) q f g x same h
start-same (Concave term) q f g x same h = greedy-same (length term.places) q f g x same h
start-same (Uniform term) q f g x same h = greedy-same (length term.places) q f g x same h
start-same (Laminar term) q f g x same h = greedy-same (length term.places) q f g x same h
start-same (Graphic term) q f g x same h = greedy-same (length term.places) q f g x same h
start-same (Transversal term) q f g x same h = greedy-same (length term.places) q f g x same h

-- the start of a term is its first base by any values of the term
pub kind-start : (kind : Kind) (f : SetFunction) (q : ℤ) → IsValueOf kind f
    → IsStartOf kind f q (kind_start kind q)
kind-start kind f q is = start-same kind q (kind_value kind) f (kind_start kind q)
    (values-agree kind (kind_value kind) f (kind-means kind).values is) (start-by-value kind q)

-- and so of all terms
pub kinds-start : (terms : List Kind) (meant : List Meaning) (q : ℤ)
    → AllZip IsMeaningOf terms meant
    → AreStarts terms meant q (map (λ kind. kind_start kind q) terms)
kinds-start [] [] q h = tt
kinds-start [] (term ∷ meant) q h = absurd h
kinds-start (kind ∷ terms) [] q h = absurd h
kinds-start (kind ∷ terms) (term ∷ meant) q h =
    (kind-start kind term.value q h.0.values, kinds-start terms meant q h.1)
