-- What each kind of term tells of itself: a function by cases for each member of a term, then each
-- law by cases.
use Rattle.std.specs.Prelude.{◌≡◌, Bool, List, [], ◌∷◌, length, ℤ, pos, neg_ℤ, ◌*ℤ◌, ◌≤ℤ◌, Some}
use Rattle.std.specs.List.{All}
use Rattle.sfm_spec.specs.Sets.{magnitudes}
use Rattle.sfm_spec.specs.Terms.{SetFunction, times, IsBase, IsFamily, IsSubmodular}
use Rattle.sfm_spec.specs.Kinds.{weight_value, cut_value, cover_value, need_value, table_value, concave_value, uniform_value}
use Rattle.sfm_simple.specs.WeightLaws.{scaled, weight-family, weight-submodular, weight-bounded, weight-starts, weight-starts_small, weight-starts_times}
use Rattle.sfm_simple.specs.CutLaws.{cut_start, cut-family, cut-submodular, cut-bounded, cut-starts, cut-starts_small, cut-starts_times}
use Rattle.sfm_simple.specs.CoverLaws.{cover_start, cover-family, cover-submodular, cover-bounded, cover-starts, cover-starts_small, cover-starts_times}
use Rattle.sfm_simple.specs.NeedLaws.{need-family, need-submodular, need-bounded, need-starts, need-starts_small, need-starts_times}
use Rattle.sfm_simple.specs.TableLaws.{greatest, table_start, table-family, table-bounded, table-starts, table-starts_small, table-starts_times}
use Rattle.sfm_concave.specs.ConcaveLaws.{concave_start, concave-family, concave-submodular, concave-bounded, concave-starts, concave-starts_small, concave-starts_times}
use Rattle.sfm_concave.specs.ConcaveLaws as concaves
use Rattle.sfm_concave.specs.UniformLaws.{uniform_size, uniform_start, uniform-family, uniform-submodular, uniform-bounded, uniform-starts, uniform-starts_small, uniform-starts_times}
use Rattle.sfm_laminar.specs.LaminarLaws.{laminar_value, laminar_size, laminar_start, laminar-family, laminar-submodular, laminar-bounded, laminar-starts, laminar-starts_small, laminar-starts_times}
use Rattle.sfm_graphic.specs.Graphs.{graphic_value, graphic_size, graphic_start}
use Rattle.sfm_graphic.specs.GraphicLaws.{graphic-family, graphic-submodular, graphic-bounded, graphic-starts, graphic-starts_small, graphic-starts_times}
use Rattle.sfm_matroid.specs.Slots.{transversal_value, transversal_size, transversal_start}
use Rattle.sfm_matroid.specs.TransversalLaws.{transversal-family, transversal-submodular, transversal-bounded, transversal-starts, transversal-starts_small, transversal-starts_times}
use Rattle.sfm_kind.specs.declared.kind.Kind.{Kind}
use Rattle.sfm_kind.specs.declared.kind.Kind.TheVariants.{Weight, Cut, Cover, Need, Table, Concave, Uniform, Laminar, Graphic, Transversal}
use Rattle.sfm_kind.specs.declared.kind.KindNote.{KindNote}
pub use Rattle.sfm_kind.specs.Meanings.{kind_places}
use Rattle.sfm_kind.specs.Notes.{concave_note_fits, laminar_note_fits, graphic_note_fits, transversal_note_fits}
use Rattle.std.proofs.Common.{map, ◌*ℤ◌}

-- the value at each allowed part
abbrev pub kind_value : Kind → SetFunction
kind_value (Weight term) = weight_value term.weights
kind_value (Cut term) = cut_value term.c
kind_value (Cover term) = cover_value term.w
kind_value (Need term) = need_value
kind_value (Table term) = table_value term.values
kind_value (Concave term) = concave_value term.values
kind_value (Uniform term) = uniform_value term.w term.cap
kind_value (Laminar term) = laminar_value (length term.places) term.w term.groups
kind_value (Graphic term) = graphic_value term.w term.ends
kind_value (Transversal term) = transversal_value term.w term.entries

-- a bound on the magnitude of each value
abbrev pub kind_size : Kind → ℤ
kind_size (Weight term) = magnitudes term.weights
kind_size (Cut term) = term.c
kind_size (Cover term) = term.w
kind_size (Need term) = pos 0
kind_size (Table term) = greatest term.values
kind_size (Concave term) = concaves.greatest term.values
kind_size (Uniform term) = uniform_size term.w term.cap (length term.places)
kind_size (Laminar term) = laminar_size (length term.places) term.w term.groups
kind_size (Graphic term) = graphic_size term.w term.ends
kind_size (Transversal term) = transversal_size term.w term.entries

-- the first base at a factor
abbrev pub kind_start : Kind → ℤ → List ℤ
kind_start (Weight term) q = scaled q term.weights
kind_start (Cut term) q = cut_start q term.c
kind_start (Cover term) q = cover_start q term.w (length term.places)
kind_start (Need term) q = pos 0 ∷ pos 0 ∷ []
kind_start (Table term) q = table_start q term.values (length term.places)
kind_start (Concave term) q = concave_start q term.values (length term.places)
kind_start (Uniform term) q = uniform_start q term.w term.cap (length term.places)
kind_start (Laminar term) q = laminar_start (length term.places) q term.w term.groups
kind_start (Graphic term) q = graphic_start q term.w term.ends
kind_start (Transversal term) q = transversal_start q term.w term.entries

-- where the value of a part takes no memory and is always told: the kinds whose values come by
-- counting alone
abbrev pub kind_lean_value : Kind → Type 0
kind_lean_value (Laminar term) = ⊥
kind_lean_value (Graphic term) = ⊥
kind_lean_value (Transversal term) = ⊥
kind_lean_value kind = Unit {0}

-- where first bases, tests of bases, rooms and reach take no memory and are always told
abbrev pub kind_lean_calls : Kind → Type 0
kind_lean_calls (Graphic term) = ⊥
kind_lean_calls (Transversal term) = ⊥
kind_lean_calls kind = Unit {0}

-- what a note keeps is true of a base: the plain kinds keep nothing
abbrev pub kind_fits : Kind → KindNote → ℤ → List ℤ → Type 0
kind_fits (Concave term) note q x = concave_note_fits note x
kind_fits (Laminar term) note q x = laminar_note_fits term.w term.groups note q x
kind_fits (Graphic term) note q x = graphic_note_fits term.w term.ends note q x
kind_fits (Transversal term) note q x = transversal_note_fits term.w term.entries note q x
kind_fits kind note q x = Unit {0}

pub kind-family : (kind : Kind) → IsFamily (length (kind_places kind)) (kind_value kind)
kind-family (Weight term) = weight-family term.weights
kind-family (Cut term) = cut-family term.c
kind-family (Cover term) = cover-family term.w
kind-family (Need term) = need-family _ term.two
kind-family (Table term) = table-family term.values
kind-family (Concave term) = concave-family term.values
kind-family (Uniform term) = uniform-family term.w term.cap
kind-family (Laminar term) = laminar-family (length term.places) term.w term.groups
kind-family (Graphic term) = graphic-family (length term.places) term.w term.ends term.same_count
kind-family (Transversal term) = transversal-family (length term.places) term.w term.entries
    term.same_count

pub kind-submodular : (kind : Kind) → IsSubmodular (length (kind_places kind)) (kind_value kind)
kind-submodular (Weight term) = weight-submodular _ term.weights term.same_count
kind-submodular (Cut term) = cut-submodular _ term.c term.two term.low
kind-submodular (Cover term) = cover-submodular _ term.w term.low
kind-submodular (Need term) = need-submodular _ term.two
kind-submodular (Table term) = term.lawful
kind-submodular (Concave term) = concave-submodular _ term.values term.counted term.falling
kind-submodular (Uniform term) = uniform-submodular _ term.w term.cap term.low term.cap_low
kind-submodular (Laminar term) = laminar-submodular (length term.places) term.w term.groups term.low
    term.grouped
kind-submodular (Graphic term) = graphic-submodular (length term.places) term.w term.ends
    term.same_count term.low
kind-submodular (Transversal term) = transversal-submodular (length term.places) term.w term.entries
    term.same_count term.low

pub kind-bounded : (kind : Kind) (s : List Bool) (a : ℤ) → length s ≡ length (kind_places kind)
    → kind_value kind s ≡ Some a → (neg_ℤ (kind_size kind) ≤ℤ a) × (a ≤ℤ kind_size kind)
kind-bounded (Weight term) s a h e = weight-bounded term.weights s a e
kind-bounded (Cut term) s a h e = cut-bounded term.c s a term.low e
kind-bounded (Cover term) s a h e = cover-bounded term.w s a term.low e
kind-bounded (Need term) s a h e = need-bounded s a e
kind-bounded (Table term) s a h e = table-bounded term.values s a e
kind-bounded (Concave term) s a h e = concave-bounded term.values s a e
kind-bounded (Uniform term) s a h e = uniform-bounded _ term.w term.cap s a term.low term.cap_low h
    e
kind-bounded (Laminar term) s a h e = laminar-bounded (length term.places) term.w term.groups
    term.low term.grouped s a h e
kind-bounded (Graphic term) s a h e =
    graphic-bounded (length term.places) term.w term.ends term.same_count term.low s a h e
kind-bounded (Transversal term) s a h e =
    transversal-bounded (length term.places) term.w term.entries term.same_count term.low s a h e

pub kind-starts : (kind : Kind) (q : ℤ) → pos 1 ≤ℤ q
    → (length (kind_start kind q) ≡ length (kind_places kind))
    × IsBase (times q (kind_value kind)) (kind_start kind q)
kind-starts (Weight term) q low = weight-starts _ term.weights q term.same_count
kind-starts (Cut term) q low = cut-starts _ q term.c term.two low term.low
kind-starts (Cover term) q low = cover-starts _ q term.w term.elements.some low term.low
kind-starts (Need term) q low = need-starts _ q term.two
kind-starts (Table term) q low = table-starts _ q term.values low term.lawful
kind-starts (Concave term) q low = concave-starts _ q term.values low term.counted term.falling
kind-starts (Uniform term) q low = uniform-starts _ q term.w term.cap low term.low term.cap_low
kind-starts (Laminar term) q low = laminar-starts (length term.places) term.w term.groups term.low
    term.grouped q low
kind-starts (Graphic term) q low =
    graphic-starts (length term.places) term.w term.ends term.same_count term.low q low
kind-starts (Transversal term) q low = transversal-starts (length term.places) term.w term.entries
    term.same_count term.low q low

pub kind-starts_small : (kind : Kind) (q : ℤ) → pos 1 ≤ℤ q
    → All (λ a. (neg_ℤ ((pos 2 *ℤ q) *ℤ kind_size kind) ≤ℤ a)
    × (a ≤ℤ ((pos 2 *ℤ q) *ℤ kind_size kind))) (kind_start kind q)
kind-starts_small (Weight term) q low = weight-starts_small term.weights q low
kind-starts_small (Cut term) q low = cut-starts_small q term.c low term.low
kind-starts_small (Cover term) q low = cover-starts_small _ q term.w term.elements.some low term.low
kind-starts_small (Need term) q low = need-starts_small q
kind-starts_small (Table term) q low = table-starts_small _ q term.values low
kind-starts_small (Concave term) q low = concave-starts_small _ q term.values low
kind-starts_small (Uniform term) q low =
    uniform-starts_small _ q term.w term.cap low term.low term.cap_low
kind-starts_small (Laminar term) q low =
    laminar-starts_small (length term.places) term.w term.groups term.low term.grouped q low
kind-starts_small (Graphic term) q low = graphic-starts_small (length term.places) term.w term.ends
    term.same_count term.low q low
kind-starts_small (Transversal term) q low =
    transversal-starts_small (length term.places) term.w term.entries term.same_count term.low q low

pub kind-starts_times : (kind : Kind) (q : ℤ)
    → kind_start kind q ≡ map (λ a. q *ℤ a) (kind_start kind (pos 1))
kind-starts_times (Weight term) q = weight-starts_times q term.weights
kind-starts_times (Cut term) q = cut-starts_times q term.c
kind-starts_times (Cover term) q = cover-starts_times (length term.places) q term.w
kind-starts_times (Need term) q = need-starts_times q
kind-starts_times (Table term) q = table-starts_times (length term.places) q term.values
kind-starts_times (Concave term) q = concave-starts_times (length term.places) q term.values
kind-starts_times (Uniform term) q = uniform-starts_times (length term.places) q term.w term.cap
kind-starts_times (Laminar term) q = laminar-starts_times (length term.places) q term.w term.groups
kind-starts_times (Graphic term) q = graphic-starts_times q term.w term.ends
kind-starts_times (Transversal term) q = transversal-starts_times q term.w term.entries
