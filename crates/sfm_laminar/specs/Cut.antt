-- Groups of places cut down to the kept ones, which are numbered anew.
-- Textbook: Schrijver, Combinatorial Optimization, section 39 (restrictions of a matroid).
use Rattle.std.specs.Prelude.{◌≡◌, ℕ, ◌<◌, Bool, false, List, length, map, take, slice_index_or, nat_lt}
use Rattle.std.specs.List.{filter}
use Rattle.sfm_spec.specs.Sets.{size}
use Rattle.sfm_spec.specs.Kinds.{Group}

-- the members that are kept, by their numbers among the kept places
abbrev pub cut_members : List Bool → List ℕ → List ℕ
cut_members keep members = map (λ e. size (take e keep))
    (filter (λ e. slice_index_or keep e false) members)

-- a group of the kept places alone, by their numbers among these
abbrev pub cut_group : List Bool → Group → Group
cut_group keep group = record { cap = group.cap; members = cut_members keep group.members }

-- such groups, without those of which nothing is left
abbrev pub cut_groups : List Bool → List Group → List Group
cut_groups keep groups = filter (λ group. nat_lt 0 (length group.members))
    (map (cut_group keep) groups)

-- for each place how many kept places are before it
pub record AreNumbers (keep : List Bool) (numbers : List ℕ) : Type 0 where
  pub places : length numbers ≡ length keep
  pub each : (e : ℕ) → e < length keep → slice_index_or numbers e 0 ≡ size (take e keep)
