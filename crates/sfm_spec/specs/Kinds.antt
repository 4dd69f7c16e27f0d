-- What each kind of term is worth on a part of its places, and on which parts it is allowed.
-- Textbook: Schrijver, Combinatorial Optimization, sections 39 and 44.
use Rattle.std.specs.Prelude.{◌≡◌, ℕ, ◌+◌, ◌*◌, ◌≤◌, Bool, false, not, ◌&&◌, List, [], ◌∷◌, length, map, slice_index_or, nat_eq, ℤ, pos, ◌*ℤ◌, ◌≤ℤ◌, Some, None, if◌then◌else◌, count_by, Contains}
use Rattle.std.specs.List.{All}
use Rattle.std.specs.Int.{int_min}
use Rattle.sfm_spec.specs.Sets.{Has, AreDistinct, IsWithin, size, sum_over}
use Rattle.sfm_spec.specs.Terms.{SetFunction}

-- a number for each place: the sum over the part
abbrev pub weight_value : List ℤ → SetFunction
weight_value weights s = Some (sum_over s weights)

-- c where the part has the first place and not the second
abbrev pub cut_value : ℤ → SetFunction
cut_value c s = Some (if slice_index_or s 0 false && not (slice_index_or s 1 false) then c else pos 0)

-- allowed where the part has the second place if it has the first, and then 0
abbrev pub need_value : SetFunction
need_value s = if slice_index_or s 0 false && not (slice_index_or s 1 false) then None else Some (pos 0)

-- w where the part has a place
abbrev pub cover_value : ℤ → SetFunction
cover_value w s = Some (if nat_eq (size s) 0 then pos 0 else w)

-- the number that is listed for the count of the part; the list begins with that of one place, and nothing counts 0
abbrev pub concave_value : List ℤ → SetFunction
concave_value g s = Some (slice_index_or (pos 0 ∷ g) (size s) (pos 0))

-- the number of a part in binary counting: place j counts 2^j
abbrev pub binary : List Bool → ℕ
binary [] = 0
binary (b ∷ s) = (if b then 1 else 0) + 2 * binary s

-- the number that is listed for the part
abbrev pub table_value : List ℤ → SetFunction
table_value values s = Some (slice_index_or values (binary s) (pos 0))

-- w times the count of the part, or times the cap where that is less
abbrev pub uniform_value : ℤ → ℤ → SetFunction
uniform_value w cap s = Some (w *ℤ int_min (pos (size s)) cap)

-- r places of s are independent together, and no more are
pub record IsRank (IsIndependent : List Bool → Type 0) (s : List Bool) (r : ℕ) : Type 0 where
  pub reached : (t : List Bool) × (length t ≡ length s) × IsWithin t s × IsIndependent t × (size t ≡ r)
  pub greatest : (t : List Bool) → length t ≡ length s → IsWithin t s → IsIndependent t → size t ≤ r

-- w times the rank of each part of k places
abbrev pub IsRankFunction : ℕ → ℤ → (List Bool → Type 0) → SetFunction → Type 0
IsRankFunction k w IsIndependent f = (s : List Bool) → length s ≡ k → (r : ℕ) × IsRank IsIndependent s r × (f s ≡ Some (w *ℤ pos r))

-- a group of places, and how many of them may be independent together
pub record Group : Type 0 where
  pub cap : ℤ
  pub members : List ℕ

-- how many members of the group are in the part
abbrev pub count_in : Group → List Bool → ℕ
count_in group t = count_by (λ e. slice_index_or t e false) group.members

-- no group has more than its cap
abbrev pub IsWithinCaps : List Group → List Bool → Type 0
IsWithinCaps groups t = All (λ group. pos (count_in group t) ≤ℤ group.cap) groups

-- the two ends of an edge
pub record Edge : Type 0 where
  pub tail : ℕ
  pub head : ℕ

-- an edge of a trail, taken from its tail to its head or back
pub record Way : Type 0 where
  pub edge : ℕ
  pub is_back : Bool

-- what stands past the end of a list of edges
abbrev pub no_edge : Edge
no_edge = record { tail = 0; head = 0 }

-- where a way begins
abbrev pub begin_of : List Edge → Way → ℕ
begin_of edges way = let e = slice_index_or edges way.edge no_edge in if way.is_back then e.head else e.tail

-- where a way ends
abbrev pub end_of : List Edge → Way → ℕ
end_of edges way = let e = slice_index_or edges way.edge no_edge in if way.is_back then e.tail else e.head

-- each way begins where the one before ends, and the last one ends at home
abbrev pub LeadsHome : List Edge → ℕ → ℕ → List Way → Type 0
LeadsHome edges home at [] = at ≡ home
LeadsHome edges home at (way ∷ ways) = (begin_of edges way ≡ at) × LeadsHome edges home (end_of edges way) ways

-- distinct edges of the part, taken one after the other, that lead back to where they begin
pub record IsClosedTrail (edges : List Edge) (t : List Bool) (first : Way) (ways : List Way) : Type 0 where
  pub members : All (λ way. Has t way.edge) (first ∷ ways)
  pub distinct : AreDistinct (map (λ way. way.edge) (first ∷ ways))
  pub closed : LeadsHome edges (begin_of edges first) (end_of edges first) ways

-- no closed trail takes edges of the part
abbrev pub IsForest : List Edge → List Bool → Type 0
IsForest edges t = (first : Way) (ways : List Way) → IsClosedTrail edges t first ways → ⊥

-- the members of the part have slots of their own entries, all distinct
pub record IsMatching (entries : List (List ℕ)) (t : List Bool) (slots : List ℕ) : Type 0 where
  pub own : (e : ℕ) → Has t e → Contains (slice_index_or entries e []) (slice_index_or slots e 0)
  pub distinct : (d e : ℕ) → Has t d → Has t e → slice_index_or slots d 0 ≡ slice_index_or slots e 0 → d ≡ e

-- the members of the part can be given slots of their own
abbrev pub IsMatchable : List (List ℕ) → List Bool → Type 0
IsMatchable entries t = (slots : List ℕ) × IsMatching entries t slots
