-- What a rank line says: the groups that it tells, the law that these may break, and the term that it stands for. Each rank
-- brings one case to each definition by ranks.
use Rattle.std.specs.Prelude.{◌≡◌, ◌↔◌, ℕ, ◌+◌, Bool, List, [], ◌∷◌, length, map, slice_index_or, bytes_eq, ℤ, pos}
use Rattle.std.specs.List.{filter, list_any, range_with_len}
use Rattle.sfm_spec.specs.Kinds.{Group, IsWithinCaps, IsMatchable}
use Rattle.sfm_kind.specs.declared.kind.Kind.{Kind}
use Rattle.sfm_kind.specs.declared.kind.Kind.TheVariants.{Uniform, Laminar, Graphic, Transversal}
use Rattle.sfm_laminar.specs.Crossing.{IsCrossing}
use Rattle.sfm_lines.specs.declared.word.RankKind.{RankKind}
use Rattle.sfm_lines.specs.declared.word.RankKind.TheVariants.{UniformRank, LaminarRank, GraphicRank, TransversalRank}
use Rattle.sfm_lines.specs.Parts.{LineParts}
use Rattle.sfm_lines.specs.LabelTerms.{edge_between, numbers_of}

-- whether a text is one of the texts
abbrev pub is_among : List (List ℕ) → List ℕ → Bool
is_among texts text = list_any (λ other. bytes_eq other text) texts

-- the places in the line of those elements that are among the names, in ascending order
abbrev pub members_of : List (List ℕ) → List (List ℕ) → List ℕ
members_of elements names = filter (λ e. is_among names (slice_index_or elements e [])) (range_with_len 0 (length elements))

-- the group number i of a line, counted from 0, whose cap stands behind the line's first number and the caps before it
abbrev pub group_of : List ℤ → LineParts → ℕ → Group
group_of values parts i = record { cap = slice_index_or values (i + 1) (pos 0); members = members_of parts.elements (slice_index_or parts.groups i []) }

-- the groups of a line, in their order
abbrev pub groups_of : List ℤ → LineParts → List Group
groups_of values parts = map (λ i. group_of values parts i) (range_with_len 0 (length parts.groups))

-- two groups of a laminar rank cross: they share an element, and neither holds the other; no other rank has a law to break
abbrev pub BreaksRankLaw : RankKind → LineParts → List ℤ → Type 0
BreaksRankLaw LaminarRank parts values = (i : ℕ) × (j : ℕ) × IsCrossing (groups_of values parts) i j
BreaksRankLaw _ parts values = ⊥

-- the term is of that rank, and counts for each independent element the first number of the line, of which a uniform rank has at
-- most as many as its second. A part is independent in the term exactly where it is with the groups, the edges or the entries of the line
abbrev pub IsRankMadeOf : RankKind → LineParts → List ℤ → Kind → Type 0
IsRankMadeOf UniformRank parts values (Uniform term) = term.w ∷ term.cap ∷ [] ≡ values
IsRankMadeOf LaminarRank parts values (Laminar term) = (term.w ≡ slice_index_or values 0 (pos 0)) × ((t : List Bool) → IsWithinCaps term.groups t ↔ IsWithinCaps (groups_of values parts) t)
IsRankMadeOf GraphicRank parts values (Graphic term) = (term.w ≡ slice_index_or values 0 (pos 0)) × (term.ends ≡ map edge_between (numbers_of parts.labels))
IsRankMadeOf TransversalRank parts values (Transversal term) = (term.w ≡ slice_index_or values 0 (pos 0)) × ((t : List Bool) → IsMatchable term.entries t ↔ IsMatchable (numbers_of parts.labels) t)
IsRankMadeOf _ parts values term = ⊥
