-- The words that a term line begins with. Each brings one case to each definition here: the word itself, the least
-- number of its line, the parts that its line has, the law that its numbers may break, and the term that it stands for.
use Rattle.std.specs.Prelude.{◌≡◌, ℕ, ◌^◌, List, [], ◌∷◌, ◌≤◌, length, codes, ℤ, pos, neg_ℤ}
use Rattle.sfm_spec.specs.Terms.{IsSubmodular}
use Rattle.sfm_spec.specs.Kinds.{table_value}
use Rattle.sfm_concave.specs.ConcaveLaws.{RisesAt}
use Rattle.sfm_kind.specs.declared.kind.Kind.{Kind}
use Rattle.sfm_kind.specs.declared.version.Version.{Version}
use Rattle.sfm_kind.specs.declared.kind.Kind.TheVariants.{Weight, Cut, Need, Cover, Table, Concave}
use Rattle.sfm_lines.specs.declared.word.TermWord.{TermWord}
use Rattle.sfm_lines.specs.declared.word.TermWord.TheVariants.{WeightWord, CutWord, NeedWord, CoverWord, TableWord, ConcaveWord, RankWord}
use Rattle.sfm_lines.specs.Versions.{most_written}
use Rattle.sfm_lines.specs.Parts.{LineParts, IsWeightLine, IsRankLine, IsColonLine, IsSplitAt}
use Rattle.sfm_lines.specs.RankLines.{BreaksRankLaw, IsRankMadeOf}

-- the word
abbrev pub word_text : TermWord → List ℕ
word_text WeightWord = codes "weight"
word_text CutWord = codes "cut"
word_text NeedWord = codes "need"
word_text CoverWord = codes "cover"
word_text TableWord = codes "table"
word_text ConcaveWord = codes "concave"
word_text RankWord = codes "rank"

-- the least number that may stand in its line
abbrev pub lowest_of : Version → TermWord → ℤ
lowest_of version WeightWord = neg_ℤ (most_written version)
lowest_of version TableWord = neg_ℤ (most_written version)
lowest_of version ConcaveWord = neg_ℤ (most_written version)
lowest_of version _ = pos 0

-- the tokens behind the word have its shape and these parts: pairs; a number and two elements; two elements; a number and at least
-- one element; numbers, a colon and elements, in the counts of a table or of a concave function; or the line of a rank
abbrev pub HasParts : TermWord → List (List ℕ) → LineParts → Type 0
HasParts WeightWord tokens parts = IsWeightLine tokens parts
HasParts CutWord tokens parts = (length tokens ≡ 3) × IsSplitAt 1 tokens parts
HasParts NeedWord tokens parts = (length tokens ≡ 2) × IsSplitAt 0 tokens parts
HasParts CoverWord tokens parts = (2 ≤ length tokens) × IsSplitAt 1 tokens parts
HasParts TableWord tokens parts = IsColonLine (λ numbers elements. (1 ≤ elements) × (elements ≤ 8) × (numbers ≡ 2 ^ elements)) tokens parts
HasParts ConcaveWord tokens parts = IsColonLine (λ numbers elements. (1 ≤ elements) × (numbers ≡ elements)) tokens parts
HasParts RankWord tokens parts = IsRankLine tokens parts

-- the numbers break the law of the word's kind: those of a table, where they are the values of no submodular function
-- with 0 at the empty part; those of a concave line, where some increment is above the one before, the value of none
-- being 0; and groups, where two cross
abbrev pub BreaksLaw : TermWord → LineParts → List ℤ → Type 0
BreaksLaw TableWord parts values = IsSubmodular (length parts.elements) (table_value values) → ⊥
BreaksLaw ConcaveWord parts values = (at : ℕ) × RisesAt values at
BreaksLaw RankWord parts values = BreaksRankLaw parts.rank parts values
BreaksLaw _ parts values = ⊥

-- the term is of the word's kind, and has the numbers of the line: as its weights or values in their order, or as its one
abbrev pub IsMadeOf : TermWord → LineParts → List ℤ → Kind → Type 0
IsMadeOf WeightWord parts values (Weight term) = term.weights ≡ values
IsMadeOf CutWord parts values (Cut term) = term.c ∷ [] ≡ values
IsMadeOf NeedWord parts values (Need term) = Unit {0}
IsMadeOf CoverWord parts values (Cover term) = term.w ∷ [] ≡ values
IsMadeOf TableWord parts values (Table term) = term.values ≡ values
IsMadeOf ConcaveWord parts values (Concave term) = term.values ≡ values
IsMadeOf RankWord parts values term = IsRankMadeOf parts.rank parts values term
IsMadeOf _ parts values term = ⊥
