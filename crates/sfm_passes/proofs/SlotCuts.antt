-- The slots of a text, one after another: the first of them, and those that are left behind it.
use Rattle.std.proofs.Common.{◌≡◌, ◌↔◌, IsTrue, Bool, true, false, MatchBool, ℕ, ◌+◌, ◌-◌, ◌<◌, ◌≤◌, List, [], ◌∷◌, ◌++◌, length, take, drop, not, refl, ap, ◌∙◌, drop-cons, add-one, inl, inr, ◌⊎◌, arith}
use Rattle.std.specs.Prelude.{◌==◌}
use Rattle.std.specs.List.{position_or_len}
use Rattle.std.proofs.lemmas.Bool.{false≢true, cases_lt}
use Rattle.std.proofs.lemmas.List.{take_all, drop_all}
use Rattle.std.proofs.lemmas.List.Sums.{prefix_len-le-length}
use Rattle.std.proofs.lemmas.List.Splits.{slice_split_first}
use Rattle.std.proofs.Math.Seq.{drop-append_seam}
use Rattle.sfm_lines.specs.Lines.{pieces_of}
use Rattle.sfm_passes.specs.Passes.{slots_behind, RepeatsSlot}
use Rattle.sfm_lines.specs.Parts.{IsCutAt, IsLabelToken}
use Rattle.sfm_lines.specs.TermLines.{StandsTwice}
use Rattle.sfm_lines.specs.declared.word.RankKind.TheVariants.{TransversalRank}
use Rattle.sfm_lines.proofs.Cuts.{split-none, rest-is}
use Rattle.sfm_lines.proofs.Ranks.{token-same}

-- what stands behind a slot begins with the comma
left-behind : (text : List ℕ) (e : ℕ) → e < length text
    → slots_behind (drop e text) ≡ pieces_of 44 (drop (e + 1) text)
left-behind text e lt = rw (drop-cons text e 0 lt, add-one e) refl

first-of : (text : List ℕ) (e : ℕ) → e ≡ position_or_len (λ c. c == 44) text
    → pieces_of 44 text ≡ take e text ∷ slots_behind (drop e text)
first-of text e end = at (cases_lt e (length text))
  where
    at : (e < length text) ⊎ (length text ≤ e)
        → pieces_of 44 text ≡ take e text ∷ slots_behind (drop e text)
    at (inl lt) = rw (left-behind text e lt)
        (rw end (slice_split_first (λ c. c == 44) text 0 (omega (arith, end, lt))))
    at (inr ge) = rw (take_all e text ge, drop_all e text ge)
        (split-none (λ c. c == 44) text (omega (arith, end, ge)))

pub slot-first : (text : List ℕ) (e : ℕ) → 0 < length text
    → e ≡ position_or_len (λ c. c == 44) (take (length text - 1) (drop 1 text))
    → slots_behind text ≡ take e (take (length text - 1) (drop 1 text)) ∷ slots_behind
    (take (length (take (length text - 1) (drop 1 text)) - e)
    (drop e (take (length text - 1) (drop 1 text))))
slot-first [] e some end = absurd (omega (arith, some))
slot-first (c ∷ text) e some end =
    let rest = rest-is (c ∷ text) 1 (omega arith) in
    let end' : e ≡ position_or_len (λ c. c == 44) text = rw rest at end in
    let most : position_or_len (λ c. c == 44) text ≤ length text = prefix_len-le-length
    (λ c. not (c == 44)) text in
    let within : e ≤ length text = omega (arith, end', most) in
    rw (rest, rest-is text e within) (first-of text e end')

-- the slots of an entry stand behind its `=`
pub slots-cut : (token before behind : List ℕ) → IsCutAt 61 token before behind
    → slots_behind (take (length token - length before) (drop (length before) token)) ≡ pieces_of 44
    behind
slots-cut token before behind h =
    let within : length before ≤ length
    token = omega (arith, ap length h.cut, length-sum before (61 ∷ behind)) in
    let seam : drop (length before)
    token ≡ 61 ∷ behind = ap (λ (l : List ℕ). drop (length before) l) h.cut
    ∙ drop-append_seam before (61 ∷ behind) in
    rw (rest-is token (length before) within, seam) refl
  where
    length-sum : (xs ys : List ℕ) → length (xs ++ ys) ≡ length xs + length ys
    length-sum [] ys = omega arith
    length-sum (x ∷ xs) ys = omega (arith, length-sum xs ys)

-- an entry is cut in one way, so its slots tell whether one of them stands twice
pub entry-there : (token element behind : List ℕ) → IsCutAt 61 token element behind
    → IsLabelToken TransversalRank token (element, pieces_of 44 behind)
entry-there token element behind cut = record { behind = behind; named = cut; labels = refl }

pub repeats-by : (token element behind : List ℕ) → IsCutAt 61 token element behind → (b : Bool)
    → (IsTrue b ↔ StandsTwice (pieces_of 44 behind))
    → MatchBool b (RepeatsSlot token) (RepeatsSlot token → ⊥)
repeats-by token element behind cut true h =
    ((element, pieces_of 44 behind), entry-there token element behind cut, h.0 refl)
repeats-by token element behind cut false h = λ (entry, p, twice).
    let same : entry ≡ (element, pieces_of 44 behind) = token-same TransversalRank token entry
    (element, pieces_of 44 behind) p (entry-there token element behind cut) in
    let slots : entry.1 ≡ pieces_of 44 behind = ap (λ (e : List ℕ × List (List ℕ)). e.1) same in
    false≢true (h.1 (rw slots at twice))
