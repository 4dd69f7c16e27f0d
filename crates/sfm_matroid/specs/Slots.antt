-- Elements taken one after another while their slots suffice: while no part of them has fewer slots
-- than members. How many are taken of a set is its rank. Its weighted rank, and the base that the
-- taken elements give. Textbook: Schrijver, Combinatorial Optimization, sections 22 (Hall's
-- theorem), 39 and 40.
use Rattle.std.proofs.Common.{◌≡◌, ℕ, zero, suc, ◌+◌, Bool, true, false, not, ◌&&◌, ◌||◌, List, [], ◌∷◌, length, get_or, set, nat_eq, ℤ, pos, ◌*ℤ◌, ◌≤ℤ◌, nat_lt, if◌then◌else◌}
use Rattle.sfm_spec.specs.Sets.{empty_set, size, sum_over, whole_set, intersection}
use Rattle.sfm_spec.specs.Terms.{SetFunction}
use Rattle.sfm_rank.specs.Terms.{at_places, rank_value}
use Rattle.sfm_matroid.specs.Counts.{count_below}

abbrev pub lists_slot : List ℕ → ℕ → Bool
lists_slot [] v = false
lists_slot (a ∷ slots) v = nat_eq a v || lists_slot slots v

-- the slot v is listed for a member of s
abbrev pub listed : List (List ℕ) → List Bool → ℕ → Bool
listed [] s v = false
listed (slots ∷ entries) [] v = false
listed (slots ∷ entries) (b ∷ s) v = (b && lists_slot slots v) || listed entries s v

-- how many of m slots are listed for members of s
abbrev pub slots_count : List (List ℕ) → ℕ → List Bool → ℕ
slots_count entries m s = count_below m (listed entries s)

-- no members get more than c for each of m slots that are listed for them
abbrev pub IsWithinSlots : List (List ℕ) → ℕ → ℤ → List ℤ → Type 0
IsWithinSlots entries m c x = (s : List Bool) → length s ≡ length entries
    → sum_over s x ≤ℤ (c *ℤ pos (slots_count entries m s))

-- some set of k places passes
abbrev pub some_set : ℕ → (List Bool → Bool) → Bool
some_set zero p = p []
some_set (suc k) p = some_set k (λ s. p (true ∷ s)) || some_set k (λ s. p (false ∷ s))

-- the members of t that are in r have fewer slots than they are
abbrev pub lack_slots : List (List ℕ) → ℕ → List Bool → List Bool → Bool
lack_slots entries m t r = nat_lt (slots_count entries m (intersection r t))
    (size (intersection r t))

-- no part of t has fewer slots than members
abbrev pub have_slots : List (List ℕ) → ℕ → List Bool → Bool
have_slots entries m t = not (some_set (length t) (lack_slots entries m t))

-- more than each slot of each entry
abbrev pub above_list : List ℕ → ℕ
above_list [] = 0
above_list (a ∷ slots) = suc (a + above_list slots)

abbrev pub above_slots : List (List ℕ) → ℕ
above_slots [] = 0
above_slots (slots ∷ entries) = above_list slots + above_slots entries

-- the place n of s is taken to t: it has slots with it
abbrev pub suits : List (List ℕ) → List Bool → List Bool → ℕ → Bool
suits entries s t n = get_or s n false && have_slots entries (above_slots entries) (set t n true)

-- the places of s below n that are taken
abbrev pub suited : List (List ℕ) → List Bool → ℕ → List Bool
suited entries s zero = empty_set (length entries)
suited entries s (suc n) = if suits entries s (suited entries s n) n then set (suited entries s n) n
    true else suited entries s n

-- how many places are taken of a set
abbrev pub transversal_rank : List (List ℕ) → List Bool → ℕ
transversal_rank entries s = size (suited entries s (length entries))

-- the places that are taken one after another when all may be
abbrev pub transversal_basis : List (List ℕ) → List Bool
transversal_basis entries = suited entries (whole_set (length entries)) (length entries)

abbrev pub transversal_value : ℤ → List (List ℕ) → SetFunction
transversal_value w entries = rank_value w (transversal_rank entries)

-- the greatest value: that of all elements
abbrev pub transversal_size : ℤ → List (List ℕ) → ℤ
transversal_size w entries = w *ℤ pos (size (transversal_basis entries))

-- q·w at each element of the greatest part with slots of their own
abbrev pub transversal_start : ℤ → ℤ → List (List ℕ) → List ℤ
transversal_start q w entries = at_places (q *ℤ w) (transversal_basis entries)
