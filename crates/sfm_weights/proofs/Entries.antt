-- A token is that of one element with one text of a weight, or of none; so the tokens of a line are
-- cut in one way.
use Rattle.std.proofs.Common.{◌≡◌, ◌≢◌, ◌⊎◌, inl, inr, ℕ, suc, ◌+◌, ◌<◌, ◌≤◌, drop, take, nat_eq, if◌then◌else◌, Bool, true, false, List, [], ◌∷◌, ◌++◌, length, map, codes, Option, Some, None, ℤ, refl, sym, ap, subst, ◌∙◌, append_assoc, arith}
use Rattle.std.specs.Prelude.{◌==◌}
use Rattle.std.specs.List.{All, Any, AllZip, position_or_len}
use Rattle.std.proofs.lemmas.Bool.{eqb-true}
use Rattle.std.proofs.lemmas.List.{append-nil}
use Rattle.std.proofs.lemmas.List.Elements.{All-nil, All-cons, All-head, All-tail}
use Rattle.sfm_lines.specs.Parts.{IsCutAt}
use Rattle.sfm_lines.specs.Tokens.{is_blank}
use Rattle.sfm_lines.specs.Weights.{IsWeighed, IsUnweighed, IsWeightText}
use Rattle.sfm_lines.proofs.Cutting.{front-same, first-at, none-at, cut-at, uncut}
use Rattle.sfm_lines.proofs.Matches.{AllZip-push}
use Rattle.sfm_lines.proofs.Ranks.{cut-same}
use Rattle.sfm_weights.specs.Plain.{IsToken, IsHeadCut, IsEntryOf, AreEntriesOf}

-- ---- one token

pub weighed-same : (token : List ℕ) (a b : List ℕ × Option (List ℕ)) → IsWeighed token a
    → IsWeighed token b → a ≡ b
weighed-same token (x, None) (y, None) h g = let same : x ≡ y = sym h.0
    ∙ g.0 in ap (λ (e : List ℕ). (e, None)) same
weighed-same token (x, None) (y, Some w) h g = absurd (uncut 42 token g.0 w h.1 g.1)
weighed-same token (x, Some v) (y, None) h g = absurd (uncut 42 token h.0 v g.1 h.1)
weighed-same token (x, Some v) (y, Some w) h g =
    let (front, weight) = cut-same 42 token h.0 v g.0 w h.1 g.1 in
    rw (h.2, g.2, front, weight) refl

-- a token with a star that is not cut at it says nothing
pub no-cut : (token : List ℕ) (place : ℕ) → place ≡ position_or_len (λ c. c == 42) token
    → place < length token → ((before behind : List ℕ) → IsCutAt 42 token before behind → ⊥)
    → (entry : List ℕ × Option (List ℕ)) → IsWeighed token entry → ⊥
no-cut token place is lt none (x, None) h = let first = first-at 42 token place is lt in h.1 place 0
    first.within first.here
no-cut token place is lt none (x, Some w) (front, cut, e) = none front w cut

-- the text of a weight is what stands behind the first star
pub text-none : (token : List ℕ) (place : ℕ) → place ≡ position_or_len (λ c. c == 42) token
    → length token ≤ place → (entry : List ℕ × Option (List ℕ)) → IsWeighed token entry
    → entry.1 ≡ None
text-none token place is ge (x, None) h = refl
text-none token place is ge (x, Some w) h =
    absurd (uncut 42 token h.0 w (none-at 42 token place is ge) h.1)

pub text-some : (token : List ℕ) (place : ℕ) → place ≡ position_or_len (λ c. c == 42) token
    → place < length token → (entry : List ℕ × Option (List ℕ)) → IsWeighed token entry
    → entry.1 ≡ Some (drop (place + 1) token)
text-some token place is lt (x, None) h =
    let first = first-at 42 token place is lt in absurd (h.1 place 0 first.within first.here)
text-some token place is lt (x, Some w) (front, cut, e) =
    let first = first-at 42 token place is lt in
    let whole = cut-at 42 token place first.within first.here in
    let same = front-same 42 front w (take place token) (drop (place + 1) token) cut.none_before
    first.none_before (sym cut.cut ∙ whole) in
    ap (λ (t : List ℕ). Some t) same.1

front-clean : (front more : List ℕ) → All (λ c. is_blank c ≡ false) (front ++ more)
    → All (λ c. is_blank c ≡ false) front
front-clean [] more h = All-nil (λ c. is_blank c ≡ false)
front-clean (c ∷ front) more h =
    All-cons (λ c. is_blank c ≡ false) c front
    (All-head (λ c. is_blank c ≡ false) c (front ++ more) h)
    (front-clean front more (All-tail (λ c. is_blank c ≡ false) c (front ++ more) h))

star-token : IsToken (codes "*")
star-token = record {
  some = omega arith;
  clean = All-cons (λ c. is_blank c ≡ false) 42 [] refl (All-nil (λ c. is_blank c ≡ false));
}

pub not-empty : (n : ℕ) (a b : List ℕ) → 0 < n → (if nat_eq n 0 then a else b) ≡ b
not-empty n a b some = at (nat_eq n 0) refl
  where
    at : (c : Bool) → nat_eq n 0 ≡ c → (if c then a else b) ≡ b
    at true e = absurd (omega (arith, some, eqb-true n 0 e))
    at false e = refl

-- what stands for an element is a token
pub entry-token : (token : List ℕ) (entry : List ℕ × Option (List ℕ)) → IsToken token
    → IsWeighed token entry → IsToken entry.0
entry-token token (x, None) t h = subst IsToken h.0 t
entry-token token (x, Some w) t ([], cut, is) = subst IsToken (sym is) star-token
entry-token token (x, Some w) t (c ∷ front, cut, is) =
    subst IsToken (sym (is ∙ not-empty (length (c ∷ front)) (codes "*") (c ∷ front) (omega arith)))
    (record {
      some = omega arith;
      clean = front-clean (c ∷ front) (42 ∷ w)
          (subst (λ (l : List ℕ). All (λ c. is_blank c ≡ false) l) cut.cut t.clean);
    })

semicolon-plain : All (λ c. c ≢ 42) (codes ";")
semicolon-plain = All-cons (λ c. c ≢ 42) 59 [] (λ e. omega (arith, e)) (All-nil (λ c. c ≢ 42))

-- a semicolon alone is the token of no element
pub no-semicolon : (token : List ℕ) (entry : List ℕ × Option (List ℕ)) → IsEntryOf token entry
    → token ≢ codes ";"
no-semicolon token (x, None) (h, unmarked) e = unmarked (inr (sym h.0 ∙ e))
no-semicolon token (x, Some w) (h, unmarked) e =
    uncut 42 token h.0 w (subst (λ (l : List ℕ). All (λ c. c ≢ 42) l) (sym e) semicolon-plain) h.1

-- ---- the tokens behind the colon

-- where the elements end
abbrev pub IsEnd : List (List ℕ) → Type 0
IsEnd behind = (behind ≡ []) ⊎ ((rest : List (List ℕ)) × (behind ≡ codes ";" ∷ rest))

no-end : (token : List ℕ) (rest behind : List (List ℕ)) → token ∷ rest ≡ behind → IsEnd behind
    → token ≢ codes ";" → ⊥
no-end token rest behind e (inl none) other = absurd (omega (arith, ap length (e ∙ none)))
no-end token rest behind e (inr (more, is)) other =
    let both : token ∷ rest ≡ codes ";" ∷ more = e ∙ is in
    let same : token ≡ codes ";" = cc in
    other same

-- a token of no element stands where one is due
pub no-entries : (done marked : List (List ℕ)) (old new : List (List ℕ × Option (List ℕ)))
    (token : List ℕ) (rest behind : List (List ℕ)) → AllZip IsEntryOf done old
    → AllZip IsEntryOf marked new
    → done ++ token ∷ rest ≡ marked ++ behind → IsEnd behind → token ≢ codes ";"
    → ((entry : List ℕ × Option (List ℕ)) → IsEntryOf token entry → ⊥) → ⊥
no-entries [] [] old new token rest behind h g e end other none =
    no-end token rest behind e end other
no-entries [] (m ∷ marked) old [] token rest behind h g e end other none = absurd g
no-entries [] (m ∷ marked) old (entry ∷ new) token rest behind h g e end other none =
    let same : m ≡ token = cc in
    none entry (subst (λ (t : List ℕ). IsEntryOf t entry) same g.0)
no-entries (d ∷ done) marked [] new token rest behind h g e end other none = absurd h
no-entries (d ∷ done) [] (entry ∷ old) new token rest behind h g e end other none =
    no-end d (done ++ token ∷ rest) behind e end (no-semicolon d entry h.0)
no-entries (d ∷ done) (m ∷ marked) (entry ∷ old) [] token rest behind h g e end other none =
    absurd g
no-entries (d ∷ done) (m ∷ marked) (entry ∷ old) (next ∷ new) token rest behind h g e end other
    none =
    let more : done ++ token ∷ rest ≡ marked ++ behind = cc in
    no-entries done marked old new token rest behind h.1 g.1 more end other none

-- the first token is that of the first element
pub record IsStep (token : List ℕ) (rest : List (List ℕ))
    (entries : List (List ℕ × Option (List ℕ))) (behind : List (List ℕ)) : Type 0 where
  pub entry : List ℕ × Option (List ℕ)
  pub more : List (List ℕ × Option (List ℕ))
  pub are : entries ≡ entry ∷ more
  pub is : IsEntryOf token entry
  pub left : AreEntriesOf rest more behind

pub entries-step : (tokens : List (List ℕ)) (token : List ℕ) (rest : List (List ℕ))
    (entries : List (List ℕ × Option (List ℕ))) (behind : List (List ℕ)) → tokens ≡ token ∷ rest
    → token ≢ codes ";" → AreEntriesOf tokens entries behind → IsStep token rest entries behind
entries-step tokens token rest entries behind e other h = at h.marked entries (sym e ∙ h.cut) h.each
  where
    at : (marked : List (List ℕ)) (entries : List (List ℕ × Option (List ℕ)))
        → token ∷ rest ≡ marked ++ behind → AllZip IsEntryOf marked entries
        → IsStep token rest entries behind
    at [] entries cut each = absurd (no-end token rest behind cut h.ends other)
    at (m ∷ marked) [] cut each = absurd each
    at (m ∷ marked) (entry ∷ more) cut each =
        let same : m ≡ token = cc in
        let left : rest ≡ marked ++ behind = cc in
        record {
          entry = entry;
          more = more;
          are = refl;
          is = subst (λ (t : List ℕ). IsEntryOf t entry) same each.0;
          left = record { marked = marked; cut = left; each = each.1; ends = h.ends };
        }

-- no element stands where they end
pub entries-end : (tokens : List (List ℕ)) (entries : List (List ℕ × Option (List ℕ)))
    (behind : List (List ℕ)) → IsEnd tokens → AreEntriesOf tokens entries behind → entries ≡ []
entries-end tokens entries behind end h = at h.marked entries h.cut h.each
  where
    at : (marked : List (List ℕ)) (entries : List (List ℕ × Option (List ℕ)))
        → tokens ≡ marked ++ behind → AllZip IsEntryOf marked entries → entries ≡ []
    at [] [] cut each = refl
    at [] (entry ∷ more) cut each = absurd each
    at (m ∷ marked) [] cut each = absurd each
    at (m ∷ marked) (entry ∷ more) cut each =
        absurd (no-end m (marked ++ behind) tokens (sym cut) end (no-semicolon m entry each.0))

-- ---- the line

none-in : (head behind : List (List ℕ))
    → All (λ token. token ≢ codes ":") (head ++ codes ":" ∷ behind) → ⊥
none-in [] behind none = All-head (λ token. token ≢ codes ":") (codes ":") behind none refl
none-in (t ∷ head) behind none =
    none-in head behind (All-tail (λ token. token ≢ codes ":") t (head ++ codes ":" ∷ behind) none)

pub no-head : (tokens all head behind : List (List ℕ)) → tokens ≡ all
    → All (λ token. token ≢ codes ":") all → IsHeadCut tokens head behind → ⊥
no-head tokens all head behind is none h =
    none-in head behind (subst (λ (l : List (List ℕ)). All (λ token. token ≢ codes ":") l)
    (sym is ∙ h.cut) none)

module _ (tokens plain : List (List ℕ)) (entries : List (List ℕ × Option (List ℕ))) where
  -- no colon alone
  pub no-line : All (λ token. token ≢ codes ":") tokens → IsUnweighed tokens plain entries → ⊥
  no-line none h = none-in h.head (h.marked ++ h.behind)
      (subst (λ (l : List (List ℕ)). All (λ token. token ≢ codes ":") l) h.cut none)

  -- the elements stand behind the first
  pub head-of : (h : IsUnweighed tokens plain entries)
      → IsHeadCut tokens h.head (h.marked ++ h.behind)
  head-of h = record { cut = h.cut; no_colon = h.no_colon }

  pub entries-of : (head behind : List (List ℕ)) → IsHeadCut tokens head behind
      → (h : IsUnweighed tokens plain entries) → AreEntriesOf behind entries h.behind
  entries-of head behind cut h =
      let same = front-same (codes ":") head behind h.head (h.marked ++ h.behind) cut.no_colon
      h.no_colon (sym cut.cut ∙ h.cut) in
      record { marked = h.marked; cut = same.1; each = h.each; ends = h.ends }

  pub line-of : (head elements behind : List (List ℕ)) → IsHeadCut tokens head elements
      → AreEntriesOf elements entries behind
      → plain ≡ ((head ++ codes ":" ∷ []) ++ map (λ entry. entry.0) entries) ++ behind
      → IsUnweighed tokens plain entries
  line-of head elements behind cut h is = record {
    head = head;
    marked = h.marked;
    behind = behind;
    cut = cut.cut ∙ ap (λ (l : List (List ℕ)). head ++ codes ":" ∷ l) h.cut;
    no_colon = cut.no_colon;
    each = h.each;
    ends = h.ends;
    plain_are = is ∙ (append_assoc (head ++ codes ":" ∷ []) (map (λ entry. entry.0) entries) behind
        ∙ append_assoc head (codes ":" ∷ []) (map (λ entry. entry.0) entries ++ behind));
  }

-- heads that are cut at the first colon are one
pub behind-same : (tokens head behind head' behind' : List (List ℕ)) → IsHeadCut tokens head behind
    → IsHeadCut tokens head' behind' → behind ≡ behind'
behind-same tokens head behind head' behind' h g =
    (front-same (codes ":") head behind head' behind' h.no_colon g.no_colon (sym h.cut ∙ g.cut)).1

-- ---- passing the entries one after another, until one is found of which something holds

-- of the entries of a line these are left
pub record AreLeft (Wrong Right : List ℕ × Option (List ℕ) → Type 0)
    (entries : List (List ℕ × Option (List ℕ))) (tokens : List (List ℕ)) : Type 0 where
  pub rest : List (List ℕ × Option (List ℕ))
  pub behind : List (List ℕ)
  pub left : AreEntriesOf tokens rest behind
  pub wrong : Any Wrong rest → Any Wrong entries
  pub right : All Right rest → All Right entries

module _ (Wrong Right : List ℕ × Option (List ℕ) → Type 0)
    (entries : List (List ℕ × Option (List ℕ))) where
  pub left-all : (tokens behind : List (List ℕ)) → AreEntriesOf tokens entries behind
      → AreLeft Wrong Right entries tokens
  left-all tokens behind h = record {
    rest = entries;
    behind = behind;
    left = h;
    wrong = λ any. any;
    right = λ all. all;
  }

  module _ (tokens : List (List ℕ)) (token : List ℕ) (more : List (List ℕ))
      (cut : tokens ≡ token ∷ more) (other : token ≢ codes ";")
      (h : AreLeft Wrong Right entries tokens) where
    step : IsStep token more h.rest h.behind
    step = entries-step tokens token more h.rest h.behind cut other h.left

    pub left-next : ((entry : List ℕ × Option (List ℕ)) → IsWeighed token entry → Right entry)
        → AreLeft Wrong Right entries more
    left-next good = record {
      rest = step.more;
      behind = h.behind;
      left = step.left;
      wrong = λ (k, e, lt, at, p). h.wrong
          (subst (λ (l : List (List ℕ × Option (List ℕ))). Any Wrong l) (sym step.are)
          (suc k, e, omega (arith, lt), at, p));
      right = λ all. h.right (subst (λ (l : List (List ℕ × Option (List ℕ))). All Right l)
          (sym step.are) (All-cons Right step.entry step.more (good step.entry step.is.0) all));
    }

    pub left-wrong : ((entry : List ℕ × Option (List ℕ)) → IsWeighed token entry → Wrong entry)
        → Any Wrong entries
    left-wrong bad = h.wrong (subst (λ (l : List (List ℕ × Option (List ℕ))). Any Wrong l)
        (sym step.are) (0, step.entry, omega arith, refl, bad step.entry step.is.0))

  pub left-none : (tokens : List (List ℕ)) → IsEnd tokens → AreLeft Wrong Right entries tokens
      → All Right entries
  left-none tokens end h = h.right
      (subst (λ (l : List (List ℕ × Option (List ℕ))). All Right l)
      (sym (entries-end tokens h.rest h.behind end h.left)) (All-nil Right))

-- the entries of a line stand behind its colon
pub line-entries : (tokens left plain : List (List ℕ)) (entries : List (List ℕ × Option (List ℕ)))
    → ((head behind : List (List ℕ)) → IsHeadCut tokens head behind → left ≡ behind)
    → (h : IsUnweighed tokens plain entries) → AreEntriesOf left entries h.behind
line-entries tokens left plain entries is h =
    record {
      marked = h.marked;
      cut = is h.head (h.marked ++ h.behind)
          (head-of tokens plain entries h);
      each = h.each;
      ends = h.ends;
    }

-- tokens that begin with a semicolon alone
pub at-semicolon : (tokens : List (List ℕ)) (token : List ℕ) (more : List (List ℕ))
    → tokens ≡ token ∷ more → token ≡ codes ";" → IsEnd tokens
at-semicolon tokens token more cut is = inr (more, cut ∙ ap (λ (t : List ℕ). t ∷ more) is)

-- the weights that have been read
pub record AreRead (entries : List (List ℕ × Option (List ℕ))) (tokens : List (List ℕ))
    (weights : List ℤ) : Type 0 where
  pub done : List (List ℕ × Option (List ℕ))
  pub rest : List (List ℕ × Option (List ℕ))
  pub behind : List (List ℕ)
  pub parts : entries ≡ done ++ rest
  pub left : AreEntriesOf tokens rest behind
  pub each : AllZip (λ entry. IsWeightText entry.1) done weights

pub read-none : (entries : List (List ℕ × Option (List ℕ))) (tokens behind : List (List ℕ))
    → AreEntriesOf tokens entries behind → AreRead entries tokens []
read-none entries tokens behind h =
    record { done = []; rest = entries; behind = behind; parts = refl; left = h; each = tt }

right-at : (done : List (List ℕ × Option (List ℕ))) (entry : List ℕ × Option (List ℕ))
    (more : List (List ℕ × Option (List ℕ)))
    → All (λ e. (value : ℤ) × IsWeightText e.1 value) (done ++ entry ∷ more) → (value : ℤ)
    × IsWeightText entry.1 value
right-at [] entry more h = All-head (λ e. (value : ℤ) × IsWeightText e.1 value) entry more h
right-at (d ∷ done) entry more h =
    right-at done entry more (All-tail (λ e. (value : ℤ) × IsWeightText e.1 value) d
    (done ++ entry ∷ more) h)

pub read-one : (entries : List (List ℕ × Option (List ℕ))) (tokens : List (List ℕ))
    (weights : List ℤ) (token : List ℕ) (more : List (List ℕ)) (weight : ℤ) → tokens ≡ token ∷ more
    → token ≢ codes ";" → All (λ e. (value : ℤ) × IsWeightText e.1 value) entries
    → ((entry : List ℕ × Option (List ℕ)) (value : ℤ) → IsWeighed token entry
    → IsWeightText entry.1 value → weight ≡ value) → AreRead entries tokens weights
    → AreRead entries more (weights ++ weight ∷ [])
read-one entries tokens weights token more weight cut other all told h =
    let step = entries-step tokens token more h.rest h.behind cut other h.left in
    let parts : entries ≡ h.done ++ step.entry ∷ step.more = h.parts
    ∙ ap (λ (l : List (List ℕ × Option (List ℕ))). h.done ++ l) step.are in
    let (value, is) = right-at h.done step.entry step.more
    (subst (λ (l : List (List ℕ × Option (List ℕ))).
    All (λ e. (value : ℤ) × IsWeightText e.1 value) l) parts all) in
    let here : IsWeightText step.entry.1 weight = subst (λ (v : ℤ). IsWeightText step.entry.1 v)
    (sym (told step.entry value step.is.0 is)) is in
    record {
      done = h.done ++ step.entry ∷ [];
      rest = step.more;
      behind = h.behind;
      parts = parts ∙ sym (append_assoc h.done (step.entry ∷ []) step.more);
      left = step.left;
      each = AllZip-push (λ entry. IsWeightText entry.1) h.done weights step.entry weight h.each
          here;
    }

pub read-all : (entries : List (List ℕ × Option (List ℕ))) (tokens : List (List ℕ))
    (weights : List ℤ) → IsEnd tokens → AreRead entries tokens weights
    → AllZip (λ entry. IsWeightText entry.1) entries weights
read-all entries tokens weights end h =
    let none = entries-end tokens h.rest h.behind end h.left in
    let whole : h.done ≡ entries = sym
    (h.parts ∙ (ap (λ (l : List (List ℕ × Option (List ℕ))). h.done ++ l) none
    ∙ append-nil h.done)) in
    subst (λ (l : List (List ℕ × Option (List ℕ))). AllZip (λ entry. IsWeightText entry.1) l
    weights) whole h.each

-- ---- a line is cut in one way

pub entries-same : (tokens : List (List ℕ)) (a b : List (List ℕ × Option (List ℕ)))
    (behind behind' : List (List ℕ)) → AreEntriesOf tokens a behind → AreEntriesOf tokens b behind'
    → (a ≡ b) × (behind ≡ behind')
entries-same tokens a b behind behind' h g =
    at h.marked g.marked a b (sym h.cut ∙ g.cut) h.each g.each
  where
    at : (x y : List (List ℕ)) (a b : List (List ℕ × Option (List ℕ))) → x ++ behind ≡ y ++ behind'
        → AllZip IsEntryOf x a → AllZip IsEntryOf y b → (a ≡ b) × (behind ≡ behind')
    at [] [] [] [] e xs ys = (refl, e)
    at [] [] [] (q ∷ b) e xs ys = absurd ys
    at [] [] (p ∷ a) b e xs ys = absurd xs
    at [] (v ∷ y) a [] e xs ys = absurd ys
    at [] (v ∷ y) a (q ∷ b) e xs ys =
        absurd (no-end v (y ++ behind') behind (sym e) h.ends (no-semicolon v q ys.0))
    at (u ∷ x) y [] b e xs ys = absurd xs
    at (u ∷ x) [] (p ∷ a) b e xs ys =
        absurd (no-end u (x ++ behind) behind' e g.ends (no-semicolon u p xs.0))
    at (u ∷ x) (v ∷ y) (p ∷ a) [] e xs ys = absurd ys
    at (u ∷ x) (v ∷ y) (p ∷ a) (q ∷ b) e xs ys =
        let same : v ≡ u = cc in
        let more : x ++ behind ≡ y ++ behind' = cc in
        let rest = at x y a b more xs.1 ys.1 in
        let one : p ≡ q = weighed-same u p q xs.0.0
        (subst (λ (t : List ℕ). IsWeighed t q) same ys.0.0) in
        (rw (one, rest.0) refl, rest.1)

pub unweighed-same : (tokens p q : List (List ℕ)) (a b : List (List ℕ × Option (List ℕ)))
    → IsUnweighed tokens p a → IsUnweighed tokens q b → (p ≡ q) × (a ≡ b)
unweighed-same tokens p q a b h g =
    let cut = front-same (codes ":") h.head (h.marked ++ h.behind) g.head (g.marked ++ g.behind)
    h.no_colon g.no_colon (sym h.cut ∙ g.cut) in
    let same = entries-same (h.marked ++ h.behind) a b h.behind g.behind
    (record { marked = h.marked; cut = refl; each = h.each; ends = h.ends })
    (entries-of tokens q b h.head (h.marked ++ h.behind) (head-of tokens p a h) g) in
    (h.plain_are ∙ (rw (cut.0, same.0, same.1) refl ∙ sym g.plain_are), same.0)
