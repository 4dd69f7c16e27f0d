-- A list of names, read by one pass over the names of the ground.
use Rattle.std.proofs.Common.{◌≡◌, ◌≢◌, ℕ, zero, suc, ◌+◌, ◌<◌, ◌≤◌, Bool, true, false, List, [], ◌∷◌, ◌++◌, length, take, drop, get_or, set, replicate, inl, inr, refl, sym, ap, subst, ◌∙◌, arith, append_assoc, if◌then◌else◌}
use Rattle.std.specs.List.{All}
use Rattle.std.proofs.lemmas.List.{take_more, take_all, drop_more, drop_all, length-set, length-replicate, take-set, get_or-set_same, get_or-set_other, length-drop, get_or-drop, get_or_default}
use Rattle.std.proofs.lemmas.List.Elements.{All-head, All-tail, All-weaker, All-drop}
use mathlib.Core.Logic.{⊎_elim}
use Rattle.sfm_spec.specs.Names.{IsName, IsNameByte}
use Rattle.sfm_kind.specs.Names.{AreElementNames, IsNewName}
use Rattle.sfm_spec.specs.Sets.{empty_set}
use Rattle.sfm_cert.specs.Answer.{listed}
use Rattle.sfm_cert.proofs.AnswerLines.{listed-more}
use Rattle.sfm_readback.specs.Lists.{IsStop, IsNamesStop, IsListCut}
use Rattle.sfm_readback.proofs.Tokens.{same_front}

-- ---- names hold neither space nor colon

byte_not : (k c : ℕ) → k < 48 → IsNameByte c → c ≢ k
byte_not k c h b e = ⊎_elim (λ p. omega (arith, p.0, e))
    (λ q. ⊎_elim (λ p. omega (arith, p.0, e))
    (λ r. ⊎_elim (λ p. omega (arith, p, e)) (λ p. omega (arith, p.0, e)) r) q) b

pub name_plain : (name : List ℕ) → IsName name → All (λ c. c ≢ 32) name
name_plain name h = All-weaker IsNameByte (λ c. c ≢ 32) (λ c b. byte_not 32 c (omega arith) b) name
    h.bytes

stop_of : (rest : List ℕ) → IsNamesStop rest → IsStop rest
stop_of rest h = ⊎_elim (λ e. inl e) (λ m. inr (58 ∷ m.0, m.1)) h

pub listed-stop : (names : List (List ℕ)) (s : List Bool) (rest : List ℕ) → IsNamesStop rest
    → IsStop (listed names s ++ rest)
listed-stop [] s rest h = stop_of rest h
listed-stop (name ∷ names) [] rest h = stop_of rest h
listed-stop (name ∷ names) (true ∷ s) rest h = inr ((name ++ listed names s) ++ rest, refl)
listed-stop (name ∷ names) (false ∷ s) rest h = listed-stop names s rest h

-- what stands behind a list of names begins with no name
no_name : (name rest after : List ℕ) → IsName name → IsNamesStop rest → rest ≡ 32 ∷ (name ++ after)
    → ⊥
no_name [] rest after h stop e = omega (arith, h.some)
no_name (c ∷ name) rest after h stop e =
    ⊎_elim (λ n. let f : [] ≡ 32 ∷ ((c ∷ name) ++ after) = sym n ∙ e in cc)
    (λ m. let f : 32 ∷ (58 ∷ m.0) ≡ 32 ∷ ((c ∷ name) ++ after) = sym m.1 ∙ e in
    let g : 58 ≡ c = cc in
    colon c (All-head IsNameByte c name h.bytes) (sym g)) stop where
      colon : (c : ℕ) → IsNameByte c → c ≡ 58 → ⊥
      colon c b e = ⊎_elim (λ p. omega (arith, p.1, e))
          (λ q. ⊎_elim (λ p. omega (arith, p.0, e))
          (λ r. ⊎_elim (λ p. omega (arith, p, e)) (λ p. omega (arith, p.0, e)) r) q) b

-- a list of other names begins with no such name
pub not_listed : (names : List (List ℕ)) (s : List Bool) (name rest after : List ℕ) → IsName name
    → All IsName names → IsNewName names name → IsNamesStop rest → IsStop after
    → listed names s ++ rest ≡ 32 ∷ (name ++ after) → ⊥
not_listed [] s name rest after h hs new stop stop' e = no_name name rest after h stop e
not_listed (m ∷ names) [] name rest after h hs new stop stop' e = no_name name rest after h stop e
not_listed (m ∷ names) (false ∷ s) name rest after h hs new stop stop' e =
    not_listed names s name rest after h (All-tail IsName m names hs)
    (All-tail (λ other. other ≢ name) m names new) stop stop' e
not_listed (m ∷ names) (true ∷ s) name rest after h hs new stop stop' e =
    let f : m ++ (listed names s ++ rest) ≡ name ++ after = sym
    (append_assoc m (listed names s) rest) ∙ tail_of e in
    All-head (λ other. other ≢ name) m names new
    (same_front 32 m name (listed names s ++ rest) after (name_plain m (All-head IsName m names hs))
    (name_plain name h) (listed-stop names s rest stop) stop' f).0 where
      tail_of : {x y : List ℕ} → 32 ∷ x ≡ 32 ∷ y → x ≡ y
      tail_of e = cc

-- the name that a list of names begins with
pub listed_first : (m : List ℕ) (names : List (List ℕ)) (b : Bool) (s : List Bool)
    (rest after : List ℕ) → All IsName (m ∷ names) → IsNewName names m → IsNamesStop rest
    → IsStop after
    → listed (m ∷ names) (b ∷ s) ++ rest ≡ 32 ∷ (m ++ after) → (b ≡ true)
    × (listed names s ++ rest ≡ after)
listed_first m names false s rest after hs new stop stop' e =
    absurd (not_listed names s m rest after (All-head IsName m names hs)
    (All-tail IsName m names hs) new stop stop' e)
listed_first m names true s rest after hs new stop stop' e =
    let f : m ++ (listed names s ++ rest) ≡ m ++ after = sym (append_assoc m (listed names s) rest)
    ∙ tail_of e in (
      refl,
      (same_front 32 m m (listed names s ++ rest) after
          (name_plain m (All-head IsName m names hs)) (name_plain m (All-head IsName m names hs))
          (listed-stop names s rest stop) stop' f).1,
    ) where
      tail_of : {x y : List ℕ} → 32 ∷ x ≡ 32 ∷ y → x ≡ y
      tail_of e = cc

-- and where the list does not begin with it
pub listed_not_first : (m : List ℕ) (names : List (List ℕ)) (b : Bool) (s : List Bool)
    (rest bytes : List ℕ) → IsNamesStop rest
    → ((after : List ℕ) → IsStop after → bytes ≡ 32 ∷ (m ++ after) → ⊥)
    → bytes ≡ listed (m ∷ names) (b ∷ s) ++ rest → (b ≡ false)
    × (bytes ≡ listed names s ++ rest)
listed_not_first m names false s rest bytes stop none e = (refl, e)
listed_not_first m names true s rest bytes stop none e =
    absurd (none (listed names s ++ rest) (listed-stop names s rest stop)
    (e ∙ ap (λ x. 32 ∷ x) (append_assoc m (listed names s) rest)))

-- ---- the pass over the names

-- of the first e names, those of s stand before the rest, and each list of names that the bytes
-- hold agrees so far
pub record NamesSoFar (names : List (List ℕ)) (bytes : List ℕ) (e : ℕ) (s : List Bool)
    (rest : List ℕ) : Type 0 where
  pub places : length s ≡ length names
  pub cut : bytes ≡ listed (take e names) (take e s) ++ rest
  pub only : (t : List Bool) (other : List ℕ) → length t ≡ length names → IsNamesStop other
      → bytes ≡ listed names t ++ other
      → (take e t ≡ take e s) × (rest ≡ listed (drop e names) (drop e t) ++ other)
  pub clear : (k : ℕ) → e ≤ k → get_or s k false ≡ false

pub names_begin : (names : List (List ℕ)) (bytes : List ℕ)
    → NamesSoFar names bytes 0 (empty_set (length names)) bytes
names_begin names bytes = record {
  places = length-replicate (length names) false;
  cut = refl;
  only = λ t other n stop e. (refl, e);
  clear = λ k h. none (length names) k;
} where
  none : (n k : ℕ) → get_or (replicate n false) k false ≡ false
  none zero k = refl
  none (suc n) zero = refl
  none (suc n) (suc k) = none n k

-- one more name, which stands next or does not
pub names_more : (names : List (List ℕ)) (bytes : List ℕ) (e : ℕ) (s s' : List Bool) (b : Bool)
    (rest rest' : List ℕ) → e < length names → NamesSoFar names bytes e s rest
    → length s' ≡ length s → take e s' ≡ take e s → get_or s' e false ≡ b
    → rest ≡ (if b then 32 ∷ get_or names e [] else []) ++ rest'
    → ((k : ℕ) → e + 1 ≤ k → get_or s' k false ≡ false)
    → ((c : Bool) (u : List Bool) (other : List ℕ) → IsNamesStop other
    → rest ≡ listed (get_or names e [] ∷ drop (e + 1) names) (c ∷ u) ++ other → (c ≡ b)
    × (rest' ≡ listed (drop (e + 1) names) u ++ other))
    → NamesSoFar names bytes (e + 1) s' rest'
names_more names bytes e s s' b rest rest' h so n same has next clear step =
    let front : listed (take (e + 1) names) (take (e + 1) s') ≡ listed (take e names)
    (take e s) ++ (if b then 32 ∷ get_or names e [] else [])
    = listed-more names s' e (omega (arith, n, so.places)) h
    ∙ ap (λ c. listed (take e names) (take e s') ++ (if c then 32 ∷ get_or names e [] else [])) has
    ∙ ap (λ z. listed (take e names) z ++ (if b then 32 ∷ get_or names e [] else [])) same in
    record {
      places = n ∙ so.places;
      cut = so.cut ∙ ap (λ r. listed (take e names) (take e s) ++ r) next
          ∙ sym (append_assoc (listed (take e names) (take e s))
          (if b then 32 ∷ get_or names e [] else []) rest') ∙ ap (λ z. z ++ rest') (sym front);
      only = λ t other lt stop f. at t other lt (so.only t other lt stop f) stop;
      clear = clear;
    } where
      at : (t : List Bool) (other : List ℕ) → length t ≡ length names → (take e t ≡ take e s)
          × (rest ≡ listed (drop e names) (drop e t) ++ other) → IsNamesStop other
          → (take (e + 1) t ≡ take (e + 1) s')
          × (rest' ≡ listed (drop (e + 1) names) (drop (e + 1) t) ++ other)
      at t other lt (p, q) stop =
          let dn : drop e names ≡ get_or names e [] ∷ drop (e + 1) names = drop_more names e [] h in
          let dt : drop e t ≡ get_or t e false ∷ drop (e + 1) t = drop_more t e false
          (omega (arith, lt, h)) in
          let q' : rest ≡ listed (get_or names e [] ∷ drop (e + 1) names)
          (get_or t e false ∷ drop (e + 1) t) ++ other =
          q ∙ ap (λ z. listed z (drop e t) ++ other) dn
          ∙ ap (λ z. listed (get_or names e [] ∷ drop (e + 1) names) z ++ other) dt in
          let r = step (get_or t e false) (drop (e + 1) t) other stop q' in (
            take_more t e false (omega (arith, lt, h)) ∙ ap (λ z. z ++ get_or t e false ∷ []) p
                ∙ ap (λ c. take e s ++ c ∷ []) (r.0 ∙ sym has)
                ∙ ap (λ z. z ++ get_or s' e false ∷ []) (sym same)
                ∙ sym (take_more s' e false (omega (arith, n, so.places, h))),
            r.1,
          )

names_after : (names : List (List ℕ)) (e : ℕ) → e < length names → AreElementNames names
    → All IsName (get_or names e [] ∷ drop (e + 1) names)
names_after names e h are = subst (λ (x : List (List ℕ)). All IsName x) (drop_more names e [] h)
    (All-drop IsName e names are.forms)

new_after : (names : List (List ℕ)) (e : ℕ) → e < length names → AreElementNames names
    → IsNewName (drop (e + 1) names) (get_or names e [])
new_after names e h are = λ k d lt same.
    are.distinct e (e + 1 + k) [] (omega arith) (omega (arith, lt, length-drop (e + 1) names))
    (sym same ∙ get_or_default (drop (e + 1) names) k d [] lt ∙ get_or-drop (e + 1) names k [])

pub names_take : (names : List (List ℕ)) (bytes : List ℕ) (e : ℕ) (s : List Bool)
    (rest behind : List ℕ) → e < length names → AreElementNames names
    → NamesSoFar names bytes e s rest
    → IsStop behind → rest ≡ 32 ∷ (get_or names e [] ++ behind)
    → NamesSoFar names bytes (e + 1) (set s e true) behind
names_take names bytes e s rest behind h are so stop f =
    names_more names bytes e s (set s e true) true rest behind h so (length-set s e true)
    (take-set s e true) (get_or-set_same s e true false (omega (arith, so.places, h))) f
    (λ k le. get_or-set_other s e k true false (λ x. omega (arith, x, le))
    ∙ so.clear k (omega (arith, le)))
    (λ c u other stop' g. let r = listed_first (get_or names e []) (drop (e + 1) names) c u other
    behind (names_after names e h are) (new_after names e h are) stop' stop
    (sym g ∙ f) in (r.0, sym r.1))

pub names_skip : (names : List (List ℕ)) (bytes : List ℕ) (e : ℕ) (s : List Bool) (rest : List ℕ)
    → e < length names → NamesSoFar names bytes e s rest
    → ((behind : List ℕ) → IsStop behind → rest ≡ 32 ∷ (get_or names e [] ++ behind) → ⊥)
    → NamesSoFar names bytes (e + 1) s rest
names_skip names bytes e s rest h so none =
    names_more names bytes e s s false rest rest h so refl refl (so.clear e (omega arith)) refl
    (λ k le. so.clear k (omega (arith, le)))
    (λ c u other stop g. listed_not_first (get_or names e []) (drop (e + 1) names) c u other rest
    stop none g)

pub names_end : (names : List (List ℕ)) (bytes : List ℕ) (e : ℕ) (s : List Bool) (rest : List ℕ)
    → length names ≤ e → NamesSoFar names bytes e s rest → IsListCut names bytes s rest
names_end names bytes e s rest h so = record {
  places = so.places;
  cut = so.cut ∙ ap (λ z. listed z (take e s) ++ rest) (take_all e names h)
      ∙ ap (λ z. listed names z ++ rest) (take_all e s (omega (arith, so.places, h)));
  only = λ t other n stop f.
      let o = so.only t other n stop f in (
        sym (take_all e t (omega (arith, n, h))) ∙ o.0 ∙ take_all e s (omega (arith, so.places, h)),
        sym (o.1 ∙ ap (λ z. listed z (drop e t) ++ other) (drop_all e names h)),
      );
}

-- ---- what may stand behind a name

pub stop_head : (x : List ℕ) → x ≢ [] → get_or x 0 0 ≡ 32 → IsStop x
stop_head [] some e = inl refl
stop_head (c ∷ x) some e = inr (x, ap (λ d. d ∷ x) e)

pub head_of_stop : (x : List ℕ) → x ≢ [] → IsStop x → get_or x 0 0 ≡ 32
head_of_stop x some stop = ⊎_elim (λ e. absurd (some e)) (λ m. ap (λ y. get_or y 0 0) m.1) stop
