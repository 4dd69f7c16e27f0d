-- What a line of an instance text leads to is one state, but for how its terms are kept: states of
-- the same stage and the same names, whose terms are one by one the same, are told apart by no
-- reason, and a line leads from two such states to two such.
use Rattle.std.proofs.Common.{◌≡◌, ◌≢◌, inl, inr, ℕ, ◌+◌, List, [], ◌∷◌, length, get_or, codes, AllPairs, Option, ℤ, refl, sym, ap, subst, ◌∙◌, arith}
use Rattle.std.specs.List.{AllZip}
use Rattle.std.proofs.lemmas.Int.{ints}
use Rattle.sfm_kind.specs.declared.kind.Kind.{Kind}
use Rattle.sfm_kind.specs.declared.version.Version.{Version}
use Rattle.sfm_kind.specs.declared.version.Version.TheVariants.{First, Second}
use Rattle.sfm_kind.specs.Instance.{support_of}
use Rattle.sfm_kind.specs.Limits.{total_size_of}
use Rattle.sfm_lines.specs.declared.reason.Reason.{Reason}
use Rattle.sfm_lines.specs.declared.reason.Reason.TheVariants.{Long, Bytes, Word, Shape, Number, Name, Twice, Law, Total, Short}
use Rattle.sfm_lines.specs.declared.stage.Stage.{Stage}
use Rattle.sfm_lines.specs.declared.stage.Stage.TheVariants.{Header, Ground, Terms, Ended}
use Rattle.sfm_lines.specs.Lines.{tokens_of}
use Rattle.sfm_lines.specs.Versions.{header_tokens, most_size}
use Rattle.sfm_lines.specs.Words.{word_text}
use Rattle.sfm_lines.specs.declared.word.TermWord.TheVariants.{RankWord}
use Rattle.sfm_lines.specs.TermLines.{StandsTwice}
use Rattle.sfm_text.proofs.Orders.{first_once}
use Rattle.sfm_text.proofs.Readings.{IsKept}
use Rattle.sfm_text.proofs.TooMuch.{support-cons, much-by-total, total-by-much}
use Rattle.sfm_lines.specs.Reading.{State, start, HasReason, HasAt, HasTermReason, AreTooMuch, Says, Adds, Takes}
use Rattle.sfm_text.specs.GoodText.{instance_language}
use Rattle.sfm_lines.proofs.WordLines.{not-end}
use Rattle.sfm_lines.proofs.Repeats.{twice-at}
use Rattle.sfm_text.specs.OneTerm.{AreOneTerm}
use Rattle.sfm_text.proofs.SameLines.{lines-same, AllZip-append}

-- terms that are one by one the same are as many, and have as much in all
pub alike-total : (a b : List Kind) → AllZip AreOneTerm a b → (length a ≡ length b)
    × (support_of a ≡ support_of b) × (total_size_of a ≡ total_size_of b)
alike-total [] [] h = (refl, refl, refl)
alike-total [] (t ∷ b) h = absurd h
alike-total (s ∷ a) [] h = absurd h
alike-total (s ∷ a) (t ∷ b) (same, h) =
    let (count, places, size) = alike-total a b h in (
      omega (arith, count),
      omega (arith, places, ap length same.places, support-cons s a, support-cons t b),
      omega (arith, ints, size, same.size),
    )

-- two states of one stage and one version, with the same names, terms and lines: no reason tells
-- them apart
pub record Alike (s t : State) : Type 0 where
  pub stage : s.stage ≡ t.stage
  pub version : s.version ≡ t.version
  pub names : s.names ≡ t.names
  pub terms : AllZip AreOneTerm s.terms t.terms
  pub lines : s.lines ≡ t.lines
  pub distinct : AllPairs (λ a b. a ≢ b) s.names

none-distinct : AllPairs (λ (a b : List ℕ). a ≢ b) []
none-distinct i j d lt within = absurd (omega (arith, within))

start-alike : Alike start start
start-alike = record {
  stage = refl;
  version = refl;
  names = refl;
  terms = tt;
  lines = refl;
  distinct = none-distinct;
}

-- so there is too much with one more line in the one where there is in the other
pub much-alike : (s t : State) (places : ℕ) (total : ℤ) → Alike s t
    → AreTooMuch s.version s.lines s.terms places total
    → AreTooMuch t.version t.lines t.terms places total
much-alike s t places total same (inl many) = inl (omega (arith, many, ap length same.lines))
much-alike s t places total same (inr (inl many)) =
    let (count, support, size) = alike-total s.terms t.terms same.terms in inr
    (inl (omega (arith, many, support)))
much-alike s t places total same (inr (inr (meant, means, many))) =
    let (count, support, size) = alike-total s.terms t.terms same.terms in
    let most : most_size s.version ≡ most_size t.version = ap most_size same.version in
    let much = total-by-much (most_size s.version) s.terms meant total means many in
    much-by-total t.version t.lines t.terms places total (omega (arith, ints, much, size, most))

-- what a term line has in the one state, it has in the other
pub term-alike : (s t : State) (tokens : List (List ℕ)) (reason : Reason) → Alike s t
    → HasTermReason s tokens reason → HasTermReason t tokens reason
term-alike s t tokens Word same g = g
term-alike s t tokens Name same g = rw (same.version, same.names) at g
term-alike s t tokens Total same (term, weights, says, (places, total, brings, many)) = (
  term,
  weights,
  rw (same.version, same.names) at says,
  (places, total, brings, much-alike s t places total same many),
)
term-alike s t tokens Shape same g = rw same.version at g
term-alike s t tokens Number same g = rw same.version at g
term-alike s t tokens Twice same g = rw same.version at g
term-alike s t tokens Law same g = rw same.version at g
term-alike s t tokens Long same g = rw same.version at g
term-alike s t tokens Bytes same g = rw same.version at g
term-alike s t tokens Short same g = rw same.version at g

-- what a line has in the one state, it has in the other
has-alike : (s t : State) (line : List ℕ) (reason : Reason) → Alike s t → HasReason s line reason
    → HasReason t line reason
has-alike s t line Long same h = h
has-alike s t line Short same h = h
has-alike s t line Bytes same h = h
has-alike s t line reason same h =
    at t.stage reason (subst (λ (stage : Stage). HasAt stage s (tokens_of line) reason) same.stage
    h)
  where
    at : (stage : Stage) (why : Reason) → HasAt stage s (tokens_of line) why
        → HasAt stage t (tokens_of line) why
    at Terms why g = term-alike s t (tokens_of line) why same g
    at _ _ g = g

-- names that do not repeat are different
different : (names : List (List ℕ)) → (StandsTwice names → ⊥) → AllPairs (λ a b. a ≢ b) names
different names once i j d lt within same = once (twice-at names i j d lt within same)

-- no line is both the last line and a term line
not-both : (version : Version) (names tokens : List (List ℕ)) (term : Kind)
    (weights : Option (List ℤ)) → tokens ≡ codes "end" ∷ [] → Says version names tokens term weights
    → ⊥
not-both version names tokens term weights last
    (plain, entries, inl (rest, bare, second, cut, h, is), stands, w) =
    let both : word_text RankWord ∷ rest ≡ codes "end" ∷ [] = sym cut ∙ last in
    let word : word_text RankWord ≡ codes "end" = cc in
    not-end RankWord word
not-both version names tokens term weights last (plain, entries, inr (none, is, empty), stands, w) =
    let both : word_text stands.word ∷ stands.rest ≡ codes "end" ∷ [] = sym stands.shaped.0
    ∙ (is ∙ last) in
    let word : word_text stands.word ≡ codes "end" = cc in
    not-end stands.word word

-- each header is that of one version
header-one : (a b : Version) → header_tokens a ≡ header_tokens b → a ≡ b
header-one First First e = refl
header-one Second Second e = refl
header-one First Second e = let one : codes "1" ≡ codes
    "2" = cc in absurd (omega (arith, ap (λ (t : List ℕ). get_or t 0 0) one))
header-one Second First e = let one : codes "2" ≡ codes
    "1" = cc in absurd (omega (arith, ap (λ (t : List ℕ). get_or t 0 0) one))

-- one line leads two such states to two such states
takes-alike : (s t : State) (line : List ℕ) (u v : State) → Alike s t → Takes s line u
    → Takes t line v → Alike u v
takes-alike s t line u v same h g =
    at s.stage refl h.adds (subst (λ (stage : Stage). Adds stage t (tokens_of line) v)
    (sym same.stage) g.adds)
  where
    at : (stage : Stage) → s.stage ≡ stage → Adds stage s (tokens_of line) u
        → Adds stage t (tokens_of line) v → Alike u v
    at Header is (version, header, a) (version', header', b) =
        rw (a, b) (record {
          stage = refl;
          version = header-one version version' (sym header ∙ header');
          names = refl;
          terms = tt;
          lines = refl;
          distinct = none-distinct;
        })
    at Ground is (names, tokens, a) (names', tokens', b) =
        let both : codes "ground" ∷ names ≡ codes "ground" ∷ names' = sym tokens ∙ tokens' in
        let one : names ≡ names' = cc in
        let once : StandsTwice names
        → ⊥ = λ twice. h.good Twice
        (subst (λ (stage : Stage). HasAt stage s (tokens_of line) Twice) (sym is)
        (names, tokens, twice)) in
        rw (a, b) (record {
          stage = refl;
          version = same.version;
          names = one;
          terms = tt;
          lines = refl;
          distinct = different names once;
        })
    at Terms is (inl (last, a)) (inl (last', b)) =
        rw (a, b) (record {
          stage = refl;
          version = same.version;
          names = same.names;
          terms = same.terms;
          lines = same.lines;
          distinct = same.distinct;
        })
    at Terms is (inl (last, a)) (inr more) =
        absurd (not-both t.version t.names (tokens_of line) more.0 more.1 last more.2)
    at Terms is (inr more) (inl (last, b)) =
        absurd (not-both s.version s.names (tokens_of line) more.0 more.1 last more.2)
    at Terms is (inr (one, weights, says, terms, are, to))
        (inr (other, others, says', terms', are', to')) =
        let here : Says s.version s.names (tokens_of line) other
        others = rw (← same.version, ← same.names) at says' in
        let (agree, one_weights, counts) = lines-same s.version s.names (tokens_of line) one other
        weights others terms terms' same.distinct says here are are' in
        rw (to, to') (record {
          stage = refl;
          version = same.version;
          names = same.names;
          terms = AllZip-append AreOneTerm s.terms terms t.terms terms' same.terms agree;
          lines = rw (same.lines, one_weights, counts) refl;
          distinct = same.distinct;
        })
    at Ended is a b = absurd a

-- so no two readings of an instance text come to states that differ in more than that
pub instances-kept : IsKept instance_language Alike
instances-kept = record {
  start = start-alike;
  takes = takes-alike;
  ends = λ s t same end. sym same.stage ∙ end;
  refuses = λ s t line reason u same first takes.
      takes.good reason (has-alike s t line reason same first.holds);
  once = λ s t line a b same back. first_once (HasReason s line) (HasReason t line) a b
      (λ reason. has-alike s t line reason same) (λ reason. has-alike t s line reason back);
}
