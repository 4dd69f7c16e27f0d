-- What a term line leads to, and that there is too much with it.
use Rattle.std.proofs.Common.{◌≢◌, ℕ, List, [], ◌∷◌, ◌++◌, length, AllPairs, Option, Some, None, ℤ, refl, inr, arith}
use Rattle.std.specs.Prelude.{is_some, if◌then◌else◌}
use Rattle.sfm_kind.specs.Instance.{InstanceData}
use Rattle.sfm_kind.specs.Kinds.{kind_places, kind_size}
use Rattle.sfm_kind.specs.Layers.{AreTermsOf, AreLayers, Brings}
use Rattle.sfm_kind.specs.declared.kind.Kind.{Kind}
use Rattle.sfm_lines.specs.declared.reason.Reason.TheVariants.{Bytes, Word, Shape, Number, Name, Twice, Law, Total}
use Rattle.sfm_lines.specs.declared.stage.Stage.TheVariants.{Terms}
use Rattle.sfm_lines.specs.Lines.{tokens_of}
use Rattle.sfm_lines.specs.Reading.{FirstReason, Takes, AreTooMuch, Says}
use Rattle.sfm_lines.specs.ReadParts.{state_at, IsLineOf}
use Rattle.sfm_text.specs.Weighed.{IsTermSaid}
use Rattle.sfm_text.proofs.StageReasons.{none-at-all}
use Rattle.sfm_text.proofs.TooMuch.{brings-own}
use Rattle.sfm_text.proofs.SameTerms.{much-same}
use Rattle.sfm_text.proofs.LayerLines.{much-layered}
use Rattle.sfm_text.proofs.SameLines.{says-same, brings-plain}

module _ (i : InstanceData) (tokens : List (List ℕ)) (line : List ℕ) (is : IsLineOf line tokens)
    (term : Kind) (weights : Option (List ℤ)) (said : IsTermSaid i tokens term weights) where
  says-here : Says i.version i.names (tokens_of line) term weights
  says-here = rw is.tokens_are said.says

  pub later-much : (places : ℕ) (total : ℤ) → Brings term weights places total
      → AreTooMuch i.version i.lines i.terms places total
      → FirstReason (state_at Terms i) line Total
  later-much places total brings much =
      record {
        holds = (term, weights, says-here, (places, total, brings, much));
        first = λ earlier. said.good line earlier is;
      }

  pub later-taken : (terms : List Kind) → AreTermsOf term weights terms
      → ((other : Kind) (more : Option (List ℤ)) (places : ℕ) (total : ℤ)
      → Says i.version i.names (tokens_of line) other more → Brings other more places total
      → AreTooMuch i.version i.lines i.terms places total → ⊥)
      → Takes (state_at Terms i) line
      (record {
        stage = Terms;
        version = i.version;
        names = i.names;
        terms = i.terms ++ terms;
        lines = i.lines ++ (if is_some weights then length terms else 0) ∷ [];
      })
  later-taken terms are few = record {
    good = none-at-all (state_at Terms i) line (said.good line Bytes is (omega arith))
        (said.good line Word is (omega arith)) (said.good line Shape is (omega arith))
        (said.good line Number is (omega arith)) (said.good line Name is (omega arith))
        (said.good line Twice is (omega arith)) (said.good line Law is (omega arith))
        (λ (other, more, says, (places, total, brings, much)). few other more places total says
        brings much);
    adds = inr (term, weights, says-here, terms, are, refl);
  }

module _ (i : InstanceData) (tokens : List (List ℕ)) (line : List ℕ) (is : IsLineOf line tokens)
    (term : Kind) (said : IsTermSaid i tokens term None) where
  pub later-total : AreTooMuch i.version i.lines i.terms (length (kind_places term))
      (kind_size term) → FirstReason (state_at Terms i) line Total
  later-total much = later-much i tokens line is term None said (length (kind_places term))
      (kind_size term) (brings-own term) much

  pub later-good : AllPairs (λ a b. a ≢ b) i.names
      → (AreTooMuch i.version i.lines i.terms (length (kind_places term)) (kind_size term) → ⊥)
      → Takes (state_at Terms i) line
      (record {
        stage = Terms;
        version = i.version;
        names = i.names;
        terms = i.terms ++ term ∷ [];
        lines = i.lines ++ 0 ∷ [];
      })
  later-good distinct few = later-taken i tokens line is term None said (term ∷ []) refl
      (λ other more places total says brings much.
      let same = says-same i.version i.names (tokens_of line) term other None more distinct
      (says-here i tokens line is term None said) says in
      few (much-same i.version i.lines i.terms term other places total same.0
      (brings-plain other more places total same.1 brings) much))

-- the same of its layers, where its elements have weights
module _ (i : InstanceData) (tokens : List (List ℕ)) (line : List ℕ) (is : IsLineOf line tokens)
    (term : Kind) (weights : List ℤ) (said : IsTermSaid i tokens term (Some weights)) where
  pub later-layers : AllPairs (λ a b. a ≢ b) i.names → (places : ℕ) (total : ℤ)
      → Brings term (Some weights) places total
      → (AreTooMuch i.version i.lines i.terms places total → ⊥) → (layers : List Kind)
      → AreLayers term weights layers
      → Takes (state_at Terms i) line
      (record {
        stage = Terms;
        version = i.version;
        names = i.names;
        terms = i.terms ++ layers;
        lines = i.lines ++ length layers ∷ [];
      })
  later-layers distinct places total brings few layers are =
      later-taken i tokens line is term (Some weights) said layers are
      (λ other more q b says brings' much.
      few (much-layered i.version i.names (tokens_of line) term other weights more i.lines i.terms
      places q total b distinct (says-here i tokens line is term (Some weights) said) says
      brings brings' much))
