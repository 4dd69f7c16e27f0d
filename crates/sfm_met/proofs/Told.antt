-- What is found for two instances has the form that a text asks for.
use Rattle.std.proofs.Common.{◌≡◌, List, [], ◌∷◌, length, map, ℤ, pos, refl, ap, ◌∙◌}
use Rattle.std.specs.List.{All}
use Rattle.sfm_spec.specs.Bounds.{IsEntry}
use Rattle.sfm_spec.specs.Families.{AreBases}
use Rattle.sfm_kind.specs.declared.kind.Kind.{Kind}
use Rattle.sfm_kind.specs.Kinds.{kind_places}
use Rattle.sfm_kind.specs.Instance.{InstanceData}
use Rattle.sfm_cert.specs.Solved.{form_of}
use Rattle.sfm_meet.specs.Met.{MetAnswer, IsTrueMet}
use Rattle.sfm_meet.specs.Told.{side_terms}
use Rattle.sfm_met.specs.MetText.{IsFormedMet}

-- bases have as many entries as their terms have places
pub base_widths : (ts : List Kind) (rows : List (List ℤ)) → AreBases (pos 1) (side_terms ts) rows
    → map length rows ≡ map (λ term. length (kind_places term)) ts
base_widths [] [] h = refl
base_widths [] (x ∷ rows) h = absurd h
base_widths (t ∷ ts) [] h = absurd h
base_widths (t ∷ ts) (x ∷ rows) h = ap (λ n. n ∷ map length rows) h.0
    ∙ ap (λ l. length (kind_places t) ∷ l) (base_widths ts rows h.2)

pub formed_of : (left right : InstanceData) (a : MetAnswer)
    → IsTrueMet (side_terms left.terms) (side_terms right.terms) (length left.names) a
    → IsEntry a.value → All IsEntry a.common
    → All (λ x. All IsEntry x) a.left → All (λ x. All IsEntry x) a.right
    → IsFormedMet (form_of left) (form_of right) a
formed_of left right a h value common lefts rights = record {
  value = value;
  members = h.split.places;
  count = h.proved.places;
  common = common;
  left_rows = record {
    widths_are = base_widths left.terms a.left h.proved.left_bases;
    small = lefts;
  };
  right_rows = record {
    widths_are = base_widths right.terms a.right h.proved.right_bases;
    small = rights;
  };
}
