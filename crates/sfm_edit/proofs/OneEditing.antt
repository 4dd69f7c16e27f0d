-- A text of edits leads to one instance, but for how its terms are kept, or has one first fault.
use Rattle.std.proofs.Common.{◌≡◌, ◌≢◌, inl, inr, ℕ, List, AllPairs, refl}
use Rattle.std.specs.List.{AllZip}
use Rattle.sfm_kind.specs.Instance.{InstanceData}
use Rattle.sfm_lines.specs.declared.reason.Reason.{Reason}
use Rattle.sfm_lines.specs.declared.reason.Reason.TheVariants.{Long, Bytes, Word, Shape, Number, Name, Twice, Law, Total, Short}
use Rattle.sfm_lines.specs.Lines.{tokens_of}
use Rattle.sfm_text.specs.OneTerm.{AreOneTerm}
use Rattle.sfm_text.specs.Language.{Language, IsReadAs, IsFaultIn}
use Rattle.sfm_text.proofs.Orders.{first_once}
use Rattle.sfm_text.proofs.Readings.{IsKept, readings-alike, good-or-faulty, faults-once}
use Rattle.sfm_side.specs.Side.{SideState, header, lines, ended, HasSide, AddsSide, side_language}
use Rattle.sfm_edit.specs.Edits.{Editing, edits_form}
use Rattle.sfm_edit.specs.EditLines.{unedited}
use Rattle.sfm_edit.proofs.Alike.{AreAlike, alike-itself, has-alike, edits-alike, end-no-edit}

-- two states of the reading of a text of edits that differ only in how terms are kept
abbrev StatesAlike : SideState Editing → SideState Editing → Type 0
StatesAlike header header = Unit {0}
StatesAlike (lines e) (lines f) = AreAlike e f
StatesAlike (ended e) (ended f) = AreAlike e f
StatesAlike _ _ = ⊥

module _ (instance : InstanceData) (distinct : AllPairs (λ a b. a ≢ b) instance.names) where
  abbrev L : Language (SideState Editing)
  L = side_language (edits_form instance)

  adds-alike : (s t : SideState Editing) (line : List ℕ) (u v : SideState Editing)
      → StatesAlike s t → AddsSide (edits_form instance) s line u
      → AddsSide (edits_form instance) t line v → StatesAlike u v
  adds-alike header header line u v same h g = rw (h, g) (alike-itself (unedited instance) distinct)
  adds-alike (lines e) (lines f) line u v same (inl (last, h)) (inl (last', g)) = rw (h, g) same
  adds-alike (lines e) (lines f) line u v same (inl (last, h)) (inr (said, says, g)) =
      absurd (end-no-edit f said (tokens_of line) last says)
  adds-alike (lines e) (lines f) line u v same (inr (said, says, h)) (inl (last, g)) =
      absurd (end-no-edit e said (tokens_of line) last says)
  adds-alike (lines e) (lines f) line u v same (inr (said, says, h)) (inr (said', says', g)) =
      rw (h, g) (edits-alike e f (tokens_of line) said said' same says says')
  adds-alike (ended e) (ended f) line u v same h g = absurd h
  adds-alike _ _ line u v same h g = absurd same

  has-both : (s t : SideState Editing) (line : List ℕ) (reason : Reason) → StatesAlike s t
      → HasSide (edits_form instance) s line reason → HasSide (edits_form instance) t line reason
  has-both s t line Long same h = h
  has-both s t line Short same h = h
  has-both s t line Bytes same h = h
  has-both header header line reason same h = h
  has-both (lines e) (lines f) line Word same h =
      (h.0, has-alike e f (tokens_of line) Word same h.1)
  has-both (lines e) (lines f) line Shape same (more, inl h) = (more, inl h)
  has-both (lines e) (lines f) line Shape same (more, inr h) =
      (more, inr (has-alike e f (tokens_of line) Shape same h))
  has-both (lines e) (lines f) line Number same h = has-alike e f (tokens_of line) Number same h
  has-both (lines e) (lines f) line Name same h = has-alike e f (tokens_of line) Name same h
  has-both (lines e) (lines f) line Twice same h = has-alike e f (tokens_of line) Twice same h
  has-both (lines e) (lines f) line Law same h = has-alike e f (tokens_of line) Law same h
  has-both (lines e) (lines f) line Total same h = has-alike e f (tokens_of line) Total same h
  has-both (ended e) (ended f) line reason same h = h
  has-both _ _ line reason same h = absurd same

  ends-both : (s t : SideState Editing) → StatesAlike s t → (d : Editing) → s ≡ ended d
      → (f : Editing) × (t ≡ ended f)
  ends-both (ended e) (ended f) same d is = (f, refl)
  ends-both (ended e) header same d is = absurd same
  ends-both (ended e) (lines f) same d is = absurd same
  ends-both header t same d is = absurd (cc)
  ends-both (lines e) t same d is = absurd (cc)

  kept : IsKept L StatesAlike
  kept = record {
    start = tt;
    takes = λ s t line u v same h g. adds-alike s t line u v same h.1 g.1;
    ends = λ s t same (d, is). ends-both s t same d is;
    refuses = λ s t line reason u same first takes.
        takes.0 reason (has-both s t line reason same first.holds);
    once = λ s t line a b same back. first_once (HasSide (edits_form instance) s line)
        (HasSide (edits_form instance) t line) a b
        (λ reason. has-both s t line reason same) (λ reason. has-both t s line reason back);
  }

  module _ (text : List ℕ) where
    pub one-reading : (a b : Editing) → IsReadAs L text (ended a) → IsReadAs L text (ended b)
        → (a.instance.version ≡ b.instance.version) × (a.instance.names ≡ b.instance.names)
        × AllZip AreOneTerm a.instance.terms b.instance.terms
        × (a.instance.lines ≡ b.instance.lines) × (a.kept ≡ b.kept)
    one-reading a b h g =
        let same : AreAlike a b = readings-alike L StatesAlike kept text (ended a) (ended b) h
        g in (
          same.instance.version,
          same.instance.names,
          same.instance.terms,
          same.instance.lines,
          same.kept,
        )

    pub not-both : (a : Editing) (line : ℕ) (reason : Reason) → IsReadAs L text (ended a)
        → IsFaultIn L text line reason → ⊥
    not-both a line reason h fault = good-or-faulty L StatesAlike kept text (ended a) line reason h
        (a, refl) fault

    pub one-fault : (line line' : ℕ) (reason reason' : Reason) → IsFaultIn L text line reason
        → IsFaultIn L text line' reason' → (line ≡ line') × (reason ≡ reason')
    one-fault line line' reason reason' h g =
        faults-once L StatesAlike kept text line line' reason reason' h g
