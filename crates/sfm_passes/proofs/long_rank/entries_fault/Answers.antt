use Rattle.std.proofs.Common.{◌∷◌, codes, refl, sym, ◌∙◌}
use Rattle.std.proofs.lemmas.Bool.{false≢true}
use Rattle.std.proofs.lemmas.Slice.Eq.{bytes_eq-Decides}
use Rattle.sfm_lines.specs.Lines.{tokens_of}
use Rattle.sfm_lines.specs.Parts.{IsLabelToken}
use Rattle.sfm_passes.proofs.Passed.{all-matched}
use Rattle.sfm_passes.proofs.LongLabels.{labelled-mark, labelled-colon, labelled-entry, labelled-number, labelled-name, labelled-label}
use Rattle.sfm_passes.proofs.long_rank.entries_fault.Goals as goal

pub returns-then-is_separator : goal.returns-then-is_separator
returns-then-is_separator c = labelled-mark c.args.instance.now c.args.rank c.requires.labels
    c.args.number.now c.args.colon.now (tokens_of c.args.entries.now)
    (c.args.colon.now ∷ tokens_of c.args.entries.now) refl (c.if-is_separator.ensures.0 refl)

pub returns-then-not-is_colon : goal.returns-then-not-is_colon
returns-then-not-is_colon c = labelled-colon c.args.instance.now c.args.rank c.requires.labels
    c.args.number.now c.args.colon.now (tokens_of c.args.entries.now)
    (c.args.colon.now ∷ tokens_of c.args.entries.now) refl
    (λ e. false≢true (c.if-not-is_colon.ensures ∙ (bytes_eq-Decides c.args.colon.now (codes ":")).1
    e))

pub returns-then-not-all_hold : goal.returns-then-not-all_hold
returns-then-not-all_hold c = labelled-entry c.args.instance.now c.args.rank c.requires.labels
    c.args.number.now c.args.colon.now (tokens_of c.args.entries.now)
    (c.args.colon.now ∷ tokens_of c.args.entries.now) refl c.if-not-all_hold.ensures

pub returns-then-not-is_number_of : goal.returns-then-not-is_number_of
returns-then-not-is_number_of c =
    let (entries, each) = all-matched (IsLabelToken c.args.rank) (tokens_of c.args.entries.now)
    c.if-not-all_hold.ensures in
    labelled-number c.args.instance.now c.args.rank c.requires.labels c.args.number.now
    c.args.colon.now (tokens_of c.args.entries.now)
    (c.args.colon.now ∷ tokens_of c.args.entries.now) refl c.requires.some
    (λ m. false≢true (c.if-is_separator.ensures.1 m))
    ((bytes_eq-Decides c.args.colon.now (codes ":")).0 (sym c.if-not-is_colon.ensures)) entries
    each c.if-not-is_number_of.ensures

pub returns-then-not-all_hold-2 : goal.returns-then-not-all_hold-2
returns-then-not-all_hold-2 c =
    let (entries, each) = all-matched (IsLabelToken c.args.rank) (tokens_of c.args.entries.now)
    c.if-not-all_hold.ensures in
    labelled-name c.args.instance.now c.args.rank c.requires.labels c.args.number.now
    c.args.colon.now (tokens_of c.args.entries.now)
    (c.args.colon.now ∷ tokens_of c.args.entries.now) refl c.requires.some
    (λ m. false≢true (c.if-is_separator.ensures.1 m))
    ((bytes_eq-Decides c.args.colon.now (codes ":")).0 (sym c.if-not-is_colon.ensures)) entries
    each c.if-not-is_number_of.ensures c.if-not-all_hold-2.ensures

pub returns-then-not-all_hold-3 : goal.returns-then-not-all_hold-3
returns-then-not-all_hold-3 c =
    let (entries, each) = all-matched (IsLabelToken c.args.rank) (tokens_of c.args.entries.now)
    c.if-not-all_hold.ensures in
    labelled-label c.args.instance.now c.args.rank c.requires.labels c.args.number.now
    c.args.colon.now (tokens_of c.args.entries.now)
    (c.args.colon.now ∷ tokens_of c.args.entries.now) refl c.requires.some
    (λ m. false≢true (c.if-is_separator.ensures.1 m))
    ((bytes_eq-Decides c.args.colon.now (codes ":")).0 (sym c.if-not-is_colon.ensures)) entries
    each c.if-not-is_number_of.ensures c.if-not-all_hold-3.ensures

pub returns : goal.returns
returns c = record {
  no_separator = λ m. false≢true (c.if-is_separator.ensures.1 m);
  is_colon = (bytes_eq-Decides c.args.colon.now (codes ":")).0 (sym c.if-not-is_colon.ensures);
  each = c.if-not-all_hold.ensures;
  is_number = c.if-not-is_number_of.ensures;
  known = c.if-not-all_hold-2.ensures;
  named = c.if-not-all_hold-3.ensures;
}
