-- What is cut of the entries tells the term, or that an element stands twice.
use Rattle.std.proofs.Common.{ap}
use Rattle.sfm_lines.specs.Lines.{tokens_of}
use Rattle.sfm_lines.specs.Parts.{LineParts}
use Rattle.sfm_lines.specs.ReadParts.{parts_of}
use Rattle.sfm_passes.specs.Passes.{AreFewEntries, AreCutEntries}
use Rattle.sfm_passes.proofs.entry_line.entries_term.Goals as goal
use Rattle.sfm_passes.proofs.entry_line.entries_term.Goals.{In_ok-add_entries}

cut : (c : In_ok-add_entries) → AreCutEntries c.args.instance.now c.args.number.now c.args.colon.now
    (tokens_of c.args.entries.now) (parts_of c.add_entries.new.parts)
cut c =
    let (entries, each, elements, labels) = c.in_ok-add_entries.ensures in
    record {
      good = rw c.in_default.is at c.in_ok-fault.ensures;
      some = c.requires.some;
      entries = entries;
      each = each;
      elements_are = elements;
      labels_are = rw c.token_count.ensures at labels;
    }

pub add_entries-requires-clause-elements : goal.add_entries-requires-clause-elements
add_entries-requires-clause-elements c = ap (λ (p : LineParts). p.elements) c.in_ok-parts.ensures

pub add_entries-requires-clause-labels : goal.add_entries-requires-clause-labels
add_entries-requires-clause-labels c = ap (λ (p : LineParts). p.labels) c.in_ok-parts.ensures

pub add_entries-requires-clause-each : goal.add_entries-requires-clause-each
add_entries-requires-clause-each c =
    let few : AreFewEntries c.args.instance.now c.args.number.now c.args.colon.now
    (tokens_of c.args.entries.now) = rw c.in_default.is at c.in_ok-fault.ensures in
    few.good.each

pub cut_term-requires-clause-cut : goal.cut_term-requires-clause-cut
cut_term-requires-clause-cut c = (
  c.args.colon.now,
  tokens_of c.args.entries.now,
  cut (goal.at.cut_term-requires-clause-cut c).In_ok-add_entries,
)

pub returns : goal.returns
returns c = c.cut_term.ensures c.args.colon.now (tokens_of c.args.entries.now)
    (cut (goal.at.returns c).In_ok-add_entries)
