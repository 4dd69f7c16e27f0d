use Rattle.std.proofs.Common.{◌≡◌}
use Rattle.sfm_lines.specs.Lines.{texts_of}
use Rattle.sfm_lines.specs.LabelTerms.{distinct_of}
use Rattle.sfm_lines.specs.ReadParts.{label_lists_of, joined}
use Rattle.sfm_lines.proofs.FewLabels.{keys-few}
use Rattle.sfm_passes.proofs.entry_line.numbered_entries.Goals as goal

pub entries-requires : goal.entries-requires
entries-requires c = record {
  few = keys-few c.in_ok-names.names.keys
      (joined (label_lists_of c.args.labels.now)) c.in_ok-names.ensures c.requires.few;
}

pub returns : goal.returns
returns c =
    let names : texts_of c.in_ok-names.names.keys ≡ distinct_of
    (joined (label_lists_of c.args.labels.now)) = c.in_ok-names.ensures in
    rw names at c.entries.ensures
