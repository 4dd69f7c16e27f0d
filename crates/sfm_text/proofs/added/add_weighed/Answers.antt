-- A rank line is cut into its line without weights and these, and says the term of the one with the
-- others.
use Rattle.std.proofs.Common.{◌∷◌, None, Some, arith}
use Rattle.sfm_lines.specs.Lines.{tokens_of}
use Rattle.sfm_lines.specs.Words.{word_text}
use Rattle.sfm_lines.specs.declared.word.TermWord.TheVariants.{RankWord}
use Rattle.sfm_text.proofs.BareLines.{plain-bytes}
use Rattle.sfm_text.proofs.SaidLines.{refused-uncut, said-read}
use Rattle.sfm_text.proofs.added.add_weighed.Goals as goal

pub returns-in_default-clause-outcome : goal.returns-in_default-clause-outcome
returns-in_default-clause-outcome c = refused-uncut c.args.instance.now (tokens_of c.args.rest.now)
    c.requires.version (rw c.in_default.is at c.in_ok-plain.ensures)

pub read_weighed-requires-clause-short : goal.read_weighed-requires-clause-short
read_weighed-requires-clause-short c =
    let (entries, cut) = rw c.in-Some.is at c.in_ok-plain.ensures in
    let few = plain-bytes (tokens_of c.args.rest.now) (tokens_of c.in-Some.plain.items) entries
    cut in
    rw c.deref.ensures.value (omega (arith, few, c.requires.short))

pub add_made-requires : goal.add_made-requires
add_made-requires c =
    let read = rw c.deref.ensures.value at c.in_ok-term.ensures.read in
    let told = rw c.in-None.is at
    (c.in_ok-weights_of.ensures (tokens_of c.in-Some.plain.items) read.0 read.1.unweighed
    read.1.right) in
    record {
      read = (
        word_text RankWord ∷ tokens_of c.args.rest.now,
        said-read c.args.instance.now (tokens_of c.args.rest.now) (tokens_of c.in-Some.plain.items)
            c.in_ok-term.term None c.requires.version read told,
      );
    }

pub returns-in-None-clause-outcome : goal.returns-in-None-clause-outcome
returns-in-None-clause-outcome c =
    let read = rw c.deref.ensures.value at c.in_ok-term.ensures.read in
    let told = rw c.in-None.is at
    (c.in_ok-weights_of.ensures (tokens_of c.in-Some.plain.items) read.0 read.1.unweighed
    read.1.right) in
    c.add_made.ensures.outcome (word_text RankWord ∷ tokens_of c.args.rest.now)
    (said-read c.args.instance.now (tokens_of c.args.rest.now) (tokens_of c.in-Some.plain.items)
    c.in_ok-term.term None c.requires.version read told)

pub add_layered-requires : goal.add_layered-requires
add_layered-requires c =
    let read = rw c.deref.ensures.value at c.in_ok-term.ensures.read in
    let told = rw c.in-Some-2.is at
    (c.in_ok-weights_of.ensures (tokens_of c.in-Some.plain.items) read.0 read.1.unweighed
    read.1.right) in
    record {
      read = (
        word_text RankWord ∷ tokens_of c.args.rest.now,
        said-read c.args.instance.now (tokens_of c.args.rest.now) (tokens_of c.in-Some.plain.items)
            c.in_ok-term.term _ c.requires.version read (rw c.deref-in-Some-2.ensures.value told),
      );
    }

pub returns-clause-outcome : goal.returns-clause-outcome
returns-clause-outcome c =
    let read = rw c.deref.ensures.value at c.in_ok-term.ensures.read in
    let told = rw c.in-Some-2.is at
    (c.in_ok-weights_of.ensures (tokens_of c.in-Some.plain.items) read.0 read.1.unweighed
    read.1.right) in
    c.add_layered.ensures.outcome (word_text RankWord ∷ tokens_of c.args.rest.now)
    (said-read c.args.instance.now (tokens_of c.args.rest.now) (tokens_of c.in-Some.plain.items)
    c.in_ok-term.term _ c.requires.version read (rw c.deref-in-Some-2.ensures.value told))
