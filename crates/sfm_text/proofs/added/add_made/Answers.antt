-- A term line without weights has no reason before the total, and its total is that of the term
-- that was read.
use Rattle.std.proofs.Common.{length, refl}
use Rattle.std.proofs.lemmas.Bool.{false≢true}
use Rattle.sfm_text.proofs.SameTerms.{stands-placed, bounded-more}
use Rattle.sfm_text.proofs.LaterLines.{later-total, later-good}
use Rattle.sfm_text.proofs.added.add_made.Goals as goal

pub returns-then-is_too_much_with-clause-outcome : goal.returns-then-is_too_much_with-clause-outcome
returns-then-is_too_much_with-clause-outcome c = λ tokens said line is.
    later-total c.args.instance.now tokens line is c.args.term said
    (c.if-is_too_much_with.ensures.much.0 refl)

pub add_term-requires : goal.add_term-requires
add_term-requires c =
    let i = c.args.instance.now in
    let (tokens, said) = c.requires.read in
    let (plain, entries, are, stands, weights) = said.says in
    bounded-more (length i.names) i.version i.lines i.terms c.args.term
    c.if-is_too_much_with.ensures.bounded
    (stands-placed i.version i.names plain c.args.term stands)
    (λ much. false≢true (c.if-is_too_much_with.ensures.much.1 much))

pub returns-clause-outcome : goal.returns-clause-outcome
returns-clause-outcome c = λ tokens said line is.
    let good = later-good c.args.instance.now tokens line is c.args.term said
    c.names_len-count.ensures.named.distinct
    (λ much. false≢true (c.if-is_too_much_with.ensures.much.1 much)) in
    rw (
      c.in_ok-add_term.ensures.added,
      c.in_ok-add_term.ensures.plain,
      c.in_ok-add_term.ensures.version,
      c.in_ok-add_term.ensures.names,
    ) good
