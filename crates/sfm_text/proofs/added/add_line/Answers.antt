-- A line with the word of a term line is judged as one of a text.
use Rattle.std.proofs.Common.{arith}
use Rattle.sfm_lines.specs.Lines.{tokens_of}
use Rattle.sfm_lines.proofs.FewLabels.{bytes-tokens, bytes-behind}
use Rattle.sfm_text.proofs.Adding.{judged-as}
use Rattle.sfm_text.proofs.added.add_line.Goals as goal

pub add_behind-requires : goal.add_behind-requires
add_behind-requires c =
    let line = c.args.line.now in
    let few = bytes-tokens line in
    let short = c.requires.short in
    record {
      short = bytes-behind c.in-Some.word (tokens_of line) (tokens_of c.in-Some.rest.now)
          c.in-Some.ensures (omega (arith, few, short));
    }

pub returns-clause-judged : goal.returns-clause-judged
returns-clause-judged c =
    judged-as c.args.instance.now c.add_behind.new.instance c.args.line.now c.in-Some.word
    (tokens_of c.in-Some.rest.now) c.add_behind.result
    (record { tokens_are = c.in-Some.ensures; good_bytes = c.if-not-are_good_bytes.ensures })
    c.add_behind.ensures.outcome
