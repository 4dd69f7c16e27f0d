use Rattle.sfm_lines.specs.Lines.{tokens_of}
use Rattle.std.proofs.lemmas.Option.{slice_get_within}
use Rattle.sfm_lines.proofs.tokens.has_token.Goals as goal

pub returns-in-Some : goal.returns-in-Some
returns-in-Some c = slice_get_within (tokens_of c.args.line.now) c.args.i _ c.in-Some.ensures
