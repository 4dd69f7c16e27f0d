-- The name and the matches of the subcommand are those that clap tells.
use Rattle.std.proofs.Common.{◌≡◌, List, Option, Some, None, option_map, option_and_then, ap, sym, ◌∙◌}
use Rattle.clap.specs.Words.{Row, Text, found_of, rows_of, subcommand_rows_of}
use Rattle.sfm_words.specs.Command.{command_by}
use Rattle.sfm_words.proofs.read.command_in.Goals as goal

pair_told : {B : Type 0} (s : Option B) (N : B → Text) (R : B → List Row) (a : Text) (b : List Row)
    → Some a ≡ option_map N s
    → Some b ≡ option_map (λ (p : Text × List Row). p.1)
    (option_map {U = Text × List Row} (λ (x : B). (N x, R x)) s)
    → option_map {U = Text × List Row} (λ (x : B). (N x, R x)) s ≡ Some (a, b)
pair_told None N R a b h k = cc
pair_told (Some x) N R a b h k = cc

pub returns : goal.returns
returns c =
    let found : subcommand_rows_of c.args.matches.now ≡ Some
    (c.in_ok-verb.verb.now, rows_of (found_of c.in_ok-verb.found.now)) =
    pair_told _ _ _ c.in_ok-verb.verb.now
    (rows_of (found_of c.in_ok-verb.found.now)) c.in_ok-verb.ensures.name
    c.in_ok-verb.ensures.rows in
    c.command_named.ensures ∙ ap (λ o. option_and_then command_by o) (sym found)
