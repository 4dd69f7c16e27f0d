use Rattle.std.proofs.Common.{◌≢◌, ◌++◌, ◌∷◌, [], List, ℕ, codes, ap, ◌∙◌, append_assoc}
use Rattle.std.proofs.lemmas.List.Elements.{All-push}
use Rattle.sfm_lines.specs.Lines.{tokens_of}
use Rattle.sfm_weights.proofs.Tokens.{first-clean, tokens-more}
use Rattle.sfm_weights.proofs.plain.put_head.Goals as goal

pub put_token-requires : goal.put_token-requires
put_token-requires c = first-clean c.loop-token.left.now c.in-Some.token.now
    (tokens_of c.in-Some.behind.now) c.in-Some.ensures.cut

pub loop-token-preserved : goal.loop-token-preserved
loop-token-preserved c =
    let inv = c.loop-token.invariant in
    let token = c.in-Some.token.now in
    record {
      head = inv.head ++ token ∷ [];
      parts = tokens-more inv.head token _ _ _ inv.parts c.in-Some.ensures.cut;
      no_colon = All-push (λ t. t ≢ codes ":") inv.head token inv.no_colon c.if-is_colon.ensures;
      copied = c.in_ok-put_token.ensures
          ∙ (ap (λ (l : List (List ℕ)). l ++ token ∷ []) inv.copied
          ∙ append_assoc (tokens_of c.args.plain.now.items) inv.head (token ∷ []));
    }
