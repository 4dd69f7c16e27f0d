use Rattle.std.proofs.Common.{◌≡◌, ◌≢◌, ◌++◌, ◌∷◌, [], List, ℕ, codes, ap, ◌∙◌}
use Rattle.std.specs.List.{All}
use Rattle.std.proofs.lemmas.List.Elements.{All-push}
use Rattle.std.proofs.lemmas.List.{append-nil}
use Rattle.sfm_lines.specs.Lines.{tokens_of}
use Rattle.sfm_weights.proofs.Tokens.{tokens-more}
use Rattle.sfm_weights.proofs.Entries.{behind-same, no-head}
use Rattle.sfm_weights.proofs.weights.elements_behind.Goals as goal

pub returns-then-is_colon : goal.returns-then-is_colon
returns-then-is_colon c = λ head behind h.
    let inv = c.loop-token.invariant in
    behind-same (tokens_of c.args.line.now) inv.head (tokens_of c.in-Some.behind.now) head behind
    (record {
      cut = inv.parts ∙ ap (λ (l : List (List ℕ)). inv.head ++ l)
          (c.in-Some.ensures.cut ∙ ap (λ (t : List ℕ). t ∷ tokens_of c.in-Some.behind.now)
          c.if-is_colon.ensures);
      no_colon = inv.no_colon;
    }) h

pub loop-token-preserved : goal.loop-token-preserved
loop-token-preserved c =
    let inv = c.loop-token.invariant in
    let token = c.in-Some.token.now in
    record {
      head = inv.head ++ token ∷ [];
      parts = tokens-more inv.head token _ _ _ inv.parts c.in-Some.ensures.cut;
      no_colon = All-push (λ t. t ≢ codes ":") inv.head token inv.no_colon c.if-is_colon.ensures;
    }

pub returns : goal.returns
returns c = λ head behind h.
    let inv = c.loop-token.invariant in
    let whole : tokens_of c.args.line.now ≡ inv.head = inv.parts
    ∙ (ap (λ (l : List (List ℕ)). inv.head ++ l) c.in_default.ensures.cut
    ∙ append-nil inv.head) in
    absurd (no-head (tokens_of c.args.line.now) inv.head head behind whole inv.no_colon h)
