use Rattle.std.proofs.Common.{◌++◌, ◌∷◌, [], List, ℕ, Option, map, refl, sym, ap, ◌∙◌, append_assoc}
use Rattle.std.proofs.lemmas.List.{append-nil, map-append}
use Rattle.sfm_lines.specs.Lines.{tokens_of}
use Rattle.sfm_lines.proofs.Matches.{AllZip-push}
use Rattle.sfm_weights.specs.Plain.{IsEntryOf, text_at}
use Rattle.sfm_weights.proofs.Tokens.{first-clean, tokens-more}
use Rattle.sfm_weights.proofs.Entries.{entry-token, no-entries}
use Rattle.sfm_weights.proofs.plain.put_elements.Goals as goal

pub loop-token-init : goal.loop-token-init
loop-token-init c = record {
  marked = [];
  entries = [];
  parts = refl;
  each = tt;
  copied = sym (append-nil (tokens_of c.args.plain.now.items));
}

pub returns-in_default-entry_of : goal.returns-in_default-entry_of
returns-in_default-entry_of c = λ entries behind h.
    let inv = c.loop-token.invariant in
    no-entries inv.marked h.marked inv.entries entries c.in-Some.token.now
    (tokens_of c.in-Some.behind.now) behind inv.each h.each
    (sym (inv.parts ∙ ap (λ (l : List (List ℕ)). inv.marked ++ l) c.in-Some.ensures.cut) ∙ h.cut)
    h.ends c.if-is_semicolon.ensures c.in_default-entry_of.ensures

pub put_token-requires : goal.put_token-requires
put_token-requires c =
    entry-token c.in-Some.token.now
    (c.in-Some-entry_of.element.now, text_at c.in-Some-entry_of.field-0-1)
    (first-clean c.loop-token.left.now c.in-Some.token.now (tokens_of c.in-Some.behind.now)
    c.in-Some.ensures.cut) c.in-Some-entry_of.ensures.0

pub loop-token-preserved : goal.loop-token-preserved
loop-token-preserved c =
    let inv = c.loop-token.invariant in
    let token = c.in-Some.token.now in
    let element = c.in-Some-entry_of.element.now in
    let entry : List ℕ × Option (List ℕ) = (element, text_at c.in-Some-entry_of.field-0-1) in
    let old = tokens_of c.args.plain.now.items in
    let first : List ℕ × Option (List ℕ) → List ℕ = λ e. e.0 in
    record {
      marked = inv.marked ++ token ∷ [];
      entries = inv.entries ++ entry ∷ [];
      parts = tokens-more inv.marked token _ _ _ inv.parts c.in-Some.ensures.cut;
      each = AllZip-push IsEntryOf inv.marked inv.entries token entry inv.each
          c.in-Some-entry_of.ensures;
      copied = c.in_ok-put_token.ensures ∙ (ap (λ (l : List (List ℕ)). l ++ element ∷ []) inv.copied
          ∙ (append_assoc old (map first inv.entries) (element ∷ [])
          ∙ ap (λ (l : List (List ℕ)). old ++ l)
          (sym (map-append first inv.entries (entry ∷ [])))));
    }
