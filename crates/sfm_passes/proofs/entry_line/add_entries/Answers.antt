use Rattle.std.proofs.Common.{◌≡◌, ℕ, suc, List, [], ◌∷◌, ◌++◌, take, refl, sym, ◌∙◌, arith}
use Rattle.std.specs.List.{All, AllZip}
use Rattle.std.proofs.lemmas.List.{map-append}
use Rattle.sfm_lines.specs.Lines.{tokens_of}
use Rattle.sfm_lines.specs.Parts.{IsLabelToken}
use Rattle.sfm_lines.specs.declared.word.RankKind.TheVariants.{TransversalRank}
use Rattle.sfm_lines.proofs.Matches.{AllZip-push}
use Rattle.sfm_passes.proofs.Passed.{passed-more, passed-all}
use Rattle.sfm_passes.proofs.entry_line.add_entries.Goals as goal

abbrev IsEntry : List ℕ → Type 0
IsEntry token = (entry : List ℕ × List (List ℕ)) × IsLabelToken TransversalRank token entry

first-of : (tokens rest : List (List ℕ)) (token : List ℕ) → tokens ≡ token ∷ rest
    → All IsEntry tokens → IsEntry token
first-of tokens rest token is all =
    let behind : All IsEntry (token ∷ rest) = rw is at all in
    behind 0 token (omega arith)

rest-of : (tokens rest : List (List ℕ)) (token : List ℕ) → tokens ≡ token ∷ rest
    → All IsEntry tokens → All IsEntry rest
rest-of tokens rest token is all =
    let behind : All IsEntry (token ∷ rest) = rw is at all in
    λ k d lt. behind (suc k) d (omega (arith, lt))

pub loop-token-init : goal.loop-token-init
loop-token-init c = record {
  due = c.requires.each;
  done = [];
  entries = [];
  cut = refl;
  each = tt;
  elements = c.requires.elements;
  labels = c.requires.labels;
}

pub add_entry-requires : goal.add_entry-requires
add_entry-requires c = first-of _ _ _ c.in-Some.ensures.cut c.loop-token.invariant.due

pub loop-token-preserved : goal.loop-token-preserved
loop-token-preserved c =
    let before = c.loop-token.invariant in
    let token = c.in-Some.token.now in
    let (entry, is, name, slots) = c.in_ok-add_entry.ensures in
    record {
      due = rest-of _ _ _ c.in-Some.ensures.cut before.due;
      done = before.done ++ token ∷ [];
      entries = before.entries ++ entry ∷ [];
      cut = passed-more before.done token _ _ _ before.cut c.in-Some.ensures.cut;
      each = AllZip-push (IsLabelToken TransversalRank) before.done before.entries token entry
          before.each is;
      elements = name
          ∙ (rw before.elements
          (sym (map-append (λ (e : List ℕ × List (List ℕ)). e.0) before.entries (entry ∷ []))));
      labels = slots
          ∙ (rw before.labels
          (sym (map-append (λ (e : List ℕ × List (List ℕ)). take c.args.count e.1) before.entries
          (entry ∷ []))));
    }

pub returns : goal.returns
returns c =
    let now = c.loop-token.invariant in
    let all : tokens_of c.args.line.now ≡ now.done = passed-all now.done _ _ now.cut
    c.in_default.ensures.cut in
    let each : AllZip (IsLabelToken TransversalRank) (tokens_of c.args.line.now)
    now.entries = rw all now.each in
    (now.entries, each, now.elements, now.labels)
