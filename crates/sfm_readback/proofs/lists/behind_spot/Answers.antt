use Rattle.std.proofs.Common.{◌≡◌, ◌+◌, ◌++◌, ◌≤◌, List, ℕ, Option, Some, None, MatchOption, Bor, sym, ap, ◌∙◌, arith}
use Rattle.std.specs.Prelude.{codes, decimal}
use Rattle.std.proofs.lemmas.List.{append_cancel_left}
use Rattle.sfm_cert.specs.Spots.{spot_label}
use Rattle.sfm_cert.specs.declared.spot.Spot.{Spot}
use Rattle.sfm_cert.proofs.Labels.{label_cut}
use Rattle.sfm_readback.proofs.lists.behind_spot.Goals as goal

-- the layer behind the line
layered : (line word rest : List ℕ) (spot : Spot) (r : Option (Bor (List ℕ))) → 1 ≤ spot.layer
    → line ≡ word ++ (decimal (spot.before + 1) ++ rest)
    → MatchOption r ((d : List ℕ) → rest ≡ codes "." ++ (decimal spot.layer ++ d) → ⊥)
    (λ x. rest ≡ codes "." ++ (decimal spot.layer ++ x.now))
    → MatchOption r ((d : List ℕ) → line ≡ word ++ (spot_label spot ++ d) → ⊥)
    (λ x. line ≡ word ++ (spot_label spot ++ x.now))
layered line word rest spot None l e h = λ d p.
    h d (append_cancel_left (decimal (spot.before + 1)) rest
    (codes "." ++ (decimal spot.layer ++ d))
    (append_cancel_left word (decimal (spot.before + 1) ++ rest)
    (decimal (spot.before + 1) ++ (codes "." ++ (decimal spot.layer ++ d)))
    (sym e ∙ p ∙ ap (λ z. word ++ z) (label_cut (spot.before + 1) spot.layer d l))))
layered line word rest spot (Some x) l e h =
    e ∙ ap (λ z. word ++ (decimal (spot.before + 1) ++ z)) h
    ∙ ap (λ z. word ++ z) (sym (label_cut (spot.before + 1) spot.layer x.now l))

pub returns : goal.returns
returns c = layered c.args.line.now c.args.word.now c.in_ok-rest.rest.now c.args.spot
    c.behind_count-2.result (omega (arith, c.if-spot-eq0.false)) c.in_ok-rest.ensures
    c.behind_count-2.ensures
