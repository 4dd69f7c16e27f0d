-- A term line has one line without weights, and one list of elements with the texts of their
-- weights.
use Rattle.std.proofs.Common.{◌≡◌, inl, inr, ℕ, List, ◌∷◌, Option, sym, ap, subst, ◌∙◌}
use Rattle.sfm_kind.specs.declared.version.Version.{Version}
use Rattle.sfm_lines.specs.declared.word.TermWord.TheVariants.{RankWord}
use Rattle.sfm_lines.specs.Words.{word_text}
use Rattle.sfm_lines.specs.Weights.{IsUnweighed, IsPlainLine}
use Rattle.sfm_weights.proofs.Entries.{unweighed-same}

pub plain-same : (version : Version) (tokens p q : List (List ℕ))
    (a b : List (List ℕ × Option (List ℕ))) → IsPlainLine version tokens p a
    → IsPlainLine version tokens q b → (p ≡ q) × (a ≡ b)
plain-same version tokens p q a b (inl (rest, bare, second, cut, h, is))
    (inl (rest', bare', second', cut', h', is')) =
    let both : word_text RankWord ∷ rest ≡ word_text RankWord ∷ rest' = sym cut ∙ cut' in
    let one : rest' ≡ rest = cc in
    let same = unweighed-same rest bare bare' a b h
    (subst (λ (t : List (List ℕ)). IsUnweighed t bare' b) one h') in
    (is ∙ (ap (λ (t : List (List ℕ)). word_text RankWord ∷ t) same.0 ∙ sym is'), same.1)
plain-same version tokens p q a b (inl (rest, bare, second, cut, h, is)) (inr (none, is', empty)) =
    absurd (none rest second cut)
plain-same version tokens p q a b (inr (none, is, empty)) (inl (rest, bare, second, cut, h, is')) =
    absurd (none rest second cut)
plain-same version tokens p q a b (inr (none, is, empty)) (inr (none', is', empty')) =
    (is ∙ sym is', empty ∙ sym empty')
