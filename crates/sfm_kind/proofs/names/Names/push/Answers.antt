-- A new key goes behind the others.
use Rattle.std.proofs.Common.{◌≡◌, false, [], ◌∷◌, ◌++◌, map, ◌∙◌, refl, ap, nat_eq}
use Rattle.std.specs.List.{list_any}
use Rattle.std.specs.Cmp.Lexicographic.{pointwise}
use Rattle.std.proofs.lemmas.List.{map-append}
use Rattle.sfm_kind.specs.Names.{IsNewName}
use Rattle.sfm_kind.proofs.Keys.{none_where_new}
use Rattle.sfm_kind.proofs.names.Names.push.Goals as goal

pub returns-clause-pushed : goal.returns-clause-pushed
returns-clause-pushed c =
    let fresh : IsNewName (map (λ key. key.items) c.self.inside.set.keys)
    c.args.name.now = rw c.self.view_is c.requires.fresh in
    let bytes : c.in_ok-bytes.bytes.items ≡ c.args.name.now = c.in_ok-bytes.ensures.items in
    let none : list_any (λ key. pointwise nat_eq c.in_ok-bytes.bytes.items key.items)
    c.self.inside.set.keys ≡ false =
    rw bytes (none_where_new (λ key. key.items) c.args.name.now c.self.inside.set.keys fresh) in
    let keys : c.insert.new.self.keys ≡ c.self.inside.set.keys ++ c.in_ok-bytes.bytes ∷ [] = rw none
    at c.in_ok-insert.ensures.keys in
    ap (map (λ key. key.items)) keys
    ∙ (map-append (λ key. key.items) c.self.inside.set.keys (c.in_ok-bytes.bytes ∷ [])
    ∙ rw (bytes, c.self.view_is) refl)
