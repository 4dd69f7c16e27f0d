-- What the set's look-up finds, as the index of a name.
use Rattle.std.proofs.Common.{◌≡◌, ℕ, ◌<◌, length, map, slice_get, position, Option, Some, None, IfSome, IfNone, is_some, sym, nat_eq}
use Rattle.std.specs.List.{list_any}
use Rattle.std.specs.Cmp.Lexicographic.{pointwise}
use Rattle.sfm_kind.specs.Names.{IsNewName}
use Rattle.sfm_kind.proofs.Keys.{found_at, new_where_none}
use Rattle.sfm_kind.proofs.names.Names.place_of.Goals as goal

pub returns-clause-found : goal.returns-clause-found
returns-clause-found c = rw (← c.self.view_is)
    (at c.get_index_of.result c.get_index_of.ensures.index c.get_index_of.ensures.within)
  where
    at : (o : Option ℕ) → o ≡ position (λ key. pointwise nat_eq c.args.name.now key.items)
        c.self.inside.set.keys → IfSome o (λ e. e < length c.self.inside.set.keys)
        → IfSome o (λ e. slice_get (map (λ key. key.items) c.self.inside.set.keys) e ≡ Some
        c.args.name.now)
    at None e within = tt
    at (Some i) e within = found_at (λ key. key.items) c.args.name.now c.self.inside.set.keys i
        within (sym e)

pub returns-clause-none : goal.returns-clause-none
returns-clause-none c = rw (← c.self.view_is)
    (at c.get_index_of.result c.get_index_of.ensures.found)
  where
    at : (o : Option ℕ) → is_some o ≡ list_any (λ key. pointwise nat_eq c.args.name.now key.items)
        c.self.inside.set.keys → IfNone o
        (IsNewName (map (λ key. key.items) c.self.inside.set.keys) c.args.name.now)
    at None e = new_where_none (λ key. key.items) c.args.name.now c.self.inside.set.keys (sym e)
    at (Some i) e = tt
