use Rattle.std.proofs.Common.{inl, inr, refl}
use Rattle.std.proofs.lemmas.Bool.{false≢true}
use Rattle.sfm_lines.proofs.term_line.parts_reason.Goals as goal

pub returns-then-not-are_members : goal.returns-then-not-are_members
returns-then-not-are_members c =
    inl (rw (c.deref.ensures.value, c.deref-2.ensures.value) at c.if-not-are_members.ensures)

pub returns-then-not-are_labels : goal.returns-then-not-are_labels
returns-then-not-are_labels c = inr (rw c.deref-3.ensures.value at c.if-not-are_labels.ensures)

pub returns-then-has_place_twice : goal.returns-then-has_place_twice
returns-then-has_place_twice c = (
  record {
    members = rw (c.deref.ensures.value, c.deref-2.ensures.value) at c.if-not-are_members.ensures;
    labels = rw c.deref-3.ensures.value at c.if-not-are_labels.ensures;
  },
  inl (c.if-has_place_twice.ensures.0 refl),
)

pub returns-then-has_member_twice : goal.returns-then-has_member_twice
returns-then-has_member_twice c = (
  record {
    members = rw (c.deref.ensures.value, c.deref-2.ensures.value) at c.if-not-are_members.ensures;
    labels = rw c.deref-3.ensures.value at c.if-not-are_labels.ensures;
  },
  inr (rw c.deref-4.ensures.value at c.if-has_member_twice.ensures),
)

pub returns : goal.returns
returns c = record {
  named = record {
    members = rw (c.deref.ensures.value, c.deref-2.ensures.value) at c.if-not-are_members.ensures;
    labels = rw c.deref-3.ensures.value at c.if-not-are_labels.ensures;
  };
  once = λ t. false≢true (c.if-has_place_twice.ensures.1 t);
  members_once = rw c.deref-4.ensures.value at c.if-has_member_twice.ensures;
}
