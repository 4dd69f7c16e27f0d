-- A word that is none of the subcommands' names makes no command.
use Rattle.std.proofs.Common.{◌≡◌, ◌≢◌, Bool, true, false, refl, sym, codes}
use Rattle.std.specs.Str.{bytes_eq}
use Rattle.std.proofs.lemmas.Slice.Eq.{bytes_eq-Decides}
use Rattle.clap.specs.Words.{Text}
use Rattle.sfm_words.proofs.read.command_named.Goals as goal

differ : (word verb : Text) → (verb ≢ word) → bytes_eq word verb ≡ false
differ word verb ne = go (bytes_eq word verb) refl where
  go : (b : Bool) → bytes_eq word verb ≡ b → bytes_eq word verb ≡ false
  go true e = absurd (ne (sym ((bytes_eq-Decides word verb).0 e)))
  go false e = e

pub returns-in_default : goal.returns-in_default
returns-in_default c =
    let d = c.in_default in
    let v = c.args.verb.now in
    rw (
      differ (codes "solve") v d.not-solve,
      differ (codes "check") v d.not-check,
      differ (codes "demo") v d.not-demo,
      differ (codes "weigh") v d.not-weigh,
      differ (codes "weighed") v d.not-weighed,
      differ (codes "ask") v d.not-ask,
      differ (codes "level") v d.not-level,
      differ (codes "edit") v d.not-edit,
      differ (codes "meet") v d.not-meet,
      differ (codes "met") v d.not-met,
    ) refl
