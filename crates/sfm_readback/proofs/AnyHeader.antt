-- Behind the first line of an answer text, what may stand where does not depend on what that line
-- says.
use Rattle.std.proofs.Common.{◌≡◌, ⊎_elim, ℕ, List, [], ◌∷◌, ℤ, sym, subst}
use Rattle.std.specs.Prelude.{codes}
use Rattle.sfm_spec.specs.Blocks.{Block}
use Rattle.sfm_kind.specs.Instance.{InstanceData}
use Rattle.sfm_cert.specs.Answer.{Break}
use Rattle.sfm_cert.specs.Solved.{form_of, form_with}
use Rattle.sfm_cert.specs.declared.solved.AnswerEnd.{AnswerEnd}
use Rattle.sfm_cert.specs.declared.solved.AnswerEnd.TheVariants.{BadLine, Memory}
use Rattle.sfm_readback.specs.Parts.{ReadsBlocks, ReadsHeads, ReadsRows, ReadsBreaks, AreBreaksOf}
use Rattle.sfm_readback.specs.Reading.{State, header, minimum, least, greatest, listing, bases, ended, Leads, LeadsOn, Reads, EndsAt}
use Rattle.sfm_readback.specs.declared.cursor.Cursor.{Cursor}

-- the first line was read
abbrev pub IsBehind : State → Type 0
IsBehind header = ⊥
IsBehind minimum = Unit {0}
IsBehind least = Unit {0}
IsBehind greatest = Unit {0}
IsBehind (listing k slopes) = Unit {0}
IsBehind (bases i widths due) = Unit {0}
IsBehind ended = Unit {0}

behind_by : (s t : State) → s ≡ t → IsBehind t → IsBehind s
behind_by s t e h = subst IsBehind (sym e) h

-- ---- from one first line to another

module _ (instance : InstanceData) (a b : List ℕ) where
  leads_behind : (s : State) (line : List ℕ) (next : State) → IsBehind s
      → Leads (form_with a instance) s line next
      → Leads (form_with b instance) s line next × IsBehind next
  leads_behind header line next behind h = absurd behind
  leads_behind minimum line next behind h = (h, behind_by next least h.2 tt)
  leads_behind least line next behind h = (h, behind_by next greatest h.2 tt)
  leads_behind greatest line next behind h = (h, behind_by next (listing 0 []) h.2 tt)
  leads_behind (listing k slopes) line next behind h = (
    h,
    ⊎_elim (λ x. behind_by next _ x.3 tt)
        (λ more. ⊎_elim (λ x. behind_by next _ x.3 tt) (λ x. behind_by next _ x.1 tt) more)
        h,
  )
  leads_behind (bases i (width ∷ widths) due) line next behind h = (h, behind_by next _ h.2 tt)
  leads_behind (bases i [] (r ∷ due)) line next behind h = (h, behind_by next _ h.1 tt)
  leads_behind (bases i [] []) line next behind h = (h, behind_by next ended h.1 tt)
  leads_behind ended line next behind h = absurd h

  leads_on_behind : (s : State) (lines : List (List ℕ)) (to : State) → IsBehind s
      → LeadsOn (form_with a instance) s lines to
      → LeadsOn (form_with b instance) s lines to × IsBehind to
  leads_on_behind s [] to behind h = (h, subst IsBehind h behind)
  leads_on_behind s (line ∷ lines) to behind (next, leads, rest) =
      let one = leads_behind s line next behind leads in
      let more = leads_on_behind next lines to one.1 rest in
      ((next, one.0, more.0), more.1)

  reads_behind : {text : List ℕ} {from to : Cursor} {s t : State} {lines : List (List ℕ)}
      → IsBehind s
      → Reads (form_with a instance) text from to s t lines
      → Reads (form_with b instance) text from to s t lines
  reads_behind {s = s} {t = t} {lines = lines} behind h = record {
    are_lines = h.are_lines;
    within = h.within;
    cut = h.cut;
    number = h.number;
    leads = (leads_on_behind s lines t behind h.leads).0;
  }

-- ---- the parts of a text

module _ (instance : InstanceData) (h : List ℕ) where
  abbrev a : List ℕ
  a = codes "answer 1"

  pub blocks_behind : {text : List ℕ} {from to : Cursor} {blocks : List Block}
      → ReadsBlocks (form_of instance) text from to blocks
      → ReadsBlocks (form_with h instance) text from to blocks
  blocks_behind r = record { reads = reads_behind instance a h tt r.reads; formed = r.formed }

  pub heads_behind : {text : List ℕ} {from to : Cursor} {heads : List Break}
      → ReadsHeads (form_of instance) text from to heads
      → ReadsHeads (form_with h instance) text from to heads
  heads_behind r = record {
    within = r.within;
    reads = λ k. reads_behind instance a h tt (r.reads k);
    formed = r.formed;
    stay = r.stay;
  }

  pub rows_behind : {text : List ℕ} {from to : Cursor} {rows : List (List ℤ)}
      → ReadsRows (form_of instance) text from to rows
      → ReadsRows (form_with h instance) text from to rows
  rows_behind r = record {
    within = r.within;
    reads = λ due. reads_behind instance a h tt (r.reads due);
    formed = r.formed;
  }

  pub breaks_behind : {text : List ℕ} {from to : Cursor} {heads due breaks : List Break}
      → ReadsBreaks (form_of instance) text from to heads due breaks
      → ReadsBreaks (form_with h instance) text from to heads due breaks
  breaks_behind r = record {
    within = r.within;
    reads = λ i. let x = r.reads i in (x.0, reads_behind instance a h tt x.1);
  }

  pub breaks_formed : {heads breaks : List Break} → AreBreaksOf (form_of instance) heads breaks
      → AreBreaksOf (form_with h instance) heads breaks
  breaks_formed r = record { same = r.same; formed = r.formed }

  -- where reading stops
  pub ends_behind : (text : List ℕ) (from : Cursor) (s : State) (end : AnswerEnd) → IsBehind s
      → EndsAt (form_of instance) text from s end → EndsAt (form_with h instance) text from s end
  ends_behind text from s (BadLine number) behind r =
      let next = (leads_on_behind instance a h s r.lines r.next behind r.reads.leads).1 in
      record {
        lines = r.lines;
        to = r.to;
        next = r.next;
        reads = reads_behind instance a h behind r.reads;
        number_is = r.number_is;
        none = λ line after is leads.
            r.none line after is (leads_behind instance h a r.next line after next leads).0;
        left = r.left;
      }
  ends_behind text from s Memory behind r = tt
