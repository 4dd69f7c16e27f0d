-- How the pieces that a reader is fed with join to the text of a file.
use Rattle.std.proofs.Common.{◌≡◌, inl, inr, ℕ, ◌+◌, ◌<◌, ◌≤◌, List, [], ◌++◌, length, take, Result, Ok, Err, refl, sym, ◌∙◌, arith, length-append}
use Rattle.std.specs.Prelude.{IfOk, IfErr, OnOk}
use Rattle.std.proofs.lemmas.Bool.{false≢true}
use Rattle.std.proofs.lemmas.List.{length-take}
use Rattle.sfm_io.specs.Shelf.{ShelfState, Opens, Reads}
use Rattle.sfm_io.specs.Transfer.{ReadsOn}
use Rattle.sfm_io.proofs.FaultLemmas.{Rose_later}
use Rattle.sfm_io.proofs.ShelfLemmas.{HasRead, HasRead-none, HasRead-more, HasRead-whole, HasRead-long}
use Rattle.sfm_text.specs.declared.reader.Reader.{Reader}
use Rattle.sfm_text.specs.GoodText.{text_limit}
use Rattle.sfm_text.specs.Standing.{Stands}
use Rattle.sfm_text.proofs.Standing.{stands-longer}
use Rattle.sfm_due.specs.declared.status.Status.{Status}
use Rattle.sfm_due.specs.declared.status.Status.TheVariants.{ReadFault, Memory}
use Rattle.sfm_due.specs.Feeding.{FeedsOn, FeedsOpen, FeedsText, IsStopped}
use Rattle.sfm_due.proofs.ReadLemmas.{fails_behind, reads_whole, reads_long}

-- a read that failed
pub feeds-fault : {E : Type 0} (before after : ShelfState) (old : Reader) (most : ℕ) (e : E)
    (buffer : List ℕ) → Reads before (Err e) buffer after
    → FeedsOn before old most (Err ReadFault) old after
feeds-fault before after old most e buffer r = record {
  kept = r.kept;
  small = tt;
  fed = tt;
  ends = tt;
  stop = inl (refl, record { rose = r.rose; unsound = λ sound. false≢true (r.sure sound) });
}

-- a read, with whose bytes a reader was fed
pub feeds-read : {E : Type 0} (before after : ShelfState) (old new : Reader) (most count : ℕ)
    (buffer : List ℕ) (result : Result ℕ Status) → Reads {E = E} before (Ok count) buffer after
    → length buffer ≡ most → 0 < most
    → IfOk result (λ k. k ≡ length (take count buffer))
    → OnOk result ((text : List ℕ) → Stands old text → Stands new (text ++ take count buffer))
    → IfErr result (λ status. status ≡ Memory)
    → FeedsOn before old most result new after
feeds-read before after old new most count buffer (Ok k) r len some is stands wanting =
    let all : k ≡ count = omega (arith, is, length-take count buffer, r.count) in
    record {
      kept = r.kept;
      small = omega (arith, all, r.count, len);
      fed = record {
        bytes = take count buffer;
        count_is = sym is;
        taken = r.taken;
        stands = stands;
      };
      ends = λ none. r.ends (sym all ∙ none) (omega (arith, len, some));
      stop = tt;
    }
feeds-read before after old new most count buffer (Err status) r len some is stands wanting =
    record { kept = r.kept; small = tt; fed = tt; ends = tt; stop = inr wanting }

-- so many bytes came since the shelf was `before`, and the reader was fed with them
pub record HasFed (before after : ShelfState) (reader : Reader) (count : ℕ) : Type 0 where
  pub bytes : List ℕ
  pub count_is : length bytes ≡ count
  pub read : HasRead before bytes after
  pub stands : Stands reader bytes

pub fed-none : (shelf : ShelfState) (reader : Reader) → Stands reader []
    → HasFed shelf shelf reader 0
fed-none shelf reader stands =
    record { bytes = []; count_is = refl; read = HasRead-none shelf; stands = stands }

-- one read as the lemmas on shelves have it
as_read : (before after : ShelfState) (old new : Reader) (most count : ℕ) (had : List ℕ)
    (r : FeedsOn before old most (Ok count) new after)
    → ReadsOn before had most (Ok count) (had ++ (r.fed).bytes) after
as_read before after old new most count had r = record {
  kept = r.kept;
  count = (omega (arith, length-append had (r.fed).bytes, (r.fed).count_is), r.small);
  taken = ((r.fed).bytes, refl, (r.fed).taken);
  ends = r.ends;
  stop = tt;
}

pub fed-more : (before mid after : ShelfState) (old new : Reader) (done most count : ℕ)
    → HasFed before mid old done → FeedsOn mid old most (Ok count) new after
    → HasFed before after new (done + count)
fed-more before mid after old new done most count h r = record {
  bytes = h.bytes ++ (r.fed).bytes;
  count_is = omega (arith, length-append h.bytes (r.fed).bytes, h.count_is, (r.fed).count_is);
  read = HasRead-more h.read (as_read mid after old new most count h.bytes r);
  stands = (r.fed).stands h.bytes h.stands;
}

-- where no more came, the reader stands for the rest of the open text
pub fed-whole : (before mid after : ShelfState) (old new : Reader) (done most count : ℕ) → count ≡ 0
    → done ≤ text_limit → HasFed before mid old done → FeedsOn mid old most (Ok count) new after
    → FeedsOpen before after (Ok new)
fed-whole before mid after old new done most count none short h r =
    let all = fed-more before mid after old new done most count h r in
    let last : FeedsOn mid old most (Ok 0) new after = rw none at r in
    let rest = HasRead-whole h.read (as_read mid after old new most 0 h.bytes last) in (
      h.bytes ++ (last.fed).bytes,
      (last.fed).stands h.bytes h.stands,
      inl (
        omega (
          arith,
          length-append h.bytes (last.fed).bytes,
          h.count_is,
          (last.fed).count_is,
          short,
        ),
        rest,
      ),
    )

-- where too much came, it stands for the front of the open text
pub fed-long : (before after : ShelfState) (reader : Reader) (done : ℕ) → done ≡ text_limit + 1
    → HasFed before after reader done → FeedsOpen before after (Ok reader)
fed-long before after reader done long h =
    let count : length h.bytes ≡ text_limit + 1 = omega (arith, h.count_is, long) in
    (h.bytes, h.stands, inr (omega (arith, count), HasRead-long h.read count))

-- a read that stopped is why all stopped
pub fed-stop : (before mid after : ShelfState) (old new : Reader) (done most : ℕ) (status : Status)
    → HasFed before mid old done → FeedsOn mid old most (Err status) new after
    → IsStopped before after status
fed-stop before mid after old new done most status h r = at r.stop
  where
    at : IsStopped mid after status → IsStopped before after status
    at (inl (fault, why)) = inl (
      fault,
      record {
        rose = Rose_later before.faults mid.faults after.faults (h.read).kept.faults
            why.rose;
        unsound = λ sound. why.unsound ((h.read).kept.sound sound);
      },
    )
    at (inr memory) = inr memory

-- a file that was opened, and with which a reader was fed
pub feeds-text : {T E : Type 0} (before mid after : ShelfState) (name : List ℕ) (t : T)
    (result : Result Reader Status) → Opens {T = T} {E = E} before name (Ok t) mid
    → FeedsOpen mid after result → FeedsText name before after result
feeds-text before mid after name t (Ok reader) opens (bytes, stands, inl (short, rest)) =
    let (named, ended) = reads_whole text_limit before mid after name bytes t opens short rest in
    (bytes, stands, named, ended)
feeds-text before mid after name t (Ok reader) opens (bytes, stands, inr (more, long)) =
    let (text, longer, named, ended) = reads_long text_limit before mid after name t opens long in
    (text, stands-longer reader bytes text more longer stands, named, ended)
feeds-text before mid after name t (Err status) opens (inl (fault, why)) =
    inl (fault, fails_behind before mid after name t opens why)
feeds-text before mid after name t (Err status) opens (inr memory) = inr memory
