-- What a reader has read, line by line: how it goes on with a line that ends, and what it comes to
-- at the end of the text.
use Rattle.std.proofs.Common.{◌≡◌, ◌⊎◌, Bor, inl, inr, ℕ, ◌+◌, ◌<◌, ◌≤◌, min, List, [], ◌∷◌, ◌++◌, ◌-◌, length, get_or, take, drop, map, not, Bool, true, false, Option, Some, None, MatchOption, is_some, Result, Ok, Err, refl, sym, ap, subst, ◌∙◌, arith, append_assoc, length-append}
use Prim.Native.Nat.{zero, suc}
use Rattle.std.specs.Prelude.{◌==◌, OnOk, IfOk, IfErr}
use Rattle.std.specs.List.{All, concat, filter, position_or_len, FoldsTo}
use Rattle.std.specs.Str.Lines.{strip_carriage_return}
use Rattle.std.proofs.lemmas.Bool.{false≢true, eqb-true}
use Rattle.std.proofs.lemmas.List.{append-nil, map-append, length-take, get_or-take, map_more, take_all}
use Rattle.std.proofs.lemmas.List.Sums.{fails_before_first, passes_at_first}
use Rattle.std.proofs.lemmas.List.Elements.{filter-append}
use Rattle.sfm_text.specs.declared.end.TextEnd.{TextEnd}
use Rattle.sfm_text.specs.declared.end.Fault.{Fault}
use Rattle.sfm_text.specs.declared.reader.Reader.{Reader}
use Rattle.sfm_lines.specs.Lines.{pieces_of, without_empty_last, lines_of, tokens_of, are_skipped}
use Rattle.sfm_lines.specs.Reading.{start, HasReason, Takes}
use Rattle.sfm_lines.specs.declared.reason.Reason.TheVariants.{Long}
use Rattle.sfm_text.specs.GoodText.{text_limit, HasFaultyLine, IsRefusalOf, IsFaultOf, is_long, is_faulty}
use Rattle.sfm_text.specs.Standing.{numbered, is_content, content_among, bytes_of, Progress, progress_of, LeadTo, IsOpen, IsFaulty, HasRead, Stands, PassesLine, FailsLine, JudgesLine, LeadsTo, HasReadAll}
use Rattle.sfm_text.proofs.LineCuts.{without_empty_last-cons, without_empty_last-one}
use Rattle.sfm_lines.proofs.Cuts.{rest-is}
use Rattle.sfm_lines.proofs.Cutting.{cut-at}
use Rattle.sfm_text.proofs.Readings.{lines-push}
use Rattle.sfm_text.proofs.Orders.{first_listed}
use Rattle.sfm_text.proofs.Appended.{pieces-more, pieces-longer, pieces-ended, some-pieces, without-last, numbered-append}

filter-yes : {X : Type 0} (p : X → Bool) (x : X) (xs : List X) → p x ≡ true
    → filter p (x ∷ xs) ≡ x ∷ filter p xs
filter-yes p x xs e = rw e refl

filter-no : {X : Type 0} (p : X → Bool) (x : X) (xs : List X) → p x ≡ false
    → filter p (x ∷ xs) ≡ filter p xs
filter-no p x xs e = rw e refl

length-numbered : (number : ℕ) (pieces : List (List ℕ))
    → length (numbered number pieces) ≡ length pieces
length-numbered number [] = refl
length-numbered number (piece ∷ pieces) = omega (arith, length-numbered (number + 1) pieces)

-- the line of a piece behind those that have ended
abbrev line_behind : List (List ℕ) → List ℕ → ℕ × List ℕ
line_behind ended piece = (1 + length ended, strip_carriage_return piece)

-- the content lines among those that have ended, one more, and more behind it
content-parts : (ended : List (List ℕ)) (piece : List ℕ) (more : List (List ℕ))
    → content_among (numbered 1 (ended ++ piece ∷ more)) ≡ content_among
    (numbered 1 ended) ++ content_among
    (line_behind ended piece ∷ numbered (1 + length ended + 1) more)
content-parts ended piece more = ap content_among (numbered-append 1 ended (piece ∷ more))
    ∙ filter-append is_content (numbered 1 ended) (numbered (1 + length ended) (piece ∷ more))

content-yes : (ended : List (List ℕ)) (piece : List ℕ) (more : List (List ℕ))
    → are_skipped (tokens_of (strip_carriage_return piece)) ≡ false
    → content_among (numbered 1 (ended ++ piece ∷ more)) ≡ content_among
    (numbered 1 ended) ++ line_behind ended piece ∷ content_among
    (numbered (1 + length ended + 1) more)
content-yes ended piece more counts =
    let here = filter-yes is_content (line_behind ended piece)
    (numbered (1 + length ended + 1) more) (ap not counts) in
    content-parts ended piece more
    ∙ ap (λ (l : List (ℕ × List ℕ)). content_among (numbered 1 ended) ++ l) here

content-no : (ended : List (List ℕ)) (piece : List ℕ)
    → are_skipped (tokens_of (strip_carriage_return piece)) ≡ true
    → content_among (numbered 1 (ended ++ piece ∷ [])) ≡ content_among (numbered 1 ended)
content-no ended piece skipped =
    let none = filter-no is_content (line_behind ended piece) [] (ap not skipped) in
    content-parts ended piece []
    ∙ (ap (λ (l : List (ℕ × List ℕ)). content_among (numbered 1 ended) ++ l) none
    ∙ append-nil (content_among (numbered 1 ended)))

abbrev number_of : ℕ × List ℕ → ℕ
number_of line = line.0

-- one more line that passes
lead-passes : (ended : List (List ℕ)) (piece : List ℕ) (p q : Progress) → LeadTo ended p
    → PassesLine p (strip_carriage_return piece) q → LeadTo (ended ++ piece ∷ []) q
lead-passes ended piece p q lead passes = at passes.kept
  where
    count : q.lines ≡ length (ended ++ piece ∷ [])
    count = omega (arith, passes.lines, lead.count, length-append ended (piece ∷ []))

    at : ((are_skipped (tokens_of (strip_carriage_return piece)) ≡ false)
        × (q.numbers ≡ p.numbers ++ (p.lines + 1) ∷ [])
        × Takes p.state (strip_carriage_return piece) q.state)
        ⊎ ((are_skipped (tokens_of (strip_carriage_return piece)) ≡ true) × (q.numbers ≡ p.numbers)
        × (q.state ≡ p.state)) → LeadTo (ended ++ piece ∷ []) q
    at (inl (counts, more, takes)) =
        let e = content-yes ended piece [] counts in
        let before = content_among (numbered 1 ended) in
        let line : ℕ × List ℕ = line_behind ended piece in
        let number : p.lines + 1 ≡ 1 + length ended = omega (arith, lead.count) in
        let good = lines-push Takes start before p.state line q.state lead.good takes in
        record {
          count = count;
          numbers = more ∙ (rw (lead.numbers, number)
              (sym (map-append number_of before (line ∷ []))) ∙ ap (map number_of) (sym e));
          good = subst (λ (lines : List (ℕ × List ℕ)). FoldsTo Takes start (bytes_of lines) q.state)
              (sym e) good;
        }
    at (inr (skipped, same, state)) =
        let e = content-no ended piece skipped in
        record {
          count = count;
          numbers = same ∙ (lead.numbers ∙ ap (map number_of) (sym e));
          good = rw (e, state) lead.good;
        }

-- one more line, with a fault, in a text with more lines behind it
faulty-line : (text : List ℕ) (ended : List (List ℕ)) (piece : List ℕ) (more : List (List ℕ))
    (p : Progress) (fault : Fault) → lines_of text ≡ numbered 1 (ended ++ piece ∷ more)
    → LeadTo ended p → FailsLine p (strip_carriage_return piece) fault
    → HasFaultyLine text fault.line fault.reason
faulty-line text ended piece more p fault lines lead fails =
    let e = content-yes ended piece more fails.counts in
    let number : 1 + length ended ≡ fault.line = omega (arith, fails.line_is, lead.count) in
    record {
      before = content_among (numbered 1 ended);
      line = strip_carriage_return piece;
      after = content_among (numbered (1 + length ended + 1) more);
      state = p.state;
      content = ap content_among lines
          ∙ (e ∙ ap (λ (n : ℕ). content_among (numbered 1 ended) ++ (n, strip_carriage_return piece)
          ∷ content_among (numbered (1 + length ended + 1) more)) number);
      good = lead.good;
      fault = first_listed (HasReason p.state (strip_carriage_return piece)) fault.reason
          (fails.reason).holds (fails.reason).first;
    }

-- the lines of a text whose last piece has ended, and of what comes behind it
lines-behind : (text more : List ℕ) (ended : List (List ℕ)) (rest : List ℕ)
    → pieces_of 10 text ≡ ended ++ rest ∷ []
    → lines_of ((text ++ 10 ∷ []) ++ more) ≡ numbered 1
    (ended ++ rest ∷ without_empty_last (pieces_of 10 more))
lines-behind text more ended rest cut =
    let longer : pieces_of 10 (text ++ 10 ∷ more) ≡ ended ++ (rest ++ []) ∷ pieces_of 10
    more = pieces-more text (10 ∷ more) ended rest cut in
    let whole : pieces_of 10 ((text ++ 10 ∷ []) ++ more) ≡ ended ++ rest ∷ pieces_of 10
    more = ap (pieces_of 10) (append_assoc text (10 ∷ []) more)
    ∙ (longer ∙ ap (λ (r : List ℕ). ended ++ r ∷ pieces_of 10 more) (append-nil rest)) in
    let kept = without_empty_last-cons rest (pieces_of 10 more) (some-pieces (λ c. c == 10) more) in
    ap (λ (pieces : List (List ℕ)). numbered 1 (without_empty_last pieces)) whole
    ∙ ap (numbered 1) (without-last ended rest (pieces_of 10 more)
    ∙ ap (λ (l : List (List ℕ)). ended ++ l) kept)

-- a line feed ends the line: it has been judged
pub line-ended : (text rest : List ℕ) (p q : Progress) (fault : Option Fault) → IsOpen p rest text
    → MatchOption fault (PassesLine p (strip_carriage_return rest) q)
    (FailsLine p (strip_carriage_return rest))
    → MatchOption fault (IsOpen q [] (text ++ 10 ∷ [])) (λ f. IsFaulty f (text ++ 10 ∷ []))
line-ended text rest p q None is passes = record {
  ended = is.ended ++ rest ∷ [];
  cut = pieces-ended text is.ended rest is.cut;
  lead = lead-passes is.ended rest p q is.lead passes;
}
line-ended text rest p q (Some fault) is fails =
    λ more. faulty-line ((text ++ 10 ∷ []) ++ more) is.ended rest
    (without_empty_last (pieces_of 10 more)) p fault (lines-behind text more is.ended rest is.cut)
    is.lead fails

-- bytes without a line feed make the line longer
pub open-longer : (text rest front : List ℕ) (p : Progress) → All (λ c. (c == 10) ≡ false) front
    → IsOpen p rest text → IsOpen p (rest ++ front) (text ++ front)
open-longer text rest front p plain is = record {
  ended = is.ended;
  cut = pieces-longer text front is.ended rest plain is.cut;
  lead = is.lead;
}

-- a line that began before the piece, and ends in it
pub line-read : (text front piece : List ℕ) (old new : Reader) → All (λ c. (c == 10) ≡ false) front
    → IsOpen (progress_of old) old.rest.items text → piece ≡ old.rest.items ++ front
    → new.rest.items ≡ [] → JudgesLine old piece new → HasRead new (text ++ front ++ 10 ∷ [])
line-read text front piece old new plain is whole none judged =
    let longer = open-longer text old.rest.items front (progress_of old) plain is in
    rw none (line-ended (text ++ front) (old.rest.items ++ front) (progress_of old)
    (progress_of new) new.fault longer
    (subst (λ (l : List ℕ). JudgesLine old l new) whole judged))

stays : (text more : List ℕ) (fault : Option Fault) (P Q : Type 0) → true ≡ is_some fault
    → MatchOption fault P (λ f. IsFaulty f text)
    → MatchOption fault Q (λ f. IsFaulty f (text ++ more))
stays text more None P Q some h = absurd (false≢true (sym some))
stays text more (Some fault) P Q some h =
    λ last. rw (append_assoc text more last) (h (more ++ last))

-- a fault stays, whatever comes behind it
pub faulty-stays : (old new : Reader) (text more whole : List ℕ) → whole ≡ text ++ more
    → new.fault ≡ old.fault → true ≡ is_some old.fault → HasRead old text → HasRead new whole
faulty-stays old new text more whole is same some h =
    rw (is, same) (stays text more old.fault (IsOpen (progress_of old) old.rest.items text)
    (IsOpen (progress_of new) new.rest.items (text ++ more)) some h)

-- where there is no fault, the text is open
open-here : (P : Type 0) (Q : Fault → Type 0) (fault : Option Fault) → false ≡ is_some fault
    → MatchOption fault P Q → P
open-here P Q None none h = h
open-here P Q (Some fault) none h = absurd (false≢true none)

pub no-fault : (fault : Option Fault) → false ≡ is_some fault → fault ≡ None
no-fault None none = refl
no-fault (Some fault) none = absurd (false≢true none)

pub is-open : (reader : Reader) (text : List ℕ) → false ≡ is_some reader.fault → HasRead reader text
    → IsOpen (progress_of reader) reader.rest.items text
is-open reader text none h = open-here (IsOpen (progress_of reader) reader.rest.items text)
    (λ f. IsFaulty f text) reader.fault none h

-- the bytes before the first line feed have none
pub plain-front : (left : List ℕ) (end : ℕ) → end ≡ position_or_len (λ c. c == 10) left
    → All (λ c. (c == 10) ≡ false) (take end left)
plain-front left end first = λ k d lt.
    let few : k < end = omega (arith, lt, length-take end left) in
    rw (get_or-take end left k d few)
    (fails_before_first (λ c. c == 10) left k d (omega (arith, few, first)))

-- a piece, as far as it has been read, with its next line and what is left
pub next-parts : (piece done left : List ℕ) (end : ℕ) → piece ≡ done ++ left
    → end ≡ position_or_len (λ c. c == 10) left → end < length left
    → piece ≡ ((done ++ take end left) ++ 10 ∷ []) ++ drop (end + 1) left
next-parts piece done left end parts first within =
    let at : get_or left end 0 ≡ 10 = eqb-true (get_or left end 0) 10
    (rw first (passes_at_first (λ c. c == 10) left 0 (omega (arith, first, within)))) in
    let cut = cut-at 10 left end within at in
    parts ∙ (ap (λ (l : List ℕ). done ++ l) cut ∙ join done (take end left) (drop (end + 1) left))
  where
    join : (a b c : List ℕ) → a ++ (b ++ 10 ∷ c) ≡ ((a ++ b) ++ 10 ∷ []) ++ c
    join a b c = sym (append_assoc (a ++ b) (10 ∷ []) c ∙ append_assoc a b (10 ∷ c))

pub left-parts : (piece done left : List ℕ) (end : ℕ) → piece ≡ done ++ left
    → end ≡ position_or_len (λ c. c == 10) left → end < length left
    → piece ≡ ((done ++ take end left) ++ 10 ∷ []) ++ take (length left - (end + 1))
    (drop (end + 1) left)
left-parts piece done left end parts first within =
    rw (rest-is left (end + 1) (omega (arith, within)))
    (next-parts piece done left end parts first within)

regroup : (text done front : List ℕ)
    → ((text ++ done) ++ front) ++ 10 ∷ [] ≡ text ++ ((done ++ front) ++ 10 ∷ [])
regroup text done front = ap (λ (l : List ℕ). l ++ 10 ∷ []) (append_assoc text done front)
    ∙ append_assoc text (done ++ front) (10 ∷ [])

-- one more line of the piece has been read
pub open-next : (reader : Reader) (text done front : List ℕ) → false ≡ is_some reader.fault
    → HasRead reader (((text ++ done) ++ front) ++ 10 ∷ [])
    → IsOpen (progress_of reader) reader.rest.items (text ++ ((done ++ front) ++ 10 ∷ []))
open-next reader text done front none h =
    subst (λ (l : List ℕ). IsOpen (progress_of reader) reader.rest.items l)
    (regroup text done front) (is-open reader (((text ++ done) ++ front) ++ 10 ∷ []) none h)

-- a fault within the piece
pub faulty-within : (reader : Reader) (text piece done left : List ℕ) (end : ℕ)
    → piece ≡ done ++ left → end ≡ position_or_len (λ c. c == 10) left → end < length left
    → true ≡ is_some reader.fault → HasRead reader (((text ++ done) ++ take end left) ++ 10 ∷ [])
    → HasRead reader (text ++ piece)
faulty-within reader text piece done left end parts first within some h =
    let whole : text ++ piece ≡ (((text ++ done) ++ take end left) ++ 10 ∷ []) ++ drop (end + 1)
    left = ap (λ (l : List ℕ). text ++ l) (next-parts piece done left end parts first within)
    ∙ (sym (append_assoc text ((done ++ take end left) ++ 10 ∷ []) (drop (end + 1) left))
    ∙ ap (λ (l : List ℕ). l ++ drop (end + 1) left)
    (sym (regroup text done (take end left)))) in
    faulty-stays reader reader (((text ++ done) ++ take end left) ++ 10 ∷ []) (drop (end + 1) left)
    (text ++ piece) whole refl some h

-- the end of the piece, which holds no line feed
pub open-piece : (fault : Option Fault) (p : Progress) (text piece done left rest longer : List ℕ)
    (end : ℕ) → fault ≡ None → IsOpen p rest (text ++ done) → longer ≡ rest ++ left
    → piece ≡ done ++ left → end ≡ position_or_len (λ c. c == 10) left → length left ≤ end
    → MatchOption fault (IsOpen p longer (text ++ piece)) (λ f. IsFaulty f (text ++ piece))
open-piece fault p text piece done left rest longer end none is more parts first past =
    let plain : All (λ c. (c == 10) ≡ false) left = λ k d lt. fails_before_first (λ c. c == 10) left
    k d (omega (arith, lt, first, past)) in
    let open_ : IsOpen p (rest ++ left) ((text ++ done) ++ left) = open-longer (text ++ done) rest
    left p plain is in
    let all : (text ++ done) ++ left ≡ text ++ piece = append_assoc text done left
    ∙ ap (λ (l : List ℕ). text ++ l) (sym parts) in
    rw (none, more) (subst (IsOpen p (rest ++ left)) all open_)

-- at the end of the text a fault is its first
last-fault : (text : List ℕ) (fault : Option Fault) (P Q : Type 0) → true ≡ is_some fault
    → MatchOption fault P (λ f. IsFaulty f text)
    → MatchOption fault Q (λ f. HasFaultyLine text f.line f.reason)
last-fault text None P Q some h = absurd (false≢true (sym some))
last-fault text (Some fault) P Q some h =
    subst (λ (l : List ℕ). HasFaultyLine l fault.line fault.reason) (append-nil text) (h [])

pub faulty-last : (reader : Reader) (text : List ℕ) → true ≡ is_some reader.fault
    → HasRead reader text → HasReadAll reader text
faulty-last reader text some h =
    last-fault text reader.fault (IsOpen (progress_of reader) reader.rest.items text)
    (LeadsTo text (progress_of reader)) some h

pub some-count : (n : ℕ) → false ≡ (n == 0) → 0 < n
some-count zero h = cc
some-count (suc n) h = omega arith

-- a text that ends with a line feed, or has no byte
pub open-last : (text rest : List ℕ) (p : Progress) → rest ≡ [] → IsOpen p rest text
    → LeadsTo text p
open-last text rest p none is =
    let cut : pieces_of 10 text ≡ is.ended ++ [] ∷ [] = is.cut
    ∙ ap (λ (r : List ℕ). is.ended ++ r ∷ []) none in
    let lines : lines_of text ≡ numbered 1
    is.ended = ap (λ (pieces : List (List ℕ)). numbered 1 (without_empty_last pieces)) cut
    ∙ ap (numbered 1) (without-last is.ended [] [] ∙ append-nil is.ended) in
    record {
      count = (is.lead).count ∙ sym (ap length lines ∙ length-numbered 1 is.ended);
      numbers = (is.lead).numbers ∙ ap (λ (l : List (ℕ × List ℕ)). map number_of (content_among l))
          (sym lines);
      good = subst (λ (l : List (ℕ × List ℕ)). FoldsTo Takes start (bytes_of (content_among l))
          p.state) (sym lines) (is.lead).good;
    }

-- a text whose last line does not end with a line feed
pub line-last : (text piece : List ℕ) (old new : Reader) → 0 < length old.rest.items
    → IsOpen (progress_of old) old.rest.items text → piece ≡ old.rest.items
    → JudgesLine old piece new → HasReadAll new text
line-last text piece old new some is same judged =
    at new.fault (subst (λ (l : List ℕ). JudgesLine old l new) same judged)
  where
    lines : lines_of text ≡ numbered 1 (is.ended ++ old.rest.items ∷ [])
    lines = ap (λ (pieces : List (List ℕ)). numbered 1 (without_empty_last pieces)) is.cut
        ∙ ap (numbered 1) (without-last is.ended old.rest.items []
        ∙ ap (λ (l : List (List ℕ)). is.ended ++ l) (without_empty_last-one old.rest.items some))

    at : (fault : Option Fault) → MatchOption fault
        (PassesLine (progress_of old) (strip_carriage_return old.rest.items) (progress_of new))
        (FailsLine (progress_of old) (strip_carriage_return old.rest.items))
        → MatchOption fault (LeadsTo text (progress_of new))
        (λ f. HasFaultyLine text f.line f.reason)
    at None passes =
        let lead = lead-passes is.ended old.rest.items (progress_of old) (progress_of new) is.lead
        passes in
        record {
          count = lead.count ∙ sym (ap length lines
              ∙ length-numbered 1 (is.ended ++ old.rest.items ∷ []));
          numbers = lead.numbers ∙ ap (λ (l : List (ℕ × List ℕ)). map number_of (content_among l))
              (sym lines);
          good = subst (λ (l : List (ℕ × List ℕ)). FoldsTo Takes start (bytes_of (content_among l))
              (progress_of new).state) (sym lines) lead.good;
        }
    at (Some fault) fails = faulty-line text is.ended old.rest.items [] (progress_of old) fault
        lines is.lead fails

-- a text that ends where a line does
pub end-read : (reader : Reader) (text : List ℕ) → false ≡ is_some reader.fault
    → reader.rest.items ≡ [] → HasRead reader text → HasReadAll reader text
end-read reader text none empty h =
    let open_ = is-open reader text none h in
    let all : LeadsTo text (progress_of reader) = open-last text reader.rest.items
    (progress_of reader) empty open_ in
    at reader.fault none all
  where
    at : (fault : Option Fault) → false ≡ is_some fault → LeadsTo text (progress_of reader)
        → MatchOption fault (LeadsTo text (progress_of reader))
        (λ f. HasFaultyLine text f.line f.reason)
    at None none all = all
    at (Some fault) none all = absurd (false≢true none)

pub on_ok : {T E P Q : Type 0} (r : Result T E) → (P → Q) → OnOk r P → OnOk r Q
on_ok (Ok x) f h = f h
on_ok (Err e) f h = h

-- a reader that has too many bytes stands for every text that has
pub stands-longer : (reader : Reader) (text longer : List ℕ) → text_limit < length text
    → text_limit < length longer → Stands reader text → Stands reader longer
stands-longer reader text longer many more stands = record {
  counted = omega (arith, stands.counted, many, more);
  read = λ short. absurd (omega (arith, short, more));
}

short-text : (reader : Reader) (text : List ℕ) → reader.count ≤ text_limit → Stands reader text
    → length text ≤ text_limit
short-text reader text few stands = omega (arith, few, stands.counted)

-- a reader with too many bytes
pub count-long : (reader : Reader) (text : List ℕ) → text_limit < reader.count → Stands reader text
    → IsFaultOf text 0 Long
count-long reader text many stands = is_long refl refl (omega (arith, many, stands.counted))

-- what a reader comes to at the end: a fault
pub finish-faulty : (old new : Reader) (text : List ℕ) (fault : Fault) → old.count ≤ text_limit
    → (HasRead old text → HasReadAll new text) → new.fault ≡ Some fault → Stands old text
    → IsFaultOf text fault.line fault.reason
finish-faulty old new text fault few all some stands =
    let short = short-text old text few stands in
    is_faulty short (at new.fault some (all (stands.read short)))
  where
    at : (found : Option Fault) → found ≡ Some fault
        → MatchOption found (LeadsTo text (progress_of new))
        (λ f. HasFaultyLine text f.line f.reason) → HasFaultyLine text fault.line fault.reason
    at None some h = absurd (cc)
    at (Some other) some h = let same : other
        ≡ fault = cc in subst (λ (f : Fault). HasFaultyLine text f.line f.reason) same h

-- or none
leads : (reader : Reader) (text : List ℕ) → reader.fault ≡ None → HasReadAll reader text
    → LeadsTo text (progress_of reader)
leads reader text none all = at reader.fault none all
  where
    at : (found : Option Fault) → found ≡ None
        → MatchOption found (LeadsTo text (progress_of reader))
        (λ f. HasFaultyLine text f.line f.reason) → LeadsTo text (progress_of reader)
    at None none h = h
    at (Some other) none h = absurd (cc)

pub finish-leads : (old new : Reader) (text : List ℕ) → old.count ≤ text_limit
    → (HasRead old text → HasReadAll new text) → new.fault ≡ None → Stands old text
    → (length text ≤ text_limit) × LeadsTo text (progress_of new)
finish-leads old new text few all none stands =
    let short = short-text old text few stands in
    (short, leads new text none (all (stands.read short)))

-- one more piece, counted: too many bytes, or behind a fault
pub piece-long : (old new : Reader) (text piece : List ℕ)
    → new.count ≡ min (old.count + length piece) (text_limit + 1) → text_limit < new.count
    → Stands old text → Stands new (text ++ piece)
piece-long old new text piece count many stands = record {
  counted = omega (arith, count, stands.counted, length-append text piece);
  read = λ short.
      absurd (omega (arith, short, count, many, stands.counted, length-append text piece));
}

pub piece-faulty : (old new : Reader) (text piece : List ℕ)
    → new.count ≡ min (old.count + length piece) (text_limit + 1) → new.fault ≡ old.fault
    → true ≡ is_some old.fault → Stands old text → Stands new (text ++ piece)
piece-faulty old new text piece count same some stands = record {
  counted = omega (arith, count, stands.counted, length-append text piece);
  read = λ short. faulty-stays old new text piece (text ++ piece) refl same some
      (stands.read (omega (arith, short, length-append text piece)));
}

-- one more piece, read
pub piece-read : (old new : Reader) (text piece : List ℕ)
    → new.count ≡ min (old.count + length piece) (text_limit + 1) → false ≡ is_some old.fault
    → (IsOpen (progress_of old) old.rest.items text → HasRead new (text ++ piece)) → Stands old text
    → Stands new (text ++ piece)
piece-read old new text piece count none all stands = record {
  counted = omega (arith, count, stands.counted, length-append text piece);
  read = λ short. all (is-open old text none
      (stands.read (omega (arith, short, length-append text piece))));
}

concat-push : (texts : List (List ℕ)) (text : List ℕ)
    → concat (texts ++ text ∷ []) ≡ concat texts ++ text
concat-push [] text = append-nil text
concat-push (first ∷ texts) text = ap (λ (l : List ℕ). first ++ l) (concat-push texts text)
    ∙ sym (append_assoc first (concat texts) text)

-- pieces, with one more
pub pieces-push : (pieces : List (Bor (List ℕ))) (i : ℕ) (d : Bor (List ℕ)) → i < length pieces
    → concat (map (λ t. t.now) (take (i + 1) pieces)) ≡ concat (map (λ t. t.now) (take i pieces))
    ++ (get_or pieces i d).now
pieces-push pieces i d lt = ap concat (map_more (λ (t : Bor (List ℕ)). t.now) pieces i d lt)
    ∙ concat-push (map (λ (t : Bor (List ℕ)). t.now) (take i pieces)) (get_or pieces i d).now

pub stands-push : (reader : Reader) (pieces : List (Bor (List ℕ))) (i : ℕ) (d : Bor (List ℕ))
    → i < length pieces → Stands reader
    (concat (map (λ t. t.now) (take i pieces)) ++ (get_or pieces i d).now)
    → Stands reader (concat (map (λ t. t.now) (take (i + 1) pieces)))
stands-push reader pieces i d lt h = subst (Stands reader) (sym (pieces-push pieces i d lt)) h

pub stands-end : (reader : Reader) (pieces : List (Bor (List ℕ))) (i : ℕ) → length pieces ≤ i
    → Stands reader (concat (map (λ t. t.now) (take i pieces)))
    → Stands reader (concat (map (λ t. t.now) pieces))
stands-end reader pieces i past h = rw (take_all i pieces past) at h

-- what is answered for a text for which a reader stands
pub answer-ok : {X : Type 0} (reader : Reader) (text : List ℕ) (result : Result X TextEnd)
    (P : List ℕ → X → Type 0) → Stands reader text
    → IfOk result (λ x. (t : List ℕ) → Stands reader t → P t x) → IfOk result (λ x. P text x)
answer-ok reader text (Ok x) P stands h = h text stands
answer-ok reader text (Err e) P stands h = h

pub answer-refused : {X : Type 0} (reader : Reader) (text : List ℕ) (result : Result X TextEnd)
    → Stands reader text → IfErr result (λ e. (t : List ℕ) → Stands reader t → IsRefusalOf t e)
    → IfErr result (IsRefusalOf text)
answer-refused reader text (Ok x) stands h = h
answer-refused reader text (Err e) stands h = h text stands
