-- What is wrong about the event lines of a processor, one command more.
use Rattle.std.proofs.Common.{◌≡◌, ◌⊎◌, inl, inr, ℕ, zero, suc, ◌+◌, ◌<◌, ◌≤◌, ◌==◌, ◌||◌, min, Bool, true, false, cond, List, [], ◌∷◌, ◌++◌, Option, Some, None, MatchBool, MatchOption, get_or, length, option_map, slice_get, take, unwrap_or, refl, sym, ap, ◌∙◌, subst, arith}
use Rattle.std.proofs.lemmas.Bool.{cases_lt}
use Rattle.std.proofs.lemmas.List.{length-take-le, take_more}
use Rattle.std.proofs.lemmas.Option.{none-some, same_Some}
use Rattle.hwp_banks.specs.hwp_geom.declared.Cpu.{Cpu}
use Rattle.hwp_banks.specs.hwp_geom.declared.Who.{Who}
use Rattle.hwp_banks.specs.declared.Event.{Event}
use Rattle.hwp_law.specs.hwp_script_words.declared.Command.{Command}
use Rattle.hwp_law.specs.hwp_script_words.declared.Script.{Script}
use Rattle.hwp_law.specs.hwp_report_text.declared.CpuLine.{CpuLine}
use Rattle.hwp_law.specs.hwp_report_text.declared.CpuLine.TheVariants as rowkinds
use Rattle.hwp_law.specs.hwp_report_text.declared.EventLine.{EventLine}
use Rattle.hwp_law.specs.hwp_report_text.declared.Report.{Report}
use Rattle.hwp_law.specs.Lines.{events_of}
use Rattle.hwp_check_event_line.specs.Firsts.{AreRight, IsFirstWrong, shown_lines}
use Rattle.hwp_check_event_line.specs.OfCommands.{shown_from}
use Rattle.hwp_check_events.specs.Judged.{IsJudged}
use Rattle.hwp_check_event_line.specs.Misfits.{IsRightLine, IsWrong, Lacks, found_by, leaves, left_by}
use Rattle.hwp_check_events.specs.Walked.{AllRight, IsFirstRow, IsWalked, IsWrongRow, LacksSome, joined, joined_wrong, place_at}
use Rattle.hwp_check_event_line.specs.declared.Faults.{Faults}
use Rattle.hwp_check_events.specs.declared.misfits.Misfits.{Misfits}
use Rattle.hwp_check_event_line.specs.declared.Shown.{Shown}
use Rattle.hwp_banks.specs.hwp_geom.declared.VSlot.{VSlot}

-- the places of a command's event lines rise
from-place : (seq : ℕ) (rows : List CpuLine) (place i : ℕ) (s : Shown) → slice_get (shown_from seq place rows) i ≡ Some s → place ≤ s.place
from-place seq [] place i s there = absurd (none-some s there)
from-place seq (rowkinds.Answer n answer ∷ rows) place i s there = let rest : place + 1 ≤ s.place = from-place seq rows (place + 1) i s there in omega (arith, rest)
from-place seq (rowkinds.Offlined l ∷ rows) place i s there = let rest : place + 1 ≤ s.place = from-place seq rows (place + 1) i s there in omega (arith, rest)
from-place seq (rowkinds.Guest l ∷ rows) place i s there = let rest : place + 1 ≤ s.place = from-place seq rows (place + 1) i s there in omega (arith, rest)
from-place seq (rowkinds.Event line ∷ rows) place i s there = by (seq == line.seq) (from-place seq rows (place + 1)) i there
  where
    now : Shown
    now = record { place = place; line = line }

    by : (b : Bool) → ((k : ℕ) (t : Shown) → slice_get (shown_from seq (place + 1) rows) k ≡ Some t → place + 1 ≤ t.place) → (k : ℕ) → slice_get (cond b (now ∷ []) [] ++ shown_from seq (place + 1) rows) k ≡ Some s → place ≤ s.place
    by true rest zero at = let e : place ≡ s.place = ap (λ (t : Shown). t.place) (same_Some _ _ at) in omega (arith, e)
    by true rest (suc k) at = let r : place + 1 ≤ s.place = rest k s at in omega (arith, r)
    by false rest k at = let r : place + 1 ≤ s.place = rest k s at in omega (arith, r)

pub places-rise : (seq : ℕ) (rows : List CpuLine) (place i j : ℕ) (s t : Shown) → slice_get (shown_from seq place rows) i ≡ Some s → slice_get (shown_from seq place rows) j ≡ Some t → i ≤ j → s.place ≤ t.place
places-rise seq [] place i j s t one other less = absurd (none-some s one)
places-rise seq (rowkinds.Answer n answer ∷ rows) place i j s t one other less = places-rise seq rows (place + 1) i j s t one other less
places-rise seq (rowkinds.Offlined l ∷ rows) place i j s t one other less = places-rise seq rows (place + 1) i j s t one other less
places-rise seq (rowkinds.Guest l ∷ rows) place i j s t one other less = places-rise seq rows (place + 1) i j s t one other less
places-rise seq (rowkinds.Event line ∷ rows) place i j s t one other less = by (seq == line.seq) (λ a b. places-rise seq rows (place + 1) a b s t) i j one other less
  where
    now : Shown
    now = record { place = place; line = line }

    by : (b : Bool) → ((k m : ℕ) → slice_get (shown_from seq (place + 1) rows) k ≡ Some s → slice_get (shown_from seq (place + 1) rows) m ≡ Some t → k ≤ m → s.place ≤ t.place) → (k m : ℕ)
        → slice_get (cond b (now ∷ []) [] ++ shown_from seq (place + 1) rows) k ≡ Some s → slice_get (cond b (now ∷ []) [] ++ shown_from seq (place + 1) rows) m ≡ Some t → k ≤ m → s.place ≤ t.place
    by true rest zero zero at there few = let e : s.place ≡ t.place = ap (λ (x : Shown). x.place) (same_Some _ _ (sym at ∙ there)) in omega (arith, e)
    by true rest zero (suc m) at there few =
        let e : place ≡ s.place = ap (λ (x : Shown). x.place) (same_Some _ _ at) in
        let r : place + 1 ≤ t.place = from-place seq rows (place + 1) m t there in
        omega (arith, e, r)
    by true rest (suc k) zero at there few = absurd (omega (arith, few))
    by true rest (suc k) (suc m) at there few = rest k m at there (omega (arith, few))
    by false rest k m at there few = rest k m at there few

-- a line among those that are shown is that of one of them
shown-of : (lines : List Shown) (k : ℕ) (line : EventLine) → slice_get (shown_lines lines) k ≡ Some line → (s : Shown) × (slice_get lines k ≡ Some s)
shown-of [] k line there = absurd (none-some line there)
shown-of (x ∷ xs) zero line there = (x, refl)
shown-of (x ∷ xs) (suc k) line there = shown-of xs k line there

module _ (script : Script) (copies : Who → Option VSlot) (report : Report) (cpu : Cpu) (list : List Command) (rows : List CpuLine) where
  abbrev at : ℕ → Who
  at n = record { cpu = cpu; seq = n }

  abbrev events : ℕ → List EventLine
  events n = events_of report (at n)

  abbrev Right : ℕ → Command → ℕ → EventLine → Type 0
  Right n command = IsRightLine script copies report (at n) command (found_by script copies report (at n)) (events n)

  -- over one command more
  lacks-more : (n : ℕ) → LacksSome script copies report cpu list rows n → LacksSome script copies report cpu list rows (n + 1)
  lacks-more n l = record { seq = l.seq; command = l.command; within = let w : l.seq < n = l.within in omega (arith, w); made = l.made; lacks = l.lacks }

  row-more : (n row : ℕ) → IsWrongRow script copies report cpu list rows n row → IsWrongRow script copies report cpu list rows (n + 1) row
  row-more n row w = record { seq = w.seq; command = w.command; number = w.number; shown = w.shown; within = let l : w.seq < n = w.within in omega (arith, l); made = w.made; there = w.there; row_is = w.row_is; wrong = w.wrong }

  module _ (n : ℕ) (command : Command) (made : slice_get list n ≡ Some command) (left : Option Event) (faults : Faults) (lines : List Shown) (lines_are : lines ≡ shown_from n 0 rows) (told_are : shown_lines lines ≡ events n)
      (judged : IsJudged script copies report (at n) command (found_by script copies report (at n)) left (events n) faults) where
    abbrev Less : ℕ → Type 0
    Less seq = (seq < n) ⊎ (seq ≡ n)

    which : (seq : ℕ) → seq < n + 1 → Less seq
    which seq within = elim (cases_lt seq n) [
      | inl low ↦ inl low
      | inr high ↦ inr (let e : seq ≡ n = omega (arith, within, high) in e)
    ]

    same : (seq : ℕ) (c : Command) → seq ≡ n → slice_get list seq ≡ Some c → c ≡ command
    same seq c is there = same_Some _ _ (sym there ∙ ap (slice_get list) is ∙ made)

    -- whether some command lacks lines
    lacks-next : (a b : Bool) → MatchBool a (LacksSome script copies report cpu list rows n) (LacksSome script copies report cpu list rows n → ⊥)
        → MatchBool b (Lacks script copies report (at n) command (found_by script copies report (at n)) (events n)) (Lacks script copies report (at n) command (found_by script copies report (at n)) (events n) → ⊥)
        → MatchBool (a || b) (LacksSome script copies report cpu list rows (n + 1)) (LacksSome script copies report cpu list rows (n + 1) → ⊥)
    lacks-next true b old new = lacks-more n old
    lacks-next false true old new = record { seq = n; command = command; within = omega arith; made = made; lacks = new }
    lacks-next false false old new = λ l. elim (which l.seq l.within) [
      | inl low ↦ old (record { seq = l.seq; command = l.command; within = low; made = l.made; lacks = l.lacks })
      | inr here ↦ new (subst (λ (c : Command). Lacks script copies report (at n) c (found_by script copies report (at n)) (events n)) (same l.seq l.command here l.made)
          (subst (λ (m : ℕ). Lacks script copies report (at m) l.command (found_by script copies report (at m)) (events m)) here l.lacks))
    ]

    -- a wrong row is of a command before, or of this one
    abbrev Here : ℕ → Type 0
    Here row = (number : ℕ) × (s : Shown) × (slice_get lines number ≡ Some s) × (row ≡ s.place) × IsWrong script copies report (at n) command (found_by script copies report (at n)) (events n) number

    row-cases : (row : ℕ) → IsWrongRow script copies report cpu list rows (n + 1) row → IsWrongRow script copies report cpu list rows n row ⊎ Here row
    row-cases row w = elim (which w.seq w.within) [
      | inl low ↦ inl (record { seq = w.seq; command = w.command; number = w.number; shown = w.shown; within = low; made = w.made; there = w.there; row_is = w.row_is; wrong = w.wrong })
      | inr here ↦ inr (
        w.number,
        w.shown,
        subst (λ (l : List Shown). slice_get l w.number ≡ Some w.shown) (sym lines_are) (subst (λ (m : ℕ). slice_get (shown_from m 0 rows) w.number ≡ Some w.shown) here w.there),
        w.row_is,
        subst (λ (c : Command). IsWrong script copies report (at n) c (found_by script copies report (at n)) (events n) w.number) (same w.seq w.command here w.made)
            (subst (λ (m : ℕ). IsWrong script copies report (at m) w.command (found_by script copies report (at m)) (events m) w.number) here w.wrong),
      )
    ]

    row-here : (row : ℕ) → Here row → IsWrongRow script copies report cpu list rows (n + 1) row
    row-here row (number, s, there, row_is, wrong) = record {
      seq = n;
      command = command;
      number = number;
      shown = s;
      within = omega arith;
      made = made;
      there = subst (λ (l : List Shown). slice_get l number ≡ Some s) lines_are there;
      row_is = row_is;
      wrong = wrong;
    }

    all-right : AllRight script copies report cpu list rows n → AreRight (Right n command) (events n) → AllRight script copies report cpu list rows (n + 1)
    all-right old new = λ seq c within there. elim (which seq within) [
      | inl low ↦ old seq c low there
      | inr here ↦ subst (λ (m : ℕ). AreRight (Right m c) (events m)) (sym here) (subst (λ (d : Command). AreRight (Right n d) (events n)) (sym (same seq c here there)) new)
    ]

    not-old : (row : ℕ) → AllRight script copies report cpu list rows n → IsWrongRow script copies report cpu list rows n row → ⊥
    not-old row old w = w.wrong.wrong (old w.seq w.command w.within w.made w.number w.wrong.line w.wrong.there)

    not-here : (row : ℕ) → AreRight (Right n command) (events n) → Here row → ⊥
    not-here row right (number, s, there, row_is, wrong) = wrong.wrong (right number wrong.line wrong.there)

    -- the first wrong line of this command
    module _ (k : ℕ) (first : IsFirstWrong (Right n command) (events n) k) where
      shown-k : (s : Shown) × (slice_get lines k ≡ Some s)
      shown-k = shown-of lines k first.line (ap (λ (l : List EventLine). slice_get l k) told_are ∙ first.there)

      place-is : place_at lines k ≡ shown-k.0.place
      place-is = ap (λ (o : Option Shown). unwrap_or (option_map (λ (s : Shown). s.place) o) 0) shown-k.1

      here-first : Here (place_at lines k)
      here-first = (k, shown-k.0, shown-k.1, place-is, record { line = first.line; there = first.there; wrong = first.wrong })

      here-least : (row : ℕ) → Here row → place_at lines k ≤ row
      here-least row (number, s, there, row_is, wrong) =
          let up : shown-k.0.place ≤ s.place = places-rise n rows 0 k number shown-k.0 s (subst (λ (l : List Shown). slice_get l k ≡ Some shown-k.0) lines_are shown-k.1) (subst (λ (l : List Shown). slice_get l number ≡ Some s) lines_are there) not-before in
          let p : place_at lines k ≡ shown-k.0.place = place-is in
          omega (arith, up, p, row_is)
        where
          not-before : k ≤ number
          not-before = elim (cases_lt number k) [
            | inl low ↦ absurd (wrong.wrong (first.before number wrong.line low wrong.there))
            | inr high ↦ high
          ]

    wrong-next : (found own : Option ℕ) → MatchOption found (AllRight script copies report cpu list rows n) (IsFirstRow script copies report cpu list rows n) → MatchOption own (AreRight (Right n command) (events n)) (IsFirstWrong (Right n command) (events n))
        → MatchOption (joined_wrong found own lines) (AllRight script copies report cpu list rows (n + 1)) (IsFirstRow script copies report cpu list rows (n + 1))
    wrong-next None None old new = all-right old new
    wrong-next (Some w) None old new = record {
      at = row-more n w old.at;
      first = λ row is. elim (row-cases row is) [
        | inl before ↦ old.first row before
        | inr here ↦ absurd (not-here row new here)
      ];
    }
    wrong-next None (Some k) old new = record {
      at = row-here (place_at lines k) (here-first k new);
      first = λ row is. elim (row-cases row is) [
        | inl before ↦ absurd (not-old row old before)
        | inr here ↦ here-least k new row here
      ];
    }
    wrong-next (Some w) (Some k) old new = record {
      at = lowest (cases_lt w (place_at lines k));
      first = λ row is. elim (row-cases row is) [
        | inl before ↦ let up : w ≤ row = old.first row before in omega (arith, up)
        | inr here ↦ let up : place_at lines k ≤ row = here-least k new row here in omega (arith, up)
      ];
    }
      where
        lowest : (w < place_at lines k) ⊎ (place_at lines k ≤ w) → IsWrongRow script copies report cpu list rows (n + 1) (min w (place_at lines k))
        lowest (inl less) = let e : w ≡ min w (place_at lines k) = omega (arith, less) in subst (IsWrongRow script copies report cpu list rows (n + 1)) e (row-more n w old.at)
        lowest (inr less) = let e : place_at lines k ≡ min w (place_at lines k) = omega (arith, less) in subst (IsWrongRow script copies report cpu list rows (n + 1)) e (row-here (place_at lines k) (here-first k new))

    pub walked-next : (found : Misfits) → IsWalked script copies report cpu list rows n found → IsWalked script copies report cpu list rows (n + 1) (joined found faults lines)
    walked-next found w = record { lacks = lacks-next found.lacks faults.lacks w.lacks judged.lacks; wrong = wrong-next found.wrong faults.wrong w.wrong judged.scanned }

  pub walked-first : IsWalked script copies report cpu list rows 0 (record { lacks = false; wrong = None })
  walked-first = record { lacks = λ l. absurd (let w : l.seq < 0 = l.within in omega (arith, w)); wrong = λ seq c within there. absurd (omega (arith, within)) }

  -- what is left in bank 1 behind one command more
  left-more : (xs : List Command) (m : ℕ) (c : Command) (raw : Option Event) → left_by script copies report cpu m (xs ++ c ∷ []) raw ≡ leaves script copies report (at (m + length xs)) c (left_by script copies report cpu m xs raw) (events (m + length xs))
  left-more [] m c raw = ap (λ (k : ℕ). leaves script copies report (at k) c raw (events k)) (let e : m ≡ m + 0 = omega arith in e)
  left-more (x ∷ xs) m c raw =
      left-more xs (m + 1) c (leaves script copies report (at m) x raw (events m))
      ∙ ap (λ (k : ℕ). leaves script copies report (at k) c (left_by script copies report cpu (m + 1) xs (leaves script copies report (at m) x raw (events m))) (events k)) (let e : m + 1 + length xs ≡ m + suc (length xs) = omega arith in e)

  pub left-next : (n : ℕ) (d : Command) (raw left : Option Event) → n < length list → left ≡ leaves script copies report (at n) (get_or list n d) raw (events n) → raw ≡ left_by script copies report cpu 0 (take n list) None → left ≡ left_by script copies report cpu 0 (take (n + 1) list) None
  left-next n d raw left within left_is raw_is =
      left_is ∙ ap (λ (r : Option Event). leaves script copies report (at n) (get_or list n d) r (events n)) raw_is
      ∙ ap (λ (k : ℕ). leaves script copies report (at k) (get_or list n d) (left_by script copies report cpu 0 (take n list) None) (events k)) (let l : length (take n list) ≡ n = length-take-le n list (omega (arith, within)) in let e : n ≡ 0 + length (take n list) = omega (arith, l) in e)
      ∙ sym (left-more (take n list) 0 (get_or list n d) None) ∙ ap (λ (l : List Command). left_by script copies report cpu 0 l None) (sym (take_more list n d within))
