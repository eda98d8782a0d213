-- A command takes poison back once at most, so a processor can do it with each of its commands.
use Rattle.hwp_cpu_row.specs.hwp_report_text.declared.OfflineResult.{OfflineResult}
use Rattle.std.proofs.Common.{if◌then◌else◌, ◌≡◌, ℕ, ◌+◌, ◌<◌, ◌≤◌, ◌==◌, ◌&&◌, Bool, true, false, not, List, [], ◌∷◌, ◌++◌, Option, Some, None, length, filter_map, ap, ◌∙◌, refl, arith, suc, map}
use Rattle.std.proofs.lemmas.List.Sums.{sum_by-append, sum_by-cons}
use Rattle.std.specs.Int.{from_bool}
use Rattle.std.specs.List.{cons_option, sum_by}
use Rattle.hwp_cpu_row.specs.hwp_geom.declared.Cpu.{Cpu}
use Rattle.hwp_cpu_row.specs.hwp_geom.declared.Who.{Who}
use Rattle.hwp_cpu_row.specs.hwp_geom.Limits.{command_limit}
use Rattle.hwp_cpu_row.specs.hwp_geom.Pairs.{Pairs}
use Rattle.hwp_cpu_row.specs.hwp_claim.declared.Found.{Found}
use Rattle.hwp_cpu_row.specs.hwp_claim.declared.EventOutcome.{EventOutcome}
use Rattle.hwp_cpu_row.specs.hwp_claim.Told.{frame_of}
use Rattle.hwp_law_served.specs.hwp_law.Records.{is_poisoning}
use Rattle.hwp_cpu_row.specs.hwp_report_text.declared.MarkLine.{MarkLine}
use Rattle.hwp_cpu_row.specs.hwp_core_rule.declared.Mark.{Mark}
use Rattle.hwp_cpu_row.specs.hwp_core_rule.declared.MarkKind.{MarkKind}
use Rattle.hwp_cpu_row.specs.hwp_core_rule.declared.MarkKind.TheVariants as mark_kinds
use Rattle.hwp_cpu_row.specs.hwp_core_rule.declared.View.{View}
use Rattle.hwp_cpu_row.specs.hwp_core_rule.parts.Counter.{is_revival}
use Rattle.hwp_cpu_row.specs.hwp_core_rule.parts.Marks.{revivals_by}
use Rattle.hwp_cpu_row.specs.declared.FrameChange.{FrameChange}
use Rattle.hwp_cpu_row.specs.declared.FrameChange.TheVariants as owns
use Rattle.hwp_cpu_row.specs.declared.Row.{Row}
use Rattle.hwp_law_served.specs.Accounts.{IsLineOf, IsNote}
use Rattle.hwp_law_served.specs.Rows.{Note, note_by, note_of, notes_from, own_note, row_notes, told_note, act_note, at_number}
use Rattle.hwp_cpu_command.specs.hwp_soft.Unpoisons.{HasRevivalLeft}
use Rattle.hwp_cpu_row.specs.Acts.{Act, Told, acts, Offlined, acts_from}
use Rattle.hwp_law_served.specs.hwp_report_text.declared.OfflineResult.{OfflineResult}
use Rattle.hwp_cpu_row.specs.hwp_core_rule.Lists.{EachMember}
use Rattle.hwp_law_served.specs.Served.{IsOffliningServed, AreRowsActed}
use Rattle.hwp_cpu_row.specs.hwp_script_words.declared.Command.{Command}
use Rattle.hwp_cpu_row.specs.hwp_banks.Banks.{empty_banks, Banks}
use Rattle.hwp_cpu_row.specs.hwp_geom.declared.Layout.{Layout}
use Rattle.hwp_cpu_row.specs.hwp_report_text.declared.Answer.{Answer}
use Rattle.hwp_law_served.specs.Offlinings.{IsOfflineServed}
use Rattle.hwp_cpu_row.specs.declared.Offlining.{Offlining}
use Rattle.hwp_cpu_row.specs.hwp_geom.declared.Frame.{Frame}
use Rattle.hwp_law_served.specs.hwp_report_text.declared.OfflineResult.TheVariants as results

-- 1 for the note of a poison that was taken back, else 0
abbrev taken_back : Note → ℕ
taken_back n = from_bool (not (is_poisoning n.1))

-- each mark of that kind has such a note
mark-taken : (cpu : Cpu) (n : Note) (m : Mark) → IsNote n m → from_bool ((m.stamp.who.cpu.0 == cpu.0) && is_revival m.kind) ≤ taken_back n
mark-taken cpu n m note = which note.kind note.kind_is note.line
  where
    bit : (c : Bool) → from_bool c ≤ 1
    bit true = omega arith
    bit false = omega arith

    none : (c : Bool) → from_bool (c && false) ≡ 0
    none true = refl
    none false = refl

    which : (kind : MarkKind) → m.kind ≡ kind → IsLineOf kind m n.1 → from_bool ((m.stamp.who.cpu.0 == cpu.0) && is_revival m.kind) ≤ taken_back n
    which (mark_kinds.Poisoned hardware) is line =
        let zero : from_bool ((m.stamp.who.cpu.0 == cpu.0) && is_revival m.kind) ≡ 0 = ap (λ (k : MarkKind). from_bool ((m.stamp.who.cpu.0 == cpu.0) && is_revival k)) is ∙ none (m.stamp.who.cpu.0 == cpu.0) in
        omega (arith, zero)
    which mark_kinds.Revived is line =
        let one : taken_back n ≡ 1 = ap (λ (l : MarkLine). from_bool (not (is_poisoning l))) line in
        let most : from_bool ((m.stamp.who.cpu.0 == cpu.0) && is_revival m.kind) ≤ 1 = bit ((m.stamp.who.cpu.0 == cpu.0) && is_revival m.kind) in
        omega (arith, one, most)

marks-taken : (cpu : Cpu) (ns : List Note) (ms : List Mark) → Pairs IsNote ns ms → revivals_by cpu ms ≤ sum_by taken_back ns
marks-taken cpu [] [] pairs = omega arith
marks-taken cpu [] (m ∷ ms) pairs = absurd pairs
marks-taken cpu (n ∷ ns) [] pairs = absurd pairs
marks-taken cpu (n ∷ ns) (m ∷ ms) pairs =
    let marks : revivals_by cpu (m ∷ ms) ≡ from_bool ((m.stamp.who.cpu.0 == cpu.0) && is_revival m.kind) + revivals_by cpu ms = sum_by-cons (λ (x : Mark). from_bool ((x.stamp.who.cpu.0 == cpu.0) && is_revival x.kind)) m ms in
    let notes : sum_by taken_back (n ∷ ns) ≡ taken_back n + sum_by taken_back ns = sum_by-cons taken_back n ns in
    let first : from_bool ((m.stamp.who.cpu.0 == cpu.0) && is_revival m.kind) ≤ taken_back n = mark-taken cpu n m pairs.0 in
    let rest : revivals_by cpu ms ≤ sum_by taken_back ns = marks-taken cpu ns ms pairs.1 in
    omega (arith, marks, notes, first, rest)

-- what a command told of machine checks takes no poison back
told-none : (who : Who) (told : List EventOutcome) → sum_by taken_back (filter_map (told_note who) told) ≡ 0
told-none who [] = refl
told-none who (t ∷ ts) = which t.found (told-none who ts)
  where
    which : (found : Option Found) → sum_by taken_back (filter_map (told_note who) ts) ≡ 0 → sum_by taken_back (filter_map (told_note who) (record t { found = found } ∷ ts)) ≡ 0
    which None rest = rest
    which (Some found) rest =
        let one : sum_by taken_back (filter_map (told_note who) (record t { found = Some found } ∷ ts)) ≡ 0 + sum_by taken_back (filter_map (told_note who) ts) = sum_by-cons taken_back (note_of who true (frame_of t.held) found) (filter_map (told_note who) ts) in
        let none : sum_by taken_back (filter_map (told_note who) ts) ≡ 0 = rest in
        omega (arith, one, none)

-- nor does a frame that was taken out of use beside it
change-none : (who : Who) (frame : Frame) (cycle : ℕ) (moved : Bool) (change : Option FrameChange) → change ≡ Some (owns.Offlined frame cycle moved) → sum_by taken_back (cons_option (own_note who change) []) ≡ 0
change-none who frame cycle moved change is = ap (λ (c : Option FrameChange). sum_by taken_back (cons_option (own_note who c) [])) is ∙ which moved
  where
    which : (b : Bool) → sum_by taken_back (note_by who (owns.Offlined frame cycle b) ∷ []) ≡ 0
    which true = refl
    which false = refl

offlined-none : (layout : Layout) (view : View) (who : Who) (o : Offlining) → IsOffliningServed layout view who o → sum_by taken_back (cons_option (own_note who o.change) []) ≡ 0
offlined-none layout view who o served = which o.result served.came
  where
    none : o.change ≡ None → sum_by taken_back (cons_option (own_note who o.change) []) ≡ 0
    none is = ap (λ (c : Option FrameChange). sum_by taken_back (cons_option (own_note who c) [])) is

    which : (r : OfflineResult) → IsOfflineServed layout view who o.frame o.change r → sum_by taken_back (cons_option (own_note who o.change) []) ≡ 0
    which (results.Moved other at) came = change-none who o.frame came.1.0 true o.change came.1.1
    which results.TakenFree came = change-none who o.frame came.1.0 false o.change came.1.1
    which results.Already came = none came.2
    which (results.HasBad mask) came = none came.2
    which results.NoFrame came = none came.2
    which results.Stopped came = none came.1

-- one act more
act-more : (who : Who) (act : Act) (rest : List Act) → sum_by taken_back (cons_option (act_note who act) []) ≡ 0 → sum_by taken_back (filter_map (act_note who) rest) ≡ 0 → sum_by taken_back (filter_map (act_note who) (act ∷ rest)) ≡ 0
act-more who act rest = which (act_note who act)
  where
    which : (o : Option Note) → sum_by taken_back (cons_option o []) ≡ 0 → sum_by taken_back (filter_map (act_note who) rest) ≡ 0 → sum_by taken_back (cons_option o (filter_map (act_note who) rest)) ≡ 0
    which None one more = more
    which (Some note) one more =
        let both : sum_by taken_back (note ∷ filter_map (act_note who) rest) ≡ taken_back note + sum_by taken_back (filter_map (act_note who) rest) = sum_by-cons taken_back note (filter_map (act_note who) rest) in
        let alone : sum_by taken_back (note ∷ []) ≡ taken_back note + 0 = sum_by-cons taken_back note [] in
        omega (arith, both, alone, one, more)

told-act : (who : Who) (t : EventOutcome) → sum_by taken_back (cons_option (told_note who t) []) ≡ 0
told-act who t = told-none who (t ∷ [])

told-acts : (who : Who) (told : List EventOutcome) → sum_by taken_back (filter_map (act_note who) (map Told told)) ≡ 0
told-acts who [] = refl
told-acts who (t ∷ ts) = act-more who (Told t) (map Told ts) (told-act who t) (told-acts who ts)

either : (who : Who) (b : Bool) (x y : List Act) → sum_by taken_back (filter_map (act_note who) x) ≡ 0 → sum_by taken_back (filter_map (act_note who) y) ≡ 0 → sum_by taken_back (filter_map (act_note who) (if b then x else y)) ≡ 0
either who true x y first second = first
either who false x y first second = second

acts-none : (layout : Layout) (view : View) (who : Who) (n : ℕ) (told : List EventOutcome) (os : List Offlining) → EachMember (IsOffliningServed layout view who) os → sum_by taken_back (filter_map (act_note who) (acts_from n told os)) ≡ 0
acts-none layout view who n told [] each = told-acts who told
acts-none layout view who n [] (o ∷ os) each = act-more who (Offlined o) (acts_from n [] os) (offlined-none layout view who o (each 0 o refl)) (acts-none layout view who n [] os (λ i x there. each (suc i) x there))
acts-none layout view who n (t ∷ ts) (o ∷ os) each = either who (o.told == n) (Offlined o ∷ acts_from n (t ∷ ts) os) (Told t ∷ acts_from (n + 1) ts (o ∷ os))
    (act-more who (Offlined o) (acts_from n (t ∷ ts) os) (offlined-none layout view who o (each 0 o refl)) (acts-none layout view who n (t ∷ ts) os (λ i x there. each (suc i) x there)))
    (act-more who (Told t) (acts_from (n + 1) ts (o ∷ os)) (told-act who t) (acts-none layout view who (n + 1) ts (o ∷ os) each))

own-few : (who : Who) (own : Option FrameChange) → sum_by taken_back (cons_option (own_note who own) []) ≤ 1
own-few who None = omega arith
own-few who (Some own) =
    let one : sum_by taken_back (note_by who own ∷ []) ≡ taken_back (note_by who own) + 0 = sum_by-cons taken_back (note_by who own) [] in
    let most : taken_back (note_by who own) ≤ 1 = which own in
    omega (arith, one, most)
  where
    which : (o : FrameChange) → taken_back (note_by who o) ≤ 1
    which (owns.Failed frame found) = omega arith
    which (owns.Offlined frame cycle moved) = omega arith
    which (owns.Revived frame cycle) = omega arith

row-few : (layout : Layout) (view : View) (who : Who) (row : Row) → EachMember (IsOffliningServed layout view who) row.offlined → sum_by taken_back (row_notes who row) ≤ 1
row-few layout view who row each =
    let both : sum_by taken_back (row_notes who row) ≡ sum_by taken_back (filter_map (act_note who) (acts row.told row.offlined)) + sum_by taken_back (cons_option (own_note who row.own) []) =
    sum_by-append taken_back (filter_map (act_note who) (acts row.told row.offlined)) (cons_option (own_note who row.own) []) in
    let none : sum_by taken_back (filter_map (act_note who) (acts row.told row.offlined)) ≡ 0 = acts-none layout view who 0 row.told row.offlined each in
    let few : sum_by taken_back (cons_option (own_note who row.own) []) ≤ 1 = own-few who row.own in
    omega (arith, both, none, few)

rows-few : (layout : Layout) (earlier : List (Command × Answer)) (view : View) (cpu : Cpu) (n : ℕ) (before : Banks) (commands : List Command) (rows : List Row) (after : Banks) → AreRowsActed layout earlier view cpu n before commands rows after → sum_by taken_back (notes_from cpu n rows) ≤ length rows
rows-few layout earlier view cpu n before commands [] after are = omega arith
rows-few layout earlier view cpu n before [] (row ∷ rows) after are = absurd are
rows-few layout earlier view cpu n before (command ∷ commands) (row ∷ rows) after are =
    let both : sum_by taken_back (row_notes (at_number cpu n) row ++ notes_from cpu (n + 1) rows) ≡ sum_by taken_back (row_notes (at_number cpu n) row) + sum_by taken_back (notes_from cpu (n + 1) rows) =
    sum_by-append taken_back (row_notes (at_number cpu n) row) (notes_from cpu (n + 1) rows) in
    let first : sum_by taken_back (row_notes (at_number cpu n) row) ≤ 1 = row-few layout view (at_number cpu n) row are.1.offlined in
    let rest : sum_by taken_back (notes_from cpu (n + 1) rows) ≤ length rows = rows-few layout (earlier ++ (command, row.answer) ∷ []) view cpu (n + 1) are.0 commands rows after are.2 in
    omega (arith, both, first, rest)

-- where all marks are noted, and fewer commands answered than a processor may have, it can take a poison back
pub revival-left : (layout : Layout) (view : View) (cpu : Cpu) (list : List Command) (rows : List Row) (after : Banks) → AreRowsActed layout [] view cpu 0 empty_banks list rows after → Pairs IsNote (notes_from cpu 0 rows) view.marks → length rows < command_limit → HasRevivalLeft cpu view
revival-left layout view cpu list rows after are noted within =
    let marks : revivals_by cpu view.marks ≤ sum_by taken_back (notes_from cpu 0 rows) = marks-taken cpu (notes_from cpu 0 rows) view.marks noted in
    let few : sum_by taken_back (notes_from cpu 0 rows) ≤ length rows = rows-few layout [] view cpu 0 empty_banks list rows after are in
    omega (arith, marks, few, within)
