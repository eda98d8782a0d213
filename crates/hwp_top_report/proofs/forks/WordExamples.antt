-- What `CopiesKeepWords` says of small reports: the copy of the report of a fork by hand keeps the words of its page; one that leaves out a
-- line doesn't, nor one that stores another word on a line than it loaded there.
use Rattle.std.proofs.Common.{◌≡◌, ◌⊎◌, inl, inr, ℕ, zero, suc, ◌+◌, ◌<◌, ◌≤◌, ◌==◌, Bool, List, [], ◌∷◌, ◌++◌, None, Some, true, false, filter, filter_map, map, slice_get, if◌then◌else◌, refl, sym, ap, ◌∙◌, subst, arith}
use Rattle.std.specs.Prelude.{Any}
use Rattle.std.specs.List.{cons_option}
use Rattle.std.proofs.lemmas.Bool.{cases_eq, eq-eqb, ne_eqb}
use Rattle.std.proofs.lemmas.Option.{get_or_from_slice_get, none-some, same_Some, slice_get_within}
use Rattle.hwp_law_served.specs.hwp_geom.Limits.{line_limit}
use Rattle.hwp_law_served.specs.hwp_geom.declared.Thread.{Thread}
use Rattle.hwp_law_served.specs.hwp_geom.declared.VSlot.{VSlot}
use Rattle.hwp_law_served.specs.hwp_page.declared.At.{At}
use Rattle.hwp_law_served.specs.hwp_page.declared.Entry.{Entry}
use Rattle.hwp_law_served.specs.hwp_page.declared.Met.TheVariants.{Word}
use Rattle.hwp_law_served.specs.hwp_page.declared.What.{What}
use Rattle.hwp_law_served.specs.hwp_page.declared.What.TheVariants as entries
use Rattle.hwp_law_served.specs.hwp_report_text.declared.Answer.TheVariants as answers
use Rattle.hwp_law_served.specs.hwp_report_text.declared.Report.{Report}
use Rattle.hwp_law_served.specs.hwp_script_words.declared.Command.{Command}
use Rattle.hwp_law_served.specs.hwp_script_words.declared.Command.TheVariants as commands
use Rattle.hwp_law_served.specs.hwp_law.Commands.{command_at}
use Rattle.hwp_law_served.specs.hwp_law.Acting.{acting_script, copied_at}
use Rattle.hwp_law_served.specs.hwp_law.Copies.{own_in}
use Rattle.hwp_law_served.specs.hwp_law.Lines.{answer_of, is_same_command}
use Rattle.hwp_law_served.specs.hwp_law.Private.{last_word, word_in}
use Rattle.hwp_law_served.proofs.of_hwp_law.Examples.{command}
use Rattle.hwp_law_served.proofs.of_hwp_law.ForkExamples.{forked, forking, loads_from, parents, place, reported, rows, shared, slot, stores_from, thread}
use Rattle.hwp_top_report.specs.CopiedWords.{CopiesKeepWords, KeepsWord, word_loaded}

-- ---- the entries of the child's store

abbrev whats : List Entry → List What
whats list = map (λ (e : Entry). e.what) (filter (λ (e : Entry). is_same_command (command 2) e.who) list)

-- the word on a line of the page
abbrev held : ℕ → ℕ
held line = if line == 5 then 77 else 0

abbrev load_of : ℕ → What
load_of line = entries.Load (slot 1) line (Word (record { 0 = 0 }) (held line))

stores-miss : (k line more before : ℕ) (rest : List Entry) → (k < line) ⊎ (line + more ≤ k) → last_word before (filter_map (word_in k) (whats (stores_from line more ++ rest))) ≡ last_word before (filter_map (word_in k) (whats rest))
stores-miss k line zero before rest out = refl
stores-miss k line (suc more) before rest out =
    ap (λ (b : Bool). last_word before (cons_option (if b then Some (held line) else None) (filter_map (word_in k) (whats (stores_from (line + 1) more ++ rest))))) (ne_eqb line k (apart out))
    ∙ stores-miss k (line + 1) more before rest (on out)
  where
    apart : (k < line) ⊎ (line + suc more ≤ k) → line ≡ k → ⊥
    apart (inl less) same = omega (arith, less, same)
    apart (inr past) same = omega (arith, past, same)

    on : (k < line) ⊎ (line + suc more ≤ k) → (k < line + 1) ⊎ ((line + 1) + more ≤ k)
    on (inl less) = inl (omega (arith, less))
    on (inr past) = inr (omega (arith, past))

stores-hit : (k line more before : ℕ) (rest : List Entry) → line ≤ k → k < line + more → last_word before (filter_map (word_in k) (whats (stores_from line more ++ rest))) ≡ last_word (held k) (filter_map (word_in k) (whats rest))
stores-hit k line zero before rest low high = absurd (omega (arith, low, high))
stores-hit k line (suc more) before rest low high = which (cases_eq line k) (λ other. stores-hit k (line + 1) more before rest (omega (arith, low, other)) (omega (arith, high)))
  where
    which : (line ≡ k) ⊎ (line ≡ k → ⊥) → ((line ≡ k → ⊥) → last_word before (filter_map (word_in k) (whats (stores_from (line + 1) more ++ rest))) ≡ last_word (held k) (filter_map (word_in k) (whats rest)))
        → last_word before (filter_map (word_in k) (whats (stores_from line (suc more) ++ rest))) ≡ last_word (held k) (filter_map (word_in k) (whats rest))
    which (inl same) later =
        ap (λ (b : Bool). last_word before (cons_option (if b then Some (held line) else None) (filter_map (word_in k) (whats (stores_from (line + 1) more ++ rest))))) (eq-eqb line k same)
        ∙ stores-miss k (line + 1) more (held line) rest (inl (omega (arith, same)))
        ∙ ap (λ (n : ℕ). last_word (held n) (filter_map (word_in k) (whats rest))) same
    which (inr other) later =
        ap (λ (b : Bool). last_word before (cons_option (if b then Some (held line) else None) (filter_map (word_in k) (whats (stores_from (line + 1) more ++ rest))))) (ne_eqb line k other) ∙ later other

loads-at : (k line more : ℕ) (rest : List Entry) → k < more → slice_get (whats (loads_from line more ++ rest)) k ≡ Some (load_of (line + k))
loads-at k line zero rest less = absurd (omega (arith, less))
loads-at zero line (suc more) rest less = let same : line ≡ line + 0 = omega arith in ap (λ (n : ℕ). Some (load_of n)) same
loads-at (suc k) line (suc more) rest less =
    let same : (line + 1) + k ≡ line + suc k = omega arith in
    loads-at k (line + 1) more rest (omega (arith, less)) ∙ ap (λ (n : ℕ). Some (load_of n)) same

-- ---- the copy keeps the words

abbrev child_stored : ℕ → ℕ
child_stored line = if 5 == line then 88 else held line

last-there : (line before : ℕ) → line < line_limit → last_word before (filter_map (word_in line) (own_in shared forked (command 2) (slot 3))) ≡ child_stored line
last-there line before within =
    stores-hit line 0 64 before (record { who = command 2; what = entries.Store (slot 3) 5 (Word (record { 0 = 0 }) 88) } ∷ record { who = command 4; what = entries.Load (slot 3) 5 (Word (record { 0 = 0 }) 88) } ∷ []) (omega arith) (omega (arith, within))
    ∙ which (5 == line)
  where
    which : (b : Bool) → last_word (held line) (cons_option (if b then Some 88 else None) []) ≡ (if b then 88 else held line)
    which true = refl
    which false = refl

loaded-there : (line : ℕ) → line < line_limit → Any (λ (what : What). word_loaded line what ≡ Some (held line)) (own_in shared forked (command 2) (slot 1))
loaded-there line within =
    let there : slice_get (own_in shared forked (command 2) (slot 1)) (suc line) ≡ Some (load_of (0 + line)) =
    loads-at line 0 64 (record { who = command 2; what = entries.Free (slot 1) } ∷ record { who = command 3; what = entries.Load (slot 0) 5 (Word (record { 0 = 0 }) 77) } ∷ []) (omega (arith, within)) in
    let same : 0 + line ≡ line = omega arith in
    let here : slice_get (own_in shared forked (command 2) (slot 1)) (suc line) ≡ Some (load_of line) = there ∙ ap (λ (n : ℕ). Some (load_of n)) same in (
      suc line,
      load_of line,
      slice_get_within (own_in shared forked (command 2) (slot 1)) (suc line) (load_of line) here,
      get_or_from_slice_get (own_in shared forked (command 2) (slot 1)) (suc line) (load_of line) (load_of line) here,
      ap (λ (b : Bool). if b then Some (held line) else None) (eq-eqb line line refl),
    )

pub child-keeps : (line : ℕ) → line < line_limit → KeepsWord shared forked (command 2) (slot 1) (slot 3) 5 88 line
child-keeps line within = record {
  stored = child_stored line;
  last = λ before. last-there line before within;
  same = λ own. ap (λ (b : Bool). if b then 88 else held line) (eq-eqb 5 line own);
  other = λ apart. subst (λ (n : ℕ). Any (λ (what : What). word_loaded line what ≡ Some n) (own_in shared forked (command 2) (slot 1))) (ap (λ (b : Bool). if b then 88 else held line) (sym (ne_eqb 5 line apart))) (loaded-there line within);
}

abbrev slot_in : Command → VSlot
slot_in (commands.Store thread slot line word) = slot
slot_in c = slot 0

abbrev line_in : Command → ℕ
line_in (commands.Store thread slot line word) = line
line_in c = 0

abbrev number_in : Command → ℕ
number_in (commands.Store thread slot line word) = word
number_in c = 0

abbrev Keeps : ℕ → ℕ → Type 0
Keeps cpu n =
    (thread : Thread) (from to : VSlot) (own word line : ℕ) (at : At) → command_at (acting_script forking forked) (record { cpu = record { 0 = cpu }; seq = n }) ≡ Some (commands.Store thread to own word)
    → copied_at forking forked (record { cpu = record { 0 = cpu }; seq = n }) ≡ Some from → answer_of forked (record { cpu = record { 0 = cpu }; seq = n }) ≡ Some (answers.Stored at) → line < line_limit
    → KeepsWord shared forked (record { cpu = record { 0 = cpu }; seq = n }) from to own word line

child : Keeps 0 2
child = λ other from to own word line at is copied answered within.
    let c : commands.Store (thread 1) (slot 3) 5 88 ≡ commands.Store other to own word = same_Some (commands.Store (thread 1) (slot 3) 5 88) (commands.Store other to own word) is in
    subst (λ (v : VSlot). KeepsWord shared forked (command 2) v to own word line) (same_Some (slot 1) from copied)
    (subst (λ (v : VSlot). KeepsWord shared forked (command 2) (slot 1) v own word line) (ap slot_in c)
    (subst (λ (n : ℕ). KeepsWord shared forked (command 2) (slot 1) (slot 3) n word line) (ap line_in c)
    (subst (λ (n : ℕ). KeepsWord shared forked (command 2) (slot 1) (slot 3) 5 n line) (ap number_in c) (child-keeps line within))))

each-keeps : (cpu n : ℕ) → Keeps cpu n
each-keeps zero zero = λ other from to own word line at is copied answered within. absurd (none-some from copied)
each-keeps zero (suc zero) = λ other from to own word line at is copied answered within. absurd (none-some from copied)
each-keeps zero (suc (suc zero)) = child
each-keeps zero (suc (suc (suc zero))) = λ other from to own word line at is copied answered within. absurd (none-some from copied)
each-keeps zero (suc (suc (suc (suc zero)))) = λ other from to own word line at is copied answered within. absurd (none-some from copied)
each-keeps zero (suc (suc (suc (suc (suc n))))) = λ other from to own word line at is copied answered within. absurd (none-some from copied)
each-keeps (suc cpu) n = λ other from to own word line at is copied answered within. absurd (none-some from copied)

pub all-keep : CopiesKeepWords (acting_script forking forked) (copied_at forking forked) forked
all-keep who = each-keeps who.cpu.0 who.seq

-- ---- copies that don't

-- the report with this copy in the twin's page
abbrev with_copy : List Entry → Report
with_copy third = reported parents third (rows (answers.Stored (place 2 66)) (answers.Value 77 (place 0 69)) (answers.Value 88 (place 2 67)))

abbrev own_store : Entry
own_store = record { who = command 2; what = entries.Store (slot 3) 5 (Word (record { 0 = 0 }) 88) }

-- it leaves out line 63, which then holds whatever stood there
abbrev left_out : Report
left_out = with_copy (stores_from 0 63 ++ own_store ∷ [])

pub line-left-out : CopiesKeepWords (acting_script forking left_out) (copied_at forking left_out) left_out → ⊥
line-left-out keeps =
    let k = keeps (command 2) (thread 1) (slot 1) (slot 3) 5 88 63 (place 2 66) refl refl refl (omega arith) in
    let one : ◌≡◌ {A = ℕ} 1 k.stored = k.last 1 in
    let two : ◌≡◌ {A = ℕ} 2 k.stored = k.last 2 in
    absurd (omega (arith, one, two))

-- it stores its own word first, so that the copy of the line comes over it
abbrev own_first : Report
own_first = with_copy (own_store ∷ stores_from 0 64)

pub own-word-first : CopiesKeepWords (acting_script forking own_first) (copied_at forking own_first) own_first → ⊥
own-word-first keeps =
    let k = keeps (command 2) (thread 1) (slot 1) (slot 3) 5 88 5 (place 2 66) refl refl refl (omega arith) in
    let last : ◌≡◌ {A = ℕ} 77 k.stored = k.last 0 in
    let same : ◌≡◌ {A = ℕ} k.stored 88 = k.same refl in
    absurd (omega (arith, last, same))
