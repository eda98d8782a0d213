-- What the law refuses of forks: small changes of the report with a fork.
use Rattle.std.proofs.Common.{◌≡◌, ℕ, List, [], ◌∷◌, Option, ◌+◌, ◌*◌, refl, ap, inl, inr, true≢false, lit<, arith, ◌++◌}
use Rattle.hwp_script_words.specs.hwp_geom.declared.VSlot.{VSlot}
use Rattle.hwp_script_words.specs.hwp_geom.declared.Who.{Who}
use Rattle.hwp_report_text.specs.hwp_banks.Banks.{Banks, empty_banks}
use Rattle.hwp_report_text.specs.hwp_banks.declared.Origin.TheVariants as origins
use Rattle.hwp_report_text.specs.hwp_kill.declared.Policy.TheVariants as policies
use Rattle.hwp_report_text.specs.hwp_page.declared.Met.{Met}
use Rattle.hwp_report_text.specs.hwp_page.declared.Met.TheVariants.{Word}
use Rattle.hwp_report_text.specs.hwp_page.declared.What.TheVariants as entries
use Rattle.hwp_report_text.specs.declared.Acted.TheVariants as acts
use Rattle.hwp_report_text.specs.declared.Answer.TheVariants as answers
use Rattle.hwp_report_text.specs.declared.CpuLine.TheVariants as lines
use Rattle.hwp_report_text.specs.declared.EventLine.{EventLine}
use Rattle.hwp_report_text.specs.declared.Report.{Report}
use Rattle.hwp_script_words.specs.declared.Command.TheVariants as commands
use Rattle.hwp_script_words.specs.declared.Script.{Script}
use Rattle.hwp_law.specs.Commands.{arrival_of}
use Rattle.hwp_law.specs.Acting.{acting_script, copied_at}
use Rattle.hwp_law.specs.Copies.{AreLastStores}
use Rattle.hwp_law.specs.Entries.{IsMadeBy}
use Rattle.hwp_law.specs.Events.{AreAccessChecks}
use Rattle.hwp_law.specs.Private.{ArePrivate}
use Rattle.hwp_law.specs.SeenPolicies.{IsOwnCount}
use Rattle.hwp_law.proofs.Examples.{command}
use Rattle.hwp_law.proofs.ForkExamples.{answering, forked, forking, loads_from, page, place, reported, slot, stores_from, thread}

-- the child's word is one off, or that of the parent; the parent's word is the child's
abbrev child_reads : ℕ → Report
child_reads word = answering (answers.Stored (place 2 66)) (answers.Value 77 (place 0 69)) (answers.Value word (place 2 67))

pub child_off : ArePrivate forking (child_reads 89) → ⊥
child_off private = let is : ◌≡◌ {A = ℕ} 89 88 = private (command 4) (commands.Load (thread 1) (slot 1) 5) (slot 1) 5 1 89 (place 2 67) refl refl refl refl in absurd (omega arith)

pub child_unwritten : ArePrivate forking (child_reads 77) → ⊥
child_unwritten private = let is : ◌≡◌ {A = ℕ} 77 88 = private (command 4) (commands.Load (thread 1) (slot 1) 5) (slot 1) 5 1 77 (place 2 67) refl refl refl refl in absurd (omega arith)

abbrev parent_reads : ℕ → Report
parent_reads word = answering (answers.Stored (place 2 66)) (answers.Value word (place 0 69)) (answers.Value 88 (place 2 67))

pub parent_sees_child : ArePrivate forking (parent_reads 88) → ⊥
parent_sees_child private = let is : ◌≡◌ {A = ℕ} 88 77 = private (command 3) (commands.Load (thread 0) (slot 0) 5) (slot 0) 5 1 88 (place 0 69) refl refl refl refl in absurd (omega arith)

-- a copy that leaves out line 63, on which the parent stored 9 before the fork: the child's load of it gives 0
abbrev last_line : Script
last_line = record forking {
  lists =
      (commands.Store (thread 0) (slot 0) 63 9
      ∷ commands.Fork (thread 0) (record { 0 = 1 })
      ∷ commands.Store (thread 1) (slot 1) 5 88
      ∷ commands.Load (thread 1) (slot 1) 63
      ∷ []) ∷ [];
}

abbrev left_out : Report
left_out = reported
    ((record { who = command 0; what = entries.FaultIn })
    ∷ (record { who = command 0; what = entries.Map (slot 0) })
    ∷ (record { who = command 0; what = entries.Store (slot 0) 63 (Word (record { 0 = 0 }) 9) })
    ∷ (record { who = command 2; what = entries.Map (slot 1) })
    ∷ loads_from 0 63)
    ((record { who = command 2; what = entries.FaultIn })
    ∷ (record { who = command 2; what = entries.Map (slot 3) })
    ∷ (stores_from 0 63 ++ (record { who = command 2; what = entries.Store (slot 3) 5 (Word (record { 0 = 0 }) 88) })
    ∷ (record { who = command 3; what = entries.Load (slot 3) 63 (Word (record { 0 = 0 }) 0) })
    ∷ []))
    (lines.Answer 0 (answers.Stored (place 0 2)) ∷ lines.Answer 1 answers.Done ∷ lines.Answer 2 (answers.Stored (place 2 65)) ∷ lines.Answer 3 (answers.Value 0 (place 2 66)) ∷ [])

pub line_left_out : ArePrivate last_line left_out → ⊥
line_left_out private = let is : ◌≡◌ {A = ℕ} 0 9 = private (command 3) (commands.Load (thread 1) (slot 1) 63) (slot 1) 63 1 0 (place 2 66) refl refl refl refl in absurd (omega arith)

-- the answer of a store that copied names its copy of the line, and not its own store behind that
abbrev names_copy : Report
names_copy = answering (answers.Stored (place 2 7)) (answers.Value 77 (place 0 69)) (answers.Value 88 (place 2 67))

pub earlier_store : AreLastStores (copied_at forking names_copy) names_copy → ⊥
earlier_store last = true≢false (last (command 2) (slot 1) (place 2 7) refl refl (place 2 66) (record { who = command 2; what = entries.Store (slot 3) 5 (Word (record { 0 = 0 }) 88) }) refl refl refl (lit< tt))

-- ---- through which translation

abbrev acted : Script
acted = acting_script forking forked

abbrev copies : Who → Option VSlot
copies = copied_at forking forked

abbrev word : ℕ → Met
word n = Word (record { 0 = 0 }) n

-- the parent, which hasn't stored since the fork, doesn't load through its twin, nor the child, which has, through its own translation
pub twin_too_soon : IsMadeBy acted copies (page 1) (record { who = command 3; what = entries.Load (slot 2) 5 (word 77) }) → ⊥
twin_too_soon (inl made) = let is : ◌≡◌ {A = ℕ} 2 0 = ap (λ (v : VSlot). v.0) made.0.0 in absurd (omega arith)
twin_too_soon (inr copied) = copied

pub own_too_late : IsMadeBy acted copies (page 0) (record { who = command 4; what = entries.Load (slot 1) 5 (word 77) }) → ⊥
own_too_late (inl made) = let is : ◌≡◌ {A = ℕ} 1 3 = ap (λ (v : VSlot). v.0) made.0.0 in absurd (omega arith)
own_too_late (inr copied) = copied

-- a copy stores nothing in the page that it loads, nor does it load from the page where it stores, or free the twin
pub stored_in_shared : IsMadeBy acted copies (page 0) (record { who = command 2; what = entries.Store (slot 1) 5 (word 88) }) → ⊥
stored_in_shared (inl made) = let is : ◌≡◌ {A = ℕ} 1 3 = ap (λ (v : VSlot). v.0) made.0.0 in absurd (omega arith)
stored_in_shared (inr copied) = let is : ◌≡◌ {A = ℕ} 1 3 = ap (λ (v : VSlot). v.0) copied.0.0 in absurd (omega arith)

pub loaded_from_twin : IsMadeBy acted copies (page 2) (record { who = command 2; what = entries.Load (slot 3) 5 (word 77) }) → ⊥
loaded_from_twin (inl made) = made.0
loaded_from_twin (inr copied) = let is : ◌≡◌ {A = ℕ} 3 1 = ap (λ (v : VSlot). v.0) copied.0.0 in absurd (omega arith)

pub freed_twin : IsMadeBy acted copies (page 2) (record { who = command 2; what = entries.Free (slot 3) }) → ⊥
freed_twin (inl made) = made.0
freed_twin (inr copied) = let is : ◌≡◌ {A = ℕ} 3 1 = ap (λ (v : VSlot). v.0) copied.0 in absurd (omega arith)

-- no other command copies
pub stored_by_load : IsMadeBy acted copies (page 2) (record { who = command 4; what = entries.Store (slot 3) 5 (word 88) }) → ⊥
stored_by_load (inl made) = made.0
stored_by_load (inr copied) = copied

-- ---- policies

-- the fork is a setting of the child's thread, and none of the parent's
pub child_unset : IsOwnCount forking forked (command 2) (record { thread = thread 1; policy = policies.Default; n = 0 }) → ⊥
child_unset own = let is : ◌≡◌ {A = ℕ} 0 1 = own refl in absurd (omega arith)

pub parent_set : IsOwnCount forking forked (command 2) (record { thread = thread 0; policy = policies.Default; n = 1 }) → ⊥
parent_set own = let is : ◌≡◌ {A = ℕ} 1 0 = own refl in absurd (omega arith)

-- ---- machine checks

-- a line of the store's machine check at a line of frame 0
abbrev event_at : ℕ → EventLine
event_at line = record { seq = 2; bank = 0; status = 0xbd80000000000134; addr = line * 64; misc = 0x86; row = 9; acted = acts.Recovered }

abbrev first_address : List EventLine → ℕ
first_address [] = 0
first_address (l ∷ ls) = l.addr

-- the machine checks of a copy come in the order of its loads and stores: those of lines 3 and 9 not the other way round
pub other_order : (report : Report) (after : Banks) → AreAccessChecks forking report (command 2) (arrival_of (commands.Store (thread 1) (slot 3) 5 88)) origins.Access (3 ∷ 9 ∷ []) empty_banks (event_at 9 ∷ event_at 3 ∷ []) after → ⊥
other_order report after (frame, [], later, all, damaged, check, rest) = check
other_order report after (frame, l ∷ [], later, all, damaged, check, rest) =
    let its : l.addr ≡ frame.0 * 4096 + 192 = check.0.addr in
    let first : ◌≡◌ {A = ℕ} 576 l.addr = ap first_address all in
    absurd (omega (arith, its, first))
other_order report after (frame, l ∷ m ∷ ls, later, all, damaged, check, rest) = check.1
