-- The commands that are drawn, kind by kind, each with the generator after it. Numbers are drawn from left to right.
use Rattle.std.specs.Prelude.{ℕ, ◌+◌, ◌-◌, ◌*◌, ◌%◌, nat_lt, if◌then◌else◌}
use Rattle.hwp_script_read.specs.hwp_geom.declared.Frame.{Frame}
use Rattle.hwp_script_read.specs.hwp_geom.declared.Page.{Page}
use Rattle.hwp_script_read.specs.hwp_geom.declared.Thread.{Thread}
use Rattle.hwp_script_read.specs.hwp_geom.declared.VSlot.{VSlot}
use Rattle.hwp_script_read.specs.hwp_script_lines.declared.Command.{Command}
use Rattle.hwp_script_read.specs.hwp_script_lines.declared.Command.TheVariants as commands
use Rattle.rand_pcg.specs.Lcg.{Lcg}
use Rattle.hwp_script.specs.Draws.{after, drawn, word}

-- the two threads of a processor
abbrev pub thread_at : ℕ → ℕ → Thread
thread_at cpu n = record { 0 = cpu + 4 * n }

-- the twenty translations of the process of the same number, in rising order
abbrev pub slot_at : ℕ → ℕ → VSlot
slot_at cpu n = if nat_lt n 10 then record { 0 = cpu + 4 * n } else record { 0 = 40 + (cpu + 3) % 4 + 4 * (n - 10) }

abbrev pub frame_at : ℕ → Frame
frame_at n = record { 0 = n }

abbrev pub page_at : ℕ → Page
page_at n = record { 0 = n }

-- an access: thread, translation, line
abbrev pub accessed : (Thread → VSlot → ℕ → Command) → ℕ → Lcg → Command × Lcg
accessed make cpu g = (make (thread_at cpu (drawn 2 g)) (slot_at cpu (drawn 20 (after g))) (drawn 64 (after (after g))), after (after (after g)))

-- a store: thread, translation, line, and a word of 32 bits
abbrev pub stored : ℕ → Lcg → Command × Lcg
stored cpu g =
    (commands.Store (thread_at cpu (drawn 2 g)) (slot_at cpu (drawn 20 (after g))) (drawn 64 (after (after g))) (word (after (after (after g)))), after (after (after (after g))))

-- a call of prctl(2) that sets the thread's policy: PR_MCE_KILL, PR_MCE_KILL_SET, and late, early or default
abbrev pub called : ℕ → Lcg → Command × Lcg
called cpu g =
    (commands.Prctl (thread_at cpu (drawn 2 g)) (record { operation = 33; arg2 = 1; arg3 = drawn 3 (after g); arg4 = 0; arg5 = 0 }), after (after g))

-- a line of one of the first 64 frames
abbrev pub marred : (Frame → ℕ → Command) → Lcg → Command × Lcg
marred make g = (make (frame_at (drawn 64 g)) (drawn 64 (after g)), after (after g))

-- a command with one number
abbrev pub numbered : (ℕ → Command) → ℕ → Lcg → Command × Lcg
numbered make bound g = (make (drawn bound g), after g)

-- sixteen frames
abbrev pub scrub_of : ℕ → Command
scrub_of n = commands.Scrub (frame_at (16 * n)) (frame_at (16 * n + 15))

-- the command that a number below 100 chooses: an access in three of four
abbrev pub chosen_access : ℕ → ℕ → Lcg → Command × Lcg
chosen_access cpu k g =
    if nat_lt k 45 then accessed commands.Load cpu g
    else if nat_lt k 70 then stored cpu g
    else accessed commands.Fetch cpu g

-- of the others, those by which pages, files and policies change
abbrev pub chosen_change : ℕ → ℕ → Lcg → Command × Lcg
chosen_change cpu k g =
    if nat_lt k 78 then numbered (λ (n : ℕ). commands.Free (record { 0 = n })) 80 g
    else if nat_lt k 81 then numbered (λ (n : ℕ). commands.Drop (page_at n)) 40 g
    else if nat_lt k 84 then numbered (λ (n : ℕ). commands.Sync (page_at (2 * n + 1))) 20 g
    else if nat_lt k 87 then numbered (λ (n : ℕ). commands.Out (page_at (2 * n))) 20 g
    else if nat_lt k 89 then numbered (λ (n : ℕ). commands.Fsync (record { 0 = n })) 2 g
    else called cpu g

-- and those by which memory fails, and is tested and taken back
abbrev pub chosen_failure : ℕ → Lcg → Command × Lcg
chosen_failure k g =
    if nat_lt k 93 then marred commands.Bad g
    else if nat_lt k 94 then marred commands.Weak g
    else if nat_lt k 95 then numbered scrub_of 4 g
    else if nat_lt k 97 then numbered (λ (n : ℕ). commands.Inject (frame_at n)) 64 g
    else if nat_lt k 99 then numbered (λ (n : ℕ). commands.Soft (frame_at n)) 64 g
    else numbered (λ (n : ℕ). commands.Unpoison (frame_at n)) 64 g

abbrev pub chosen : ℕ → ℕ → Lcg → Command × Lcg
chosen cpu k g = if nat_lt k 74 then chosen_access cpu k g else if nat_lt k 91 then chosen_change cpu k g else chosen_failure k g

-- a command of the processor, whose kind is drawn first
abbrev pub command : ℕ → Lcg → Command × Lcg
command cpu g = chosen cpu (drawn 100 g) (after g)
