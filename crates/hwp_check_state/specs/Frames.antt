-- The lines of frames as they are gone through: which pages are cached at the end, the commands that were done, and the lines
-- of frames that these marked.
use Rattle.std.specs.Prelude.{◌≡◌, ◌↔◌, ℕ, ◌+◌, ◌^◌, ◌<◌, ◌==◌, ◌&&◌, ◌||◌, Bool, true, false, not, cond, nat_lt, List, [], ◌∷◌, ◌++◌, Some, bit_or, fold, replicate, Contains, length, map, option_map, slice_get, slice_index_or, slice_set, take, unwrap_or}
use Rattle.hwp_check_rules.specs.hwp_geom.declared.Who.{Who}
use Rattle.hwp_check_rules.specs.hwp_page.declared.Entry.{Entry}
use Rattle.hwp_check_rules.specs.hwp_page.declared.Situation.{Situation}
use Rattle.hwp_check_rules.specs.hwp_page.declared.Situation.TheVariants as situations
use Rattle.hwp_check_rules.specs.hwp_page.declared.What.{What}
use Rattle.hwp_check_rules.specs.hwp_page.declared.What.TheVariants as entries
use Rattle.hwp_check_rules.specs.hwp_script_words.declared.Command.{Command}
use Rattle.hwp_check_rules.specs.hwp_script_words.declared.Command.TheVariants as commands
use Rattle.hwp_check_rules.specs.hwp_script_words.declared.Script.{Script}
use Rattle.hwp_check_rules.specs.hwp_report_text.declared.Answer.TheVariants as answers
use Rattle.hwp_check_rules.specs.hwp_report_text.declared.FrameLine.{FrameLine}
use Rattle.hwp_check_rules.specs.hwp_report_text.declared.Whereabouts.{Whereabouts}
use Rattle.hwp_check_rules.specs.hwp_report_text.declared.Whereabouts.TheVariants as places
use Rattle.hwp_check_rules.specs.hwp_report_text.declared.Report.{Report}
use Rattle.hwp_check_rules.specs.hwp_law.Frames.{WasDone}
use Rattle.hwp_check_rules.specs.hwp_law.Lines.{answer_of}
use Rattle.hwp_check_rules.specs.hwp_law.Commands.{command_at}
use Rattle.hwp_check_rules.specs.hwp_law.Records.{ends_poisoned}
use Rattle.hwp_check_rules.specs.Faults.{sayers}
use Rattle.hwp_check_state.specs.declared.frames.Marked.{Marked}

-- a failure of a frame that is free, or the kernel's, takes no page from it
abbrev pub keeps : Situation → Bool → Bool
keeps situations.Free cached = cached
keeps situations.Kernel cached = cached
keeps situation cached = false

-- whether the page is cached after an entry
abbrev pub cached_by : Bool → What → Bool
cached_by cached entries.FaultIn = true
cached_by cached entries.Drop = false
cached_by cached entries.Out = false
cached_by cached (entries.Fail situation required seen signals) = keeps situation cached
cached_by cached what = cached

-- the same after some entries
abbrev pub cached_after : Bool → List Entry → Bool
cached_after cached [] = cached
cached_after cached (e ∷ rest) = cached_after (cached_by cached e.what) rest

-- which pages are cached at the end of their histories
abbrev pub ends_of : Report → List Bool
ends_of report = map (cached_after false) report.pages

-- the commands that are flagged
abbrev pub flagged : List Command → List Bool → List Command
flagged (command ∷ commands) (flag ∷ flags) = cond flag (command ∷ []) [] ++ flagged commands flags
flagged _ _ = []

-- these are the commands that were made and done
abbrev pub AreDoneOf : Script → Report → List Command → Type 0
AreDoneOf script report list = (command : Command) → Contains list command ↔ WasDone script report command

-- the same of the processors below this number
pub record WasDoneBelow (n : ℕ) (script : Script) (report : Report) (command : Command) : Type 0 where
  pub who : Who
  pub below : who.cpu.0 < n
  pub made : command_at script who ≡ Some command
  pub answered : answer_of report who ≡ Some answers.Done

abbrev pub AreDoneBelow : ℕ → Script → Report → List Command → Type 0
AreDoneBelow n script report list = (command : Command) → Contains list command ↔ WasDoneBelow n script report command

-- a bit for the line that a command marks in the frame with this number
abbrev pub bad_bit : ℕ → Command → ℕ
bad_bit number (commands.Bad frame line) = cond (frame.0 == number) (2 ^ line) 0
bad_bit number command = 0

abbrev pub weak_bit : ℕ → Command → ℕ
weak_bit number (commands.Weak frame line) = cond (frame.0 == number) (2 ^ line) 0
weak_bit number command = 0

-- the bits of a mask and those that commands add to it
abbrev pub with_bits : (Command → ℕ) → ℕ → List Command → ℕ
with_bits bit mask [] = mask
with_bits bit mask (command ∷ rest) = with_bits bit (bit_or mask (bit command)) rest

-- the lines that are marked of each frame, with one more; and with one that a command marks bad or weak
abbrev pub marked_at : List ℕ → ℕ → ℕ → List ℕ
marked_at marked frame line = slice_set marked frame (bit_or (slice_index_or marked frame 0) (2 ^ line))

abbrev pub with_bad : List ℕ → Command → List ℕ
with_bad marked (commands.Bad frame line) = marked_at marked frame.0 line
with_bad marked command = marked

abbrev pub with_weak : List ℕ → Command → List ℕ
with_weak marked (commands.Weak frame line) = marked_at marked frame.0 line
with_weak marked command = marked

-- these are the lines that the commands mark in each of so many frames
pub record AreMarked (frames : ℕ) (done : List Command) (marked : Marked) : Type 0 where
  pub bad : marked.bad.items ≡ fold with_bad (replicate frames 0) done
  pub weak : marked.weak.items ≡ fold with_weak (replicate frames 0) done

-- which pages some frame says, with a place more; and of so many pages those that these frames say
abbrev pub said_with : List Bool → Whereabouts → List Bool
said_with said (places.Of page) = slice_set said page.0 true
said_with said place = said

abbrev pub said_by : ℕ → List FrameLine → List Bool
said_by pages frames = fold (λ (said : List Bool) (f : FrameLine). said_with said f.place) (replicate pages false) frames

-- a frame's place fits: whether the frame is the kernel's, and whether it is poisoned
abbrev pub is_placed : ℕ → Bool → Bool → Whereabouts → Bool
is_placed pages kernel poisoned places.Free = not kernel && not poisoned
is_placed pages kernel poisoned places.Kernel = kernel
is_placed pages kernel poisoned places.Handled = not kernel && poisoned
is_placed pages kernel poisoned (places.Of page) = not kernel && not poisoned && nat_lt page.0 pages

-- the place says a page that as many frames as should say before
abbrev pub is_beyond : List Bool → List FrameLine → Whereabouts → Bool
is_beyond cached front (places.Of page) = nat_lt page.0 (length cached) && not (nat_lt (sayers page front) (cond (slice_index_or cached page.0 false) 1 0))
is_beyond cached front _ = false

-- the line of the frame with this number is right
abbrev pub is_right_line : Script → Report → List Command → List Bool → ℕ → FrameLine → Bool
is_right_line script report done cached number line =
    is_placed (length script.layout.pages) (unwrap_or (slice_get script.layout.kernel number) false) (ends_poisoned line.marks) line.place
    && (line.bad.0 == with_bits (bad_bit number) 0 done)
    && (line.weak.0 == with_bits (weak_bit number) 0 done)
    && not (is_beyond cached (take number report.frames) line.place)

abbrev pub is_right_frame : Script → Report → List Command → List Bool → ℕ → Bool
is_right_frame script report done cached number = unwrap_or (option_map (is_right_line script report done cached number) (slice_get report.frames number)) true

-- the frames below this number are right
abbrev pub AreRight : Script → Report → List Command → List Bool → ℕ → Type 0
AreRight script report done cached n = (k : ℕ) → k < n → is_right_frame script report done cached k ≡ true

-- from page number n on some page is cached that no frame says
abbrev pub is_unsaid_from : ℕ → List Bool → List FrameLine → Bool
is_unsaid_from n [] frames = false
is_unsaid_from n (cached ∷ rest) frames = (cached && (sayers (record { 0 = n }) frames == 0)) || is_unsaid_from (n + 1) rest frames
