-- Why words are not what was to be read, the words of a command by their numbers, and the errors of each reader.
use Rattle.std.specs.Prelude.{◌≡◌, ℕ, ◌<◌, ◌++◌, ◌⊎◌, Bool, true, false, List, [], ◌∷◌, length, get_or, codes, All}
use Rattle.hwp_script_words.specs.Numbers.{IsNumber}
use Rattle.hwp_script_lines.specs.Grammar.{Fits, page_words, page_keyword, HasPageShape, HasCommandShape, HaveCommandNumbers, IsCommandOver, HasShape, HaveNumbers, IsSentenceOver, HaveTurnShape, HaveTurnNumber, AreTurnOver, turn_pieces}
use Rattle.hwp_script_lines.specs.declared.script_line.ScriptLine.{ScriptLine}
use Rattle.hwp_script_lines.specs.declared.script_line.Backing.{Backing}
use Rattle.hwp_script_words.specs.declared.Command.{Command}
use Rattle.hwp_script_lines.specs.declared.keywords.Keyword.{Keyword}
use Rattle.hwp_script_lines.specs.declared.keywords.CommandWord.{CommandWord}
use Rattle.hwp_script_lines.specs.declared.numbers.Misfit.{Misfit}
use Rattle.hwp_script_words.specs.declared.Command.TheVariants as commands
use Rattle.hwp_script_lines.specs.declared.script_line.ScriptLine.TheVariants as forms
use Rattle.hwp_script_lines.specs.declared.keywords.Keyword.TheVariants as keywords
use Rattle.hwp_script_lines.specs.declared.keywords.CommandWord.TheVariants as words
use Rattle.hwp_script_lines.specs.declared.numbers.Misfit.TheVariants as misfits

-- what a misfit says of words: the shape does not fit them, or it fits and their numbers do not stand in place, or a
-- number is outside its range
abbrev pub IsMisfit : Type 0 → Type 0 → Type 0 → Misfit → Type 0
IsMisfit shape numbers over misfits.Unknown = shape → ⊥
IsMisfit shape numbers over misfits.BadNumber = shape × (numbers → ⊥)
IsMisfit shape numbers over misfits.OverLimit = over

-- what a misfit says of so many words of which each is to satisfy P
abbrev pub AreMisfit : (List ℕ → Type 0) → ℕ → List (List ℕ) → Misfit → Type 0
AreMisfit P count ws e = IsMisfit (length ws ≡ count) (All P ws) ⊥ e

-- what a misfit says of the words behind the first word of a command
abbrev pub IsCommandMisfit : CommandWord → List (List ℕ) → Misfit → Type 0
IsCommandMisfit word ws e = IsMisfit (HasCommandShape word ws) (HaveCommandNumbers word ws) (IsCommandOver word ws) e

-- what a misfit says of the words behind a keyword
abbrev pub IsSentenceMisfit : Keyword → List (List ℕ) → Misfit → Type 0
IsSentenceMisfit k ws e = IsMisfit (HasShape k ws) (HaveNumbers k ws) (IsSentenceOver k ws) e

-- the words are those of a page that isn't locked, with its number and what stands behind it
pub record ArePageWords (ws : List (List ℕ)) (page : ℕ × Backing) : Type 0 where
  pub fits : Fits (forms.Page page.0 page.1 false)
  pub same : ws ≡ page_words page.0 page.1

-- what a misfit says of the words of a page that isn't locked
abbrev pub IsPageMisfit : List (List ℕ) → Misfit → Type 0
IsPageMisfit ws e = IsMisfit (HasPageShape ws) (HaveNumbers page_keyword ws) ⊥ e

-- the words are two or five, and `locked` behind them
pub record IsLockedFront (ws front : List (List ℕ)) : Type 0 where
  pub same : ws ≡ front ++ codes "locked" ∷ []
  pub count : (length front ≡ 2) ⊎ (length front ≡ 5)

-- what a misfit says of the pieces of a word of a schedule
abbrev pub AreTurnMisfit : List (List ℕ) → Misfit → Type 0
AreTurnMisfit pieces e = IsMisfit (HaveTurnShape pieces) (HaveTurnNumber pieces) (AreTurnOver pieces) e

-- what a misfit says of a word of a schedule
abbrev pub IsTurnMisfit : List ℕ → Misfit → Type 0
IsTurnMisfit word e = AreTurnMisfit (turn_pieces word) e

-- there are so many words, and each writes the number in its place
pub record AreNumbers (count : ℕ) (ws : List (List ℕ)) (ns : List ℕ) : Type 0 where
  pub long : length ws ≡ count
  pub each : (k : ℕ) → k < count → IsNumber (get_or ws k []) (get_or ns k 0)

-- how many numbers stand behind the first word of a command, where only numbers do
abbrev pub number_count : CommandWord → ℕ
number_count words.Load = 3
number_count words.Fetch = 3
number_count words.KLoad = 3
number_count words.Store = 4
number_count words.Bad = 2
number_count words.Weak = 2
number_count words.Scrub = 2
number_count words.Watch = 2
number_count words.Fork = 2
number_count words.Prctl = 6
number_count w = 1

-- the first word of a command with register words
abbrev pub log_word : CommandWord
log_word = words.Log

-- the first words of accesses
abbrev pub is_access_word : CommandWord → Bool
is_access_word words.Load = true
is_access_word words.Fetch = true
is_access_word words.KLoad = true
is_access_word words.Store = true
is_access_word w = false

-- the first words of commands about a translation, a page or a file
abbrev pub is_page_word : CommandWord → Bool
is_page_word words.Free = true
is_page_word words.Drop = true
is_page_word words.Sync = true
is_page_word words.Out = true
is_page_word words.Fsync = true
is_page_word words.Open = true
is_page_word w = false

-- the first words of commands about frames
abbrev pub is_frame_word : CommandWord → Bool
is_frame_word words.Bad = true
is_frame_word words.Weak = true
is_frame_word words.Scrub = true
is_frame_word words.Inject = true
is_frame_word words.Soft = true
is_frame_word words.Unpoison = true
is_frame_word w = false

-- a new collector of this threshold and window
abbrev pub watch : ℕ → ℕ → Command
watch threshold window = commands.Watch threshold window

-- the thread's process becomes the parent of the process
abbrev pub fork : ℕ → ℕ → Command
fork thread process = commands.Fork (record { 0 = thread }) (record { 0 = process })

-- the command of a first word behind which these numbers stand; a log and a raise have others
abbrev pub command_with : CommandWord → List ℕ → Command
command_with words.Load ns = commands.Load (record { 0 = get_or ns 0 0 }) (record { 0 = get_or ns 1 0 }) (get_or ns 2 0)
command_with words.Fetch ns = commands.Fetch (record { 0 = get_or ns 0 0 }) (record { 0 = get_or ns 1 0 }) (get_or ns 2 0)
command_with words.KLoad ns = commands.KLoad (record { 0 = get_or ns 0 0 }) (record { 0 = get_or ns 1 0 }) (get_or ns 2 0)
command_with words.Store ns = commands.Store (record { 0 = get_or ns 0 0 }) (record { 0 = get_or ns 1 0 }) (get_or ns 2 0) (get_or ns 3 0)
command_with words.Free ns = commands.Free (record { 0 = get_or ns 0 0 })
command_with words.Drop ns = commands.Drop (record { 0 = get_or ns 0 0 })
command_with words.Sync ns = commands.Sync (record { 0 = get_or ns 0 0 })
command_with words.Out ns = commands.Out (record { 0 = get_or ns 0 0 })
command_with words.Fsync ns = commands.Fsync (record { 0 = get_or ns 0 0 })
command_with words.Open ns = commands.Open (record { 0 = get_or ns 0 0 })
command_with words.Prctl ns = commands.Prctl (record { 0 = get_or ns 0 0 }) (record { operation = get_or ns 1 0; arg2 = get_or ns 2 0; arg3 = get_or ns 3 0; arg4 = get_or ns 4 0; arg5 = get_or ns 5 0 })
command_with words.Bad ns = commands.Bad (record { 0 = get_or ns 0 0 }) (get_or ns 1 0)
command_with words.Weak ns = commands.Weak (record { 0 = get_or ns 0 0 }) (get_or ns 1 0)
command_with words.Scrub ns = commands.Scrub (record { 0 = get_or ns 0 0 }) (record { 0 = get_or ns 1 0 })
command_with words.Log ns = commands.RaiseNested
command_with words.Raise ns = commands.RaiseNested
command_with words.Inject ns = commands.Inject (record { 0 = get_or ns 0 0 })
command_with words.Soft ns = commands.Soft (record { 0 = get_or ns 0 0 })
command_with words.Unpoison ns = commands.Unpoison (record { 0 = get_or ns 0 0 })
command_with words.Watch ns = watch (get_or ns 0 0) (get_or ns 1 0)
command_with words.Fork ns = fork (get_or ns 0 0) (get_or ns 1 0)

-- the lines behind whose first word just one number stands
abbrev pub has_one_number : Keyword → Bool
has_one_number keywords.Cpus = true
has_one_number keywords.Frames = true
has_one_number keywords.Kernel = true
has_one_number keywords.Recovery = true
has_one_number keywords.Early = true
has_one_number keywords.File = true
has_one_number keywords.Proc = true
has_one_number keywords.Guest = true
has_one_number keywords.Cpu = true
has_one_number k = false

-- the line of such a first word and this number; of other first words this is no line of theirs
abbrev pub form_with : Keyword → ℕ → ScriptLine
form_with keywords.Cpus n = forms.Cpus n
form_with keywords.Frames n = forms.Frames n
form_with keywords.Kernel n = forms.Kernel n
form_with keywords.Recovery n = forms.Recovery n
form_with keywords.Early n = forms.Early n
form_with keywords.File n = forms.File n
form_with keywords.Proc n = forms.Proc n
form_with keywords.Guest n = forms.Guest n
form_with keywords.Cpu n = forms.Cpu n
form_with k n = forms.End
