-- The grammar of a line: the words of each form, and which lines are no form.
use Rattle.std.specs.Prelude.{◌≡◌, ℕ, Bool, true, false, ◌^◌, ◌<◌, ◌≤◌, ◌==◌, ◌||◌, ◌++◌, ◌⊎◌, List, [], ◌∷◌, length, get_or, take, drop, map, codes, decimal, All}
use Rattle.std.specs.List.{slice_split}
use Rattle.hwp_script_words.specs.hwp_geom.declared.Kind.{Kind}
use Rattle.hwp_script_words.specs.hwp_geom.declared.Thread.{Thread}
use Rattle.hwp_script_words.specs.hwp_geom.declared.VSlot.{VSlot}
use Rattle.hwp_script_words.specs.hwp_geom.declared.Version.{Version}
use Rattle.hwp_script_words.specs.hwp_geom.Pairs.{Pairs}
use Rattle.hwp_script_words.specs.hwp_geom.Limits.{number, line_limit, cpu_limit, frame_limit, file_limit, process_limit, thread_limit, page_limit, translation_limit}
use Rattle.hwp_script_words.specs.Commands.{IsCollectorWithin}
use Rattle.hwp_script_words.specs.Numbers.{IsNumberWord}
use Rattle.hwp_script_lines.specs.Numbers.{IsRegister, IsRegisterWord, register}
use Rattle.hwp_script_words.specs.Kinds.{kind_text}
use Rattle.hwp_script_lines.specs.declared.script_line.ScriptLine.{ScriptLine}
use Rattle.hwp_script_lines.specs.declared.script_line.Backing.{Backing}
use Rattle.hwp_script_words.specs.declared.Command.{Command}
use Rattle.hwp_script_words.specs.declared.Go.{Go}
use Rattle.hwp_script_words.specs.declared.Until.{Until}
use Rattle.hwp_script_lines.specs.declared.keywords.Keyword.{Keyword}
use Rattle.hwp_script_lines.specs.declared.keywords.CommandWord.{CommandWord}
use Rattle.hwp_script_lines.specs.declared.script_line.ScriptLine.TheVariants as forms
use Rattle.hwp_script_words.specs.declared.Command.TheVariants as commands
use Rattle.hwp_script_lines.specs.declared.script_line.Backing.TheVariants as backings
use Rattle.hwp_script_words.specs.declared.Until.TheVariants as untils
use Rattle.hwp_script_lines.specs.declared.keywords.Keyword.TheVariants as keywords
use Rattle.hwp_script_lines.specs.declared.keywords.CommandWord.TheVariants as words

-- the first word of a command
abbrev pub command_text : CommandWord → List ℕ
command_text words.Load = codes "load"
command_text words.Fetch = codes "fetch"
command_text words.KLoad = codes "kload"
command_text words.Store = codes "store"
command_text words.Free = codes "free"
command_text words.Drop = codes "drop"
command_text words.Sync = codes "sync"
command_text words.Out = codes "out"
command_text words.Fsync = codes "fsync"
command_text words.Open = codes "open"
command_text words.Prctl = codes "prctl"
command_text words.Bad = codes "bad"
command_text words.Weak = codes "weak"
command_text words.Scrub = codes "scrub"
command_text words.Log = codes "log"
command_text words.Raise = codes "raise"
command_text words.Inject = codes "inject"
command_text words.Soft = codes "soft"
command_text words.Unpoison = codes "unpoison"
command_text words.Watch = codes "watch"
command_text words.Fork = codes "fork"

-- the first word of a line
abbrev pub keyword_text : Keyword → List ℕ
keyword_text keywords.Hwp = codes "hwp"
keyword_text keywords.Cpus = codes "cpus"
keyword_text keywords.Frames = codes "frames"
keyword_text keywords.Kernel = codes "kernel"
keyword_text keywords.Recovery = codes "recovery"
keyword_text keywords.Early = codes "early"
keyword_text keywords.File = codes "file"
keyword_text keywords.Proc = codes "proc"
keyword_text keywords.Thread = codes "thread"
keyword_text keywords.Guest = codes "guest"
keyword_text keywords.Page = codes "page"
keyword_text keywords.Trans = codes "trans"
keyword_text keywords.Cow = codes "cow"
keyword_text keywords.Cpu = codes "cpu"
keyword_text keywords.Schedule = codes "schedule"
keyword_text keywords.End = codes "end"
keyword_text (keywords.Command w) = command_text w

-- which first word a command has
abbrev pub command_word : Command → CommandWord
command_word (commands.Load t v l) = words.Load
command_word (commands.Fetch t v l) = words.Fetch
command_word (commands.KLoad t v l) = words.KLoad
command_word (commands.Store t v l x) = words.Store
command_word (commands.Free v) = words.Free
command_word (commands.Drop q) = words.Drop
command_word (commands.Sync q) = words.Sync
command_word (commands.Out q) = words.Out
command_word (commands.Fsync n) = words.Fsync
command_word (commands.Open n) = words.Open
command_word (commands.Prctl t args) = words.Prctl
command_word (commands.Bad f l) = words.Bad
command_word (commands.Weak f l) = words.Weak
command_word (commands.Scrub a b) = words.Scrub
command_word (commands.Log s a m) = words.Log
command_word (commands.RaiseUser t r e) = words.Raise
command_word (commands.RaiseKernel r e) = words.Raise
command_word commands.RaiseNested = words.Raise
command_word (commands.Inject f) = words.Inject
command_word (commands.Soft f) = words.Soft
command_word (commands.Unpoison f) = words.Unpoison
command_word (commands.Watch t w) = words.Watch
command_word (commands.Fork t p) = words.Fork

-- which first word a line has
abbrev pub keyword : ScriptLine → Keyword
keyword (forms.Header v) = keywords.Hwp
keyword (forms.Cpus n) = keywords.Cpus
keyword (forms.Frames n) = keywords.Frames
keyword (forms.Kernel f) = keywords.Kernel
keyword (forms.Recovery b) = keywords.Recovery
keyword (forms.Early b) = keywords.Early
keyword (forms.File n) = keywords.File
keyword (forms.Proc p) = keywords.Proc
keyword (forms.Thread t p c h) = keywords.Thread
keyword (forms.Guest p) = keywords.Guest
keyword (forms.Page q b locked) = keywords.Page
keyword (forms.Trans v p q) = keywords.Trans
keyword (forms.Cow v w) = keywords.Cow
keyword (forms.Cpu c) = keywords.Cpu
keyword (forms.Command o) = keywords.Command (command_word o)
keyword (forms.Schedule turns) = keywords.Schedule
keyword forms.End = keywords.End

-- what stands behind the processor in a word of a schedule
abbrev pub until_text : Until → List ℕ
until_text untils.One = []
until_text untils.Command = codes "."
until_text (untils.After kind) = codes "@" ++ kind_text kind

-- a word of a schedule, as it is printed
abbrev pub turn_text : Go → List ℕ
turn_text turn = decimal turn.cpu.0 ++ until_text turn.until

-- a word of a schedule, cut at each `@`
abbrev pub turn_pieces : List ℕ → List (List ℕ)
turn_pieces word = slice_split (λ b. b == 64) word

-- the pieces of a word of a schedule: `C`, `C.`, or `C` and the name of a kind of step
abbrev pub pieces_of : ℕ → Until → List (List ℕ)
pieces_of cpu untils.One = decimal cpu ∷ []
pieces_of cpu untils.Command = (decimal cpu ++ codes ".") ∷ []
pieces_of cpu (untils.After kind) = decimal cpu ∷ kind_text kind ∷ []

-- what stands behind the number in a word of a schedule
abbrev pub behind_number : Until → List ℕ
behind_number untils.One = []
behind_number untils.Command = codes "."
behind_number (untils.After kind) = codes "@" ++ kind_text kind

-- the pieces are those of a word of a schedule
pub record AreTurnPieces (pieces : List (List ℕ)) (turn : Go) : Type 0 where
  pub fits : turn.cpu.0 < cpu_limit
  pub same : pieces ≡ pieces_of turn.cpu.0 turn.until

-- a word is this word of a schedule
abbrev pub IsTurn : List ℕ → Go → Type 0
IsTurn word turn = AreTurnPieces (turn_pieces word) turn

-- the pieces are those of a word of a schedule, if its number may be that of a processor
pub record HaveTurnNumber (pieces : List (List ℕ)) : Type 0 where
  pub cpu : ℕ
  pub until : Until
  pub fits : cpu < 2 ^ 64
  pub same : pieces ≡ pieces_of cpu until

-- a word is one of a schedule, if its number may be that of a processor
abbrev pub IsTurnWord : List ℕ → Type 0
IsTurnWord word = HaveTurnNumber (turn_pieces word)

-- the pieces are one, or two of which the second names a kind of step
abbrev pub HaveTurnShape : List (List ℕ) → Type 0
HaveTurnShape pieces = (length pieces ≡ 1) ⊎ ((length pieces ≡ 2) × ((kind : Kind) × (get_or pieces 1 [] ≡ kind_text kind)))

-- a word of a schedule has no `@`, or just one and behind it the name of a kind of step
abbrev pub HasTurnShape : List ℕ → Type 0
HasTurnShape word = HaveTurnShape (turn_pieces word)

-- a truth value as a number
abbrev pub bit : Bool → ℕ
bit true = 1
bit false = 0

-- the words of a command behind its first, as they are printed
abbrev pub command_words : Command → List (List ℕ)
command_words (commands.Load t v l) = decimal t.0 ∷ decimal v.0 ∷ decimal l ∷ []
command_words (commands.Fetch t v l) = decimal t.0 ∷ decimal v.0 ∷ decimal l ∷ []
command_words (commands.KLoad t v l) = decimal t.0 ∷ decimal v.0 ∷ decimal l ∷ []
command_words (commands.Store t v l x) = decimal t.0 ∷ decimal v.0 ∷ decimal l ∷ decimal x ∷ []
command_words (commands.Free v) = decimal v.0 ∷ []
command_words (commands.Drop q) = decimal q.0 ∷ []
command_words (commands.Sync q) = decimal q.0 ∷ []
command_words (commands.Out q) = decimal q.0 ∷ []
command_words (commands.Fsync n) = decimal n.0 ∷ []
command_words (commands.Open n) = decimal n.0 ∷ []
command_words (commands.Prctl t args) = decimal t.0 ∷ decimal args.operation ∷ decimal args.arg2 ∷ decimal args.arg3 ∷ decimal args.arg4 ∷ decimal args.arg5 ∷ []
command_words (commands.Bad f l) = decimal f.0 ∷ decimal l ∷ []
command_words (commands.Weak f l) = decimal f.0 ∷ decimal l ∷ []
command_words (commands.Scrub a b) = decimal a.0 ∷ decimal b.0 ∷ []
command_words (commands.Log s a m) = register s ∷ register a ∷ register m ∷ []
command_words (commands.RaiseUser t r e) = codes "user" ∷ decimal t.0 ∷ decimal (bit r) ∷ decimal (bit e) ∷ []
command_words (commands.RaiseKernel r e) = codes "kernel" ∷ decimal (bit r) ∷ decimal (bit e) ∷ []
command_words commands.RaiseNested = codes "nested" ∷ []
command_words (commands.Inject f) = decimal f.0 ∷ []
command_words (commands.Soft f) = decimal f.0 ∷ []
command_words (commands.Unpoison f) = decimal f.0 ∷ []
command_words (commands.Watch t w) = decimal t ∷ decimal w ∷ []
command_words (commands.Fork t p) = decimal t.0 ∷ decimal p.0 ∷ []

-- whether a thread has a handler, as its last word says it
abbrev pub handler_text : Bool → List ℕ
handler_text true = codes "handler"
handler_text false = codes "nohandler"

-- the pieces are those of a word of a schedule but for its number, which is too high for a processor
pub record AreTurnOver (pieces : List (List ℕ)) : Type 0 where
  pub shaped : HaveTurnShape pieces
  pub number : HaveTurnNumber pieces
  pub none : (turn : Go) → AreTurnPieces pieces turn → ⊥

-- a word names a processor that there can't be
abbrev pub IsTurnOver : List ℕ → Type 0
IsTurnOver word = AreTurnOver (turn_pieces word)

-- the words of a page that isn't locked: what stands behind it
abbrev pub page_words : ℕ → Backing → List (List ℕ)
page_words q backings.Anon = decimal q ∷ codes "anon" ∷ []
page_words q (backings.File n x) = decimal q ∷ codes "file" ∷ decimal n ∷ codes "fill" ∷ decimal x ∷ []

-- the last word of the line of a page, if the page is locked
abbrev pub locked_words : Bool → List (List ℕ)
locked_words true = codes "locked" ∷ []
locked_words false = []

-- the words of a line behind its first, as they are printed
abbrev pub rest_words : ScriptLine → List (List ℕ)
rest_words (forms.Header v) = decimal (number v) ∷ []
rest_words (forms.Cpus n) = decimal n ∷ []
rest_words (forms.Frames n) = decimal n ∷ []
rest_words (forms.Kernel f) = decimal f ∷ []
rest_words (forms.Recovery b) = decimal b ∷ []
rest_words (forms.Early b) = decimal b ∷ []
rest_words (forms.File n) = decimal n ∷ []
rest_words (forms.Proc p) = decimal p ∷ []
rest_words (forms.Thread t p c h) = decimal t ∷ decimal p ∷ decimal c ∷ handler_text h ∷ []
rest_words (forms.Guest p) = decimal p ∷ []
rest_words (forms.Page q b locked) = page_words q b ++ locked_words locked
rest_words (forms.Trans v p q) = decimal v ∷ decimal p ∷ decimal q ∷ []
rest_words (forms.Cow v w) = decimal v ∷ decimal w ∷ []
rest_words (forms.Cpu c) = decimal c ∷ []
rest_words (forms.Command o) = command_words o
rest_words (forms.Schedule turns) = map turn_text turns
rest_words forms.End = []

-- the words of a line, as they are printed
abbrev pub form_words : ScriptLine → List (List ℕ)
form_words f = keyword_text (keyword f) ∷ rest_words f

-- an access names a thread, a translation and a line that there may be
abbrev pub IsAccessWithin : Thread → VSlot → ℕ → Type 0
IsAccessWithin t v l = (t.0 < thread_limit) × (v.0 < translation_limit) × (l < line_limit)

-- each number of a command is within its range
abbrev pub CommandFits : Command → Type 0
CommandFits (commands.Load t v l) = IsAccessWithin t v l
CommandFits (commands.Fetch t v l) = IsAccessWithin t v l
CommandFits (commands.KLoad t v l) = IsAccessWithin t v l
CommandFits (commands.Store t v l x) = IsAccessWithin t v l × (x < 2 ^ 64)
CommandFits (commands.Free v) = v.0 < translation_limit
CommandFits (commands.Drop q) = q.0 < page_limit
CommandFits (commands.Sync q) = q.0 < page_limit
CommandFits (commands.Out q) = q.0 < page_limit
CommandFits (commands.Fsync n) = n.0 < file_limit
CommandFits (commands.Open n) = n.0 < file_limit
CommandFits (commands.Prctl t args) = (t.0 < thread_limit) × (args.operation < 2 ^ 64) × (args.arg2 < 2 ^ 64) × (args.arg3 < 2 ^ 64) × (args.arg4 < 2 ^ 64) × (args.arg5 < 2 ^ 64)
CommandFits (commands.Bad f l) = (f.0 < frame_limit) × (l < line_limit)
CommandFits (commands.Weak f l) = (f.0 < frame_limit) × (l < line_limit)
CommandFits (commands.Scrub a b) = (a.0 ≤ b.0) × (b.0 < frame_limit)
CommandFits (commands.Log s a m) = (s < 2 ^ 64) × (a < 2 ^ 64) × (m < 2 ^ 64)
CommandFits (commands.RaiseUser t r e) = t.0 < thread_limit
CommandFits (commands.RaiseKernel r e) = Unit {0}
CommandFits commands.RaiseNested = Unit {0}
CommandFits (commands.Inject f) = f.0 < frame_limit
CommandFits (commands.Soft f) = f.0 < frame_limit
CommandFits (commands.Unpoison f) = f.0 < frame_limit
CommandFits (commands.Watch t w) = IsCollectorWithin t w
CommandFits (commands.Fork t p) = (t.0 < thread_limit) × (p.0 < process_limit)

-- the numbers of a declaration are below 2 ^ 64, those of a command are within their ranges, and a schedule has a word
abbrev pub Fits : ScriptLine → Type 0
Fits (forms.Header v) = Unit {0}
Fits (forms.Cpus n) = n < 2 ^ 64
Fits (forms.Frames n) = n < 2 ^ 64
Fits (forms.Kernel f) = f < 2 ^ 64
Fits (forms.Recovery b) = b < 2 ^ 64
Fits (forms.Early b) = b < 2 ^ 64
Fits (forms.File n) = n < 2 ^ 64
Fits (forms.Proc p) = p < 2 ^ 64
Fits (forms.Thread t p c h) = (t < 2 ^ 64) × (p < 2 ^ 64) × (c < 2 ^ 64)
Fits (forms.Guest p) = p < 2 ^ 64
Fits (forms.Page q backings.Anon locked) = q < 2 ^ 64
Fits (forms.Page q (backings.File n x) locked) = (q < 2 ^ 64) × (n < 2 ^ 64) × (x < 2 ^ 64)
Fits (forms.Trans v p q) = (v < 2 ^ 64) × (p < 2 ^ 64) × (q < 2 ^ 64)
Fits (forms.Cow v w) = (v < 2 ^ 64) × (w < 2 ^ 64)
Fits (forms.Cpu c) = c < 2 ^ 64
Fits (forms.Command c) = CommandFits c
Fits (forms.Schedule turns) = 0 < length turns
Fits forms.End = Unit {0}

-- three words are register words of these values
pub record AreRegisters (ws : List (List ℕ)) (s a m : ℕ) : Type 0 where
  pub three : length ws ≡ 3
  pub status : IsRegister (get_or ws 0 []) s
  pub addr : IsRegister (get_or ws 1 []) a
  pub misc : IsRegister (get_or ws 2 []) m

-- the words behind the first word of a command are those of the command; its register words may have upper-case digits
-- and leading zeros
abbrev pub AreCommandWords : List (List ℕ) → Command → Type 0
AreCommandWords ws (commands.Log s a m) = AreRegisters ws s a m
AreCommandWords ws o = ws ≡ command_words o

-- a word and those behind it are a command
pub record IsCommand (word : CommandWord) (ws : List (List ℕ)) (o : Command) : Type 0 where
  pub kind : command_word o ≡ word
  pub fits : CommandFits o
  pub same : AreCommandWords ws o

-- the words behind the first are those of the line; a schedule has at least one
abbrev pub AreRestWords : List (List ℕ) → ScriptLine → Type 0
AreRestWords ws (forms.Command o) = AreCommandWords ws o
AreRestWords ws (forms.Schedule turns) = Pairs IsTurn ws turns
AreRestWords ws f = ws ≡ rest_words f

-- a keyword and the words behind it are a line
pub record IsSentence (k : Keyword) (ws : List (List ℕ)) (f : ScriptLine) : Type 0 where
  pub kind : keyword f ≡ k
  pub fits : Fits f
  pub same : AreRestWords ws f

-- the words are those of the line
pub record IsForm (ws : List (List ℕ)) (f : ScriptLine) : Type 0 where
  pub rest : List (List ℕ)
  pub same : ws ≡ keyword_text (keyword f) ∷ rest
  pub is : IsSentence (keyword f) rest f

-- the first word of a machine check
abbrev pub raise_word : CommandWord
raise_word = words.Raise

-- a raise is of a thread, of the kernel, or nested
abbrev pub HasRaiseShape : List (List ℕ) → Type 0
HasRaiseShape ws = ((length ws ≡ 4) × (get_or ws 0 [] ≡ codes "user")) ⊎ ((length ws ≡ 3) × (get_or ws 0 [] ≡ codes "kernel")) ⊎ (ws ≡ codes "nested" ∷ [])

-- the words behind the first word of a command are as many as they must be, and its fixed words are in place
abbrev pub HasCommandShape : CommandWord → List (List ℕ) → Type 0
HasCommandShape words.Load ws = length ws ≡ 3
HasCommandShape words.Fetch ws = length ws ≡ 3
HasCommandShape words.KLoad ws = length ws ≡ 3
HasCommandShape words.Store ws = length ws ≡ 4
HasCommandShape words.Free ws = length ws ≡ 1
HasCommandShape words.Drop ws = length ws ≡ 1
HasCommandShape words.Sync ws = length ws ≡ 1
HasCommandShape words.Out ws = length ws ≡ 1
HasCommandShape words.Fsync ws = length ws ≡ 1
HasCommandShape words.Open ws = length ws ≡ 1
HasCommandShape words.Prctl ws = length ws ≡ 6
HasCommandShape words.Bad ws = length ws ≡ 2
HasCommandShape words.Weak ws = length ws ≡ 2
HasCommandShape words.Scrub ws = length ws ≡ 2
HasCommandShape words.Log ws = length ws ≡ 3
HasCommandShape words.Raise ws = HasRaiseShape ws
HasCommandShape words.Inject ws = length ws ≡ 1
HasCommandShape words.Soft ws = length ws ≡ 1
HasCommandShape words.Unpoison ws = length ws ≡ 1
HasCommandShape words.Watch ws = length ws ≡ 2
HasCommandShape words.Fork ws = length ws ≡ 2

-- the fixed words of a page are in place: nothing stands behind it, or a file
abbrev pub HasPageShape : List (List ℕ) → Type 0
HasPageShape ws = ((length ws ≡ 2) × (get_or ws 1 [] ≡ codes "anon")) ⊎ ((length ws ≡ 5) × (get_or ws 1 [] ≡ codes "file") × (get_or ws 3 [] ≡ codes "fill"))

-- so are those of a locked page, which has one word more
abbrev pub HasLockedShape : List (List ℕ) → Type 0
HasLockedShape ws =
    ((length ws ≡ 3) × (get_or ws 1 [] ≡ codes "anon") × (get_or ws 2 [] ≡ codes "locked"))
    ⊎ ((length ws ≡ 6) × (get_or ws 1 [] ≡ codes "file") × (get_or ws 3 [] ≡ codes "fill") × (get_or ws 5 [] ≡ codes "locked"))

-- the words behind a keyword are as many as they must be, and the fixed words are in place
abbrev pub HasShape : Keyword → List (List ℕ) → Type 0
HasShape keywords.Hwp ws = (v : Version) × (ws ≡ decimal (number v) ∷ [])
HasShape keywords.Cpus ws = length ws ≡ 1
HasShape keywords.Frames ws = length ws ≡ 1
HasShape keywords.Kernel ws = length ws ≡ 1
HasShape keywords.Recovery ws = length ws ≡ 1
HasShape keywords.Early ws = length ws ≡ 1
HasShape keywords.File ws = length ws ≡ 1
HasShape keywords.Proc ws = length ws ≡ 1
HasShape keywords.Thread ws = (length ws ≡ 4) × ((handler : Bool) × (get_or ws 3 [] ≡ handler_text handler))
HasShape keywords.Guest ws = length ws ≡ 1
HasShape keywords.Page ws = HasPageShape ws ⊎ HasLockedShape ws
HasShape keywords.Trans ws = length ws ≡ 3
HasShape keywords.Cow ws = length ws ≡ 2
HasShape keywords.Cpu ws = length ws ≡ 1
HasShape (keywords.Command w) ws = HasCommandShape w ws
HasShape keywords.Schedule ws = (0 < length ws) × All HasTurnShape ws
HasShape keywords.End ws = length ws ≡ 0

-- in the places of numbers and of register words of a command stand such
abbrev pub HaveCommandNumbers : CommandWord → List (List ℕ) → Type 0
HaveCommandNumbers words.Log ws = All IsRegisterWord ws
HaveCommandNumbers words.Raise ws = All IsNumberWord (drop 1 ws)
HaveCommandNumbers w ws = All IsNumberWord ws

-- the words are as many as they must be, and their numbers stand in place, and yet they are no command: a number is
-- outside its range
pub record IsCommandOver (word : CommandWord) (ws : List (List ℕ)) : Type 0 where
  pub shaped : HasCommandShape word ws
  pub numbers : HaveCommandNumbers word ws
  pub none : (c : Command) → IsCommand word ws c → ⊥

-- in the places of numbers, register words and schedule words of a line stand such
abbrev pub HaveNumbers : Keyword → List (List ℕ) → Type 0
HaveNumbers keywords.Hwp ws = Unit {0}
HaveNumbers keywords.Thread ws = All IsNumberWord (take 3 ws)
HaveNumbers keywords.Page ws = IsNumberWord (get_or ws 0 []) × (3 < length ws → IsNumberWord (get_or ws 2 []) × IsNumberWord (get_or ws 4 []))
HaveNumbers (keywords.Command w) ws = HaveCommandNumbers w ws
HaveNumbers keywords.Schedule ws = All IsTurnWord ws
HaveNumbers keywords.End ws = Unit {0}
HaveNumbers k ws = All IsNumberWord ws

-- a keyword's shape fits the words, and their numbers stand in place, and yet they are no line: a number is outside its
-- range
pub record IsSentenceOver (k : Keyword) (ws : List (List ℕ)) : Type 0 where
  pub shaped : HasShape k ws
  pub numbers : HaveNumbers k ws
  pub none : (f : ScriptLine) → IsSentence k ws f → ⊥

-- the first word of the head, of the end, of a translation, of a twin, of a command, of a schedule, of a thread, and of a page
abbrev pub header_keyword : Keyword
header_keyword = keywords.Hwp

abbrev pub end_keyword : Keyword
end_keyword = keywords.End

abbrev pub trans_keyword : Keyword
trans_keyword = keywords.Trans

abbrev pub cow_keyword : Keyword
cow_keyword = keywords.Cow

abbrev pub command_keyword : CommandWord → Keyword
command_keyword word = keywords.Command word

abbrev pub schedule_keyword : Keyword
schedule_keyword = keywords.Schedule

abbrev pub thread_keyword : Keyword
thread_keyword = keywords.Thread

abbrev pub page_keyword : Keyword
page_keyword = keywords.Page

-- a byte that a word may have: no control character, and none beyond ASCII
abbrev pub IsPrintable : ℕ → Type 0
IsPrintable b = (32 ≤ b) × (b ≤ 126)

-- the words are printable, and a keyword's shape fits them
pub record IsShaped (ws : List (List ℕ)) : Type 0 where
  pub printable : All (All IsPrintable) ws
  pub first : Keyword
  pub rest : List (List ℕ)
  pub same : ws ≡ keyword_text first ∷ rest
  pub shape : HasShape first rest

-- the first words of commands that version Two alone has
abbrev pub is_newer_word : CommandWord → Bool
is_newer_word words.Open = true
is_newer_word words.Watch = true
is_newer_word words.Fork = true
is_newer_word w = false

-- a keyword with so many words behind it has a form in version Two alone
abbrev pub is_newer : Keyword → ℕ → Bool
is_newer (keywords.Command w) count = is_newer_word w
is_newer keywords.Page count = (count == 3) || (count == 6)
is_newer keywords.Guest count = true
is_newer keywords.Cow count = true
is_newer k count = false

-- no shape fits the words
abbrev pub IsUnknown : List (List ℕ) → Type 0
IsUnknown ws = IsShaped ws → ⊥

-- a shape fits the words, and in the place of a number, a register word or a schedule word stands what is none; `newer`
-- says whether it is a shape of version Two alone
pub record IsBadNumber (ws : List (List ℕ)) (newer : Bool) : Type 0 where
  pub shaped : IsShaped ws
  pub version : newer ≡ is_newer shaped.first (length shaped.rest)
  pub none : HaveNumbers shaped.first shaped.rest → ⊥

-- all numbers stand in their places, and yet the words are no line: a number is outside its range; `newer` says whether
-- their shape is one of version Two alone
pub record IsOverLimit (ws : List (List ℕ)) (newer : Bool) : Type 0 where
  pub shaped : IsShaped ws
  pub version : newer ≡ is_newer shaped.first (length shaped.rest)
  pub numbers : HaveNumbers shaped.first shaped.rest
  pub none : (f : ScriptLine) → IsForm ws f → ⊥
