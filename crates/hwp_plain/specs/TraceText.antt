-- The text of a trace: lines of words.
use Rattle.std.specs.Prelude.{ℕ, ◌==◌, Bool, true, false, cond, List, [], ◌∷◌, ◌++◌, Option, Some, None, codes, decimal, flat_map}
use Rattle.std.specs.List.{enumerate_from}
use Rattle.std.specs.Fmt.{signed_decimal}
use Rattle.hwp_core_rule.specs.hwp_geom.Words.{line, hex}
use Rattle.hwp_core_rule.specs.hwp_geom.declared.Cpu.{Cpu}
use Rattle.hwp_core_rule.specs.hwp_geom.declared.Frame.{Frame}
use Rattle.hwp_core_rule.specs.hwp_geom.declared.Page.{Page}
use Rattle.hwp_core_rule.specs.hwp_words.Counters.{counter_reading}
use Rattle.hwp_core_rule.specs.hwp_words.Frames.{frame_reading, is_locked}
use Rattle.hwp_core_rule.specs.hwp_words.Names.{frame_named, page_named}
use Rattle.hwp_core_rule.specs.hwp_words.Policies.{policy_reading}
use Rattle.hwp_core_rule.specs.hwp_words.Stops.{stop_reading}
use Rattle.hwp_core_rule.specs.hwp_words.Translations.{pte_reading}
use Rattle.hwp_core_rule.specs.hwp_words.declared.CounterWord.{CounterWord}
use Rattle.hwp_core_rule.specs.hwp_words.declared.FrameWord.{FrameWord}
use Rattle.hwp_core_rule.specs.hwp_words.declared.PolicyWord.{PolicyWord}
use Rattle.hwp_core_rule.specs.hwp_words.declared.Pte.{Pte}
use Rattle.hwp_core_rule.specs.hwp_words.declared.Pte.TheVariants as ptes
use Rattle.hwp_core_rule.specs.hwp_words.declared.StopWord.{StopWord}
use Rattle.hwp_core_rule.specs.declared.SharedWord.{SharedWord}
use Rattle.hwp_core_rule.specs.declared.SharedWord.TheVariants as places
use Rattle.hwp_core_rule.specs.declared.Turn.{Turn}
use Rattle.hwp_core_rule.specs.declared.Turn.TheVariants as turns
use Rattle.hwp_script_words.specs.Kinds.{kind_text}
use Rattle.hwp_core_rule.specs.hwp_kill.Prctl.{policy_word}
use Rattle.hwp_plain.specs.declared.trace_line.TraceLine.{TraceLine}

-- words, each with a space behind it: the beginning of a line
abbrev pub spaced : List (List ℕ) → List ℕ
spaced [] = []
spaced (w ∷ ws) = w ++ 32 ∷ spaced ws

-- a word that stands there where it holds
abbrev pub flag_words : Bool → List ℕ → List (List ℕ)
flag_words true word = word ∷ []
flag_words false word = []

-- the page in a frame: `owner Q`
abbrev pub owner_words : Option Page → List (List ℕ)
owner_words None = []
owner_words (Some page) = codes "owner" ∷ decimal page.0 ∷ []

-- how often the frame's poison was cleared: `cycle K`, but for 0
abbrev pub cycle_words : ℕ → List (List ℕ)
cycle_words cycle = cond (cycle == 0) [] (codes "cycle" ∷ decimal cycle ∷ [])

-- what is set in a frame's word
abbrev pub mark_words : FrameWord → List (List ℕ)
mark_words w =
    flag_words w.locked (codes "locked") ++ flag_words w.poisoned (codes "poisoned") ++ flag_words w.handled (codes "handled") ++ flag_words w.kernel (codes "kernel")

-- a frame: `count N owner Q locked poisoned handled kernel cycle K`, each but the count only where it is so
abbrev pub frame_words : FrameWord → List (List ℕ)
frame_words w = (codes "count" ∷ decimal w.count ∷ []) ++ owner_words w.owner ++ mark_words w ++ cycle_words w.cycle

-- a translation: `none`, `frame F` or `poison`
abbrev pub pte_words : Pte → List (List ℕ)
pte_words ptes.Empty = codes "none" ∷ []
pte_words (ptes.At frame) = codes "frame" ∷ decimal frame.0 ∷ []
pte_words ptes.Poison = codes "poison" ∷ []

-- where a page is: `none` or `frame F`
abbrev pub in_words : Option Frame → List (List ℕ)
in_words None = codes "none" ∷ []
in_words (Some frame) = codes "frame" ∷ decimal frame.0 ∷ []

-- a page's lock
abbrev pub lock_words : Bool → List (List ℕ)
lock_words true = codes "locked" ∷ []
lock_words false = codes "unlocked" ∷ []

-- the two counts of failures: `poisoned N hardware N`
abbrev pub counter_words : CounterWord → List (List ℕ)
counter_words w = codes "poisoned" ∷ signed_decimal w.poisoned ∷ codes "hardware" ∷ decimal w.hardware ∷ []

-- a process: `alive`, or `ended Q` by a signal in the history of page Q
abbrev pub ended_words : Option Page → List (List ℕ)
ended_words None = codes "alive" ∷ []
ended_words (Some page) = codes "ended" ∷ decimal page.0 ∷ []

-- a thread's policy, and how often it was set
abbrev pub policy_words : PolicyWord → List (List ℕ)
policy_words w = policy_word w.policy ∷ decimal w.settings ∷ []

-- who stopped the machine: `none` or `cpu C`
abbrev pub stopper_words : Option Cpu → List (List ℕ)
stopper_words None = codes "none" ∷ []
stopper_words (Some cpu) = codes "cpu" ∷ decimal cpu.0 ∷ []

-- the stop word: who stopped the machine, and `nomemory` where a processor has given up
abbrev pub stop_words : StopWord → List (List ℕ)
stop_words w = stopper_words w.cpu ++ flag_words w.no_memory (codes "nomemory")

-- what the word of a place says: the table of fields
abbrev pub value_words : SharedWord → ℕ → List (List ℕ)
value_words (places.Frame frame) w = frame_words (frame_reading w)
value_words (places.Trans slot) w = pte_words (pte_reading w)
value_words (places.Cache page) w = in_words (frame_named w)
value_words (places.Page page) w = lock_words (is_locked w)
value_words (places.Free number) w = hex w ∷ []
value_words places.Available w = decimal w ∷ []
value_words (places.Bad frame) w = hex w ∷ []
value_words (places.Weak frame) w = hex w ∷ []
value_words places.Counter w = counter_words (counter_reading w)
value_words (places.Process process) w = ended_words (page_named w)
value_words (places.Policy thread) w = policy_words (policy_reading w)
value_words (places.Loss file) w = codes "lost" ∷ decimal w ∷ []
value_words places.Stop w = stop_words (stop_reading w)

-- the name of a word
abbrev pub place_words : SharedWord → List (List ℕ)
place_words (places.Frame frame) = codes "frame" ∷ decimal frame.0 ∷ []
place_words (places.Trans slot) = codes "trans" ∷ decimal slot.0 ∷ []
place_words (places.Cache page) = codes "cache" ∷ decimal page.0 ∷ []
place_words (places.Page page) = codes "page" ∷ decimal page.0 ∷ []
place_words (places.Free number) = codes "free" ∷ decimal number ∷ []
place_words places.Available = codes "avail" ∷ []
place_words (places.Bad frame) = codes "bad" ∷ decimal frame.0 ∷ []
place_words (places.Weak frame) = codes "weak" ∷ decimal frame.0 ∷ []
place_words places.Counter = codes "count" ∷ []
place_words (places.Process process) = codes "proc" ∷ decimal process.0 ∷ []
place_words (places.Policy thread) = codes "policy" ∷ decimal thread.0 ∷ []
place_words (places.Loss file) = codes "file" ∷ decimal file.0 ∷ []
place_words places.Stop = codes "stop" ∷ []

-- what the word said, and behind `->` what it says now, if the step changed it
abbrev pub change_words : SharedWord → ℕ → ℕ → List (List ℕ)
change_words place before after = value_words place before ++ cond (before == after) [] (codes "->" ∷ value_words place after)

-- what a turn came to
abbrev pub turn_word : Turn → List ℕ
turn_word turns.Moved = codes "moved"
turn_word (turns.Waits word) = codes "waits"
turn_word (turns.Changed word) = codes "changed"
turn_word turns.Answered = codes "answered"
turn_word turns.Finished = codes "finished"
turn_word turns.NoMemory = codes "nomemory"

-- `N C S KIND WORD : VALUE : TURN`, with `VALUE -> VALUE` where the step changed the word
abbrev pub turn_words : ℕ → TraceLine → List (List ℕ)
turn_words number l =
    decimal number ∷ decimal l.who.cpu.0 ∷ decimal l.who.seq ∷ kind_text l.kind
    ∷ (place_words l.place ++ codes ":" ∷ (change_words l.place l.before l.after ++ codes ":" ∷ turn_word l.turn ∷ []))

abbrev pub turn_line : ℕ × TraceLine → List ℕ
turn_line turn = line (turn_words turn.0 turn.1)

-- `hwp-trace 1`, and a line for each turn, with its number
abbrev pub trace_text : List TraceLine → List ℕ
trace_text lines = line (codes "hwp-trace" ∷ codes "1" ∷ []) ++ flat_map turn_line (enumerate_from 0 lines)
