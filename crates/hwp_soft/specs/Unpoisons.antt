-- A frame's poison taken back: the task's states, its steps and what they come to.
use Rattle.std.specs.Prelude.{◌≡◌, ◌≢◌, ℕ, ◌+◌, ◌*◌, ◌<◌, ◌==◌, ◌&&◌, Bool, true, false, not, cond, [], ◌∷◌, Option, Some, None, slice_index}
use Rattle.hwp_claim_frame.specs.hwp_geom.declared.Cpu.{Cpu}
use Rattle.hwp_claim_frame.specs.hwp_geom.declared.Frame.{Frame}
use Rattle.hwp_claim_frame.specs.hwp_geom.declared.Layout.{Layout}
use Rattle.hwp_claim_frame.specs.hwp_geom.declared.Who.{Who}
use Rattle.hwp_claim_frame.specs.hwp_geom.Limits.{command_limit}
use Rattle.hwp_claim_frame.specs.hwp_words.Counters.{hardware_of}
use Rattle.hwp_claim_frame.specs.hwp_words.Frames.{count_of, cycle_of, is_handled, is_locked, is_poisoned, owner_of}
use Rattle.hwp_claim_frame.specs.hwp_words.Stops.{is_stopped}
use Rattle.hwp_claim_frame.specs.hwp_core_rule.declared.Mark.{Mark}
use Rattle.hwp_claim_frame.specs.hwp_core_rule.declared.MarkKind.TheVariants as mark_kinds
use Rattle.hwp_claim_frame.specs.hwp_core_rule.declared.SharedWord.TheVariants as places
use Rattle.hwp_claim_frame.specs.hwp_core_rule.declared.Step.{Step}
use Rattle.hwp_claim_frame.specs.hwp_core_rule.declared.Step.TheVariants as steps
use Rattle.hwp_claim_frame.specs.hwp_core_rule.declared.View.{View}
use Rattle.hwp_claim_frame.specs.hwp_core_rule.Lists.{SomeMember}
use Rattle.hwp_claim_frame.specs.hwp_core_rule.Views.{unpoisoned}
use Rattle.hwp_claim_frame.specs.hwp_core_rule.Words.{Words}
use Rattle.hwp_claim_frame.specs.hwp_core_rule.parts.Marks.{revivals_by}
use Rattle.hwp_claim_frame.specs.hwp_core_rule.declared.Turn.{Turn}
use Rattle.hwp_claim_frame.specs.hwp_core_rule.declared.Turn.TheVariants.{Moved, Changed}
use Rattle.hwp_claim_frame.specs.hwp_core_rule.Calls.{IsOnTurn}
use Rattle.hwp_claim_frame.specs.hwp_core_rule.Hands.{Hand, hand_of, empty}
use Rattle.hwp_claim_frame.specs.hwp_core_rule.Ranks.{stale, failure_weight, stale_weight}
use Rattle.hwp_claim_frame.specs.hwp_core_rule.Known.{HasMadeNone, Saw, SawStop}
use Rattle.hwp_claim_frame.specs.hwp_core_rule.Turns.{Member}
use Rattle.hwp_soft.specs.declared.unpoison.Unpoison.{Unpoison}
use Rattle.hwp_soft.specs.declared.unpoison.UnpoisonAt.{UnpoisonAt}
use Rattle.hwp_soft.specs.declared.unpoison.UnpoisonAt.TheVariants as at
use Rattle.hwp_soft.specs.declared.unpoison.UnpoisonAnswer.{UnpoisonAnswer}
use Rattle.hwp_soft.specs.declared.unpoison.UnpoisonAnswer.TheVariants as answers

abbrev pub begin : Who → Frame → Unpoison
begin who frame = record { who = who; frame = frame; at = at.LoadStop }

abbrev pub plan_at : Frame → UnpoisonAt → Option Step
plan_at frame at.LoadStop = Some (steps.Load places.Stop)
plan_at frame at.LoadFrame = Some (steps.Load (places.Frame frame))
plan_at frame (at.LoadCount seen) = Some (steps.Load places.Counter)
plan_at frame (at.LoadBad seen) = Some (steps.Load (places.Bad frame))
plan_at frame (at.Revive seen) = Some (steps.Revive frame seen)
plan_at frame (at.Uncount cycle) = Some steps.Uncount
plan_at frame (at.GiveBit cycle) = Some (steps.GiveBit frame)
plan_at frame (at.Unreserve cycle) = Some steps.Unreserve
plan_at frame (at.Over answer) = None

abbrev pub plan : Unpoison → Option Step
plan u = plan_at u.frame u.at

-- the frame's failure has been handled, and nobody has the frame: it is unlocked, without owner, and counted for that alone
abbrev pub is_revivable : ℕ → Bool
is_revivable word = is_handled word && (not (is_locked word) && ((owner_of word == 0) && (count_of word == 1)))

-- what follows the stop word
abbrev pub after_stop : ℕ → UnpoisonAt
after_stop word = cond (is_stopped word) (at.Over answers.Stopped) at.LoadFrame

-- what follows the frame's word
abbrev pub after_frame : ℕ → UnpoisonAt
after_frame seen = cond (is_poisoned seen) (at.LoadCount seen) (at.Over answers.NotPoisoned)

-- what follows the counter word: a failure that the hardware reported bars all unpoisoning
abbrev pub after_count : ℕ → ℕ → UnpoisonAt
after_count seen word = cond (hardware_of word == 0) (at.LoadBad seen) (at.Over answers.HardwareSeen)

-- what follows the bad lines of a frame whose word was this
abbrev pub after_bad : ℕ → ℕ → UnpoisonAt
after_bad seen word =
    cond (word == 0) (cond (is_revivable seen) (at.Revive seen) (at.Over (answers.InUse (count_of seen)))) (at.Over (answers.HasBad (record { 0 = word })))

-- what follows the exchange: a word that has changed meanwhile is looked at again
abbrev pub after_revive : ℕ → ℕ → UnpoisonAt
after_revive seen word = cond (word == seen) (at.Uncount (cycle_of word)) at.LoadFrame

abbrev pub next_at : UnpoisonAt → ℕ → UnpoisonAt
next_at at.LoadStop found = after_stop found
next_at at.LoadFrame found = after_frame found
next_at (at.LoadCount seen) found = after_count seen found
next_at (at.LoadBad seen) found = after_bad seen found
next_at (at.Revive seen) found = after_revive seen found
next_at (at.Uncount cycle) found = at.GiveBit cycle
next_at (at.GiveBit cycle) found = at.Unreserve cycle
next_at (at.Unreserve cycle) found = at.Over (answers.Done cycle)
next_at (at.Over answer) found = at.Over answer

abbrev pub next : Unpoison → ℕ → Unpoison
next u found = record u { at = next_at u.at found }

abbrev pub turn_at : UnpoisonAt → ℕ → Turn
turn_at (at.Revive seen) found = cond (found == seen) Moved (Changed found)
turn_at _ found = Moved

abbrev pub turn : Unpoison → ℕ → Turn
turn u found = turn_at u.at found

abbrev pub answer_at : UnpoisonAt → Option UnpoisonAnswer
answer_at (at.Over answer) = Some answer
answer_at _ = None

abbrev pub answer : Unpoison → Option UnpoisonAnswer
answer u = answer_at u.at

-- ---- why the command answers so

-- a step of it showed the frame's word, of which this is so
pub record SawFrame (view : View) (who : Who) (frame : Frame) (Such : ℕ → Type 0) : Type 0 where
  pub word : ℕ
  pub such : Such word
  pub saw : Saw view who (places.Frame frame) word

-- a step of it showed that the hardware had reported a failure
pub record SawHardware (view : View) (who : Who) : Type 0 where
  pub word : ℕ
  pub some : 0 < hardware_of word
  pub saw : Saw view who places.Counter word

-- a step of it showed that the hardware had reported none
pub record SawNoHardware (view : View) (who : Who) : Type 0 where
  pub word : ℕ
  pub none : hardware_of word ≡ 0
  pub saw : Saw view who places.Counter word

-- the word of a poisoned frame that is in use, with this count
abbrev pub IsUsed : ℕ → ℕ → Type 0
IsUsed count word = (is_poisoned word ≡ true) × (is_revivable word ≡ false) × (count_of word ≡ count)

-- steps of it showed that the frame was poisoned and its poison could be taken back, that the hardware had reported no failure, and
-- that the frame had no bad line
pub record SawRevivable (view : View) (who : Who) (frame : Frame) : Type 0 where
  pub revivable : SawFrame view who frame (λ (word : ℕ). (is_poisoned word ≡ true) × (is_revivable word ≡ true))
  pub counter : SawNoHardware view who
  pub bad : Saw view who (places.Bad frame) 0

-- the command took the frame's poison of this cycle back
abbrev pub HasRevived : View → Who → Frame → ℕ → Type 0
HasRevived view who frame cycle = SomeMember (λ (m : Mark). (m.stamp.who ≡ who) × (m.frame ≡ frame) × (m.cycle ≡ cycle) × (m.kind ≡ mark_kinds.Revived)) view.marks

-- what steps of it showed, and the mark that it made
abbrev pub RestsOn : View → Who → Frame → UnpoisonAnswer → Type 0
RestsOn view who frame (answers.Done cycle) = HasRevived view who frame cycle × SawRevivable view who frame
RestsOn view who frame answers.Stopped = SawStop view who
RestsOn view who frame answers.NotPoisoned = SawFrame view who frame (λ (word : ℕ). is_poisoned word ≡ false)
RestsOn view who frame answers.HardwareSeen = SawHardware view who
RestsOn view who frame (answers.HasBad mask) = (mask.0 ≢ 0) × Saw view who (places.Bad frame) mask.0
RestsOn view who frame (answers.InUse count) = SawFrame view who frame (IsUsed count)

-- and the command made no entry
abbrev pub IsCaused : View → Who → Frame → UnpoisonAnswer → Type 0
IsCaused view who frame answer = HasMadeNone view who × RestsOn view who frame answer

-- ---- what is held and known

-- the processor can take a poison back once more
abbrev pub HasRevivalLeft : Cpu → View → Type 0
HasRevivalLeft cpu view = revivals_by cpu view.marks < command_limit

-- so it can, and the frame's word was seen, with its poison
pub record SawPoisoned (view : View) (who : Who) (frame : Frame) (seen : ℕ) : Type 0 where
  pub left : HasRevivalLeft who.cpu view
  pub poisoned : is_poisoned seen ≡ true
  pub saw : Saw view who (places.Frame frame) seen

abbrev pub FitsAt : View → Who → Frame → UnpoisonAt → Type 0
FitsAt view who frame at.LoadStop = HasRevivalLeft who.cpu view
FitsAt view who frame at.LoadFrame = HasRevivalLeft who.cpu view
FitsAt view who frame (at.LoadCount seen) = SawPoisoned view who frame seen
FitsAt view who frame (at.LoadBad seen) = SawPoisoned view who frame seen × SawNoHardware view who
FitsAt view who frame (at.Revive seen) = SawPoisoned view who frame seen × (is_revivable seen ≡ true) × SawNoHardware view who × Saw view who (places.Bad frame) 0
FitsAt view who frame (at.Uncount cycle) = HasRevived view who frame cycle × SawRevivable view who frame × (0 < view.owed.uncounts)
FitsAt view who frame (at.GiveBit cycle) = HasRevived view who frame cycle × SawRevivable view who frame
FitsAt view who frame (at.Unreserve cycle) = HasRevived view who frame cycle × SawRevivable view who frame
FitsAt view who frame (at.Over answer) = RestsOn view who frame answer

-- the frame is in hand from its exchange on, until its bit is given back; then its place is reserved
abbrev pub hand_at : Frame → UnpoisonAt → Hand
hand_at frame (at.Uncount cycle) = record empty { hands = unpoisoned frame ∷ [] }
hand_at frame (at.GiveBit cycle) = record empty { hands = unpoisoned frame ∷ [] }
hand_at frame (at.Unreserve cycle) = record empty { reserved = 1 }
hand_at frame _ = empty

-- the command makes no entry, and the frame is one of the machine
pub record Fits (layout : Layout) (view : View) (u : Unpoison) : Type 0 where
  pub on_turn : IsOnTurn view u.who
  pub hand_is : hand_of view ≡ hand_at u.frame u.at
  pub made : HasMadeNone view u.who
  pub frame : u.frame.0 < layout.frames
  pub at : FitsAt view u.who u.frame u.at

-- ---- the rank

-- 1 while the frame is in hand, or its place reserved
abbrev pub class_at : UnpoisonAt → ℕ
class_at (at.Uncount cycle) = 1
class_at (at.GiveBit cycle) = 1
class_at (at.Unreserve cycle) = 1
class_at _ = 4

abbrev pub class : Unpoison → ℕ
class u = class_at u.at

-- the weight of the two failures that a frame may have once more when its poison is taken back
abbrev pub premium : ℕ
premium = 2 * failure_weight

-- the frame's word is no longer the one that was seen
abbrev pub stale_word : Frame → ℕ → Words → ℕ
stale_word frame seen words = stale (slice_index words.frames frame.0 == seen)

-- the turns that are left, where no word changes
abbrev pub cost_at : Frame → UnpoisonAt → Words → ℕ
cost_at frame at.LoadStop words = premium + 8
cost_at frame at.LoadFrame words = premium + 7
cost_at frame (at.LoadCount seen) words = premium + 6 + stale_word frame seen words
cost_at frame (at.LoadBad seen) words = premium + 5 + stale_word frame seen words
cost_at frame (at.Revive seen) words = premium + 4 + stale_word frame seen words
cost_at frame (at.Uncount cycle) words = 3
cost_at frame (at.GiveBit cycle) words = 2
cost_at frame (at.Unreserve cycle) words = 1
cost_at frame (at.Over answer) words = 0

abbrev pub cost : Unpoison → Words → ℕ
cost u words = cost_at u.frame u.at words

-- it is no more than this
abbrev pub unpoison_most : ℕ
unpoison_most = premium + stale_weight + 8

-- the task, as the laws of tasks read it
abbrev pub task : Member Unpoison
task = record {
  who = λ u. u.who;
  plan = plan;
  put = λ u. None;
  bare = λ u. u;
  shows = λ u found got. Unit {0};
  next = λ layout u found got after result. (after ≡ next u found) × (result ≡ turn u found);
  fits = Fits;
  class = class;
  cost = cost;
  aborts = λ u. false;
  claims = λ u. None;
}
