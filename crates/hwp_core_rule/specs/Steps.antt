-- The table of steps: the word that a step touches, what the word is after it, and whether the step went through.
use Rattle.std.specs.Prelude.{ℕ, ◌+◌, ◌-◌, ◌*◌, ◌/◌, ◌%◌, ◌^◌, ◌==◌, Bool, true, not, Option, Some, None, bit_and, bit_or, bit_xor}
use Rattle.std.specs.Int.{bit_not, w64, from_bool}
use prog.Atomic.{either}
use Rattle.hwp_page.specs.hwp_geom.declared.Damage.{Damage}
use Rattle.hwp_page.specs.hwp_geom.declared.Damage.TheVariants as damages
use Rattle.hwp_page.specs.hwp_geom.declared.Frame.{Frame}
use Rattle.hwp_page.specs.hwp_geom.declared.Kind.{Kind}
use Rattle.hwp_page.specs.hwp_geom.declared.Kind.TheVariants as kinds
use Rattle.hwp_page.specs.hwp_kill.declared.Policy.{Policy}
use Rattle.hwp_words.specs.Frames.{is_locked, count_of}
use Rattle.hwp_words.specs.Names.{frame_name}
use Rattle.hwp_words.specs.Policies.{policy_code}
use Rattle.hwp_words.specs.Translations.{pte_word}
use Rattle.hwp_core_rule.specs.declared.shared_word.SharedWord.{SharedWord}
use Rattle.hwp_core_rule.specs.declared.shared_word.SharedWord.TheVariants as places
use Rattle.hwp_core_rule.specs.declared.step.Step.{Step}
use Rattle.hwp_core_rule.specs.declared.step.Step.TheVariants as steps

-- the word of a frame's free bit, and the bit in it
abbrev pub free_place : Frame → SharedWord
free_place frame = places.Free (frame.0 / 64)

abbrev pub free_mask : Frame → ℕ
free_mask frame = 1 * 2 ^ (frame.0 % 64) % 2 ^ 64

-- the word of a frame's bad lines, or of its weak lines
abbrev pub damage_place : Frame → Damage → SharedWord
damage_place frame damages.Bad = places.Bad frame
damage_place frame damages.Weak = places.Weak frame

-- the word that the step touches
abbrev pub place_of : Step → SharedWord
place_of (steps.Load place) = place
place_of (steps.Reserve seen) = places.Available
place_of (steps.TakeBit frame) = free_place frame
place_of (steps.GiveBit frame) = free_place frame
place_of steps.Unreserve = places.Available
place_of (steps.Adopt frame) = places.Frame frame
place_of (steps.GetRef frame seen count) = places.Frame frame
place_of (steps.PutRef frame count) = places.Frame frame
place_of (steps.LockFrame frame) = places.Frame frame
place_of (steps.UnlockFrame frame) = places.Frame frame
place_of (steps.Retire frame) = places.Frame frame
place_of (steps.Revive frame seen) = places.Frame frame
place_of (steps.SetOwner frame page owned) = places.Frame frame
place_of (steps.LockPage page) = places.Page page
place_of (steps.UnlockPage page) = places.Page page
place_of (steps.SetPte slot pte) = places.Trans slot
place_of (steps.SetCache page frame) = places.Cache page
place_of (steps.Poison frame hardware) = places.Frame frame
place_of (steps.CountPoison hardware) = places.Counter
place_of steps.Uncount = places.Counter
place_of (steps.Spoil frame line damage) = damage_place frame damage
place_of (steps.Stop cpu) = places.Stop
place_of steps.GiveUp = places.Stop
place_of (steps.Kill process page body) = places.Process process
place_of (steps.SetPolicy thread policy settings) = places.Policy thread
place_of (steps.Lose file body) = places.Loss file
place_of (steps.ReportLost file) = places.Loss file

-- the place can be loaded
abbrev pub IsLoaded : SharedWord → Type 0
IsLoaded (places.Page page) = ⊥
IsLoaded (places.Loss file) = ⊥
IsLoaded place = Unit {0}

-- the kind of a load, as schedules name it
abbrev pub load_kind : SharedWord → Option Kind
load_kind (places.Frame frame) = Some kinds.LoadFrame
load_kind (places.Trans slot) = Some kinds.LoadPte
load_kind (places.Cache page) = Some kinds.LoadCache
load_kind (places.Page page) = None
load_kind (places.Free number) = Some kinds.LoadFree
load_kind places.Available = Some kinds.LoadAvail
load_kind (places.Bad frame) = Some kinds.LoadBad
load_kind (places.Weak frame) = Some kinds.LoadBad
load_kind places.Counter = Some kinds.LoadCount
load_kind (places.Process process) = Some kinds.LoadProc
load_kind (places.Policy thread) = Some kinds.LoadPolicy
load_kind (places.Loss file) = None
load_kind places.Stop = Some kinds.LoadStop

-- the kind of a step
abbrev pub kind_of : Step → Option Kind
kind_of (steps.Load place) = load_kind place
kind_of (steps.Reserve seen) = Some kinds.Reserve
kind_of (steps.TakeBit frame) = Some kinds.TakeBit
kind_of (steps.GiveBit frame) = Some kinds.GiveBit
kind_of steps.Unreserve = Some kinds.Unreserve
kind_of (steps.Adopt frame) = Some kinds.Adopt
kind_of (steps.GetRef frame seen count) = Some kinds.GetRef
kind_of (steps.PutRef frame count) = Some kinds.PutRef
kind_of (steps.LockFrame frame) = Some kinds.LockFrame
kind_of (steps.UnlockFrame frame) = Some kinds.UnlockFrame
kind_of (steps.Retire frame) = Some kinds.Retire
kind_of (steps.Revive frame seen) = Some kinds.Revive
kind_of (steps.SetOwner frame page owned) = Some kinds.SetOwner
kind_of (steps.LockPage page) = Some kinds.LockPage
kind_of (steps.UnlockPage page) = Some kinds.UnlockPage
kind_of (steps.SetPte slot pte) = Some kinds.SetPte
kind_of (steps.SetCache page frame) = Some kinds.SetCache
kind_of (steps.Poison frame hardware) = Some kinds.Poison
kind_of (steps.CountPoison hardware) = Some kinds.CountPoison
kind_of steps.Uncount = Some kinds.Uncount
kind_of (steps.Spoil frame line damage) = Some kinds.Spoil
kind_of (steps.Stop cpu) = Some kinds.Stop
kind_of steps.GiveUp = Some kinds.GiveUp
kind_of (steps.Kill process page body) = Some kinds.Kill
kind_of (steps.SetPolicy thread policy settings) = Some kinds.SetPolicy
kind_of (steps.Lose file body) = Some kinds.Lose
kind_of (steps.ReportLost file) = Some kinds.ReportLost

-- what an exchange, a compare-and-exchange, makes of the word that it found
abbrev pub exchanged : ℕ → ℕ → ℕ → ℕ
exchanged seen new found = either (found == seen) new found

-- the frame word of one more cycle: neither poisoned nor handled, and no reference
abbrev pub revived : ℕ → ℕ
revived seen = (seen + (2 ^ 44 - 22)) % 2 ^ 64

-- the policy word after so many settings, of which this is the last policy
abbrev pub policy_at : ℕ → Policy → ℕ
policy_at settings policy = settings * 4 + policy_code policy

-- what the step makes of the word that it found
abbrev pub word_after : Step → ℕ → ℕ
word_after (steps.Load place) found = found
word_after (steps.Reserve seen) found = exchanged seen (seen - 1) found
word_after (steps.TakeBit frame) found = bit_and found (bit_not w64 (free_mask frame))
word_after (steps.GiveBit frame) found = bit_or found (free_mask frame)
word_after steps.Unreserve found = (found + 1) % 2 ^ 64
word_after (steps.Adopt frame) found = (found + 17) % 2 ^ 64
word_after (steps.GetRef frame seen count) found = exchanged seen ((seen + count * 16) % 2 ^ 64) found
word_after (steps.PutRef frame count) found = (found + (2 ^ 64 - count * 16)) % 2 ^ 64
word_after (steps.LockFrame frame) found = bit_or found 1
word_after (steps.UnlockFrame frame) found = bit_and found (bit_not w64 1)
word_after (steps.Retire frame) found = bit_xor found 5
word_after (steps.Revive frame seen) found = exchanged seen (revived seen) found
word_after (steps.SetOwner frame page owned) found = bit_xor found ((page.0 + 1) * 2 ^ 24)
word_after (steps.LockPage page) found = bit_or found 1
word_after (steps.UnlockPage page) found = bit_and found (bit_not w64 1)
word_after (steps.SetPte slot pte) found = pte_word pte
word_after (steps.SetCache page frame) found = frame_name frame
word_after (steps.Poison frame hardware) found = bit_or found 2
word_after (steps.CountPoison hardware) found = (found + (1 + from_bool hardware * 2 ^ 32)) % 2 ^ 64
word_after steps.Uncount found = (found + (2 ^ 64 - 1)) % 2 ^ 64
word_after (steps.Spoil frame line damage) found = bit_or found (1 * 2 ^ line % 2 ^ 64)
word_after (steps.Stop cpu) found = exchanged 0 (cpu.0 + 1) found
word_after steps.GiveUp found = bit_or found (2 ^ 63)
word_after (steps.Kill process page body) found = exchanged 0 (page.0 + 1) found
word_after (steps.SetPolicy thread policy settings) found = policy_at (settings + 1) policy
word_after (steps.Lose file body) found = (found + 1) % 2 ^ 64
word_after (steps.ReportLost file) found = found

-- the step went through, at the word that it found: an exchange met the word that it expects, a lock was free, a bit was
-- there, the poison was not
abbrev pub goes : Step → ℕ → Bool
goes (steps.Reserve seen) found = found == seen
goes (steps.TakeBit frame) found = found / 2 ^ (frame.0 % 64) % 2 == 1
goes (steps.GetRef frame seen count) found = found == seen
goes (steps.LockFrame frame) found = not (is_locked found)
goes (steps.Revive frame seen) found = found == seen
goes (steps.LockPage page) found = not (is_locked found)
goes (steps.Poison frame hardware) found = found / 2 % 2 == 0
goes (steps.Stop cpu) found = found == 0
goes (steps.Kill process page body) found = found == 0
goes step found = true

-- with this step the last reference is given back
abbrev pub is_last : ℕ → ℕ → Bool
is_last count found = count_of found == count
