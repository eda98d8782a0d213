-- What a processor knows of one of its commands: the words that its steps showed, the histories that it saw, and the entries
-- that it made.
use Rattle.std.specs.Prelude.{◌≡◌, ◌⊎◌, ℕ, ◌+◌, ◌≤◌, ◌==◌, nat_lt, ◌&&◌, Bool, true, false, cond, List, [], ◌∷◌, ◌++◌, Some, filter}
use Rattle.std.specs.Int.{from_bool}
use Rattle.std.specs.List.{sum_by}
use Rattle.hwp_page.specs.hwp_geom.declared.FileNo.{FileNo}
use Rattle.hwp_page.specs.hwp_geom.declared.Frame.{Frame}
use Rattle.hwp_page.specs.hwp_geom.declared.Layout.{Layout}
use Rattle.hwp_page.specs.hwp_geom.declared.Page.{Page}
use Rattle.hwp_page.specs.hwp_geom.declared.VSlot.{VSlot}
use Rattle.hwp_page.specs.hwp_geom.declared.Who.{Who}
use Rattle.hwp_page.specs.declared.What.{What}
use Rattle.hwp_page.specs.declared.What.TheVariants as entries
use Rattle.hwp_page.specs.Losses.{is_loss, is_same_file}
use Rattle.hwp_words.specs.Stops.{is_stopped}
use Rattle.hwp_core_rule.specs.declared.view.Length.{Length}
use Rattle.hwp_core_rule.specs.declared.log.Log.{Log}
use Rattle.hwp_core_rule.specs.declared.view.Made.{Made}
use Rattle.hwp_core_rule.specs.declared.shared_word.SharedWord.{SharedWord}
use Rattle.hwp_core_rule.specs.declared.shared_word.SharedWord.TheVariants as places
use Rattle.hwp_core_rule.specs.declared.view.Sight.{Sight}
use Rattle.hwp_core_rule.specs.declared.view.View.{View}
use Rattle.hwp_core_rule.specs.Lists.{EachMember, SomeMember}
use Rattle.hwp_core_rule.specs.Logs.{file_of}

-- a step of the command showed the word at the place
abbrev pub IsShown : Who → SharedWord → ℕ → Sight → Type 0
IsShown who place word s = (s.stamp.who ≡ who) × (s.place ≡ place) × (s.word ≡ word)

abbrev pub Saw : View → Who → SharedWord → ℕ → Type 0
Saw view who place word = SomeMember (IsShown who place word) view.sights

-- the losses of the file that the view lists of commands before this one
abbrev pub earlier_losses : Layout → FileNo → Who → View → ℕ
earlier_losses layout file who view =
    sum_by (λ (m : Made). cond (is_same_file file (file_of layout m.page)) (from_bool (is_loss m.entry.what && nat_lt m.entry.who.seq who.seq)) 0) view.made

-- they are at most this
abbrev pub Covers : Layout → View → Who → FileNo → ℕ → Type 0
Covers layout view who file n = earlier_losses layout file who view ≤ n

-- a step of the processor showed the file's loss word at this number
abbrev pub HasSeenLoss : View → FileNo → ℕ → Type 0
HasSeenLoss view file number = SomeMember (λ (s : Sight). (s.place ≡ places.Loss file) × (s.word ≡ number)) view.sights

-- a step of the command showed the word of a frame whose lock its seat has since; where the word is unlocked, the step adopted the
-- frame
abbrev pub IsAdoption : Who → Frame → ℕ → Sight → Type 0
IsAdoption who frame word s = IsShown who (places.Frame frame) word s × ((s.stamp.frame ≡ Some frame) ⊎ (s.stamp.second ≡ Some frame))

abbrev pub SawAdopted : View → Who → Frame → ℕ → Type 0
SawAdopted view who frame word = SomeMember (IsAdoption who frame word) view.sights

-- a step of the command, under the lock of a frame that the page owns, showed which of the frame's lines are bad
abbrev pub IsLook : Who → Page → Frame → ℕ → Sight → Type 0
IsLook who page frame mask s = IsShown who (places.Bad frame) mask s × (s.stamp.frame ≡ Some frame) × (s.stamp.owner ≡ Some (page.0 + 1))

abbrev pub SawBadOf : View → Who → Page → Frame → ℕ → Type 0
SawBadOf view who page frame mask = SomeMember (IsLook who page frame mask) view.sights

-- a step of the command showed that a processor had stopped the machine
pub record SawStop (view : View) (who : Who) : Type 0 where
  pub word : ℕ
  pub stopped : is_stopped word ≡ true
  pub saw : Saw view who places.Stop word

-- a step of the command, under the page's lock, took the page's body, whose history was this
abbrev pub IsMet : Who → Log → Length → Type 0
IsMet who log l = (l.stamp.who ≡ who) × (l.stamp.page ≡ Some log.page) × (l.log ≡ log)

abbrev pub SawLog : View → Who → Log → Type 0
SawLog view who log = SomeMember (IsMet who log) view.lengths

-- the entries that the command made, in the order in which they were listed
abbrev pub is_by : Who → Made → Bool
is_by who m = (m.entry.who.cpu.0 == who.cpu.0) && (m.entry.who.seq == who.seq)

abbrev pub deeds : Who → View → List Made
deeds who view = filter (is_by who) view.made

-- those of them that the test finds
abbrev pub such_deeds : (What → Bool) → Who → View → List Made
such_deeds test who view = filter (λ (m : Made). test m.entry.what) (deeds who view)

-- the command has made these entries, and none beside them
abbrev pub HasMadeNoneBeside : List Made → View → Who → Type 0
HasMadeNoneBeside base view who = deeds who view ≡ base

-- the command has made no entry
abbrev pub HasMadeNone : View → Who → Type 0
HasMadeNone view who = HasMadeNoneBeside [] view who

-- the entry that was made stands at this place of the page's history
abbrev pub IsAt : Page → ℕ → What → Made → Type 0
IsAt page place what m = (m.page ≡ page) × (m.place ≡ place) × (m.entry.what ≡ what)

-- the entry is the failure of a frame
abbrev pub is_failure : What → Bool
is_failure (entries.Fail situation required seen signals) = true
is_failure _ = false

-- an access makes such an entry on its way: the page came into a frame, or the translation into use, or the line was bad
abbrev pub IsOnTheWay : VSlot → ℕ → What → Type 0
IsOnTheWay slot line entries.FaultIn = Unit {0}
IsOnTheWay slot line (entries.Map other) = other ≡ slot
IsOnTheWay slot line (entries.Mce other bad mask) = (other ≡ slot) × (bad ≡ line)
IsOnTheWay slot line _ = ⊥

-- the entry may stand before the one that answers an access: the access made it on its way, in its page; or memory failed, in
-- whichever page
abbrev pub Precedes : Page → VSlot → ℕ → Made → Type 0
Precedes page slot line m = ((m.page ≡ page) × IsOnTheWay slot line m.entry.what) ⊎ (is_failure m.entry.what ≡ true)

-- so far the command has made such entries alone
abbrev pub HasOnly : (Made → Type 0) → View → Who → Type 0
HasOnly Such view who = EachMember Such (deeds who view)

-- beside these entries it has made such alone
pub record HasOnlyBeside (base : List Made) (Such : Made → Type 0) (view : View) (who : Who) : Type 0 where
  pub own : List Made
  pub all : deeds who view ≡ base ++ own
  pub such : EachMember Such own

-- beside these entries the command made such, and then one more at this place of the page's history
pub record HasMadeBeside (base : List Made) (Such : Made → Type 0) (view : View) (who : Who) (page : Page) (place : ℕ) (what : What) : Type 0 where
  pub before : List Made
  pub last : Made
  pub all : deeds who view ≡ base ++ (before ++ last ∷ [])
  pub such : EachMember Such before
  pub at : IsAt page place what last

-- the command made such entries, and then one more at this place
abbrev pub HasMade : (Made → Type 0) → View → Who → Page → ℕ → What → Type 0
HasMade Such view who page place what = HasMadeBeside [] Such view who page place what
