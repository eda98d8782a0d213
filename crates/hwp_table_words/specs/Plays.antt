-- What the steps of a seat tell.
use Rattle.std.specs.Prelude.{◌≡◌, ℕ, false, List, [], ◌∷◌, Some, None, slice_index}
use Rattle.atomic_table.specs.Table.{rest}
use Rattle.hwp_core_rule.specs.hwp_geom.declared.Layout.{Layout}
use Rattle.hwp_core_rule.specs.hwp_geom.declared.Version.TheVariants as versions
use Rattle.hwp_core_rule.specs.hwp_geom.declared.Who.{Who}
use Rattle.hwp_core_rule.specs.declared.Rec.{Rec}
use Rattle.hwp_core_rule.specs.declared.SlotMove.{SlotMove}
use Rattle.hwp_core_rule.specs.declared.SlotMove.TheVariants as moves
use Rattle.hwp_core_rule.specs.declared.Step.{Step}
use Rattle.hwp_core_rule.specs.declared.Step.TheVariants as steps
use Rattle.hwp_core_rule.specs.declared.View.{View}
use Rattle.hwp_core_rule.specs.Moves.{Told}
use Rattle.hwp_core_rule.specs.Opening.{opening_view}
use Rattle.hwp_core_rule.specs.SlotMoves.{slot_move, takes, Meets}
use Rattle.hwp_core_rule.specs.Steps.{place_of}
use Rattle.hwp_core_rule.specs.Views.{view_after}
use Rattle.hwp_core_rule.specs.Words.{index}
use Rattle.hwp_core_rule.specs.Calls.{FitsLayout, logs, rec_of}
use Rattle.hwp_table_words.specs.Known.{Whole, known_after}
use Rattle.hwp_table_words.specs.Stands.{Content, FirstMe, Me, first_me}
use Rattle.hwp_table_words.specs.tlb.Rule.{frames_of}
use Rattle.hwp_table_words.specs.tlb.Steps.{caching_after}

-- a step that is to be made: on which machine, of which processor with this view, of which command, which step, and the
-- content that goes home with it; and how many words the translation caches have
pub record Call : Type 0 where
  pub layout : Layout
  pub cpu : ℕ
  pub mine : View
  pub who : Who
  pub step : Step
  pub put : Content
  pub places : ℕ

-- a step of a machine that has nothing
abbrev pub no_call : Call
no_call = record {
  layout = record { version = versions.One; cpus = 0; frames = 0; kernel = []; recovery = false; early = false; files = 0; procs = 0; threads = []; pages = []; trans = []; locked = []; twins = []; guests = [] };
  cpu = 0;
  mine = opening_view 0;
  who = record { cpu = record { 0 = 0 }; seq = 0 };
  step = steps.GiveUp;
  put = None;
  places = 0;
}

abbrev pub rec : Call → ℕ → Content → Rec
rec call found got = rec_of call.layout call.who call.step (logs call.put) found got

-- the slots that a seat carries after one of them moved
abbrev pub carried : SlotMove → Content → List (ℕ × Content) → List (ℕ × Content)
carried moves.Stays got slots = slots
carried (moves.Out slot) got slots = (slot, got) ∷ slots
carried (moves.Home slot) got slots = rest slots

-- a slot that goes home is the first that the seat carries, and has this content
abbrev pub IsFront : SlotMove → Content → List (ℕ × Content) → Type 0
IsFront (moves.Home slot) put slots = slots ≡ (slot, put) ∷ rest slots
IsFront move put slots = Unit {0}

-- one that knows the whole knew the word that it met, and the content of the slot that it took
pub record Finds (layout : Layout) (r : Rec) (w : Whole) : Type 0 where
  pub word : r.found ≡ slice_index w.words (index layout (place_of r.step))
  pub slot : Meets layout w.homes r.step r.found r.content

-- the step was made
pub record Makes (call : Call) (m : FirstMe) (found : ℕ) (n : FirstMe) : Type 0 where
  pub got : Content
  pub told : Told call.layout (rec call found got) call.mine (view_after call.layout (rec call found got) call.mine)
  pub layout_is : FitsLayout call.layout got
  pub none : takes call.layout call.step found ≡ false → got ≡ None
  pub known : n.0 ≡ known_after call.layout call.cpu (rec call found got) m.0
  pub slots : n.1 ≡ carried (slot_move call.layout call.step found) got m.1
  pub whole : (w : Whole) → m.0.whole ≡ Some w → Finds call.layout (rec call found got) w

-- and what the seat knows of the translation caches followed
pub record IsMade (call : Call) (m : Me) (found : ℕ) (n : Me) : Type 0 where
  pub makes : Makes call (first_me m) found (first_me n)
  pub caching : n.0.caching ≡ caching_after call.places call.step found (frames_of call.mine.locks) m.0.caching
