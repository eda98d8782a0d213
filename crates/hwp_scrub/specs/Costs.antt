-- Why a scrub ends.
use Rattle.std.specs.Prelude.{ℕ, ◌+◌, ◌-◌, ◌*◌, Bool, false, Option, None}
use Rattle.hwp_claim.specs.hwp_geom.declared.Frame.{Frame}
use Rattle.hwp_claim.specs.hwp_core_rule.Words.{Words}
use Rattle.hwp_claim.specs.Handlers as handlers
use Rattle.hwp_scrub.specs.declared.scrub.Scrub.{Scrub}
use Rattle.hwp_scrub.specs.declared.scrub.ScrubAt.{ScrubAt}
use Rattle.hwp_scrub.specs.declared.scrub.ScrubAt.TheVariants as at

abbrev pub class_at : ScrubAt → ℕ
class_at (at.Handle frame h) = handlers.class h
class_at _ = 4

abbrev pub class : Scrub → ℕ
class s = class_at s.at

abbrev pub claims_at : ScrubAt → Option (Frame × ℕ)
claims_at (at.Handle frame h) = handlers.claims h
claims_at _ = None

abbrev pub claims : Scrub → Option (Frame × ℕ)
claims s = claims_at s.at

abbrev pub aborts_at : ScrubAt → Bool
aborts_at (at.Handle frame h) = handlers.aborts h
aborts_at _ = false

abbrev pub aborts : Scrub → Bool
aborts s = aborts_at s.at

-- a frame costs two looks, and between them a machine check of three events that begins
abbrev pub frame_cost : ℕ
frame_cost = 8

-- the frames that come after this one
abbrev pub rest_cost : Frame → Frame → ℕ
rest_cost last frame = frame_cost * (last.0 - frame.0)

abbrev pub cost_at : Frame → Frame → ScrubAt → Words → ℕ
cost_at first last at.LoadStop words = rest_cost last first + 9
cost_at first last (at.LoadBad frame) words = rest_cost last frame + 8
cost_at first last (at.Handle frame h) words = rest_cost last frame + 3 + handlers.cost h words
cost_at first last (at.LoadWeak frame) words = rest_cost last frame + 2
cost_at first last at.GiveUp words = 1
cost_at first last (at.Over answer) words = 0

abbrev pub cost : Scrub → Words → ℕ
cost s words = cost_at s.first s.last s.at words
