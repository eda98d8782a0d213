-- Where all tasks are over no failure is open: each is the claim of a task that isn't over.
use Rattle.std.proofs.Common.{ℕ}
use Rattle.hwp_law_served.specs.hwp_geom.declared.Frame.{Frame}
use Rattle.hwp_law_served.specs.hwp_core_rule.Boards.{view_of}
use Rattle.hwp_law_served.specs.hwp_core_rule.Classes.{TellsClass}
use Rattle.hwp_law_served.specs.hwp_core_rule.Ranks.{Pending}
use Rattle.hwp_law_served.specs.hwp_core_rule.Turns.{Member}
use Rattle.hwp_law_served.specs.hwp_plain.Order.{AreOver, Running, seat_of}
use Rattle.hwp_law_served.specs.hwp_plain.Rank.{words_in}
use Rattle.hwp_law_served.specs.hwp_plain.Ready.{IsCrew}

pub settled-when-over : {S : Type 0} (m : Member S) (a : Running S) → TellsClass m → IsCrew m a → AreOver m a.tasks → (frame : Frame) (cycle : ℕ) → Pending (words_in a) frame cycle → ⊥
settled-when-over m a tells crew over frame cycle pending =
    let c = crew.claimed frame cycle pending in
    (tells.claim a.layout (view_of a.state (seat_of a c.cpu)) c.task frame cycle (crew.fits c.cpu c.task c.at) c.claims).1 (over c.cpu c.task c.at)
