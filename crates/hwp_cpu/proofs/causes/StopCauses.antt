-- What a command that made no entry, or only such as it can on its way, knows of its answer `stopped`.
use Rattle.std.proofs.Common.{List, slice_get, sym, ap, ◌∙◌}
use Rattle.std.proofs.lemmas.Option.{none-some}
use Rattle.hwp_law_served.specs.hwp_geom.declared.Layout.{Layout}
use Rattle.hwp_law_served.specs.hwp_geom.declared.Who.{Who}
use Rattle.hwp_law_served.specs.hwp_core_rule.declared.Made.{Made}
use Rattle.hwp_law_served.specs.hwp_core_rule.declared.View.{View}
use Rattle.hwp_law_served.specs.hwp_script_words.declared.Command.{Command}
use Rattle.hwp_law_served.specs.hwp_core_rule.Known.{HasMadeNone, HasOnly}
use Rattle.hwp_law_served.specs.hwp_claim_frame.Claims.{IsStopped}
use Rattle.hwp_law_served.specs.Causes.{FoundStopped}

-- each entry of a command that made none is so
pub only-none : (Such : Made → Type 0) (view : View) (who : Who) → HasMadeNone view who → HasOnly Such view who
only-none Such view who none i m there = absurd (none-some m (sym (ap (λ (l : List Made). slice_get l i) none) ∙ there))

pub found-stopped : (layout : Layout) (command : Command) (view : View) (who : Who) → IsStopped view who → HasMadeNone view who → FoundStopped layout view who command
found-stopped layout command view who stopped none = record { stopped = stopped; only = only-none _ view who none }
