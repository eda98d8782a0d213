-- The losses of files that a command made, of which it owes no more than those.
use Rattle.std.specs.Prelude.{ℕ, ◌≤◌, length}
use Rattle.std.specs.Int.{from_bool}
use Rattle.std.specs.List.{sum_by}
use Rattle.hwp_law.specs.hwp_geom.declared.Who.{Who}
use Rattle.hwp_law.specs.hwp_page.Losses.{is_loss}
use Rattle.hwp_plain.specs.hwp_core_rule.declared.Made.{Made}
use Rattle.hwp_plain.specs.hwp_core_rule.declared.View.{View}
use Rattle.hwp_plain.specs.hwp_core_rule.Known.{deeds}

abbrev pub loss_of : Made → ℕ
loss_of m = from_bool (is_loss m.entry.what)

-- the losses among the entries that the command made
abbrev pub losses_by : Who → View → ℕ
losses_by who view = sum_by loss_of (deeds who view)

-- no more losses are owed than the command made
abbrev pub OwesOwn : Who → View → Type 0
OwesOwn who view = length view.owed.losses ≤ losses_by who view
