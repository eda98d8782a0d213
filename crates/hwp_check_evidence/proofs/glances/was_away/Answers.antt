use Rattle.std.proofs.Common.{not, Bool, ap, ◌∙◌, sym}
use Rattle.std.specs.Option.{option_copied}
use Rattle.hwp_law.specs.hwp_page.Refusals.{IsAway}
use Rattle.hwp_check_evidence.specs.declared.glances.Glance.{Glance}
use Rattle.hwp_check_evidence.proofs.GlanceLaws.{away-by, had-by, had-never}
use Rattle.hwp_check_evidence.proofs.glances.was_away.Goals as goal

pub returns-in-Some : goal.returns-in-Some
returns-in-Some c =
    had-by c.args.layout.now c.args.pages.now c.args.all.now c.requires c.args.at (λ (g : Glance) (locked : Bool). not g.cached) IsAway away-by c.in-Some.glance.now (sym c.glance_at.ensures ∙ ap option_copied c.in-Some.is)

pub returns-in-None : goal.returns-in-None
returns-in-None c = had-never c.args.layout.now c.args.pages.now c.args.all.now c.requires c.args.at IsAway (sym c.glance_at.ensures ∙ ap option_copied c.in-None.is)
