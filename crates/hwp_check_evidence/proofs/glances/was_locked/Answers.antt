use Rattle.std.proofs.Common.{◌↔◌, ◌&&◌, Bool, IsTrue, ap, ◌∙◌, sym, subst}
use Rattle.std.specs.Option.{option_copied}
use Rattle.hwp_law.specs.hwp_page.Refusals.{IsLockedIn}
use Rattle.hwp_law.specs.States.{HadState}
use Rattle.hwp_check_evidence.specs.declared.glances.Glance.{Glance}
use Rattle.hwp_check_evidence.proofs.GlanceLaws.{had-by, had-never, locked-by}
use Rattle.hwp_check_evidence.proofs.glances.was_locked.Goals as goal

pub returns-in-Some : goal.returns-in-Some
returns-in-Some c =
    subst (λ (b : Bool). IsTrue b ↔ HadState c.args.layout.now c.args.pages.now c.args.at IsLockedIn)
    (sym (c.is_locked_in.ensures ∙ ap (λ (locked : Bool). c.in-Some.glance.now.cached && locked) c.is_locked.ensures))
    (had-by c.args.layout.now c.args.pages.now c.args.all.now c.requires c.args.at (λ (g : Glance) (locked : Bool). g.cached && locked) IsLockedIn locked-by c.in-Some.glance.now (sym c.glance_at.ensures ∙ ap option_copied c.in-Some.is))

pub returns-in-None : goal.returns-in-None
returns-in-None c = had-never c.args.layout.now c.args.pages.now c.args.all.now c.requires c.args.at IsLockedIn (sym c.glance_at.ensures ∙ ap option_copied c.in-None.is)
