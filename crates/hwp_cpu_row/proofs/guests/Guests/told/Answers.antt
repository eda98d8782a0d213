use Rattle.std.proofs.Common.{sym, ◌∙◌, subst}
use Rattle.hwp_claim.specs.hwp_report_text.declared.Answer.{Answer}
use Rattle.hwp_cpu_row.specs.GuestLists.{MayTell}
use Rattle.hwp_cpu_row.proofs.guests.Guests.told.Goals as goal

pub take-requires : goal.take-requires
take-requires c = subst (λ (a : Answer). MayTell c.args.layout.now c.args.self.now c.args.command.now a) c.in-Sigbus.is c.requires c.in-Some.access (sym c.guest_access.ensures ∙ c.in-Some.is)
