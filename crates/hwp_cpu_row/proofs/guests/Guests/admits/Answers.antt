use Rattle.std.proofs.Common.{◌≡◌, ◌≤◌, List, get_or, length, sym, subst, ◌∙◌, arith}
use Rattle.std.proofs.lemmas.Bool.{ltb-false}
use Rattle.hwp_claim.specs.hwp_guest.declared.Admit.TheVariants as admissions
use Rattle.hwp_claim.specs.hwp_guest.GuestState.{GuestState, admitted}
use Rattle.hwp_claim.specs.hwp_law.GuestRule.{new_guest}
use Rattle.hwp_cpu_row.proofs.GuestListLaws.{new-admits}
use Rattle.hwp_cpu_row.proofs.guests.Guests.admits.Goals as goal

pub returns-in-None : goal.returns-in-None
returns-in-None c =
    let past : length c.deref.result.now ≤ c.from.result = ltb-false c.from.result (length c.deref.result.now) (sym c.in-None.ensures.lookup.0) in
    let same = c.from.ensures in
    subst (λ (l : List GuestState). admissions.Yes ≡ admitted (get_or l c.args.process.0 new_guest) c.args.slot.0) (c.deref.ensures.value ∙ c.self.view_is) (new-admits c.deref.result.now c.args.process.0 c.args.slot.0 (omega (arith, past, same)))
