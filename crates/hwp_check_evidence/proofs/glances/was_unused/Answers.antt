use Rattle.std.proofs.Common.{rules, ◌≡◌, ◌≤◌, length, sym, ap, ◌∙◌}
use Rattle.std.specs.Option.{option_copied}
use Rattle.hwp_check_evidence.specs.Glances.{used_at}
use Rattle.hwp_check_evidence.proofs.MapLaws.{unused-is}
use Rattle.hwp_check_evidence.proofs.glances.was_unused.Goals as goal

pub returns-in-Some-page_of : goal.returns-in-Some-page_of
returns-in-Some-page_of c =
    let low : c.args.at.entry ≤ length c.in-Some.entries.now = search rules in
    let used : c.was_used.result ≡ used_at c.in-Some-page_of.page.now.maps.items c.in-Some.entries.now c.args.slot c.args.at.entry =
    c.was_used.ensures ∙ (λ i. used_at (c.as_slice.ensures.value i) (c.as_slice-in-Some-page_of.ensures i) c.args.slot c.args.at.entry) in
    unused-is c.args.layout.now c.args.pages.now c.args.all.now c.requires c.args.at c.args.slot c.in-Some-page_of.page.now c.in-Some.entries.now c.was_used.result
    (sym c.page_of.ensures ∙ ap option_copied c.in-Some-page_of.is) (sym c.list_of.ensures ∙ ap option_copied c.in-Some.is) low used
