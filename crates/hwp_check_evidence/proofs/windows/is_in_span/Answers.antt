use Rattle.std.proofs.Common.{rules, ◌≡◌, ◌<◌, Some, None, slice_get, refl, sym, ap, ◌∙◌}
use Rattle.std.specs.Option.{option_copied}
use Rattle.hwp_check_evidence.specs.Windows.{none_number}
use Rattle.hwp_check_evidence.proofs.WindowLaws.{in-end, in-start, none-in, span-in}
use Rattle.hwp_check_evidence.proofs.windows.is_in_span.Goals as goal

pub returns-in-Some : goal.returns-in-Some
returns-in-Some c =
    let few : c.args.who.seq < none_number = search rules in
    let there : slice_get c.args.spans.now c.args.at.page.0 ≡ Some c.in-Some.span.now = sym c.span_of.ensures ∙ ap option_copied c.in-Some.is in (
      λ t. let h = c.leaves.ensures.0 t in span-in c.args.pages.now c.args.spans.now c.args.who c.args.at c.requires few c.in-Some.span.now there h.0 h.1,
      λ h. c.leaves.ensures.1 (
        in-start c.args.pages.now c.args.spans.now c.args.who c.args.at c.requires few c.in-Some.span.now there h.0,
        in-end c.args.pages.now c.args.spans.now c.args.who c.args.at c.requires few c.in-Some.span.now there h.1,
      ),
    )

pub returns-in-None : goal.returns-in-None
returns-in-None c =
    let few : c.args.who.seq < none_number = search rules in
    let none : slice_get c.args.spans.now c.args.at.page.0 ≡ None = sym c.span_of.ensures ∙ ap option_copied c.in-None.is in
    (λ t. none-in c.args.pages.now c.args.spans.now c.args.who c.args.at c.requires few none, λ h. refl)
