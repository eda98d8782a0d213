use Rattle.std.proofs.Common.{rules, ◌≡◌, ℕ, ◌<◌, ◌≤◌, List, Some, None, slice_get, get_or, ap, ◌∙◌, sym, subst, true≢false}
use Rattle.std.proofs.lemmas.Bool.{le-leb, leb-true}
use Rattle.std.specs.Option.{option_copied}
use Rattle.hwp_check_evidence.specs.Ends.{never}
use Rattle.hwp_check_evidence.proofs.EndLaws.{ending_low, low_ending, no_ending}
use Rattle.hwp_check_evidence.proofs.ends.has_ending.Goals as goal

pub returns-in-Some : goal.returns-in-Some
returns-in-Some c =
    let few : c.args.who.seq < never = search rules in
    let there : slice_get c.args.all.now c.args.page.0 ≡ Some c.in-Some.ends.now = sym c.ends_of.ensures ∙ ap option_copied c.in-Some.is in
    let end : c.end_of.result ≡ get_or c.in-Some.ends.now c.args.process.0 never = c.end_of.ensures ∙ ap (λ (l : List ℕ). get_or l c.args.process.0 never) c.as_slice.ensures in (
      λ t. low_ending c.args.script.now c.args.report.now c.args.who c.args.process few c.args.all.now c.args.page c.requires c.in-Some.ends.now there
          (subst (λ (n : ℕ). n ≤ c.args.who.seq) end (subst (λ (n : ℕ). c.end_of.result ≤ n) c.from.ensures (leb-true c.end_of.result c.from.result t))),
      λ h. le-leb c.end_of.result c.from.result (subst (λ (n : ℕ). c.end_of.result ≤ n) (sym c.from.ensures)
          (subst (λ (n : ℕ). n ≤ c.args.who.seq) (sym end) (ending_low c.args.script.now c.args.report.now c.args.who c.args.process few c.args.all.now c.args.page c.requires h c.in-Some.ends.now there))),
    )

pub returns-in-None : goal.returns-in-None
returns-in-None c =
    let few : c.args.who.seq < never = search rules in
    let none : slice_get c.args.all.now c.args.page.0 ≡ None = sym c.ends_of.ensures ∙ ap option_copied c.in-None.is in
    (λ t. absurd (true≢false (sym t)), λ h. absurd (no_ending c.args.script.now c.args.report.now c.args.who c.args.process few c.args.all.now c.args.page c.requires none h))
