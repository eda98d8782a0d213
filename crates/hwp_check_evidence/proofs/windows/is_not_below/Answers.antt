use Rattle.std.proofs.Common.{◌≡◌, ℕ, ◌≤◌, List, get_or, ap, ◌∙◌, sym, subst}
use Rattle.std.proofs.lemmas.Bool.{le-leb, leb-true}
use Rattle.hwp_check_evidence.specs.Windows.{floors_of}
use Rattle.hwp_check_evidence.proofs.FloorLaws.{above-floor, floor-above}
use Rattle.hwp_check_evidence.proofs.windows.is_not_below.Goals as goal

pub returns : goal.returns
returns c =
    let floor : c.floor_of.result ≡ get_or (floors_of c.args.pages c.args.before.now) c.args.at.page.0 0 = c.floor_of.ensures ∙ ap (λ (l : List ℕ). get_or l c.args.at.page.0 0) c.requires.floors in (
      λ t. floor-above c.args.pages c.args.before.now c.args.who c.args.at c.requires.within (subst (λ (n : ℕ). n ≤ c.args.at.entry) floor (leb-true c.floor_of.result c.args.at.entry t)),
      λ h. le-leb c.floor_of.result c.args.at.entry (subst (λ (n : ℕ). n ≤ c.args.at.entry) (sym floor) (above-floor c.args.pages c.args.before.now c.args.who c.args.at c.requires.within c.requires.earlier h)),
    )
