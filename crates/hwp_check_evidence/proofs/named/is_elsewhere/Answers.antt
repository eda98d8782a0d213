use Rattle.std.proofs.Common.{◌≡◌, Bool, List, false, get_or, length, replicate, ap, ◌∙◌, sym}
use Rattle.hwp_check_evidence.specs.Firsts.{is_named}
use Rattle.hwp_check_evidence.specs.Named.{flagged_pages}
use Rattle.hwp_check_evidence.proofs.NamedLaws.{flagged-other, other-flagged}
use Rattle.hwp_check_evidence.proofs.named.is_elsewhere.Goals as goal
use Rattle.hwp_check_event_line.specs.Reading.{copies_in}

pub returns : goal.returns
returns c =
    let same : get_or c.args.flags.now c.args.who.seq false ≡ get_or (flagged_pages (is_named c.args.names.now) (copies_in c.args.copies.now) c.args.who.cpu (replicate (length c.args.flags.now) false) 0 c.args.pages.now) c.args.who.seq false =
    ap (λ (l : List Bool). get_or l c.args.who.seq false) c.requires.flags in (
      λ t. flagged-other c.args.pages.now (is_named c.args.names.now) (copies_in c.args.copies.now) (length c.args.flags.now) c.args.who c.requires.inside (sym same ∙ t),
      λ h. same ∙ other-flagged c.args.pages.now (is_named c.args.names.now) (copies_in c.args.copies.now) (length c.args.flags.now) c.args.who c.requires.inside h,
    )
