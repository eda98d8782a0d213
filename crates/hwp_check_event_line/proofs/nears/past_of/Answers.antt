use Rattle.std.proofs.Common.{rules, ◌≡◌, ◌+◌, List, [], ◌∷◌, ◌++◌, Some, length, slice_get, refl, sym, subst}
use Rattle.std.proofs.lemmas.Option.{slice_get_read}
use Rattle.hwp_check_event_line.specs.declared.nears.Nears.{Nears}
use Rattle.hwp_check_event_line.specs.Nears.{AreNears}
use Rattle.hwp_check_event_line.proofs.PastLaws.{AreKept, kept-more}
use Rattle.hwp_check_event_line.proofs.nears.past_of.Goals as goal

pub loop-line-preserved : goal.loop-line-preserved
loop-line-preserved c =
    let there : slice_get c.args.frames.now c.loop-line.line-index ≡ Some c.line-item.result =
    slice_get_read c.args.frames.now (length c.args.frames.now) c.loop-line.line-index c.line-item.result refl (search rules) c.line-item.is in
    let are : AreNears c.args.cpu c.line-item.result.marks c.in_ok-nears_of.field-0 = search rules in
    let items : c.push.new.self.items ≡ c.loop-line.all.items ++ c.in_ok-nears_of.field-0 ∷ [] = search rules in
    subst (λ (l : List Nears). (length l ≡ c.loop-line.line-index + 1) × AreKept c.args.cpu c.args.frames.now l) (sym items)
    (kept-more c.args.cpu c.args.frames.now c.loop-line.all.items c.loop-line.line-index c.line-item.result c.in_ok-nears_of.field-0 c.loop-line.invariant.0 c.loop-line.invariant.1 there are)
