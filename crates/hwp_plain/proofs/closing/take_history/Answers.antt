use Rattle.std.proofs.Common.{Option, map, slice_set, ap, ◌∙◌}
use Rattle.std.proofs.lemmas.List.{map-set}
use Rattle.hwp_core_rule.specs.hwp_page.History.{BodyValue}
use Rattle.hwp_plain.specs.Openings.{home_with}
use Rattle.hwp_plain.proofs.closing.take_history.Goals as goal

pub returns-clause-homes : goal.returns-clause-homes
returns-clause-homes c =
    map-set home_with c.args.bodies.now.items c.args.slot c.take.new.self
    ∙ ap (λ (x : Option BodyValue). slice_set (map home_with c.args.bodies.now.items) c.args.slot (home_with x)) c.take.ensures.after
