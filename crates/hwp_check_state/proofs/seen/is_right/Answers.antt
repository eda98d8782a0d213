use Rattle.std.proofs.Common.{◌≡◌, ◌<◌, ◌≤◌, ℕ, Some, length, slice_get, refl, sym, ap, ◌∙◌, subst}
use Rattle.std.proofs.lemmas.Bool.{ltb-false, ltb-true}
use Rattle.std.proofs.lemmas.Option.{slice_get_read}
use Rattle.hwp_check_state.proofs.OwnLaws.{undeclared-is}
use Rattle.hwp_check_state.proofs.seen.is_right.Goals as goal

pub is_right_of-requires : goal.is_right_of-requires
is_right_of-requires c =
    let within : c.from.result < length c.args.pasts.now = ltb-true c.from.result (length c.args.pasts.now) (sym c.in-Some.ensures.lookup.0) in
    let there : slice_get c.args.pasts.now c.from.result ≡ Some c.in-Some.past.now =
    slice_get_read c.args.pasts.now (length c.args.pasts.now) c.from.result c.in-Some.past.now refl within c.in-Some.ensures.lookup.1 in
    c.requires.each c.args.sight.now.seen.thread c.in-Some.past.now (ap (λ (n : ℕ). slice_get c.args.pasts.now n) (sym c.from.ensures) ∙ there)

pub returns-in-None : goal.returns-in-None
returns-in-None c =
    let past : length c.args.pasts.now ≤ c.args.sight.now.seen.thread.0 =
    subst (λ (n : ℕ). length c.args.pasts.now ≤ n) c.from.ensures (ltb-false c.from.result (length c.args.pasts.now) (sym c.in-None.ensures.lookup.0)) in
    undeclared-is c.args.script.now c.args.report.now c.args.sight.now c.is_default.result (subst (λ (n : ℕ). n ≤ c.args.sight.now.seen.thread.0) c.requires.many past) c.is_default.ensures
