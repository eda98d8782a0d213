use Rattle.std.proofs.Common.{◌≡◌, ◌<◌, ◌≤◌, length, get_or, Some, ap, subst, sym, ◌∙◌, ltb-true, ltb-false, ℕ, List}
use Rattle.std.specs.Prelude.{slice_get}
use Rattle.std.proofs.lemmas.Option.{slice_get-get_or}
use Rattle.hwp_script_lines.specs.declared.Command.{Command}
use Rattle.hwp_script_read.proofs.ForkLaws.{fork_found, fork_lost}
use Rattle.hwp_script_read.proofs.commands.forks_wrongly.Goals as goal

pub returns-in-Some-get : goal.returns-in-Some-get
returns-in-Some-get c =
    let within : c.in-Some.cpu < length c.as_slice.result.now = ltb-true c.in-Some.cpu (length c.as_slice.result.now) (sym c.in-Some-get.ensures.lookup.0) in
    let there : slice_get c.args.summary.now.lists.items c.in-Some.cpu ≡ Some c.as_slice-in-Some-get.result.now =
    ap (λ (ls : List (List Command)). slice_get ls c.in-Some.cpu) (sym c.as_slice.ensures.value)
    ∙ slice_get-get_or c.as_slice.result.now c.in-Some.cpu c.in-Some-get.list.now within ∙ ap Some (sym c.in-Some-get.ensures.lookup.1 ∙ sym c.as_slice-in-Some-get.ensures) in
    fork_found c.args.command.now c.in-Some.cpu c.as_slice-in-Some-get.result.now c.is_wrong_fork.result c.requires c.in-Some.is there c.is_wrong_fork.ensures

pub returns-in-None : goal.returns-in-None
returns-in-None c =
    let most : length c.as_slice.result.now ≤ c.in-Some.cpu = ltb-false c.in-Some.cpu (length c.as_slice.result.now) (sym c.in-None.ensures.lookup.0) in
    fork_lost c.args.command.now c.in-Some.cpu c.requires c.in-Some.is (subst (λ (ls : List (List Command)). length ls ≤ c.in-Some.cpu) c.as_slice.ensures.value most)
