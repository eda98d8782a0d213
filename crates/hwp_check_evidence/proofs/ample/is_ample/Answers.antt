use Rattle.std.proofs.Common.{◌≡◌, ◌+◌, ◌*◌, ℕ, Bool, List, nat_lt, length, ap, ◌∙◌}
use Rattle.hwp_check_evidence.specs.Ample.{flags_of, usable_by}
use Rattle.hwp_check_evidence.proofs.AmpleLaws.{usable_is}
use Rattle.hwp_check_evidence.proofs.ample.is_ample.Goals as goal

pub returns : goal.returns
returns c =
    let flags : c.as_slice.result.now ≡ flags_of c.args.script.now = c.as_slice.ensures.value ∙ c.in_ok-flags.ensures in
    let kernel : c.as_slice-2.result.now ≡ c.args.script.now.layout.kernel = c.as_slice-2.ensures in
    c.is_above.ensures
    ∙ (ap (λ (m : ℕ). nat_lt (m + 2 * c.args.script.now.layout.cpus) c.usable_by-usable.result) c.len.ensures
    ∙ ap (λ (n : ℕ). nat_lt (length c.args.script.now.layout.pages + 2 * c.args.script.now.layout.cpus) n)
    (c.usable_by-usable.ensures
    ∙ (ap (λ (l : List Bool). usable_by l 0 c.as_slice-2.result.now) flags
    ∙ (ap (λ (l : List Bool). usable_by (flags_of c.args.script.now) 0 l) kernel
    ∙ usable_is c.args.script.now))))
