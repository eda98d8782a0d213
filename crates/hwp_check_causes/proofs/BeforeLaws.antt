-- The policies that stand before commands are those that the threads had.
use Rattle.std.proofs.Common.{◌≡◌, inl, inr, ℕ, ◌+◌, ◌<◌, Bool, List, [], ◌∷◌, ◌++◌, Some, length, sym, ap, ◌∙◌, subst, arith}
use Rattle.std.specs.Option.{option_map_or}
use Rattle.std.proofs.lemmas.Bool.{cases_lt}
use Rattle.std.proofs.lemmas.List.{get_or_append_left, get_or_push, length_push}
use Rattle.std.proofs.lemmas.Option.{slice_get-get_or, slice_get_within}
use Rattle.hwp_check_evidence.specs.hwp_geom.declared.Layout.{Layout}
use Rattle.hwp_check_evidence.specs.hwp_kill.declared.Policy.{Policy}
use Rattle.hwp_check_evidence.specs.hwp_kill.declared.Policy.TheVariants.{Default}
use Rattle.hwp_check_evidence.specs.hwp_script_words.declared.Command.{Command}
use Rattle.hwp_check_evidence.specs.hwp_script_words.declared.Command.TheVariants as commands
use Rattle.hwp_check_evidence.specs.hwp_report_text.declared.CpuLine.{CpuLine}
use Rattle.hwp_check_evidence.specs.hwp_law.Settings.{last_policy}
use Rattle.hwp_check_rules.specs.Pasts.{AreDone}
use Rattle.hwp_check_rules.proofs.SettingLaws.{settings-flags}
use Rattle.hwp_check_causes.specs.Befores.{AreBefore, AreBeforeBy, policy_at, policy_of}

pub before_is : (layout : Layout) (list : List Command) (rows : List CpuLine) (flags : List Bool) (policies : List Policy) → length flags ≡ length list → AreDone rows flags → AreBeforeBy layout list flags (length list) policies
    → AreBefore layout list rows policies
before_is layout list rows flags policies each are before seq thread args small is =
    let within : seq < length list = slice_get_within list seq (commands.Prctl thread args) is in
    slice_get-get_or policies seq Default (subst (λ (n : ℕ). seq < n) (sym before.many) within)
    ∙ ap Some (
    before.each seq within
    ∙ ap (λ o. option_map_or (policy_at layout list flags seq) o Default) is
    ∙ ap last_policy (sym (settings-flags layout thread list rows flags seq each are))
    )

-- and they are found one after the other
module _ (layout : Layout) (list : List Command) (flags : List Bool) where
  pub before_none : (policies : List Policy) → policies ≡ [] → AreBeforeBy layout list flags 0 policies
  before_none policies none = record { many = ap (λ (l : List Policy). length l) none; each = λ i within. absurd (omega (arith, within)) }

  pub before_more : (n : ℕ) (policies new : List Policy) (policy : Policy) → AreBeforeBy layout list flags n policies → policy ≡ policy_of layout list flags n → new ≡ policies ++ policy ∷ [] → AreBeforeBy layout list flags (n + 1) new
  before_more n policies new policy are is new_is = subst (AreBeforeBy layout list flags (n + 1)) (sym new_is) (record {
    many = length_push policies policy ∙ ap (λ (k : ℕ). k + 1) are.many;
    each = λ i within. elim (cases_lt i n) [
      | inl low ↦ get_or_append_left policies (policy ∷ []) Default i (subst (λ (k : ℕ). i < k) (sym are.many) low) ∙ are.each i low
      | inr high ↦
          let same : i ≡ n = omega (arith, within, high) in
          get_or_push policies policy Default i (are.many ∙ sym same) ∙ is ∙ ap (policy_of layout list flags) (sym same)
    ];
  })
