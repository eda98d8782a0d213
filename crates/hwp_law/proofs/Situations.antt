-- Situations of one number are one.
use Rattle.std.proofs.Common.{◌≡◌, ℕ, ◌==◌, true, cond, refl, sym, ap, ◌∙◌}
use Rattle.std.proofs.lemmas.Bool.{eqb-true}
use Rattle.hwp_report_text.specs.hwp_page.declared.Situation.{Situation}
use Rattle.hwp_report_text.specs.hwp_page.declared.Situation.TheVariants as situations
use Rattle.hwp_law.specs.Pairings.{situation_number}

-- the situation of a number
abbrev pub situation_from : ℕ → Situation
situation_from n = cond (n == 0) situations.Free (cond (n == 1) situations.Kernel (cond (n == 2) situations.FileClean (cond (n == 3) situations.FileDirty
    (cond (n == 4) situations.AnonOnly (cond (n == 5) situations.SwapClean (cond (n == 6) situations.SwapDirty
    (cond (n == 7) situations.LockedClean (cond (n == 8) situations.LockedFile situations.LockedAnon))))))))

pub situation-back : (s : Situation) → situation_from (situation_number s) ≡ s
situation-back situations.Free = refl
situation-back situations.Kernel = refl
situation-back situations.FileClean = refl
situation-back situations.FileDirty = refl
situation-back situations.AnonOnly = refl
situation-back situations.SwapClean = refl
situation-back situations.SwapDirty = refl
situation-back situations.LockedClean = refl
situation-back situations.LockedFile = refl
situation-back situations.LockedAnon = refl

pub same-situation : (s t : Situation) → (situation_number s == situation_number t) ≡ true → s ≡ t
same-situation s t is = sym (situation-back s) ∙ ap situation_from (eqb-true (situation_number s) (situation_number t) is) ∙ situation-back t
