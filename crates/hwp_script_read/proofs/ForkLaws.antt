-- Why the commands of clean lines name no twin, and why their forks may stand where they do.
use Rattle.std.proofs.Common.{ℕ, ◌≡◌, ◌<◌, ◌≤◌, ◌+◌, ◌++◌, ◌==◌, Bool, true, false, if◌then◌else◌, List, [], ◌∷◌, length, map, take, Option, Some, None, zero, suc, ap, subst, ◌∙◌, sym, refl, arith, ⊎_elim}
use Rattle.std.specs.Prelude.{◌↔◌, All, slice_get, option_to_list, IsSomeAnd}
use Rattle.std.specs.List.{range_with_len}
use Rattle.std.proofs.lemmas.List.{take-append-le, take_at, length_push, append-nil}
use Rattle.std.proofs.lemmas.List.Elements.{All-nil, All-push}
use Rattle.std.proofs.lemmas.Option.{none-some, slice_get_within, same_Some}
use Rattle.std.proofs.lemmas.Bool.{cases_lt, false_from_ne_true}
use Rattle.std.proofs.lemmas.Bool.Decides.{nat_tests}
use Rattle.hwp_script_lines.specs.hwp_geom.declared.Layout.{Layout}
use Rattle.hwp_script_lines.specs.declared.ScriptLine.{ScriptLine}
use Rattle.hwp_script_lines.specs.declared.ScriptLine.TheVariants as forms
use Rattle.hwp_script_lines.specs.declared.Command.{Command}
use Rattle.hwp_script_lines.specs.declared.Command.TheVariants as commands
use Rattle.hwp_script_read.specs.Context.{cpus_in, names_in, place_in, highest}
use Rattle.hwp_script_read.specs.Sums.{Sums, names_of}
use Rattle.hwp_script_read.specs.declared.context.Summary.{Summary}
use Rattle.hwp_script_read.specs.Collects.{command_at, commands_of}
use Rattle.hwp_script_lines.specs.hwp_script_words.Forks.{is_wrong_fork, names_twin}
use Rattle.hwp_script_read.specs.Reasons.{IsClean}
use Rattle.hwp_script_lines.specs.hwp_script_words.Valid.{NamesNoTwin, AreForksFit}
use Rattle.hwp_script_read.proofs.ContextLaws.{pushed, names-kept}
use Rattle.hwp_script_read.proofs.SumLaws.{many_lists}
use Rattle.hwp_script_read.proofs.CleanLaws.{clean_command, clean_late}
use Rattle.hwp_script_read.proofs.CleanLists.{slice_get-append_at, slice_get-append_left}
use Rattle.hwp_script_read.proofs.CollectLaws.{commands_of-push, no_command, none_from}
use Rattle.hwp_script_read.proofs.TwinLaws.{bare, names_late}

-- the commands of a list name no twin, and its forks may stand where they do
pub record AreWellUsed (layout : Layout) (cpu : ℕ) (list : List Command) : Type 0 where
  pub own : All (NamesNoTwin layout) list
  pub forks : AreForksFit layout cpu list

pub none_used : (layout : Layout) (cpu : ℕ) → AreWellUsed layout cpu []
none_used layout cpu = record { own = All-nil (NamesNoTwin layout); forks = λ n x e. absurd (none-some x e) }

one_used : {l : Layout} {c : ℕ} {xs : List Command} (x : Command) → AreWellUsed l c xs → names_twin l x ≡ false → is_wrong_fork l c xs x ≡ false → AreWellUsed l c (xs ++ x ∷ [])
one_used {l} {c} {xs} x h own fork = record {
  own = All-push (NamesNoTwin l) xs x h.own own;
  forks = λ n y e. ⊎_elim
      (λ (less : n < length xs). rw (take-append-le n xs (x ∷ []) (omega arith)) (h.forks n y (sym (slice_get-append_left xs (x ∷ []) n less) ∙ e)))
      (λ (most : length xs ≤ n).
      let within : n < length (xs ++ x ∷ []) = slice_get_within (xs ++ x ∷ []) n y e in
      let at : n ≡ length xs = omega (arith, length_push xs x) in
      let is : x ≡ y = same_Some x y (sym (slice_get-append_at xs x) ∙ rw at at e) in
      rw (at, take_at xs (x ∷ []) (length xs) refl, ← is) fork)
      (cases_lt n (length xs));
}

chosen_used : {l : Layout} {c : ℕ} {xs : List Command} (test : Bool) (x : Command) → AreWellUsed l c xs → (test ≡ true → names_twin l x ≡ false) → (test ≡ true → is_wrong_fork l c xs x ≡ false)
    → AreWellUsed l c (xs ++ option_to_list (if test then Some x else None))
chosen_used true x h own fork = one_used x h (own refl) (fork refl)
chosen_used false x h own fork = rw append-nil h

same_place : (place c : ℕ) → (place == c) ≡ true → place ≡ c
same_place place c e = grind (arith, nat_tests)

command_used : (above : List ScriptLine) (x : Command) (c : ℕ) (place : Option ℕ) → place_in above ≡ place → IsClean above (forms.Command x) → AreWellUsed (names_in above) c (commands_of above c)
    → AreWellUsed (names_in above) c (commands_of above c ++ option_to_list (command_at place c (forms.Command x)))
command_used above x c None e k h = rw append-nil h
command_used above x c (Some place) e k h =
    let is = clean_command k in
    let fork : is_wrong_fork (names_in above) place (commands_of above place) x ≡ false = false_from_ne_true _ (rw e at is.fork) in
    chosen_used (place == c) x h (λ t. is.no_twin) (λ t. subst (λ (n : ℕ). is_wrong_fork (names_in above) n (commands_of above n) x ≡ false) (same_place place c t) fork)

-- a late line that is no command
quiet_used : (above : List ScriptLine) (f : ScriptLine) (c : ℕ) → names_in (above ++ f ∷ []) ≡ names_in above → commands_of (above ++ f ∷ []) c ≡ commands_of above c
    → AreWellUsed (names_in above) c (commands_of above c) → AreWellUsed (names_in (above ++ f ∷ [])) c (commands_of (above ++ f ∷ []) c)
quiet_used above f c names list h =
    subst (λ (l : Layout). AreWellUsed l c (commands_of (above ++ f ∷ []) c)) (sym names) (subst (AreWellUsed (names_in above) c) (sym list) h)

pub used_step : (above : List ScriptLine) (f : ScriptLine) (c : ℕ) → IsClean above f → AreWellUsed (names_in above) c (commands_of above c)
    → AreWellUsed (names_in (above ++ f ∷ [])) c (commands_of (above ++ f ∷ []) c)
used_step above (forms.Command x) c k h =
    subst (λ (l : Layout). AreWellUsed l c (commands_of (above ++ forms.Command x ∷ []) c)) (sym (names_late above (forms.Command x) (omega arith)))
    (subst (AreWellUsed (names_in above) c) (sym (commands_of-push above (forms.Command x) c)) (command_used above x c (place_in above) refl k h))
used_step above (forms.Cpu n) c k h =
    quiet_used above (forms.Cpu n) c (names_late above (forms.Cpu n) (omega arith)) (commands_of-push above (forms.Cpu n) c ∙ rw (no_command (place_in above) c (forms.Cpu n) refl) (append-nil (commands_of above c))) h
used_step above (forms.Schedule ws) c k h =
    quiet_used above (forms.Schedule ws) c (names_late above (forms.Schedule ws) (omega arith)) (commands_of-push above (forms.Schedule ws) c ∙ rw (no_command (place_in above) c (forms.Schedule ws) refl) (append-nil (commands_of above c))) h
used_step above forms.End c k h =
    quiet_used above forms.End c (names_late above forms.End (omega arith)) (commands_of-push above forms.End c ∙ rw (no_command (place_in above) c forms.End refl) (append-nil (commands_of above c))) h
used_step above f c k h =
    let low : highest (above ++ f ∷ []) ≤ 12 = omega (arith, (pushed above f).group, clean_late above f k) in
    let none : commands_of (above ++ f ∷ []) c ≡ [] = none_from None c (above ++ f ∷ []) low in
    subst (AreWellUsed (names_in (above ++ f ∷ [])) c) (sym none) (none_used (names_in (above ++ f ∷ [])) c)

pub bare_fork : (l : Layout) (c : ℕ) (xs : List Command) (x : Command) → is_wrong_fork (bare l) c xs x ≡ is_wrong_fork l c xs x
bare_fork l c xs (commands.Fork t p) = refl
bare_fork l c xs x = refl

-- the list of a processor among those of all
pub list_at : (g : ℕ → List Command) (a n i : ℕ) (list : List Command) → slice_get (map g (range_with_len a n)) i ≡ Some list → list ≡ g (a + i)
list_at g a zero i list e = absurd (none-some list e)
list_at g a (suc n) zero list e = let at : a + 0 ≡ a = omega arith in rw at (sym (same_Some (g a) list e))
list_at g a (suc n) (suc i) list e = let at : a + suc i ≡ a + 1 + i = omega arith in rw at (list_at g (a + 1) n i list e)

-- a command that is looked up in the list that a summary keeps
pub fork_found : {above : List ScriptLine} {s : Summary} (x : Command) (cpu : ℕ) (list : List Command) (r : Bool) → Sums above s → s.place ≡ Some cpu → slice_get s.lists.items cpu ≡ Some list
    → r ≡ is_wrong_fork (names_of s) cpu list x → (r ≡ true) ↔ IsSomeAnd (place_in above) (λ (c : ℕ). is_wrong_fork (names_in above) c (commands_of above c) x ≡ true)
fork_found {above} {s} x cpu list r h place there is =
    let at : 0 + cpu ≡ cpu = omega arith in
    let same : list ≡ commands_of above cpu = rw at at (list_at (commands_of above) 0 (cpus_in above) cpu list (ap (λ ls. slice_get ls cpu) (sym h.lists) ∙ there)) in
    let full : r ≡ is_wrong_fork (names_in above) cpu (commands_of above cpu) x =
    is ∙ ap (λ (l : Layout). is_wrong_fork l cpu list x) (names-kept h) ∙ ap (λ (xs : List Command). is_wrong_fork (names_in above) cpu xs x) same in
    let here : place_in above ≡ Some cpu = sym h.place ∙ place in
    rw here (λ (e : r ≡ true). sym full ∙ e, λ (e : is_wrong_fork (names_in above) cpu (commands_of above cpu) x ≡ true). full ∙ e)

pub fork_lost : {above : List ScriptLine} {s : Summary} (x : Command) (cpu : ℕ) → Sums above s → s.place ≡ Some cpu → length s.lists.items ≤ cpu
    → (false ≡ true) ↔ IsSomeAnd (place_in above) (λ (c : ℕ). is_wrong_fork (names_in above) c (commands_of above c) x ≡ true)
fork_lost {above} {s} x cpu h place most =
    let within : cpu < s.cpus = rw place at h.within in absurd (omega (arith, within, many_lists h, most))
