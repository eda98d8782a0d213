-- Where a fork begins, no thread of the child has set a policy, each is one of the processor, and none is the one that forks.
use Rattle.std.specs.Prelude.{IsSomeAnd}
use Rattle.hwp_cpu_command.specs.hwp_kill.Prctl.{policy_set}
use Rattle.hwp_cpu_row.specs.hwp_law.Settings.{arguments, last_policy, set_after, set_behind, setting_of, settings, unset}
use Rattle.std.proofs.Common.{◌≡◌, ◌≢◌, ℕ, zero, suc, ◌+◌, ◌<◌, ◌≤◌, ◌==◌, ◌&&◌, ◌||◌, not, Bool, true, false, cond, true≢false, List, [], ◌∷◌, ◌++◌, Option, Some, None, length, map, slice_get, take, count_by, append-nil, refl, sym, ap, ◌∙◌, subst, arith}
use Rattle.std.specs.List.{cons_option, list_any, zip}
use Rattle.std.specs.Option.{option_map_or}
use Rattle.std.proofs.lemmas.Bool.{eq-eqb, eqb-true, not-false}
use Rattle.std.proofs.lemmas.List.{length-map, nil_from_length}
use Rattle.std.proofs.lemmas.List.Sums.{sum_by-cons}
use Rattle.std.proofs.lemmas.Option.{none-some, same_Some}
use Rattle.hwp_cpu_row.specs.hwp_geom.declared.Cpu.{Cpu}
use Rattle.hwp_cpu_row.specs.hwp_geom.declared.Layout.{Layout}
use Rattle.hwp_cpu_row.specs.hwp_geom.declared.Proc.{Proc}
use Rattle.hwp_cpu_row.specs.hwp_geom.declared.Thread.{Thread}
use Rattle.hwp_cpu_row.specs.hwp_geom.declared.ThreadDecl.{ThreadDecl}
use Rattle.hwp_cpu_row.specs.hwp_geom.declared.Who.{Who}
use Rattle.hwp_cpu_command.specs.hwp_kill.declared.Policy.{Policy}
use Rattle.hwp_cpu_row.specs.hwp_script_words.declared.Command.{Command}
use Rattle.hwp_cpu_row.specs.hwp_script_words.declared.Command.TheVariants as commands
use Rattle.hwp_cpu_row.specs.hwp_script_words.Forks.{cannot_share, is_away, is_fork_of, is_thread_of, is_used_by, is_wrong_child}
use Rattle.hwp_cpu_row.specs.hwp_script_words.Valid.{AreForksFit, IsCommandOf}
use Rattle.hwp_cpu_row.specs.hwp_report_text.declared.Answer.{Answer}
use Rattle.hwp_cpu_row.specs.hwp_report_text.declared.Answer.TheVariants as answers
use Rattle.hwp_cpu_row.proofs.of_hwp_law.CowLaws.{both-false}
use Rattle.hwp_cpu_row.specs.hwp_core_rule.declared.Setting.{Setting}
use Rattle.hwp_cpu_row.specs.hwp_core_rule.declared.View.{View}
use Rattle.hwp_cpu_row.specs.hwp_core_rule.parts.Policies.{settings_of}
use Rattle.hwp_cpu_row.specs.declared.Row.{Row}
use Rattle.hwp_cpu_command.specs.Runs.{CanFork, IsFresh}
use Rattle.hwp_cpu_command.specs.Settings.{policies_in}
use Rattle.hwp_law_served.specs.Handles.{answers_by}
use Rattle.hwp_cpu.specs.Processors.{AreForkedOnce}
use Rattle.hwp_law_served.specs.Rows.{at_number}

-- ---- of lists

-- none passes the test, so a member doesn't
none-passes : {A : Type 0} (test : A → Bool) (l : List A) (i : ℕ) (x : A) → list_any test l ≡ false → slice_get l i ≡ Some x → test x ≡ false
none-passes test [] i x none there = absurd (none-some x there)
none-passes test (y ∷ ys) zero x none there = subst (λ (z : _). test z ≡ false) (same_Some y x there) (both-false (test y) (list_any test ys) none).0
none-passes test (y ∷ ys) (suc i) x none there = none-passes test ys i x (both-false (test y) (list_any test ys) none).1 there

-- what a member adds to the count of those that pass
abbrev tally : Bool → ℕ
tally b = cond b 1 0

-- a member that passes counts
one-counts : {A : Type 0} (test : A → Bool) (l : List A) (i : ℕ) (x : A) → slice_get l i ≡ Some x → test x ≡ true → 1 ≤ count_by test l
one-counts test [] i x there passes = absurd (none-some x there)
one-counts test (y ∷ ys) zero x there passes =
    let all : count_by test (y ∷ ys) ≡ tally (test y) + count_by test ys = sum_by-cons (λ (z : _). tally (test z)) y ys in
    let here : tally (test y) ≡ 1 = ap tally (ap test (same_Some y x there) ∙ passes) in
    omega (arith, all, here)
one-counts test (y ∷ ys) (suc i) x there passes =
    let all : count_by test (y ∷ ys) ≡ tally (test y) + count_by test ys = sum_by-cons (λ (z : _). tally (test z)) y ys in
    let later : 1 ≤ count_by test ys = one-counts test ys i x there passes in
    omega (arith, all, later)

-- before the only member that passes none does
none-before : {A : Type 0} (test : A → Bool) (l : List A) (n : ℕ) (x : A) → slice_get l n ≡ Some x → test x ≡ true → count_by test l ≤ 1 → list_any test (take n l) ≡ false
none-before test [] n x there passes few = absurd (none-some x there)
none-before test (y ∷ ys) zero x there passes few = refl
none-before test (y ∷ ys) (suc n) x there passes few = which (test y) refl (λ fewer. none-before test ys n x there passes fewer)
  where
    all : count_by test (y ∷ ys) ≡ tally (test y) + count_by test ys
    all = sum_by-cons (λ (z : _). tally (test z)) y ys

    later : 1 ≤ count_by test ys
    later = one-counts test ys n x there passes

    which : (b : Bool) → test y ≡ b → (count_by test ys ≤ 1 → list_any test (take n ys) ≡ false) → (test y || list_any test (take n ys)) ≡ false
    which true is behind = let here : tally (test y) ≡ 1 = ap tally is in absurd (omega (arith, all, later, here, few))
    which false is behind = ap (λ (b : Bool). b || list_any test (take n ys)) is ∙ behind (omega (arith, all, few))

-- ---- a child whose threads no command used, and which none forked

module _ (layout : Layout) (child : Proc) (t : ℕ) (own : is_thread_of layout child.0 t ≡ true) where
  -- its processes are one
  one-process : (process : ℕ) (o : Option ThreadDecl) → option_map_or (λ (d : ThreadDecl). d.process.0 == child.0) o false ≡ true → option_map_or (λ (d : ThreadDecl). d.process.0 == process) o false ≡ true → process ≡ child.0
  one-process process None first second = absurd (true≢false (sym first))
  one-process process (Some d) first second = sym (eqb-true d.process.0 process second) ∙ eqb-true d.process.0 child.0 first

  not-chosen : (b : Bool) (o : Option Policy) → (b ≡ true → ⊥) → cond b o None ≡ None
  not-chosen true o never = absurd (never refl)
  not-chosen false o never = refl

  sets-none : (set : ℕ → List Policy) (command : Command) (answer : Answer) → is_used_by layout child.0 command ≡ false → is_fork_of child.0 command ≡ false → setting_of layout set t command answer ≡ None
  sets-none set (commands.Prctl other args) answers.Done unused unforked =
      not-chosen (other.0 == t) (policy_set (arguments args)) (λ is. true≢false (sym (ap (is_thread_of layout child.0) (eqb-true other.0 t is) ∙ own) ∙ unused))
  sets-none set (commands.Fork parent process) answers.Done unused unforked =
      not-chosen (is_thread_of layout process.0 t) (Some (last_policy (set parent.0))) (λ is. true≢false (sym (eq-eqb process.0 child.0 (one-process process.0 (slice_get layout.threads t) own is)) ∙ unforked))
  sets-none set command answer unused unforked = refl

  unset-zip : (set : ℕ → List Policy) (l : List Command) (given : List Answer) → list_any (is_used_by layout child.0) l ≡ false → list_any (is_fork_of child.0) l ≡ false → set_behind layout set (zip l given) t ≡ set t
  unset-zip set [] given unused unforked = refl
  unset-zip set (c ∷ cs) [] unused unforked = refl
  unset-zip set (c ∷ cs) (a ∷ rest) unused unforked =
      let used : (is_used_by layout child.0 c ≡ false) × (list_any (is_used_by layout child.0) cs ≡ false) = both-false (is_used_by layout child.0 c) (list_any (is_used_by layout child.0) cs) unused in
      let forked : (is_fork_of child.0 c ≡ false) × (list_any (is_fork_of child.0) cs ≡ false) = both-false (is_fork_of child.0 c) (list_any (is_fork_of child.0) cs) unforked in
      unset-zip (set_after layout set (c, a)) cs rest used.1 forked.1
      ∙ ap (λ (o : Option Policy). set t ++ cons_option o []) (sets-none set c a used.0 forked.0)
      ∙ append-nil (set t)

-- the commands that are answered are the first of the list
zip-front : (l : List Command) (given : List Answer) → zip l given ≡ zip (take (length given) l) given
zip-front [] [] = refl
zip-front [] (a ∷ rest) = refl
zip-front (c ∷ cs) [] = refl
zip-front (c ∷ cs) (a ∷ rest) = ap (λ (m : List (Command × Answer)). (c, a) ∷ m) (zip-front cs rest)

-- ---- the fork

module _ (layout : Layout) (cpu : Cpu) (list : List Command) (rows : List Row) (forks : AreForksFit layout cpu.0 list) (once : AreForkedOnce list) (view : View)
    (all : (thread : Thread) → policies_in thread view ≡ settings layout thread (answers_by list rows)) where
  abbrev n : ℕ
  n = length rows

  abbrev given : List Answer
  given = map (λ (r : Row). r.answer) rows

  module _ (thread : Thread) (child : Proc) (there : slice_get list n ≡ Some (commands.Fork thread child)) (parent : ThreadDecl) (declared : slice_get layout.threads thread.0 ≡ Some parent) where
    right : is_wrong_child layout cpu.0 (take n list) parent.process.0 child.0 ≡ false
    right = sym (ap (λ (o : Option ThreadDecl). option_map_or (λ (t : ThreadDecl). is_wrong_child layout cpu.0 (take n list) t.process.0 child.0) o false) declared) ∙ forks n (commands.Fork thread child) there

    abbrev unused : Bool
    unused = list_any (is_used_by layout child.0) (take n list)

    abbrev away : Bool
    away = list_any (is_away cpu.0 parent.process.0 child.0) layout.threads

    abbrev shares : Bool
    shares = cannot_share layout (take n list) parent.process.0 child.0

    parts : ((child.0 == parent.process.0) ≡ false) × (unused ≡ false) × (away ≡ false)
    parts =
        let last : ((((child.0 == parent.process.0) || unused) || away) ≡ false) × (shares ≡ false) = both-false (((child.0 == parent.process.0) || unused) || away) shares right in
        let third : (((child.0 == parent.process.0) || unused) ≡ false) × (away ≡ false) = both-false ((child.0 == parent.process.0) || unused) away last.0 in
        let second : ((child.0 == parent.process.0) ≡ false) × (unused ≡ false) = both-false (child.0 == parent.process.0) unused third.0 in
        (second.0, second.1, third.1)

    unforked : list_any (is_fork_of child.0) (take n list) ≡ false
    unforked = none-before (is_fork_of child.0) list n (commands.Fork thread child) there (eq-eqb child.0 child.0 refl) (once child.0)

    fresh : IsFresh layout view (at_number cpu n) thread child
    fresh t d is of = ((cpu-is, other), none-set)
      where
        own : is_thread_of layout child.0 t.0 ≡ true
        own = ap (λ (o : Option ThreadDecl). option_map_or (λ (x : ThreadDecl). x.process.0 == child.0) o false) is ∙ of

        here : is_away cpu.0 parent.process.0 child.0 d ≡ false
        here = none-passes (is_away cpu.0 parent.process.0 child.0) layout.threads t.0 d parts.2 is

        or-true : (b : Bool) → (b || true) ≡ true
        or-true true = refl
        or-true false = refl

        cpu-is : d.cpu ≡ cpu
        cpu-is = ap (λ (m : ℕ). record { 0 = m }) (eqb-true d.cpu.0 cpu.0 (not-false (d.cpu.0 == cpu.0) (
            sym (ap (λ (b : Bool). b && not (d.cpu.0 == cpu.0)) (ap (λ (b : Bool). (d.process.0 == parent.process.0) || b) of ∙ or-true (d.process.0 == parent.process.0))) ∙ here)))

        other : t.0 ≢ thread.0
        other same = absurd (true≢false (
            sym (eq-eqb child.0 parent.process.0 (sym (eqb-true d.process.0 child.0 of) ∙ ap (λ (x : ThreadDecl). x.process.0) (same_Some d parent (sym is ∙ ap (slice_get layout.threads) same ∙ declared))))
            ∙ parts.0))

        none-set : settings_of t view.settings ≡ []
        none-set = nil_from_length (settings_of t view.settings) (
            let set : settings layout t (answers_by list rows) ≡ [] = ap (λ (l : List (Command × Answer)). set_behind layout unset l t.0) (zip-front list given ∙ ap (λ (m : ℕ). zip (take m list) given) (length-map rows (λ (r : Row). r.answer)))
            ∙ unset-zip layout child t.0 own unset (take n list) given parts.1 unforked in
            let same : length (policies_in t view) ≡ 0 = ap length (all t ∙ set) in
            let many : length (policies_in t view) ≡ length (settings_of t view.settings) = length-map (settings_of t view.settings) (λ (s : Setting). s.policy) in
            omega (arith, same, many))

  -- THE NEXT COMMAND MAY BEGIN
  pub can-fork : (command : Command) → slice_get list n ≡ Some command → IsCommandOf layout cpu.0 command → CanFork layout view (at_number cpu n) command
  can-fork (commands.Fork thread child) there named = which (slice_get layout.threads thread.0) refl named.0
    where
      which : (o : Option ThreadDecl) → slice_get layout.threads thread.0 ≡ o → IsSomeAnd o (λ (t : ThreadDecl). t.cpu.0 ≡ cpu.0) → CanFork layout view (at_number cpu n) (commands.Fork thread child)
      which None is has = absurd has
      which (Some parent) is has = fresh thread child there parent is
  can-fork command there named = tt
