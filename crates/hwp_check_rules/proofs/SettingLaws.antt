-- The policies that commands set, by flags of which commands were done; and the policy of a thread, read from the last command on.
use Rattle.std.proofs.Common.{◌≡◌, inl, inr, ℕ, zero, suc, ◌+◌, ◌-◌, ◌<◌, ◌≤◌, ◌==◌, min, Bool, true, false, List, [], ◌∷◌, ◌++◌, Option, Some, None, is_some, cond, fold, get_or, length, map, option_and_then, option_map, take, slice_get, slice_index, slice_index_or, unwrap_or, refl, sym, ap, ◌∙◌, subst, arith}
use Rattle.std.specs.Int.{from_bool}
use Rattle.std.specs.List.{cons_option, zip}
use Rattle.std.specs.Option.{option_to_list}
use Rattle.std.proofs.Math.Path.{fun_ext}
use Rattle.std.proofs.lemmas.Bool.{cases_lt}
use Rattle.std.proofs.lemmas.List.{append-nil, get_or_append_left, get_or_push, length-append, length-map, length_push, take_all, take_more}
use Rattle.std.proofs.lemmas.List.Sums.{fold-append}
use Rattle.std.proofs.lemmas.Option.{slice_get-get_or, none-some, same_Some}
use Rattle.hwp_law.specs.hwp_geom.declared.Cpu.{Cpu}
use Rattle.hwp_law.specs.hwp_geom.declared.Layout.{Layout}
use Rattle.hwp_law.specs.hwp_geom.declared.Thread.{Thread}
use Rattle.hwp_law.specs.hwp_kill.Prctl.{policy_set}
use Rattle.hwp_law.specs.hwp_kill.declared.Policy.{Policy}
use Rattle.hwp_law.specs.hwp_kill.declared.Policy.TheVariants.{Default}
use Rattle.hwp_law.specs.hwp_script_words.Forks.{is_thread_of}
use Rattle.hwp_law.specs.hwp_script_words.declared.Command.{Command}
use Rattle.hwp_law.specs.hwp_script_words.declared.Command.TheVariants as commands
use Rattle.hwp_law.specs.hwp_script_words.declared.Script.{Script}
use Rattle.hwp_law.specs.hwp_report_text.declared.Answer.{Answer}
use Rattle.hwp_law.specs.hwp_report_text.declared.Answer.TheVariants as answers
use Rattle.hwp_law.specs.hwp_report_text.declared.CpuLine.{CpuLine}
use Rattle.hwp_law.specs.hwp_report_text.declared.Report.{Report}
use Rattle.hwp_law.specs.Lines.{answer_among, answered, answers_to}
use Rattle.hwp_law.specs.Settings.{arguments, last_policy, set_after, set_behind, setting_of, settings, unset}
use Rattle.hwp_law.specs.Policies.{answered_on}
use Rattle.hwp_law.specs.SeenPolicies.{cpu_of_thread}
use Rattle.hwp_law.proofs.AnswersInOrder.{answer-from}
use Rattle.hwp_check_rules.specs.declared.pasts.ThreadPolicies.{ThreadPolicies}
use Rattle.hwp_check_rules.specs.declared.policies.PolicyStep.{PolicyStep}
use Rattle.hwp_check_rules.specs.declared.policies.PolicyStep.TheVariants as steps
use Rattle.hwp_check_rules.specs.Pasts.{AreCounts, AreDone, IsPast, by_flags, flag_answer, is_done, next_of, policy_by, set_by_pair, set_if, set_in, set_step, settings_by, step_of}

-- ---- by answers and by flags

-- these flags are of commands with these answers
abbrev AreOf : List Answer → List Bool → Type 0
AreOf told flags = (k : ℕ) (d : Bool) → k < length flags → slice_index_or flags k d ≡ is_done (slice_get told k)

-- one that was told no answer wasn't done
told-done : (o : Option Answer) → is_done o ≡ is_done (Some (unwrap_or o answers.Stopped))
told-done None = refl
told-done (Some answer) = refl

of-answers : (list : List Command) (rows : List CpuLine) (flags : List Bool) → length flags ≡ length list → AreDone rows flags → AreOf (answers_to list rows) flags
of-answers list rows flags each are k d less =
    let same : k ≡ 0 + k = omega arith in
    are k d less ∙ ap (λ (i : ℕ). is_done (answer_among rows i)) same ∙ told-done (answer_among rows (0 + k))
    ∙ ap is_done (sym (answer-from (answer_among rows) 0 (length list) k (omega (arith, each, less))))

module _ (layout : Layout) where
  by-flag : (set : ℕ → List Policy) (thread : ℕ) (command : Command) (answer : Answer) → setting_of layout set thread command answer ≡ setting_of layout set thread command (flag_answer (is_done (Some answer)))
  by-flag set thread (commands.Prctl other args) answers.Done = refl
  by-flag set thread (commands.Prctl other args) answer = refl
  by-flag set thread (commands.Fork parent process) answers.Done = refl
  by-flag set thread (commands.Fork parent process) answer = refl
  by-flag set thread command answers.Done = refl
  by-flag set thread command answer = refl

  none-set : (set : ℕ → List Policy) (thread : ℕ) (command : Command) → setting_of layout set thread command answers.Stopped ≡ None
  none-set set thread (commands.Prctl other args) = refl
  none-set set thread (commands.Fork parent process) = refl
  none-set set thread command = refl

  after-flag : (set : ℕ → List Policy) (c : Command) (a : Answer) → set_after layout set (c, a) ≡ set_after layout set (c, flag_answer (is_done (Some a)))
  after-flag set c a = fun_ext (λ (thread : ℕ). ap (λ (o : Option Policy). set thread ++ cons_option o []) (by-flag set thread c a))

  after-none : (set : ℕ → List Policy) (c : Command) → set_after layout set (c, answers.Stopped) ≡ set
  after-none set c = fun_ext (λ (thread : ℕ). ap (λ (o : Option Policy). set thread ++ cons_option o []) (none-set set thread c) ∙ append-nil (set thread))

  abbrev unanswered : List Answer
  unanswered = []

  none-answered : (list : List Command) (n : ℕ) → take n (zip list unanswered) ≡ []
  none-answered [] zero = refl
  none-answered [] (suc n) = refl
  none-answered (c ∷ cs) zero = refl
  none-answered (c ∷ cs) (suc n) = refl

  behind-flags : (list : List Command) (told : List Answer) (flags : List Bool) (n : ℕ) (set : ℕ → List Policy) → length flags ≡ length list → AreOf told flags
      → set_behind layout set (take n (zip list told)) ≡ set_behind layout set (take n (by_flags list flags))
  behind-flags list told flags zero set each are = refl
  behind-flags [] told flags (suc n) set each are = refl
  behind-flags (c ∷ cs) told [] (suc n) set each are = absurd (omega (arith, each))
  behind-flags (c ∷ cs) [] (f ∷ fs) (suc n) set each are =
      ap (set_behind layout set) (sym (none-answered cs n))
      ∙ behind-flags cs [] fs n set (omega (arith, each)) (λ k d less. are (suc k) d (omega (arith, less)))
      ∙ ap (λ (s : ℕ → List Policy). set_behind layout s (take n (by_flags cs fs))) (sym (ap (λ (b : Bool). set_after layout set (c, flag_answer b)) (are 0 f (omega arith)) ∙ after-none set c))
  behind-flags (c ∷ cs) (a ∷ rest) (f ∷ fs) (suc n) set each are =
      behind-flags cs rest fs n (set_after layout set (c, a)) (omega (arith, each)) (λ k d less. are (suc k) d (omega (arith, less)))
      ∙ ap (λ (s : ℕ → List Policy). set_behind layout s (take n (by_flags cs fs))) (after-flag set c a ∙ ap (λ (b : Bool). set_after layout set (c, flag_answer b)) (sym (are 0 f (omega arith))))

  pub settings-flags : (thread : Thread) (list : List Command) (rows : List CpuLine) (flags : List Bool) (n : ℕ) → length flags ≡ length list → AreDone rows flags
      → settings layout thread (take n (answered list rows)) ≡ settings layout thread (take n (by_flags list flags))
  settings-flags thread list rows flags n each are = ap (λ (s : ℕ → List Policy). s thread.0) (behind-flags list (answers_to list rows) flags n unset each (of-answers list rows flags each are))

  -- they are no more than the commands
  zip-most : (list : List Command) (told : List Answer) → length (zip list told) ≤ length list
  zip-most [] told = omega arith
  zip-most (c ∷ cs) [] = omega arith
  zip-most (c ∷ cs) (a ∷ rest) = let few : length (zip cs rest) ≤ length cs = zip-most cs rest in omega (arith, few)

  all-settings : (thread : Thread) (list : List Command) (rows : List CpuLine) (flags : List Bool) → length flags ≡ length list → AreDone rows flags → settings_by layout thread list flags ≡ settings layout thread (answered list rows)
  all-settings thread list rows flags each are =
      ap (settings layout thread) (sym (take_all {A = Command × Answer} (length list) (by_flags list flags) (zip-most list (map flag_answer flags))))
      ∙ sym (settings-flags thread list rows flags (length list) each are)
      ∙ ap (settings layout thread) (take_all {A = Command × Answer} (length list) (answered list rows) (zip-most list (answers_to list rows)))

  pub all-taken : (list : List Command) (flags : List Bool) (n : ℕ) → length list ≤ n → take n (by_flags list flags) ≡ by_flags list flags
  all-taken list flags n past = let most : length (by_flags list flags) ≤ length list = zip-most list (map flag_answer flags) in take_all {A = Command × Answer} n (by_flags list flags) (omega (arith, most, past))

  -- ---- one command more

  module _ (list : List Command) (flags : List Bool) (each : length flags ≡ length list) where
    abbrev pairs : List (Command × Answer)
    pairs = by_flags list flags

    abbrev behind : ℕ → ℕ → List Policy
    behind n = set_behind layout unset (take n pairs)

    pair-at : (xs : List Command) (fs : List Bool) (n : ℕ) (c : Command) (f : Bool) → length fs ≡ length xs → n < length xs → slice_get {X = Command × Answer} (by_flags xs fs) n ≡ Some (get_or xs n c, flag_answer (get_or fs n f))
    pair-at [] fs n c f same within = absurd (omega (arith, within))
    pair-at (x ∷ xs) [] n c f same within = absurd (omega (arith, same))
    pair-at (x ∷ xs) (g ∷ fs) zero c f same within = refl
    pair-at (x ∷ xs) (g ∷ fs) (suc n) c f same within = pair-at xs fs n c f (omega (arith, same)) (omega (arith, within))

    next-pairs : (ps : List (Command × Answer)) (n : ℕ) (p : Command × Answer) → slice_get ps n ≡ Some p → take (n + 1) ps ≡ take n ps ++ p ∷ []
    next-pairs [] n p there = absurd (none-some p there)
    next-pairs (q ∷ ps) zero p there = ap (λ (x : Command × Answer). x ∷ []) (same_Some q p there)
    next-pairs (q ∷ ps) (suc n) p there =
        let same : suc n + 1 ≡ suc (n + 1) = omega arith in
        ap (λ (k : ℕ). take {A = Command × Answer} k (q ∷ ps)) same ∙ ap (λ (l : List (Command × Answer)). q ∷ l) (next-pairs ps n p there)

    behind-next : (n : ℕ) (c : Command) (f : Bool) → n < length list → behind (n + 1) ≡ set_after layout (behind n) (get_or list n c, flag_answer (get_or flags n f))
    behind-next n c f within =
        ap (set_behind layout unset) (next-pairs pairs n (get_or list n c, flag_answer (get_or flags n f)) (pair-at list flags n c f each within))
        ∙ fold-append (set_after layout) unset (take n pairs) ((get_or list n c, flag_answer (get_or flags n f)) ∷ [])

    set-at : (thread : Thread) (n : ℕ) (c : Command) (f : Bool) → n < length list → set_if layout thread list flags n ≡ setting_of layout (behind n) thread.0 (get_or list n c) (flag_answer (get_or flags n f))
    set-at thread n c f within = ap (option_and_then (set_by_pair layout (behind n) thread)) (pair-at list flags n c f each within)

    settings-next : (thread : Thread) (n : ℕ) (c : Command) (f : Bool) → n < length list → settings layout thread (take (n + 1) pairs) ≡ settings layout thread (take n pairs) ++ cons_option (set_if layout thread list flags n) []
    settings-next thread n c f within =
        ap (λ (s : ℕ → List Policy). s thread.0) (behind-next n c f within)
        ∙ ap (λ (o : Option Policy). settings layout thread (take n pairs) ++ cons_option o []) (sym (set-at thread n c f within))

    -- the default where a list is read
    any-command : Command
    any-command = commands.RaiseKernel false false

    one-list : (o : Option Policy) → cons_option o [] ≡ option_to_list o
    one-list None = refl
    one-list (Some policy) = refl

    pub policies-more : (thread : Thread) (n : ℕ) (old new : List Policy) (o : Option Policy) → n < length list → old ≡ settings layout thread (take n pairs) → o ≡ set_if layout thread list flags n
        → new ≡ old ++ option_to_list o → new ≡ settings layout thread (take (n + 1) pairs)
    policies-more thread n old new o within old_is o_is is =
        is ∙ ap (λ (l : List Policy). l ++ option_to_list o) old_is ∙ ap (λ (l : List Policy). settings layout thread (take n pairs) ++ l) (sym (one-list o) ∙ ap (λ (q : Option Policy). cons_option q []) o_is)
        ∙ sym (settings-next thread n any-command false within)

    option-length : (o : Option Policy) → length (cons_option o []) ≡ from_bool (is_some o)
    option-length None = refl
    option-length (Some policy) = refl

    pub count-more : (thread : Thread) (n : ℕ) (count more : ℕ) → n < length list → count ≡ length (settings layout thread (take n pairs)) → more ≡ from_bool (is_some (set_if layout thread list flags n))
        → count + more ≡ length (settings layout thread (take (n + 1) pairs))
    count-more thread n count more within was one =
        let all : length (settings layout thread (take (n + 1) pairs)) ≡ length (settings layout thread (take n pairs) ++ cons_option (set_if layout thread list flags n) []) = ap (λ (l : List Policy). length l) (settings-next thread n any-command false within) in
        let both : length (settings layout thread (take n pairs) ++ cons_option (set_if layout thread list flags n) []) ≡ length (settings layout thread (take n pairs)) + length (cons_option (set_if layout thread list flags n) []) =
        length-append (settings layout thread (take n pairs)) (cons_option (set_if layout thread list flags n) []) in
        let own : length (cons_option (set_if layout thread list flags n) []) ≡ from_bool (is_some (set_if layout thread list flags n)) = option-length (set_if layout thread list flags n) in
        omega (arith, was, one, all, both, own)

    pub counts-more : (thread : Thread) (n count : ℕ) (counts : List ℕ) → AreCounts layout thread list flags n counts → count ≡ length (settings layout thread (take n pairs)) → AreCounts layout thread list flags (n + 1) (counts ++ count ∷ [])
    counts-more thread n count counts are is = record {
      many = let l : length (counts ++ count ∷ []) ≡ length counts + 1 = length_push counts count in let m : length counts ≡ n = are.many in omega (arith, l, m);
      each = λ k within. elim (cases_lt k n) [
        | inl low ↦ get_or_append_left counts (count ∷ []) 0 k (let m : length counts ≡ n = are.many in omega (arith, m, low)) ∙ are.each k low
        | inr high ↦
            let same : k ≡ n = omega (arith, within, high) in
            get_or_push counts count 0 k (are.many ∙ sym same) ∙ is ∙ ap (λ (i : ℕ). length (settings layout thread (take i pairs))) (sym same)
      ];
    }

    pub counts-none : (thread : Thread) (counts : List ℕ) → counts ≡ [] → (0 ≤ 0) × AreCounts layout thread list flags 0 counts × (0 ≡ length (settings layout thread (take 0 pairs)))
    counts-none thread counts is = (
      omega arith,
      subst (AreCounts layout thread list flags 0) (sym is) (record { many = refl; each = λ k within. absurd (omega (arith, within)) }),
      refl,
    )

    -- ---- what a command does to the policy of a thread

    abbrev policy_or : Option Policy → Policy → Policy
    policy_or None old = old
    policy_or (Some policy) old = policy

    last-push : (xs : List Policy) (o : Option Policy) → last_policy (xs ++ cons_option o []) ≡ policy_or o (last_policy xs)
    last-push xs None = ap last_policy (append-nil xs)
    last-push xs (Some policy) = fold-append (λ (earlier later : Policy). later) Default xs (policy ∷ [])

    abbrev set_by_step : (ℕ → List Policy) → PolicyStep → Option Policy
    set_by_step set steps.Stays = None
    set_by_step set (steps.Set policy) = Some policy
    set_by_step set (steps.From parent) = Some (last_policy (set parent.0))

    step-sets : (set : ℕ → List Policy) (thread : Thread) (c : Command) (f : Bool) → setting_of layout set thread.0 c (flag_answer f) ≡ set_by_step set (step_of layout thread c f)
    step-sets set thread (commands.Prctl other args) true = by (other.0 == thread.0) (policy_set (arguments args))
      where
        by : (b : Bool) (o : Option Policy) → cond b o None ≡ set_by_step set (cond b (set_step o) steps.Stays)
        by true None = refl
        by true (Some policy) = refl
        by false o = refl
    step-sets set thread (commands.Fork parent process) true = by (is_thread_of layout process.0 thread.0)
      where
        by : (b : Bool) → cond b (Some (last_policy (set parent.0))) None ≡ set_by_step set (cond b (steps.From parent) steps.Stays)
        by true = refl
        by false = refl
    step-sets set thread (commands.Prctl other args) false = refl
    step-sets set thread (commands.Fork parent process) false = refl
    step-sets set thread c true = refl
    step-sets set thread c false = refl

    pub set-by : (thread : Thread) (n : ℕ) (c : Command) (f : Bool) → n < length list → set_if layout thread list flags n ≡ set_by_step (behind n) (step_of layout thread (get_or list n c) (get_or flags n f))
    set-by thread n c f within = set-at thread n c f within ∙ step-sets (behind n) thread (get_or list n c) (get_or flags n f)

    policy-next : (thread : Thread) (n : ℕ) (c : Command) (f : Bool) (step : PolicyStep) → n < length list → step ≡ step_of layout thread (get_or list n c) (get_or flags n f)
        → policy_by layout thread list flags (n + 1) ≡ policy_or (set_by_step (behind n) step) (policy_by layout thread list flags n)
    policy-next thread n c f step within is =
        ap last_policy (settings-next thread n c f within) ∙ last-push (settings layout thread (take n pairs)) (set_if layout thread list flags n)
        ∙ ap (λ (o : Option Policy). policy_or o (policy_by layout thread list flags n)) (set-by thread n c f within ∙ ap (set_by_step (behind n)) (sym is))

    pub set-found : (thread : Thread) (n : ℕ) (c x : Command) (f y : Bool) (step given : PolicyStep) (o : Option Policy) → n < length list → x ≡ get_or list n c → y ≡ get_or flags n f → step ≡ step_of layout thread x y → step ≡ given
        → o ≡ set_by_step (behind n) given → o ≡ set_if layout thread list flags n
    set-found thread n c x f y step given o within x_is y_is is given_is o_is =
        o_is ∙ ap (set_by_step (behind n)) (sym given_is ∙ is ∙ ap (λ (d : Command). step_of layout thread d y) x_is ∙ ap (step_of layout thread (get_or list n c)) y_is) ∙ sym (set-by thread n c f within)

    -- so the policy before a command is read from the last one on
    module _ (whose thread : Thread) (number back n : ℕ) (c x : Command) (f y : Bool) (step : PolicyStep) (low : back < number) (few : number ≤ length list) (n_is : n ≡ number - 1 - back)
        (x_is : x ≡ get_or list n c) (y_is : y ≡ get_or flags n f) (is : step ≡ step_of layout thread x y) (so_far : policy_by layout thread list flags (number - back) ≡ policy_by layout whose list flags number) where
      behind-step : policy_by layout whose list flags number ≡ policy_or (set_by_step (behind n) step) (policy_by layout thread list flags n)
      behind-step =
          let at : number - back ≡ n + 1 = omega (arith, low, n_is) in
          sym so_far ∙ ap (policy_by layout thread list flags) at
          ∙ policy-next thread n c f step (omega (arith, low, few, n_is)) (is ∙ ap (λ (d : Command). step_of layout thread d y) x_is ∙ ap (step_of layout thread (get_or list n c)) y_is)

      pub step-set : (policy : Policy) → set_in step ≡ Some policy → policy ≡ policy_by layout whose list flags number
      step-set policy set = by step set behind-step
        where
          by : (s : PolicyStep) → set_in s ≡ Some policy → policy_by layout whose list flags number ≡ policy_or (set_by_step (behind n) s) (policy_by layout thread list flags n) → policy ≡ policy_by layout whose list flags number
          by steps.Stays sets then = absurd (none-some policy sets)
          by (steps.Set p) sets then = sym (same_Some p policy sets) ∙ sym then
          by (steps.From parent) sets then = absurd (none-some policy sets)

      pub step-passed : (next : Thread) → set_in step ≡ None → next ≡ next_of step thread → policy_by layout next list flags (number - (back + 1)) ≡ policy_by layout whose list flags number
      step-passed next none next_is =
          let at : number - (back + 1) ≡ n = omega (arith, low, n_is) in
          ap (policy_by layout next list flags) at ∙ ap (λ (t : Thread). policy_by layout t list flags n) next_is ∙ by step none behind-step
        where
          by : (s : PolicyStep) → set_in s ≡ None → policy_by layout whose list flags number ≡ policy_or (set_by_step (behind n) s) (policy_by layout thread list flags n) → policy_by layout (next_of s thread) list flags n ≡ policy_by layout whose list flags number
          by steps.Stays sets then = sym then
          by (steps.Set p) sets then = absurd (none-some p (sym sets))
          by (steps.From parent) sets then = sym then

    pub policy-first : (whose thread : Thread) (number back : ℕ) → number ≤ back → policy_by layout thread list flags (number - back) ≡ policy_by layout whose list flags number → Default ≡ policy_by layout whose list flags number
    policy-first whose thread number back past so_far = let none : number - back ≡ 0 = omega (arith, past) in sym (ap (policy_by layout thread list flags) none) ∙ so_far

  -- how many there are before a command
  count-before : (thread : Thread) (list : List Command) (rows : List CpuLine) (flags : List Bool) (counts : List ℕ) (seq : ℕ) → length flags ≡ length list → AreDone rows flags → AreCounts layout thread list flags (length list + 1) counts
      → slice_index counts (min seq (length list)) ≡ length (settings layout thread (take seq (answered list rows)))
  count-before thread list rows flags counts seq each are counted =
      counted.each (min seq (length list)) (omega arith)
      ∙ ap (λ (l : List (Command × Answer)). length (settings layout thread l)) (cut (by_flags list flags) seq (zip-most list (map flag_answer flags)))
      ∙ ap (λ (l : List Policy). length l) (sym (settings-flags thread list rows flags seq each are))
    where
      cut : (ps : List (Command × Answer)) (n : ℕ) → length ps ≤ length list → take (min n (length list)) ps ≡ take n ps
      cut ps n few = elim (cases_lt n (length list)) [
        | inl low ↦ let same : min n (length list) ≡ n = omega (arith, low) in ap (λ (k : ℕ). take k ps) same
        | inr high ↦
            let same : min n (length list) ≡ length list = omega (arith, high) in
            ap (λ (k : ℕ). take k ps) same ∙ take_all {A = Command × Answer} (length list) ps few ∙ sym (take_all {A = Command × Answer} n ps (omega (arith, few, high)))
      ]

-- what stands in a past
pub past_is : (script : Script) (report : Report) (thread : Thread) (past : ThreadPolicies) (list : List Command) (rows : List CpuLine) (flags : List Bool) → cpu_of_thread script thread ≡ Some past.cpu
    → list ≡ unwrap_or (slice_get script.lists past.cpu.0) [] → rows ≡ unwrap_or (slice_get report.cpus past.cpu.0) []
    → length flags ≡ length list → AreDone rows flags → past.policies ≡ settings_by script.layout thread list flags → AreCounts script.layout thread list flags (length list + 1) past.done → IsPast script report thread past
past_is script report thread past list rows flags of_cpu list-is rows-is each are policies counted = record {
  of_cpu = of_cpu;
  policies = policies ∙ all-settings script.layout thread list rows flags each are ∙ ap (settings script.layout thread) (on ∙ ap (λ (o : Option Cpu). unwrap_or (option_map (answered_on script report) o) []) (sym of_cpu));
  some = let long : length past.done ≡ length list + 1 = counted.many in omega (arith, long);
  done = λ seq.
      ap (λ (n : ℕ). slice_index past.done (min seq n)) place
      ∙ count-before script.layout thread list rows flags past.done seq each are counted ∙ ap (λ (l : List (Command × Answer)). length (settings script.layout thread (take seq l))) on;
}
  where
    on : answered list rows ≡ answered_on script report past.cpu
    on = λ i. answered (list-is i) (rows-is i)

    place : length past.done - 1 ≡ length list
    place = let long : length past.done ≡ length list + 1 = counted.many in omega (arith, long)
