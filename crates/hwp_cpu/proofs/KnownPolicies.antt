-- The policies that a processor's view lists are those that its commands set: over a step, and from one command to the next.
use Rattle.std.proofs.Common.{◌≡◌, ◌+◌, ◌<◌, ◌≤◌, ◌==◌, inl, inr, ℕ, zero, suc, Bool, true, false, cond, List, [], ◌∷◌, ◌++◌, Option, None, Some, length, map, slice_get, append-nil, append_assoc, refl, sym, ap, ◌∙◌, arith}
use Rattle.std.specs.List.{cons_option, zip}
use Rattle.std.specs.Option.{option_map_or}
use Rattle.std.proofs.lemmas.Bool.{eq-eqb, ne_eqb}
use Rattle.std.proofs.lemmas.List.{length-map, map-append}
use Rattle.std.proofs.lemmas.List.Elements.{filter-append, filter_map-append}
use Rattle.std.proofs.lemmas.Option.{none-some, same_Some}
use Rattle.hwp_cpu_row.specs.hwp_geom.declared.Layout.{Layout}
use Rattle.hwp_cpu_row.specs.hwp_geom.declared.Proc.{Proc}
use Rattle.hwp_cpu_row.specs.hwp_geom.declared.Thread.{Thread}
use Rattle.hwp_cpu_row.specs.hwp_geom.declared.ThreadDecl.{ThreadDecl}
use Rattle.hwp_cpu_row.specs.hwp_geom.Limits.{command_limit}
use Rattle.hwp_cpu_command.specs.hwp_kill.declared.Policy.{Policy}
use Rattle.hwp_cpu_command.specs.hwp_kill.Prctl.{policy_set}
use Rattle.hwp_cpu_row.specs.hwp_script_words.declared.Command.{Command}
use Rattle.hwp_cpu_row.specs.hwp_script_words.declared.Command.TheVariants as commands
use Rattle.hwp_cpu_row.specs.hwp_report_text.declared.Answer.{Answer}
use Rattle.hwp_cpu_row.specs.hwp_report_text.declared.Answer.TheVariants as answers
use Rattle.hwp_cpu_row.specs.hwp_law.Cows.{acting}
use Rattle.hwp_cpu_row.specs.hwp_law.Settings.{arguments, last_policy, set_behind, setting_of, settings, unset}
use Rattle.hwp_cpu_row.proofs.of_hwp_law.CowLaws.{acting-sets}
use Rattle.hwp_cpu_row.proofs.of_hwp_law.SettingLaws.{settings-few, settings-more}
use Rattle.hwp_cpu_row.specs.hwp_core_rule.declared.Setting.{Setting}
use Rattle.hwp_cpu_row.specs.hwp_core_rule.declared.View.{View}
use Rattle.hwp_cpu_row.specs.hwp_core_rule.parts.Policies.{settings_of}
use Rattle.hwp_cpu_row.specs.hwp_claim_frame.Done.{Grows}
use Rattle.hwp_cpu_row.specs.declared.Row.{Row}
use Rattle.hwp_cpu_command.specs.hwp_cpu_control.Forks.{threads_of}
use Rattle.hwp_cpu_command.specs.hwp_cpu_control.Prctls.{HasSettingLeft}
use Rattle.hwp_cpu_command.specs.declared.job.Job.{Job}
use Rattle.hwp_cpu_command.specs.Jobs.{who}
use Rattle.hwp_cpu_command.specs.Settings.{AreCounted, of_thread, policies_in, policies_now, set_now}
use Rattle.hwp_cpu_command.specs.Stays.{IsAtStop, Stepped}
use Rattle.hwp_cpu.proofs.commands.CommandDeeds.{done, unset-policies-at-start}
use Rattle.hwp_law_served.specs.Accounts.{set_by, set_for}
use Rattle.hwp_law_served.specs.Handles.{answers_by}

-- ---- over a step

-- the policies with one setting more
one-more : (thread : Thread) (list : List Setting) (s : Setting)
    → map (λ (x : Setting). x.policy) (settings_of thread (list ++ s ∷ [])) ≡ map (λ (x : Setting). x.policy) (settings_of thread list) ++ of_thread thread ((s.thread, s.policy) ∷ [])
one-more thread list s =
    ap (map (λ (x : Setting). x.policy)) (filter-append (λ (x : Setting). x.thread.0 == thread.0) list (s ∷ []))
    ∙ map-append (λ (x : Setting). x.policy) (settings_of thread list) (settings_of thread (s ∷ []))
    ∙ ap (λ (l : List Policy). map (λ (x : Setting). x.policy) (settings_of thread list) ++ l) (which (s.thread.0 == thread.0))
  where
    which : (b : Bool) → map (λ (x : Setting). x.policy) (cond b (s ∷ []) []) ≡ cons_option (cond b (Some s.policy) None) []
    which true = refl
    which false = refl

pub counted-on : {layout : Layout} {old new : View} {j k : Job} → Stepped layout old new j k → (before : Thread → List Policy) → AreCounted before old j → AreCounted before new k
counted-on {layout} {old} {new} {j} {k} s before counted thread = which (done s).set
  where
    which : Grows (λ (x : Setting). x.stamp.who) (λ (x : Setting). (x.thread, x.policy)) old.settings new.settings (who j) (policies_now j) (policies_now k) → policies_in thread new ≡ before thread ++ set_now thread k
    which (inl (same, alike)) =
        ap (λ (l : List Setting). map (λ (x : Setting). x.policy) (settings_of thread l)) same ∙ counted thread
        ∙ ap (λ (l : List (Thread × Policy)). before thread ++ of_thread thread l) (sym alike)
    which (inr (x, more, own, longer)) =
        ap (λ (l : List Setting). map (λ (y : Setting). y.policy) (settings_of thread l)) more ∙ one-more thread old.settings x
        ∙ ap (λ (l : List Policy). l ++ of_thread thread ((x.thread, x.policy) ∷ [])) (counted thread)
        ∙ append_assoc (before thread) (set_now thread j) (of_thread thread ((x.thread, x.policy) ∷ []))
        ∙ ap (λ (l : List Policy). before thread ++ l) (sym (filter_map-append (λ (p : Thread × Policy). cond (p.0.0 == thread.0) (Some p.1) None) (policies_now j) ((x.thread, x.policy) ∷ [])))
        ∙ ap (λ (l : List (Thread × Policy)). before thread ++ of_thread thread l) (sym longer)

-- ---- from one command to the next

-- a command that begins has set nothing
pub counted-starts : (before : Thread → List Policy) (view : View) (j : Job) → IsAtStop j → ((thread : Thread) → policies_in thread view ≡ before thread) → AreCounted before view j
counted-starts before view j start all thread =
    all thread ∙ sym (append-nil (before thread)) ∙ ap (λ (l : List (Thread × Policy)). before thread ++ of_thread thread l) (sym (unset-policies-at-start j start))

-- one more thread, which isn't this one
of-other : (thread : Thread) (policy : Policy) (b : Bool) (t : Thread) (rest : List Thread) (want : List Policy) → (t.0 == thread.0) ≡ false → of_thread thread (map (λ (x : Thread). (x, policy)) rest) ≡ want
    → of_thread thread (map (λ (x : Thread). (x, policy)) (cond b (t ∷ rest) rest)) ≡ want
of-other thread policy true t rest want other is = ap (λ (b : Bool). cons_option (cond b (Some policy) None) (of_thread thread (map (λ (x : Thread). (x, policy)) rest))) other ∙ is
of-other thread policy false t rest want other is = is

-- a policy that each thread of a process got is one of each of them, and of no other thread
given-none : (thread : Thread) (policy : Policy) (process : Proc) (n : ℕ) (ts : List ThreadDecl) → thread.0 < n → of_thread thread (map (λ (t : Thread). (t, policy)) (threads_of process n ts)) ≡ []
given-none thread policy process n [] less = refl
given-none thread policy process n (t ∷ ts) less =
    of-other thread policy (t.process.0 == process.0) (record { 0 = n }) (threads_of process (n + 1) ts) [] (ne_eqb n thread.0 (λ same. absurd (omega (arith, less, same)))) (given-none thread policy process (n + 1) ts (omega (arith, less)))

abbrev is_of : Proc → Option ThreadDecl → Bool
is_of process o = option_map_or (λ (t : ThreadDecl). t.process.0 == process.0) o false

given-one : (thread : Thread) (policy : Policy) (process : Proc) (n : ℕ) (ts : List ThreadDecl) (m : ℕ) → thread.0 ≡ n + m
    → of_thread thread (map (λ (t : Thread). (t, policy)) (threads_of process n ts)) ≡ cons_option (cond (is_of process (slice_get ts m)) (Some policy) None) []
given-one thread policy process n [] m is = refl
given-one thread policy process n (t ∷ ts) zero is = which (t.process.0 == process.0)
  where
    rest : of_thread thread (map (λ (x : Thread). (x, policy)) (threads_of process (n + 1) ts)) ≡ []
    rest = given-none thread policy process (n + 1) ts (omega (arith, is))

    own : (n == thread.0) ≡ true
    own = eq-eqb n thread.0 (omega (arith, is))

    which : (b : Bool) → of_thread thread (map (λ (x : Thread). (x, policy)) (cond b (record { 0 = n } ∷ threads_of process (n + 1) ts) (threads_of process (n + 1) ts))) ≡ cons_option (cond b (Some policy) None) []
    which true = ap (λ (b : Bool). cons_option (cond b (Some policy) None) (of_thread thread (map (λ (x : Thread). (x, policy)) (threads_of process (n + 1) ts)))) own ∙ ap (λ (l : List Policy). policy ∷ l) rest
    which false = rest
given-one thread policy process n (t ∷ ts) (suc m) is =
    of-other thread policy (t.process.0 == process.0) (record { 0 = n }) (threads_of process (n + 1) ts) (cons_option (cond (is_of process (slice_get ts m)) (Some policy) None) []) (ne_eqb n thread.0 (λ same. absurd (omega (arith, is, same))))
    (given-one thread policy process (n + 1) ts m (omega (arith, is)))

-- what a command has set for the thread is what its answer says
by-answer : (layout : Layout) (earlier : List (Command × Answer)) (thread : Thread) (command : Command) (answer : Answer)
    → of_thread thread (set_by layout earlier command answer) ≡ cons_option (setting_of layout (set_behind layout unset earlier) thread.0 command answer) []
by-answer layout earlier thread (commands.Prctl other args) answers.Done = which (policy_set (arguments args)) (other.0 == thread.0) refl
  where
    which : (o : Option Policy) (b : Bool) → (other.0 == thread.0) ≡ b → of_thread thread (set_for other o) ≡ cons_option (cond (other.0 == thread.0) o None) []
    which None true is = ap (λ (c : Bool). cons_option (cond {A = Option Policy} c None None) []) (sym is)
    which None false is = ap (λ (c : Bool). cons_option (cond {A = Option Policy} c None None) []) (sym is)
    which (Some policy) b is = refl
by-answer layout earlier thread (commands.Fork parent process) answers.Done = given-one thread (last_policy (settings layout parent earlier)) process 0 layout.threads thread.0 (let same : thread.0 ≡ 0 + thread.0 = omega arith in same)
by-answer layout earlier thread command answer = refl

abbrev unanswered : List Answer
unanswered = []

-- the commands that are answered, with one more
pub answers-more : (list : List Command) (rows : List Row) (command : Command) (row : Row) → slice_get list (length rows) ≡ Some command → answers_by list (rows ++ row ∷ []) ≡ answers_by list rows ++ (command, row.answer) ∷ []
answers-more [] rows command row there = absurd (none-some command there)
answers-more (c ∷ cs) [] command row there = ap (λ (x : Command). (x, row.answer) ∷ zip cs unanswered) (same_Some c command there) ∙ ap (λ (l : List (Command × Answer)). (command, row.answer) ∷ l) (zip-none cs)
  where
    zip-none : (l : List Command) → zip l unanswered ≡ []
    zip-none [] = refl
    zip-none (x ∷ xs) = refl
answers-more (c ∷ cs) (r ∷ rs) command row there = ap (λ (l : List (Command × Answer)). (c, r.answer) ∷ l) (answers-more cs rs command row there)

-- the policies that were set are those of the script's commands, as it stands: a processor acts on a command that sets the same
pub counted-ends : (layout : Layout) (list : List Command) (rows : List Row) (view : View) (own command : Command) (j : Job) (row : Row) → command ≡ acting layout (answers_by list rows) own → AreCounted (λ (t : Thread). settings layout t (answers_by list rows)) view j
    → policies_now j ≡ set_by layout (answers_by list rows) command row.answer → slice_get list (length rows) ≡ Some own → (thread : Thread) → policies_in thread view ≡ settings layout thread (answers_by list (rows ++ row ∷ []))
counted-ends layout list rows view own command j row acts counted set there thread =
    counted thread
    ∙ ap (λ (l : List (Thread × Policy)). settings layout thread earlier ++ of_thread thread l) set
    ∙ ap (λ (l : List Policy). settings layout thread earlier ++ l) (by-answer layout earlier thread command row.answer
    ∙ ap (λ (x : Command). cons_option (setting_of layout (set_behind layout unset earlier) thread.0 x row.answer) []) acts
    ∙ ap (λ (o : Option Policy). cons_option o []) (acting-sets layout earlier (set_behind layout unset earlier) thread.0 own row.answer))
    ∙ sym (settings-more layout thread earlier (own, row.answer))
    ∙ ap (settings layout thread) (sym (answers-more list rows own row there))
  where
    earlier : List (Command × Answer)
    earlier = answers_by list rows

-- ---- how many there are

few-answers : (list : List Command) (rows : List Row) → length (answers_by list rows) ≤ length rows
few-answers [] rows = omega arith
few-answers (c ∷ cs) [] = omega arith
few-answers (c ∷ cs) (r ∷ rs) = let few : length (answers_by cs rs) ≤ length rs = few-answers cs rs in omega (arith, few)

-- each thread can be set once more by the command that begins
pub setting-left : (layout : Layout) (list : List Command) (rows : List Row) (view : View) → ((thread : Thread) → policies_in thread view ≡ settings layout thread (answers_by list rows)) → length rows < command_limit → (thread : Thread) → HasSettingLeft thread view
setting-left layout list rows view all below thread =
    let few : length (settings layout thread (answers_by list rows)) ≤ length (answers_by list rows) = settings-few layout thread (answers_by list rows) in
    let fewer : length (answers_by list rows) ≤ length rows = few-answers list rows in
    let same : length (policies_in thread view) ≡ length (settings layout thread (answers_by list rows)) = ap (λ (l : List Policy). length l) (all thread) in
    let many : length (policies_in thread view) ≡ length (settings_of thread view.settings) = length-map (settings_of thread view.settings) (λ (s : Setting). s.policy) in
    omega (arith, few, fewer, same, many, below)
