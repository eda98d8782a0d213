-- The settings of a thread that a view lists by commands below a number are as many as its processor's commands below it made.
use Rattle.std.proofs.Common.{◌≡◌, ℕ, zero, suc, ◌+◌, ◌<◌, ◌≤◌, ◌==◌, ◌&&◌, nat_lt, Bool, true, false, cond, List, [], ◌∷◌, ◌++◌, Option, None, Some, filter, length, map, take, slice_get, refl, sym, ap, ◌∙◌, arith, true≢false}
use Rattle.std.specs.Option.{option_map_or}
use Rattle.std.specs.Int.{from_bool}
use Rattle.std.specs.List.{cons_option, sum_by}
use Rattle.std.proofs.lemmas.Bool.{eq-eqb, eqb-true, le-ltb, ltb-false, ltb-true, ne_eqb}
use Rattle.std.proofs.lemmas.List.{length-append}
use Rattle.std.proofs.lemmas.List.Sums.{sum_by-cons}
use Rattle.std.proofs.lemmas.Option.{none-some, same_Some}
use Rattle.hwp_law_served.specs.hwp_geom.declared.Cpu.{Cpu}
use Rattle.hwp_law_served.specs.hwp_geom.declared.Layout.{Layout}
use Rattle.hwp_law_served.specs.hwp_geom.declared.Proc.{Proc}
use Rattle.hwp_law_served.specs.hwp_geom.declared.Thread.{Thread}
use Rattle.hwp_law_served.specs.hwp_geom.declared.ThreadDecl.{ThreadDecl}
use Rattle.hwp_law_served.specs.hwp_kill.declared.Policy.{Policy}
use Rattle.hwp_law_served.specs.hwp_kill.Prctl.{policy_set}
use Rattle.hwp_law_served.specs.hwp_core_rule.declared.Setting.{Setting}
use Rattle.hwp_law_served.specs.hwp_core_rule.Lists.{EachMember}
use Rattle.hwp_law_served.specs.hwp_script_words.declared.Command.{Command}
use Rattle.hwp_law_served.specs.hwp_script_words.declared.Command.TheVariants as commands
use Rattle.hwp_law_served.specs.hwp_report_text.declared.Answer.{Answer}
use Rattle.hwp_law_served.specs.hwp_report_text.declared.Answer.TheVariants as answers
use Rattle.hwp_law_served.specs.hwp_law.Settings.{arguments, last_policy, set_behind, setting_of, settings, unset}
use Rattle.hwp_law_served.specs.hwp_script_words.Forks.{is_thread_of}
use Rattle.hwp_law_served.specs.hwp_cpu_control.Forks.{threads_of}
use Rattle.hwp_law_served.proofs.of_hwp_law.SettingLaws.{settings-more}
use Rattle.hwp_law_served.proofs.Homes.{there-is}
use Rattle.hwp_law_served.specs.Accounts.{is_same, set_by, set_for}
use Rattle.hwp_top_report.proofs.policies.PolicyCounts.{is_before, made_before}

-- how many of these are of the thread
abbrev pub are_of : Thread → List (Thread × Policy) → ℕ
are_of thread list = sum_by (λ (p : Thread × Policy). from_bool (p.0.0 == thread.0)) list

abbrev pub set_of : Setting → Thread × Policy
set_of g = (g.thread, g.policy)

-- a command is one below the next number where it is one below this, or of this
next-before : (a b : ℕ) → from_bool (nat_lt a (b + 1)) ≡ from_bool (nat_lt a b) + from_bool (a == b)
next-before a b = which (nat_lt a (b + 1)) (nat_lt a b) (a == b) refl refl refl
  where
    which : (x y z : Bool) → nat_lt a (b + 1) ≡ x → nat_lt a b ≡ y → (a == b) ≡ z → from_bool x ≡ from_bool y + from_bool z
    which true true true x y z = let less : a < b = ltb-true a b y in let same : a ≡ b = eqb-true a b z in absurd (omega (arith, less, same))
    which true true false x y z = refl
    which true false true x y z = refl
    which true false false x y z = let low : a < b + 1 = ltb-true a (b + 1) x in let high : b ≤ a = ltb-false a b y in let same : a ≡ b = omega (arith, low, high) in absurd (true≢false (sym (eq-eqb a b same) ∙ z))
    which false true z x y is = let high : b + 1 ≤ a = ltb-false a (b + 1) x in let less : a < b = ltb-true a b y in absurd (omega (arith, high, less))
    which false false true x y z = let high : b + 1 ≤ a = ltb-false a (b + 1) x in let same : a ≡ b = eqb-true a b z in absurd (omega (arith, high, same))
    which false false false x y z = refl

and-zero : (a : Bool) → from_bool (a && false) ≡ 0
and-zero true = refl
and-zero false = refl

-- the settings below the next number are those below this one, and those of its command
pub step-count : (thread : Thread) (cpu : Cpu) (n : ℕ) (l : List Setting) → EachMember (λ (g : Setting). g.stamp.who.cpu ≡ cpu) l
    → made_before thread (n + 1) l ≡ made_before thread n l + are_of thread (map set_of (filter (λ (g : Setting). is_same (record { cpu = cpu; seq = n }) g.stamp.who) l))
step-count thread cpu n [] own = refl
step-count thread cpu n (g ∷ gs) own =
    let rest : made_before thread (n + 1) gs ≡ made_before thread n gs + are_of thread (map set_of (filter (λ (x : Setting). is_same (record { cpu = cpu; seq = n }) x.stamp.who) gs)) = step-count thread cpu n gs (λ i x there. own (suc i) x there) in
    let high : made_before thread (n + 1) (g ∷ gs) ≡ is_before thread (n + 1) g + made_before thread (n + 1) gs = sum_by-cons (is_before thread (n + 1)) g gs in
    let low : made_before thread n (g ∷ gs) ≡ is_before thread n g + made_before thread n gs = sum_by-cons (is_before thread n) g gs in
    let same : (g.stamp.who.cpu.0 == cpu.0) ≡ true = eq-eqb g.stamp.who.cpu.0 cpu.0 (ap (λ (c : Cpu). c.0) (own 0 g refl)) in
    let one : are_of thread (map set_of (filter (λ (x : Setting). is_same (record { cpu = cpu; seq = n }) x.stamp.who) (g ∷ gs))) ≡ from_bool ((g.thread.0 == thread.0) && (g.stamp.who.seq == n)) + are_of thread (map set_of (filter (λ (x : Setting). is_same (record { cpu = cpu; seq = n }) x.stamp.who) gs))
    = front (g.stamp.who.cpu.0 == cpu.0) (g.stamp.who.seq == n) (filter (λ (x : Setting). is_same (record { cpu = cpu; seq = n }) x.stamp.who) gs) same in
    let split : is_before thread (n + 1) g ≡ is_before thread n g + from_bool ((g.thread.0 == thread.0) && (g.stamp.who.seq == n)) = both (g.thread.0 == thread.0) in
    omega (arith, rest, high, low, one, split)
  where
    front : (a b : Bool) (l : List Setting) → a ≡ true → are_of thread (map set_of (cond (a && b) (g ∷ l) l)) ≡ from_bool ((g.thread.0 == thread.0) && b) + are_of thread (map set_of l)
    front true true l is = sum_by-cons (λ (p : Thread × Policy). from_bool (p.0.0 == thread.0)) (set_of g) (map set_of l) ∙ ap (λ (k : ℕ). k + are_of thread (map set_of l)) (and-one (g.thread.0 == thread.0))
      where
        and-one : (c : Bool) → from_bool c ≡ from_bool (c && true)
        and-one true = refl
        and-one false = refl
    front true false l is = let none : from_bool ((g.thread.0 == thread.0) && false) ≡ 0 = and-zero (g.thread.0 == thread.0) in omega (arith, none)
    front false b l is = absurd (true≢false (sym is))

    both : (c : Bool) → from_bool (c && nat_lt g.stamp.who.seq (n + 1)) ≡ from_bool (c && nat_lt g.stamp.who.seq n) + from_bool (c && (g.stamp.who.seq == n))
    both true = next-before g.stamp.who.seq n
    both false = refl

-- ---- what commands set

-- the policies that a fork gives to threads of a process, from this number on
abbrev given_from : Policy → Proc → ℕ → List ThreadDecl → List (Thread × Policy)
given_from policy process n ts = map (λ (t : Thread). (t, policy)) (threads_of process n ts)

zero-plus : (n : ℕ) → n ≡ 0 + n
zero-plus n = omega arith

-- a thread of the process in front
given-front : (thread : Thread) (policy : Policy) (process : Proc) (n : ℕ) (t : ThreadDecl) (ts : List ThreadDecl)
    → are_of thread (given_from policy process n (t ∷ ts)) ≡ from_bool ((t.process.0 == process.0) && (n == thread.0)) + are_of thread (given_from policy process (n + 1) ts)
given-front thread policy process n t ts = which (t.process.0 == process.0)
  where
    which : (b : Bool) → are_of thread (map (λ (t : Thread). (t, policy)) (cond b (record { 0 = n } ∷ threads_of process (n + 1) ts) (threads_of process (n + 1) ts))) ≡ from_bool (b && (n == thread.0)) + are_of thread (given_from policy process (n + 1) ts)
    which false = zero-plus (are_of thread (given_from policy process (n + 1) ts))
    which true = sum_by-cons (λ (p : Thread × Policy). from_bool (p.0.0 == thread.0)) (record { 0 = n }, policy) (given_from policy process (n + 1) ts)

apart-zero : (a b : Bool) → b ≡ false → from_bool (a && b) ≡ 0
apart-zero true b is = ap from_bool is
apart-zero false b is = refl

-- one below the first isn't among them
none-below : (thread : Thread) (policy : Policy) (process : Proc) (n : ℕ) (ts : List ThreadDecl) → thread.0 < n → are_of thread (given_from policy process n ts) ≡ 0
none-below thread policy process n [] below = refl
none-below thread policy process n (t ∷ ts) below =
    let front : are_of thread (given_from policy process n (t ∷ ts)) ≡ from_bool ((t.process.0 == process.0) && (n == thread.0)) + are_of thread (given_from policy process (n + 1) ts) = given-front thread policy process n t ts in
    let apart : from_bool ((t.process.0 == process.0) && (n == thread.0)) ≡ 0 = apart-zero (t.process.0 == process.0) (n == thread.0) (ne_eqb n thread.0 (λ is. omega (arith, below, is))) in
    let rest : are_of thread (given_from policy process (n + 1) ts) ≡ 0 = none-below thread policy process (n + 1) ts (omega (arith, below)) in
    omega (arith, front, apart, rest)

-- and one of the process is once
one-among : (thread : Thread) (policy : Policy) (process : Proc) (n k : ℕ) (ts : List ThreadDecl) → thread.0 ≡ n + k
    → are_of thread (given_from policy process n ts) ≡ from_bool (option_map_or (λ (t : ThreadDecl). t.process.0 == process.0) (slice_get ts k) false)
one-among thread policy process n k [] at = refl
one-among thread policy process n zero (t ∷ ts) at =
    let front : are_of thread (given_from policy process n (t ∷ ts)) ≡ from_bool ((t.process.0 == process.0) && (n == thread.0)) + are_of thread (given_from policy process (n + 1) ts) = given-front thread policy process n t ts in
    let here : from_bool ((t.process.0 == process.0) && (n == thread.0)) ≡ from_bool (t.process.0 == process.0) = with-true (t.process.0 == process.0) (n == thread.0) (eq-eqb n thread.0 (omega (arith, at))) in
    let rest : are_of thread (given_from policy process (n + 1) ts) ≡ 0 = none-below thread policy process (n + 1) ts (omega (arith, at)) in
    omega (arith, front, here, rest)
  where
    with-true : (a b : Bool) → b ≡ true → from_bool (a && b) ≡ from_bool a
    with-true true b is = ap from_bool is
    with-true false b is = refl
one-among thread policy process n (suc k) (t ∷ ts) at =
    let front : are_of thread (given_from policy process n (t ∷ ts)) ≡ from_bool ((t.process.0 == process.0) && (n == thread.0)) + are_of thread (given_from policy process (n + 1) ts) = given-front thread policy process n t ts in
    let apart : from_bool ((t.process.0 == process.0) && (n == thread.0)) ≡ 0 = apart-zero (t.process.0 == process.0) (n == thread.0) (ne_eqb n thread.0 (λ is. omega (arith, at, is))) in
    let rest : are_of thread (given_from policy process (n + 1) ts) ≡ from_bool (option_map_or (λ (t : ThreadDecl). t.process.0 == process.0) (slice_get ts k) false) = one-among thread policy process (n + 1) k ts (omega (arith, at)) in
    omega (arith, front, apart, rest)

-- a command sets as many policies of the thread as its answer says
pub set-count : (layout : Layout) (earlier : List (Command × Answer)) (thread : Thread) (command : Command) (answer : Answer) → are_of thread (set_by layout earlier command answer) ≡ length (cons_option (setting_of layout (set_behind layout unset earlier) thread.0 command answer) [])
set-count layout earlier thread (commands.Fork parent process) answers.Done =
    one-among thread (last_policy (settings layout parent earlier)) process 0 thread.0 layout.threads (omega arith) ∙ which (is_thread_of layout process.0 thread.0)
  where
    which : (b : Bool) → from_bool b ≡ length (cons_option (cond b (Some (last_policy (settings layout parent earlier))) None) [])
    which true = refl
    which false = refl
set-count layout earlier thread (commands.Prctl other args) answers.Done = which (policy_set (arguments args)) (other.0 == thread.0) refl
  where
    one : (policy : Policy) → are_of thread (set_for other (Some policy)) ≡ from_bool (other.0 == thread.0)
    one policy = sum_by-cons (λ (p : Thread × Policy). from_bool (p.0.0 == thread.0)) (other, policy) [] ∙ more (from_bool (other.0 == thread.0))
      where
        more : (n : ℕ) → n + 0 ≡ n
        more n = omega arith

    which : (o : Option Policy) (b : Bool) → (other.0 == thread.0) ≡ b → are_of thread (set_for other o) ≡ length (cons_option (cond (other.0 == thread.0) o None) [])
    which None true is = ap (λ (c : Bool). length (cons_option (cond {A = Option Policy} c None None) [])) (sym is)
    which None false is = ap (λ (c : Bool). length (cons_option (cond {A = Option Policy} c None None) [])) (sym is)
    which (Some policy) true is = one policy ∙ ap from_bool is ∙ ap (λ (c : Bool). length (cons_option (cond c (Some policy) None) [])) (sym is)
    which (Some policy) false is = one policy ∙ ap from_bool is ∙ ap (λ (c : Bool). length (cons_option (cond c (Some policy) None) [])) (sym is)
set-count layout earlier thread command answer = refl

take-push : {A : Type 0} (l : List A) (m : ℕ) (x : A) → slice_get l m ≡ Some x → take (m + 1) l ≡ take m l ++ x ∷ []
take-push [] m x there = absurd (none-some x there)
take-push {A} (y ∷ ys) zero x there = ap (λ (z : A). z ∷ []) (same_Some y x there)
take-push {A} (y ∷ ys) (suc m) x there =
    let same : suc m + 1 ≡ suc (m + 1) = omega arith in
    ap (λ (k : ℕ). take k (y ∷ ys)) same ∙ ap (λ (l : List A). y ∷ l) (take-push ys m x there)

-- the settings that commands below number m made are those of the thread by these commands with their answers
pub before-done : (layout : Layout) (thread : Thread) (cpu : Cpu) (list : List Setting) (pairs : List (Command × Answer)) → EachMember (λ (g : Setting). g.stamp.who.cpu ≡ cpu) list
    → ((i : ℕ) (p : Command × Answer) → slice_get {X = Command × Answer} pairs i ≡ Some p → are_of thread (map set_of (filter (λ (g : Setting). is_same (record { cpu = cpu; seq = i }) g.stamp.who) list)) ≡ length (cons_option (setting_of layout (set_behind layout unset (take i pairs)) thread.0 p.0 p.1) []))
    → (m : ℕ) → m ≤ length pairs → made_before thread m list ≡ length (settings layout thread (take m pairs))
before-done layout thread cpu list pairs own each zero few = none list
  where
    none : (l : List Setting) → made_before thread 0 l ≡ 0
    none [] = refl
    none (g ∷ gs) =
        let all : made_before thread 0 (g ∷ gs) ≡ is_before thread 0 g + made_before thread 0 gs = sum_by-cons (is_before thread 0) g gs in
        let rest : made_before thread 0 gs ≡ 0 = none gs in
        let one : is_before thread 0 g ≡ 0 = ap (λ (b : Bool). from_bool ((g.thread.0 == thread.0) && b)) (le-ltb g.stamp.who.seq 0 (omega arith)) ∙ and-zero (g.thread.0 == thread.0) in
        omega (arith, all, rest, one)
before-done layout thread cpu list pairs own each (suc m) few =
    let pair = there-is {A = Command × Answer} pairs m (omega (arith, few)) in
    let before : made_before thread m list ≡ length (settings layout thread (take m pairs)) = before-done layout thread cpu list pairs own each m (omega (arith, few)) in
    let next : made_before thread (m + 1) list ≡ made_before thread m list + are_of thread (map set_of (filter (λ (g : Setting). is_same (record { cpu = cpu; seq = m }) g.stamp.who) list)) = step-count thread cpu m list own in
    let its : are_of thread (map set_of (filter (λ (g : Setting). is_same (record { cpu = cpu; seq = m }) g.stamp.who) list)) ≡ length (cons_option (setting_of layout (set_behind layout unset (take m pairs)) thread.0 pair.0.0 pair.0.1) []) = each m pair.0 pair.1 in
    let its_list : List Policy = cons_option (setting_of layout (set_behind layout unset (take m pairs)) thread.0 pair.0.0 pair.0.1) [] in
    let push : length (settings layout thread (take m pairs ++ pair.0 ∷ [])) ≡ length (settings layout thread (take m pairs)) + length (cons_option (setting_of layout (set_behind layout unset (take m pairs)) thread.0 pair.0.0 pair.0.1) []) =
    ap (λ (l : List Policy). length l) (settings-more layout thread (take m pairs) pair.0) ∙ length-append (settings layout thread (take m pairs)) its_list in
    let same : suc m ≡ m + 1 = omega arith in
    let left : made_before thread (suc m) list ≡ made_before thread (m + 1) list = ap (λ (k : ℕ). made_before thread k list) same in
    let right : length (settings layout thread (take (suc m) pairs)) ≡ length (settings layout thread (take m pairs ++ pair.0 ∷ [])) = ap (λ (k : ℕ). length (settings layout thread (take k pairs))) same ∙ ap (λ (l : List (Command × Answer)). length (settings layout thread l)) (take-push {A = Command × Answer} pairs m pair.0 pair.1) in
    omega (arith, before, next, its, push, left, right)
