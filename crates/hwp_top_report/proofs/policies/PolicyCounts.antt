-- Settings of a thread by number: those that a policy word says, and those that commands below a number made.
use Rattle.std.proofs.Common.{◌≡◌, ℕ, suc, ◌+◌, ◌/◌, ◌<◌, ◌≤◌, ◌==◌, ◌&&◌, nat_lt, Bool, true, false, cond, List, [], ◌∷◌, length, refl, ap, arith}
use Rattle.std.specs.Int.{from_bool}
use Rattle.std.specs.List.{sum_by}
use Rattle.std.proofs.lemmas.Bool.{eqb-true, lt-ltb}
use Rattle.std.proofs.lemmas.List.Sums.{sum_by-cons}
use Rattle.hwp_law_served.specs.hwp_geom.declared.Thread.{Thread}
use Rattle.hwp_law_served.specs.hwp_kill.declared.Policy.{Policy}
use Rattle.hwp_law_served.specs.hwp_kill.declared.Policy.TheVariants as policies
use Rattle.hwp_law_served.specs.hwp_core_rule.declared.Setting.{Setting}
use Rattle.hwp_law_served.specs.hwp_core_rule.Lists.{EachMember}
use Rattle.hwp_law_served.specs.hwp_core_rule.Steps.{policy_at}
use Rattle.hwp_law_served.specs.hwp_core_rule.parts.Policies.{settings_of}

-- the number of settings in a policy word
abbrev pub number_in : ℕ → ℕ
number_in word = word / 4

pub number-back : (n : ℕ) (policy : Policy) → number_in (policy_at n policy) ≡ n
number-back n policies.Late = omega arith
number-back n policies.Early = omega arith
number-back n policies.Default = omega arith

-- 1 for a setting of the thread by a command below number n
abbrev pub is_before : Thread → ℕ → Setting → ℕ
is_before thread n g = from_bool ((g.thread.0 == thread.0) && nat_lt g.stamp.who.seq n)

abbrev pub made_before : Thread → ℕ → List Setting → ℕ
made_before thread n list = sum_by (is_before thread n) list

less-and : (a b : Bool) → from_bool (a && b) ≤ cond a 1 0
less-and true true = omega arith
less-and true false = omega arith
less-and false b = omega arith

-- there are no more of them than settings of the thread, and as many where no later command made one
pub before-most : (thread : Thread) (n : ℕ) (list : List Setting) → made_before thread n list ≤ length (settings_of thread list)
before-most thread n [] = omega arith
before-most thread n (g ∷ gs) =
    let rest : made_before thread n gs ≤ length (settings_of thread gs) = before-most thread n gs in
    let all : made_before thread n (g ∷ gs) ≡ is_before thread n g + made_before thread n gs = sum_by-cons (is_before thread n) g gs in
    let one : is_before thread n g ≤ cond (g.thread.0 == thread.0) 1 0 = less-and (g.thread.0 == thread.0) (nat_lt g.stamp.who.seq n) in
    let long : length (settings_of thread (g ∷ gs)) ≡ cond (g.thread.0 == thread.0) 1 0 + length (settings_of thread gs) = which (g.thread.0 == thread.0) (settings_of thread gs) in
    omega (arith, rest, all, one, long)
  where
    which : (b : Bool) (l : List Setting) → length (cond b (g ∷ l) l) ≡ cond b 1 0 + length l
    which true l = omega arith
    which false l = omega arith

pub before-all : (thread : Thread) (n : ℕ) (list : List Setting) → EachMember (λ (g : Setting). g.thread.0 ≡ thread.0 → g.stamp.who.seq < n) list → length (settings_of thread list) ≤ made_before thread n list
before-all thread n [] each = omega arith
before-all thread n (g ∷ gs) each =
    let rest : length (settings_of thread gs) ≤ made_before thread n gs = before-all thread n gs (λ i x there. each (suc i) x there) in
    let all : made_before thread n (g ∷ gs) ≡ is_before thread n g + made_before thread n gs = sum_by-cons (is_before thread n) g gs in
    let more : length (settings_of thread (g ∷ gs)) ≤ is_before thread n g + length (settings_of thread gs) = which (g.thread.0 == thread.0) refl in
    omega (arith, rest, all, more)
  where
    which : (b : Bool) → (g.thread.0 == thread.0) ≡ b → length (cond b (g ∷ settings_of thread gs) (settings_of thread gs)) ≤ from_bool (b && nat_lt g.stamp.who.seq n) + length (settings_of thread gs)
    which false is = omega arith
    which true is =
        let low : nat_lt g.stamp.who.seq n ≡ true = lt-ltb g.stamp.who.seq n (each 0 g refl (eqb-true g.thread.0 thread.0 is)) in
        let one : from_bool (true && nat_lt g.stamp.who.seq n) ≡ 1 = ap (λ (b : Bool). from_bool (true && b)) low in
        omega (arith, one)
