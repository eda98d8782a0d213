-- What the commands of all lists weigh: no more than the commands of all lines; and how often lines fork a process.
use Rattle.std.proofs.Common.{ℕ, ◌≡◌, ◌≢◌, ◌<◌, ◌≤◌, ◌+◌, ◌++◌, ◌==◌, ◌||◌, cond, Bool, true, false, if◌then◌else◌, List, [], ◌∷◌, length, map, Option, Some, None, zero, suc, ap, subst, ◌∙◌, sym, refl, arith, ⊎_elim}
use Rattle.std.specs.Prelude.{sum_by, count_by, filter_map, option_to_list}
use Rattle.std.specs.List.{range_with_len, cons_option, list_any}
use Rattle.std.proofs.lemmas.List.Sums.{sum_by-cons}
use Rattle.std.proofs.lemmas.Bool.{cases_eq, or_parts}
use Rattle.hwp_script_lines.specs.declared.ScriptLine.{ScriptLine}
use Rattle.hwp_script_lines.specs.declared.ScriptLine.TheVariants as forms
use Rattle.hwp_script_lines.specs.declared.Command.{Command}
use Rattle.hwp_script_lines.specs.declared.Command.TheVariants as commands
use Rattle.hwp_script_read.specs.Context.{command_of, commands_in, place_after, forks, is_again}
use Rattle.hwp_script_read.specs.Collects.{command_at, commands_from}
use Rattle.hwp_script_lines.specs.hwp_script_words.Forks.{is_fork_of}
use Rattle.hwp_script_read.specs.Reasons.{IsClean}
use Rattle.hwp_script_read.proofs.CleanLaws.{clean_command}
use Rattle.hwp_script_read.proofs.CollectLaws.{same, other}

-- what commands weigh together
abbrev pub weight : (Command → ℕ) → List Command → ℕ
weight w [] = 0
weight w (x ∷ xs) = w x + weight w xs

-- and the commands of all lists
abbrev pub total : (Command → ℕ) → List (List Command) → ℕ
total w [] = 0
total w (list ∷ lists) = weight w list + total w lists

-- and those that lines are
abbrev pub line_weight : (Command → ℕ) → ScriptLine → ℕ
line_weight w (forms.Command c) = w c
line_weight w f = 0

abbrev pub lines_weight : (Command → ℕ) → List ScriptLine → ℕ
lines_weight w [] = 0
lines_weight w (f ∷ fs) = line_weight w f + lines_weight w fs

-- each command counts once
abbrev pub one : Command → ℕ
one c = 1

weight-append : (w : Command → ℕ) (xs ys : List Command) → weight w (xs ++ ys) ≡ weight w xs + weight w ys
weight-append w [] ys = omega arith
weight-append w (x ∷ xs) ys = omega (arith, weight-append w xs ys)

length-weight : (xs : List Command) → length xs ≡ weight one xs
length-weight [] = refl
length-weight (x ∷ xs) = omega (arith, length-weight xs)

pub sum-weight : (w : Command → ℕ) (xs : List Command) → sum_by w xs ≡ weight w xs
sum-weight w [] = refl
sum-weight w (x ∷ xs) = sum_by-cons w x xs ∙ ap (λ n. w x + n) (sum-weight w xs)

pub total-sum : (w : Command → ℕ) (f : List Command → ℕ) → ((xs : List Command) → f xs ≡ weight w xs) → (lists : List (List Command)) → sum_by f lists ≡ total w lists
total-sum w f is [] = refl
total-sum w f is (list ∷ lists) = sum_by-cons f list lists ∙ ap (λ n. n + sum_by f lists) (is list) ∙ ap (λ n. weight w list + n) (total-sum w f is lists)

total-append : (w : Command → ℕ) (g h : ℕ → List Command) (cs : List ℕ) → total w (map (λ c. g c ++ h c) cs) ≡ total w (map g cs) + total w (map h cs)
total-append w g h [] = refl
total-append w g h (c ∷ cs) = omega (arith, weight-append w (g c) (h c), total-append w g h cs)

weight-kept : (w : Command → ℕ) (test : Bool) (o : Option Command) → test ≡ true → weight w (option_to_list (if test then o else None)) ≡ weight w (option_to_list o)
weight-kept w true o e = refl
weight-kept w false o e = cc

weight-left : (w : Command → ℕ) (test : Bool) (o : Option Command) → test ≡ false → weight w (option_to_list (if test then o else None)) ≡ 0
weight-left w true o e = cc
weight-left w false o e = refl

-- a command stands in one list at most
abbrev kept_at : ℕ → Option Command → ℕ → List Command
kept_at place o c = option_to_list (if place == c then o else None)

kept_past : (w : Command → ℕ) (place : ℕ) (o : Option Command) (a n : ℕ) → place < a → total w (map (kept_at place o) (range_with_len a n)) ≡ 0
kept_past w place o a zero l = refl
kept_past w place o a (suc n) l =
    omega (arith, weight-left w (place == a) o (other place a (λ e. omega (arith, e, l))), kept_past w place o (a + 1) n (omega arith))

kept_once : (w : Command → ℕ) (place : ℕ) (o : Option Command) (a n : ℕ) → total w (map (kept_at place o) (range_with_len a n)) ≤ weight w (option_to_list o)
kept_once w place o a zero = omega arith
kept_once w place o a (suc n) = ⊎_elim
    (λ (e : place ≡ a). omega (arith, weight-kept w (place == a) o (same place a e), kept_past w place o (a + 1) n (omega arith)))
    (λ (ne : place ≢ a). omega (arith, weight-left w (place == a) o (other place a ne), kept_once w place o (a + 1) n))
    (cases_eq place a)

none_total : (w : Command → ℕ) (a n : ℕ) → total w (map (λ (c : ℕ). []) (range_with_len a n)) ≡ 0
none_total w a zero = refl
none_total w a (suc n) = omega (arith, none_total w (a + 1) n)

line-is : (w : Command → ℕ) (f : ScriptLine) → weight w (option_to_list (command_of f)) ≡ line_weight w f
line-is w (forms.Command c) = omega arith
line-is w f = refl

line_total : (w : Command → ℕ) (place : Option ℕ) (f : ScriptLine) (a n : ℕ) → total w (map (λ c. option_to_list (command_at place c f)) (range_with_len a n)) ≤ line_weight w f
line_total w None f a n = rw none_total (omega arith)
line_total w (Some place) f a n = omega (arith, kept_once w place (command_of f) a n, line-is w f)

lists_total : (w : Command → ℕ) (fs : List ScriptLine) (place : Option ℕ) (a n : ℕ) → total w (map (λ c. commands_from place c fs) (range_with_len a n)) ≤ lines_weight w fs
lists_total w [] place a n = rw none_total (omega arith)
lists_total w (f ∷ fs) place a n =
    let split = total-append w (λ c. option_to_list (command_at place c f)) (λ c. commands_from (place_after place f) c fs) (range_with_len a n) in
    omega (arith, split, line_total w place f a n, lists_total w fs (place_after place f) a n)

commands-weigh : (fs : List ScriptLine) → lines_weight one fs ≡ commands_in fs
commands-weigh [] = refl
commands-weigh (forms.Command c ∷ fs) = omega (arith, commands-weigh fs)
commands-weigh (f ∷ fs) = omega (arith, commands-weigh fs)

-- the lists have no more commands than the lines are
pub few_listed : (fs : List ScriptLine) (n : ℕ) → sum_by length (map (λ c. commands_from None c fs) (range_with_len 0 n)) ≤ commands_in fs
few_listed fs n = rw (total-sum one length length-weight) (omega (arith, lists_total one fs None 0 n, commands-weigh fs))

-- ---- forks

-- a fork of the process counts
abbrev pub one_fork : ℕ → Command → ℕ
one_fork p c = cond (is_fork_of p c) 1 0

-- nor do the lists fork a process more often than the lines do
pub forks_listed : (p : ℕ) (fs : List ScriptLine) (n : ℕ) → sum_by (count_by (is_fork_of p)) (map (λ c. commands_from None c fs) (range_with_len 0 n)) ≤ lines_weight (one_fork p) fs
forks_listed p fs n = rw (total-sum (one_fork p) (count_by (is_fork_of p)) (sum-weight (one_fork p))) (lists_total (one_fork p) fs None 0 n)

pub lines-push : (w : Command → ℕ) (fs : List ScriptLine) (f : ScriptLine) → lines_weight w (fs ++ f ∷ []) ≡ lines_weight w fs + line_weight w f
lines-push w [] f = omega arith
lines-push w (g ∷ fs) f = omega (arith, lines-push w fs f)

none_forked : (p : ℕ) (fs : List ScriptLine) → list_any (forks p) fs ≡ false → lines_weight (one_fork p) fs ≡ 0
none_forked p [] h = refl
none_forked p (forms.Command c ∷ fs) h =
    let parts = or_parts (is_fork_of p c) (list_any (forks p) fs) h in
    let zero : one_fork p c ≡ 0 = ap (λ b. cond b 1 0) parts.0 in omega (arith, zero, none_forked p fs parts.1)
none_forked p (f ∷ fs) h = omega (arith, none_forked p fs h)

no_fork : (b r : Bool) (n : ℕ) → cond b 1 0 + n ≡ 0 → (n ≡ 0 → r ≡ false) → (b || r) ≡ false
no_fork true r n e k = absurd (omega (arith, e))
no_fork false r n e k = k (omega (arith, e))

pub never_forked : (p : ℕ) (fs : List ScriptLine) → lines_weight (one_fork p) fs ≡ 0 → list_any (forks p) fs ≡ false
never_forked p [] h = refl
never_forked p (forms.Command c ∷ fs) h = no_fork (is_fork_of p c) (list_any (forks p) fs) (lines_weight (one_fork p) fs) h (never_forked p fs)
never_forked p (f ∷ fs) h = never_forked p fs (omega (arith, h))

at_most_one : (b : Bool) → cond b 1 0 ≤ 1
at_most_one true = omega arith
at_most_one false = omega arith

once_more : (above : List ScriptLine) (p : ℕ) (x : Command) → is_again above x ≡ false → lines_weight (one_fork p) above ≤ 1 → lines_weight (one_fork p) above + one_fork p x ≤ 1
once_more above p (commands.Fork t q) again few = ⊎_elim
    (λ (e : q.0 ≡ p). omega (arith, none_forked p above (subst (λ (n : ℕ). list_any (forks n) above ≡ false) e again), at_most_one (q.0 == p)))
    (λ (n : q.0 ≢ p). let zero : one_fork p (commands.Fork t q) ≡ 0 = ap (λ b. cond b 1 0) (other q.0 p n) in omega (arith, zero, few))
    (cases_eq q.0 p)
once_more above p x again few = omega (arith, few)

-- clean lines fork a process once at most
pub once_step : (above : List ScriptLine) (f : ScriptLine) (p : ℕ) → IsClean above f → lines_weight (one_fork p) above ≤ 1 → lines_weight (one_fork p) (above ++ f ∷ []) ≤ 1
once_step above (forms.Command x) p k few = rw lines-push (once_more above p x (clean_command k).once few)
once_step above f p k few = omega (arith, lines-push (one_fork p) above f, few)
