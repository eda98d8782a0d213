-- What one more line adds to the processors' commands.
use Rattle.std.proofs.Common.{ℕ, ◌≡◌, ◌≢◌, ◌<◌, ◌≤◌, ◌+◌, ◌++◌, ◌==◌, Bool, true, false, if◌then◌else◌, List, [], ◌∷◌, get_or, set, replicate, Option, None, Some, zero, suc, ap, ◌∙◌, sym, refl, map, arith}
use Rattle.std.specs.List.{range_with_len}
use Rattle.std.specs.Prelude.{fold, option_to_list, IfSome}
use Rattle.std.proofs.lemmas.List.{append-nil, append_assoc}
use Rattle.std.proofs.lemmas.Bool.Decides.{nat_tests}
use Rattle.hwp_script_read.specs.Context.{cpus_of, command_of, place_after, place_in, group, highest}
use Rattle.hwp_script_read.specs.Collects.{command_at, commands_from, commands_of, push_in}
use Rattle.hwp_script_read.proofs.ContextLaws.{plus}
use Rattle.hwp_script_lines.specs.declared.Command.{Command}
use Rattle.hwp_script_lines.specs.declared.ScriptLine.{ScriptLine}
use Rattle.hwp_script_lines.specs.declared.ScriptLine.TheVariants as forms

commands_from-push : (place : Option ℕ) (c : ℕ) (xs : List ScriptLine) (f : ScriptLine)
    → commands_from place c (xs ++ f ∷ []) ≡ commands_from place c xs ++ option_to_list (command_at (fold place_after place xs) c f)
commands_from-push place c [] f = append-nil (option_to_list (command_at place c f))
commands_from-push place c (x ∷ xs) f =
    ap (λ t. option_to_list (command_at place c x) ++ t) (commands_from-push (place_after place x) c xs f)
    ∙ sym (append_assoc (option_to_list (command_at place c x)) (commands_from (place_after place x) c xs)
    (option_to_list (command_at (fold place_after (place_after place x) xs) c f)))

pub commands_of-push : (xs : List ScriptLine) (f : ScriptLine) (c : ℕ) → commands_of (xs ++ f ∷ []) c ≡ commands_of xs c ++ option_to_list (command_at (place_in xs) c f)
commands_of-push xs f c = commands_from-push None c xs f

-- a line that is no command adds none
none_kept : (test : Bool) → option_to_list {X = Command} (if test then None else None) ≡ []
none_kept true = refl
none_kept false = refl

pub no_command : (p : Option ℕ) (c : ℕ) (f : ScriptLine) → command_of f ≡ None → option_to_list (command_at p c f) ≡ []
no_command None c f e = refl
no_command (Some q) c f e = rw e (none_kept (q == c))

not_command : (f : ScriptLine) → group f ≤ 12 → command_of f ≡ None
not_command (forms.Command c) l = absurd (omega (arith, l))
not_command f l = refl

-- lines of low groups have no commands
pub none_from : (p : Option ℕ) (c : ℕ) (xs : List ScriptLine) → highest xs ≤ 12 → commands_from p c xs ≡ []
none_from p c [] l = refl
none_from p c (x ∷ xs) l = rw (no_command p c x (not_command x (omega (arith, l)))) (none_from (place_after p x) c xs (omega (arith, l)))

-- lists that grow alike
pub same_lists : (g h : ℕ → List Command) (a n : ℕ) → ((c : ℕ) → a ≤ c → g c ≡ h c) → map g (range_with_len a n) ≡ map h (range_with_len a n)
same_lists g h a zero e = refl
same_lists g h a (suc n) e =
    let here : g a ≡ h a = e a (omega arith) in
    let rest = same_lists g h (a + 1) n (λ c l. e c (omega (arith, l))) in cc

no_lists : (g : ℕ → List Command) (a n : ℕ) → ((c : ℕ) → g c ≡ []) → replicate n [] ≡ map g (range_with_len a n)
no_lists g a zero e = refl
no_lists g a (suc n) e =
    let here : g a ≡ [] = e a in
    let rest = no_lists g (a + 1) n e in cc

pub same : (m c : ℕ) → m ≡ c → (m == c) ≡ true
same m c e = grind (arith, nat_tests)

pub other : (m c : ℕ) → m ≢ c → (m == c) ≡ false
other m c n = grind (arith, nat_tests)

-- the list of one processor grows
one_list : (g h : ℕ → List Command) (x : Command) (a i n : ℕ) → i < n → ((c : ℕ) → h c ≡ g c ++ option_to_list (if a + i == c then Some x else None))
    → set (map g (range_with_len a n)) i (get_or (map g (range_with_len a n)) i [] ++ x ∷ []) ≡ map h (range_with_len a n)
one_list g h x a i zero l e = absurd (omega (arith, l))
one_list g h x a zero (suc n) l e =
    let here : h a ≡ g a ++ x ∷ [] = e a ∙ ap (λ t. g a ++ option_to_list (if t then Some x else None)) (same (a + 0) a (omega arith)) in
    let rest = same_lists g h (a + 1) n (λ c k. sym (e c ∙ ap (λ t. g c ++ option_to_list (if t then Some x else None)) (other (a + 0) c (λ q. omega (arith, q, k))) ∙ append-nil (g c))) in cc
one_list g h x a (suc i) (suc n) l e =
    let here : h a ≡ g a = e a ∙ ap (λ t. g a ++ option_to_list (if t then Some x else None)) (other (a + suc i) a (λ q. omega (arith, q))) ∙ append-nil (g a) in
    let at : a + 1 + i ≡ a + suc i = omega arith in
    let rest = one_list g h x (a + 1) i n (omega (arith, l)) (rw at e) in cc

-- the lists after a line, from those before it and the processor in whose list it stands
abbrev pub lists_after : ScriptLine → Option ℕ → ℕ → List (List Command) → List (List Command)
lists_after (forms.Cpus n) place cpus lists = replicate cpus []
lists_after (forms.Command c) place cpus lists = push_in place c lists
lists_after f place cpus lists = lists

plain_step : (above : List ScriptLine) (f : ScriptLine) (a : ℕ) → command_of f ≡ None
    → map (commands_of above) (range_with_len 0 a) ≡ map (commands_of (above ++ f ∷ [])) (range_with_len 0 a)
plain_step above f a e =
    same_lists (commands_of above) (commands_of (above ++ f ∷ [])) 0 a (λ c l. sym (commands_of-push above f c ∙ ap (λ t. commands_of above c ++ t) (no_command (place_in above) c f e)
    ∙ append-nil (commands_of above c)))

from_zero : (p : ℕ) → p ≡ 0 + p
from_zero p = omega arith

command_step : (above : List ScriptLine) (x : Command) (place : Option ℕ) (a : ℕ) → place_in above ≡ place → IfSome place (λ (p : ℕ). p < a)
    → push_in place x (map (commands_of above) (range_with_len 0 a)) ≡ map (commands_of (above ++ forms.Command x ∷ [])) (range_with_len 0 a)
command_step above x None a e l =
    same_lists (commands_of above) (commands_of (above ++ forms.Command x ∷ [])) 0 a (λ c l. sym (commands_of-push above (forms.Command x) c
    ∙ ap (λ p. commands_of above c ++ option_to_list (command_at p c (forms.Command x))) e ∙ append-nil (commands_of above c)))
command_step above x (Some p) a e l =
    one_list (commands_of above) (commands_of (above ++ forms.Command x ∷ [])) x 0 p a l (λ c. commands_of-push above (forms.Command x) c
    ∙ ap (λ p. commands_of above c ++ option_to_list (command_at p c (forms.Command x))) e
    ∙ ap (λ m. commands_of above c ++ option_to_list (if m == c then Some x else None)) (from_zero p))

same_many : (lists : List (List Command)) (h : ℕ → List Command) (a b : ℕ) → lists ≡ map h (range_with_len 0 a) → b ≡ a → lists ≡ map h (range_with_len 0 b)
same_many lists h a b e k = rw k e

pub lists_step : (above : List ScriptLine) (f : ScriptLine) (place : Option ℕ) (lists : List (List Command)) (a b : ℕ) → highest above ≤ group f
    → place_in above ≡ place → IfSome place (λ (p : ℕ). p < a) → lists ≡ map (commands_of above) (range_with_len 0 a) → b ≡ plus (cpus_of f) a
    → lists_after f place b lists ≡ map (commands_of (above ++ f ∷ [])) (range_with_len 0 b)
lists_step above (forms.Cpus n) place lists a b late e l h k =
    no_lists (commands_of (above ++ forms.Cpus n ∷ [])) 0 b (λ c. commands_of-push above (forms.Cpus n) c
    ∙ rw (no_command (place_in above) c (forms.Cpus n) refl) (append-nil (commands_of above c) ∙ none_from None c above (omega (arith, late))))
lists_step above (forms.Command x) place lists a b late e l h k =
    same_many (push_in place x lists) (commands_of (above ++ forms.Command x ∷ [])) a b (ap (push_in place x) h ∙ command_step above x place a e l) k
lists_step above f place lists a b late e l h k = same_many lists (commands_of (above ++ f ∷ [])) a b (h ∙ plain_step above f a refl) k
