-- The policies that commands set, one command after another.
use Rattle.std.proofs.Common.{◌≡◌, ℕ, ◌+◌, ◌≤◌, false, List, [], ◌∷◌, ◌++◌, Option, Some, None, filter_map, length, refl, sym, ap, ◌∙◌, true≢false, arith}
use Rattle.std.specs.List.{cons_option}
use Rattle.std.proofs.lemmas.List.{append-nil, append_assoc, length-append}
use Rattle.std.proofs.lemmas.List.Sums.{fold-append}
use Rattle.hwp_script_words.specs.hwp_geom.declared.Layout.{Layout}
use Rattle.hwp_script_words.specs.hwp_geom.declared.Thread.{Thread}
use Rattle.hwp_script_words.specs.declared.Command.{Command}
use Rattle.hwp_script_words.specs.declared.Command.TheVariants as commands
use Rattle.hwp_report_text.specs.declared.Answer.{Answer}
use Rattle.hwp_report_text.specs.declared.Answer.TheVariants as answers
use Rattle.hwp_report_text.specs.hwp_kill.declared.Policy.{Policy}
use Rattle.hwp_law.specs.Commands.{is_fork}
use Rattle.hwp_law.specs.Settings.{set_after, set_behind, setting_of, settings, unset}
use Rattle.hwp_law.proofs.CowLaws.{both-false, has_forked}

-- one command more sets what it sets, where those before set what they set
pub set-more : (layout : Layout) (set : ℕ → List Policy) (list : List (Command × Answer)) (p : Command × Answer) (thread : ℕ)
    → set_behind layout set (list ++ p ∷ []) thread ≡ set_behind layout set list thread ++ cons_option (setting_of layout (set_behind layout set list) thread p.0 p.1) []
set-more layout set list p thread = ap (λ (s : ℕ → List Policy). s thread) (fold-append (set_after layout) set list (p ∷ []))

pub settings-more : (layout : Layout) (thread : Thread) (list : List (Command × Answer)) (p : Command × Answer)
    → settings layout thread (list ++ p ∷ []) ≡ settings layout thread list ++ cons_option (setting_of layout (set_behind layout unset list) thread.0 p.0 p.1) []
settings-more layout thread list p = set-more layout unset list p thread.0

-- each command adds to what was set before
pub set-adds : (layout : Layout) (set : ℕ → List Policy) (list : List (Command × Answer)) (thread : ℕ) → (more : List Policy) × (set_behind layout set list thread ≡ set thread ++ more) × (length more ≤ length list)
set-adds layout set [] thread = ([], sym (append-nil (set thread)), omega arith)
set-adds layout set (p ∷ rest) thread =
    let later : (more : List Policy) × (set_behind layout (set_after layout set p) rest thread ≡ set_after layout set p thread ++ more) × (length more ≤ length rest) = set-adds layout (set_after layout set p) rest thread in
    let its : List Policy = cons_option (setting_of layout set thread p.0 p.1) [] in
    let few : length its ≤ 1 = at_most_one (setting_of layout set thread p.0 p.1) in
    let all : length (its ++ later.0) ≡ length its + length later.0 = length-append its later.0 in
    let rests : length later.0 ≤ length rest = later.2 in
    (its ++ later.0, later.1 ∙ append_assoc (set thread) its later.0, omega (arith, few, all, rests))
  where
    at_most_one : (o : Option Policy) → length (cons_option o []) ≤ 1
    at_most_one None = omega arith
    at_most_one (Some policy) = omega arith

pub settings-few : (layout : Layout) (thread : Thread) (list : List (Command × Answer)) → length (settings layout thread list) ≤ length list
settings-few layout thread list =
    let added : (more : List Policy) × (settings layout thread list ≡ [] ++ more) × (length more ≤ length list) = set-adds layout unset list thread.0 in
    let same : length (settings layout thread list) ≡ length added.0 = ap (λ (l : List Policy). length l) added.1 in
    let few : length added.0 ≤ length list = added.2 in
    omega (arith, same, few)

-- where some commands come first and then others, what the first set comes first
pub settings-front : (layout : Layout) (thread : Thread) (a b : List (Command × Answer)) → (more : List Policy) × (settings layout thread (a ++ b) ≡ settings layout thread a ++ more)
settings-front layout thread a b =
    let added : (more : List Policy) × (set_behind layout (set_behind layout unset a) b thread.0 ≡ set_behind layout unset a thread.0 ++ more) × (length more ≤ length b) = set-adds layout (set_behind layout unset a) b thread.0 in
    (added.0, ap (λ (s : ℕ → List Policy). s thread.0) (fold-append (set_after layout) unset a b) ∙ added.1)

-- a command that doesn't fork sets the same whatever was set before
pub setting-alone : (layout : Layout) (set other : ℕ → List Policy) (thread : ℕ) (command : Command) (answer : Answer) → is_fork command ≡ false → setting_of layout set thread command answer ≡ setting_of layout other thread command answer
setting-alone layout set other thread (commands.Fork parent process) answer is = absurd (true≢false is)
setting-alone layout set other thread (commands.Prctl caller args) answers.Done is = refl
setting-alone layout set other thread command answer is = refl

-- so without a fork each setting is a call's of prctl(2)
pub set-unforked : (layout : Layout) (set : ℕ → List Policy) (list : List (Command × Answer)) (thread : ℕ) → has_forked list ≡ false
    → set_behind layout set list thread ≡ set thread ++ filter_map (λ (p : Command × Answer). setting_of layout unset thread p.0 p.1) list
set-unforked layout set [] thread none = sym (append-nil (set thread))
set-unforked layout set (p ∷ rest) thread none =
    let apart : (is_fork p.0 ≡ false) × (has_forked rest ≡ false) = both-false (is_fork p.0) (has_forked rest) none in
    set-unforked layout (set_after layout set p) rest thread apart.1
    ∙ ap (λ (o : Option Policy). (set thread ++ cons_option o []) ++ others) (setting-alone layout set unset thread p.0 p.1 apart.0)
    ∙ front (set thread) (setting_of layout unset thread p.0 p.1)
  where
    others : List Policy
    others = filter_map (λ (q : Command × Answer). setting_of layout unset thread q.0 q.1) rest

    front : (l : List Policy) (o : Option Policy) → (l ++ cons_option o []) ++ others ≡ l ++ cons_option o others
    front l None = ap (λ (m : List Policy). m ++ others) (append-nil l)
    front l (Some policy) = append_assoc l (policy ∷ []) others

pub settings-unforked : (layout : Layout) (thread : Thread) (list : List (Command × Answer)) → has_forked list ≡ false
    → settings layout thread list ≡ filter_map (λ (p : Command × Answer). setting_of layout unset thread.0 p.0 p.1) list
settings-unforked layout thread list none = set-unforked layout unset list thread.0 none
