-- Which translations are frozen and have gone over to their twins, one command after another. Behind commands none of which forks none is, and
-- a processor acts on the script's own command.
use Rattle.std.proofs.Common.{◌≡◌, ℕ, zero, suc, Bool, true, false, ◌||◌, ◌&&◌, not, List, [], ◌∷◌, Option, Some, None, fold, take, if◌then◌else◌, refl, ap, ◌∙◌, true≢false, ◌++◌, ◌==◌}
use Rattle.std.specs.List.{list_any, zip}
use Rattle.std.proofs.lemmas.List.Sums.{fold-append}
use Rattle.hwp_script_words.specs.hwp_geom.declared.Layout.{Layout}
use Rattle.hwp_script_words.specs.hwp_geom.declared.VSlot.{VSlot}
use Rattle.hwp_script_words.specs.declared.Command.{Command}
use Rattle.hwp_script_words.specs.declared.Command.TheVariants as commands
use Rattle.hwp_report_text.specs.declared.Answer.{Answer}
use Rattle.hwp_report_text.specs.declared.Answer.TheVariants as answers
use Rattle.hwp_report_text.specs.hwp_kill.declared.Policy.{Policy}
use Rattle.hwp_law.specs.Commands.{arrival_of, can_fail, can_offline, current_thread, is_fork, is_watch, thread_of}
use Rattle.hwp_law.specs.Cows.{Cow, acting, copied_from, cow_after, cow_of, froze_slot, own_page, twin_or}
use Rattle.hwp_law.specs.Settings.{setting_of}

-- one of the commands forks
abbrev pub has_forked : List (Command × Answer) → Bool
has_forked earlier = list_any (λ (p : Command × Answer). is_fork p.0) earlier

pub both-false : (a b : Bool) → (a || b) ≡ false → (a ≡ false) × (b ≡ false)
both-false true b is = absurd (true≢false is)
both-false false b is = (refl, is)

pub stays-own : (layout : Layout) (slot : VSlot) (command : Command) (answer : Answer) → is_fork command ≡ false → cow_after layout slot command answer own_page ≡ own_page
stays-own layout slot (commands.Fork thread process) answer is = absurd (true≢false is)
stays-own layout slot (commands.Store thread other line word) (answers.Stored at) is = refl
stays-own layout slot command answer is = refl

pub cow-unforked : (layout : Layout) (earlier : List (Command × Answer)) (slot : VSlot) → has_forked earlier ≡ false → cow_of layout earlier slot ≡ own_page
cow-unforked layout [] slot none = refl
cow-unforked layout (p ∷ rest) slot none =
    let apart : (is_fork p.0 ≡ false) × (has_forked rest ≡ false) = both-false (is_fork p.0) (has_forked rest) none in
    ap (λ (c : Cow). fold (λ (d : Cow) (q : Command × Answer). cow_after layout slot q.0 q.1 d) c rest) (stays-own layout slot p.0 p.1 apart.0) ∙ cow-unforked layout rest slot apart.1

-- the command is acted on as it stands
pub acting-unforked : (layout : Layout) (earlier : List (Command × Answer)) (command : Command) → has_forked earlier ≡ false → acting layout earlier command ≡ command
acting-unforked layout earlier (commands.Load thread slot line) none = ap (λ (c : Cow). commands.Load thread (if c.switched then twin_or layout slot else slot) line) (cow-unforked layout earlier slot none)
acting-unforked layout earlier (commands.Fetch thread slot line) none = ap (λ (c : Cow). commands.Fetch thread (if c.switched then twin_or layout slot else slot) line) (cow-unforked layout earlier slot none)
acting-unforked layout earlier (commands.KLoad thread slot line) none = ap (λ (c : Cow). commands.KLoad thread (if c.switched then twin_or layout slot else slot) line) (cow-unforked layout earlier slot none)
acting-unforked layout earlier (commands.Store thread slot line word) none = ap (λ (c : Cow). commands.Store thread (if c.frozen then twin_or layout slot else slot) line word) (cow-unforked layout earlier slot none)
acting-unforked layout earlier (commands.Free slot) none = ap (λ (c : Cow). commands.Free (if c.switched then twin_or layout slot else slot)) (cow-unforked layout earlier slot none)
acting-unforked layout earlier command none = refl

-- and no store copies
abbrev copied_by : VSlot → Cow → Option VSlot
copied_by slot c = if c.frozen && not c.switched then Some slot else None

pub copied-unforked : (layout : Layout) (earlier : List (Command × Answer)) (command : Command) → has_forked earlier ≡ false → copied_from layout earlier command ≡ None
copied-unforked layout earlier (commands.Store thread slot line word) none = ap (copied_by slot) (cow-unforked layout earlier slot none)
copied-unforked layout earlier command none = refl

-- commands with their answers fork no more than the commands
pub zip-unforked : (list : List Command) (given : List Answer) → list_any is_fork list ≡ false → has_forked (zip list given) ≡ false
zip-unforked [] given none = refl
zip-unforked (c ∷ cs) [] none = refl
zip-unforked (c ∷ cs) (a ∷ rest) none =
    let apart : (is_fork c ≡ false) × (list_any is_fork cs ≡ false) = both-false (is_fork c) (list_any is_fork cs) none in
    ap (λ (b : Bool). b || has_forked (zip cs rest)) apart.0 ∙ zip-unforked cs rest apart.1

pub take-unforked : (n : ℕ) (earlier : List (Command × Answer)) → has_forked earlier ≡ false → has_forked (take n earlier) ≡ false
take-unforked zero earlier none = refl
take-unforked (suc n) [] none = refl
take-unforked (suc n) (p ∷ rest) none =
    let apart : (is_fork p.0 ≡ false) × (has_forked rest ≡ false) = both-false (is_fork p.0) (has_forked rest) none in
    ap (λ (b : Bool). b || has_forked (take n rest)) apart.0 ∙ take-unforked n rest apart.1

-- a command that is acted on has the thread of the script's, can fail where that can, and so on
pub acting-thread : (layout : Layout) (earlier : List (Command × Answer)) (command : Command) → thread_of (acting layout earlier command) ≡ thread_of command
acting-thread layout earlier (commands.Load thread slot line) = refl
acting-thread layout earlier command = refl

pub acting-current : (layout : Layout) (earlier : List (Command × Answer)) (command : Command) → current_thread (acting layout earlier command) ≡ current_thread command
acting-current layout earlier (commands.Load thread slot line) = refl
acting-current layout earlier command = refl

pub acting-fails : (layout : Layout) (earlier : List (Command × Answer)) (command : Command) → can_fail (acting layout earlier command) ≡ can_fail command
acting-fails layout earlier (commands.Load thread slot line) = refl
acting-fails layout earlier command = refl

pub acting-offlines : (layout : Layout) (earlier : List (Command × Answer)) (command : Command) → can_offline (acting layout earlier command) ≡ can_offline command
acting-offlines layout earlier (commands.Load thread slot line) = refl
acting-offlines layout earlier command = refl

pub acting-arrives : (layout : Layout) (earlier : List (Command × Answer)) (command : Command) → arrival_of (acting layout earlier command) ≡ arrival_of command
acting-arrives layout earlier (commands.Load thread slot line) = refl
acting-arrives layout earlier command = refl

pub acting-watches : (layout : Layout) (earlier : List (Command × Answer)) (command : Command) → is_watch (acting layout earlier command) ≡ is_watch command
acting-watches layout earlier (commands.Load thread slot line) = refl
acting-watches layout earlier command = refl

pub acting-forks : (layout : Layout) (earlier : List (Command × Answer)) (command : Command) → is_fork (acting layout earlier command) ≡ is_fork command
acting-forks layout earlier (commands.Load thread slot line) = refl
acting-forks layout earlier command = refl

-- and sets the same policies
pub acting-sets : (layout : Layout) (earlier : List (Command × Answer)) (set : ℕ → List Policy) (thread : ℕ) (command : Command) (answer : Answer)
    → setting_of layout set thread (acting layout earlier command) answer ≡ setting_of layout set thread command answer
acting-sets layout earlier set thread (commands.Load other slot line) answer = refl
acting-sets layout earlier set thread command answer = refl

-- ---- one command after another

pub cow-more : (layout : Layout) (earlier : List (Command × Answer)) (command : Command) (answer : Answer) (slot : VSlot)
    → cow_of layout (earlier ++ (command, answer) ∷ []) slot ≡ cow_after layout slot command answer (cow_of layout earlier slot)
cow-more layout earlier command answer slot = fold-append (λ (c : Cow) (p : Command × Answer). cow_after layout slot p.0 p.1 c) own_page earlier ((command, answer) ∷ [])

-- what is frozen stays frozen, and what has gone over to its twin stays so
frozen-after : (layout : Layout) (slot : VSlot) (command : Command) (answer : Answer) (c : Cow) → c.frozen ≡ true → (cow_after layout slot command answer c).frozen ≡ true
frozen-after layout slot (commands.Fork thread process) answers.Done c is = ap (λ (b : Bool). b || froze_slot layout slot (commands.Fork thread process)) is
frozen-after layout slot (commands.Store thread other line word) (answers.Stored at) c is = is
frozen-after layout slot command answer c is = is

switched-after : (layout : Layout) (slot : VSlot) (command : Command) (answer : Answer) (c : Cow) → c.switched ≡ true → (cow_after layout slot command answer c).switched ≡ true
switched-after layout slot (commands.Fork thread process) answers.Done c is = is
switched-after layout slot (commands.Store thread other line word) (answers.Stored at) c is = ap (λ (b : Bool). b || (c.frozen && (other.0 == slot.0))) is
switched-after layout slot command answer c is = is

abbrev behind : Layout → VSlot → Cow → List (Command × Answer) → Cow
behind layout slot c list = fold (λ (d : Cow) (p : Command × Answer). cow_after layout slot p.0 p.1 d) c list

frozen-behind : (layout : Layout) (slot : VSlot) (c : Cow) (list : List (Command × Answer)) → c.frozen ≡ true → (behind layout slot c list).frozen ≡ true
frozen-behind layout slot c [] is = is
frozen-behind layout slot c (p ∷ rest) is = frozen-behind layout slot (cow_after layout slot p.0 p.1 c) rest (frozen-after layout slot p.0 p.1 c is)

switched-behind : (layout : Layout) (slot : VSlot) (c : Cow) (list : List (Command × Answer)) → c.switched ≡ true → (behind layout slot c list).switched ≡ true
switched-behind layout slot c [] is = is
switched-behind layout slot c (p ∷ rest) is = switched-behind layout slot (cow_after layout slot p.0 p.1 c) rest (switched-after layout slot p.0 p.1 c is)

pub stays-frozen : (layout : Layout) (earlier more : List (Command × Answer)) (slot : VSlot) → (cow_of layout earlier slot).frozen ≡ true → (cow_of layout (earlier ++ more) slot).frozen ≡ true
stays-frozen layout earlier more slot is =
    ap (λ (c : Cow). c.frozen) (fold-append (λ (d : Cow) (p : Command × Answer). cow_after layout slot p.0 p.1 d) own_page earlier more) ∙ frozen-behind layout slot (cow_of layout earlier slot) more is

pub stays-switched : (layout : Layout) (earlier more : List (Command × Answer)) (slot : VSlot) → (cow_of layout earlier slot).switched ≡ true → (cow_of layout (earlier ++ more) slot).switched ≡ true
stays-switched layout earlier more slot is =
    ap (λ (c : Cow). c.switched) (fold-append (λ (d : Cow) (p : Command × Answer). cow_after layout slot p.0 p.1 d) own_page earlier more) ∙ switched-behind layout slot (cow_of layout earlier slot) more is

-- only what is frozen goes over
abbrev IsFit : Cow → Type 0
IsFit c = c.switched ≡ true → c.frozen ≡ true

or-fit : (s f b : Bool) → (s ≡ true → f ≡ true) → (s || (f && b)) ≡ true → f ≡ true
or-fit true f b fit is = fit refl
or-fit false true b fit is = refl
or-fit false false b fit is = is

fit-after : (layout : Layout) (slot : VSlot) (command : Command) (answer : Answer) (c : Cow) → IsFit c → IsFit (cow_after layout slot command answer c)
fit-after layout slot (commands.Fork thread process) answers.Done c fit = λ is. ap (λ (b : Bool). b || froze_slot layout slot (commands.Fork thread process)) (fit is)
fit-after layout slot (commands.Store thread other line word) (answers.Stored at) c fit = λ is. or-fit c.switched c.frozen (other.0 == slot.0) fit is
fit-after layout slot command answer c fit = fit

fit-behind : (layout : Layout) (slot : VSlot) (c : Cow) (list : List (Command × Answer)) → IsFit c → IsFit (behind layout slot c list)
fit-behind layout slot c [] fit = fit
fit-behind layout slot c (p ∷ rest) fit = fit-behind layout slot (cow_after layout slot p.0 p.1 c) rest (fit-after layout slot p.0 p.1 c fit)

pub switched-is-frozen : (layout : Layout) (earlier : List (Command × Answer)) (slot : VSlot) → (cow_of layout earlier slot).switched ≡ true → (cow_of layout earlier slot).frozen ≡ true
switched-is-frozen layout earlier slot = fit-behind layout slot own_page earlier (λ is. is)
