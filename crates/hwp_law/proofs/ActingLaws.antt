-- In a script that forks no process, each command is acted on as it stands, and no store copies a page.
use Rattle.std.proofs.Common.{◌≡◌, ℕ, zero, suc, ◌+◌, ◌||◌, Bool, false, List, [], ◌∷◌, ◌++◌, Option, Some, None, option_and_then, option_map, slice_get, unwrap_or, refl, sym, ap, ◌∙◌, if◌then◌else◌}
use Rattle.std.specs.List.{list_any}
use Rattle.std.specs.Option.{option_map_or}
use Rattle.std.proofs.lemmas.List.Folds.{list_any-append}
use Rattle.std.proofs.lemmas.Option.{none-some}
use Rattle.hwp_script_words.specs.hwp_geom.declared.Layout.{Layout}
use Rattle.hwp_script_words.specs.hwp_geom.declared.VSlot.{VSlot}
use Rattle.hwp_script_words.specs.hwp_geom.declared.Who.{Who}
use Rattle.hwp_report_text.specs.declared.Answer.{Answer}
use Rattle.hwp_report_text.specs.declared.CpuLine.{CpuLine}
use Rattle.hwp_report_text.specs.declared.Report.{Report}
use Rattle.hwp_script_words.specs.declared.Command.{Command}
use Rattle.hwp_script_words.specs.declared.Script.{Script}
use Rattle.hwp_law.specs.Commands.{command_at, has_fork, is_fork}
use Rattle.hwp_law.specs.Cows.{Cow, copied_from}
use Rattle.hwp_law.proofs.CowLaws.{acting-unforked, both-false, copied-unforked, has_forked, stays-own, take-unforked, zip-unforked}
use Rattle.hwp_law.specs.Acting.{acting_from, acting_lists, acting_script, copied_at}
use Rattle.hwp_law.specs.Copies.{ended_through}
use Rattle.hwp_law.specs.Lines.{answers_to}
use Rattle.hwp_law.specs.Policies.{answered_before, answered_on}
use Rattle.hwp_law.specs.Private.{ArePrivate, freeze_from}
use Rattle.hwp_law.specs.Runs.{slot_ended, slot_of}

-- of one list, behind commands none of which forks
pub acting-from-unforked : (layout : Layout) (earlier : List (Command × Answer)) (list : List Command) (given : List Answer) → has_forked earlier ≡ false → list_any is_fork list ≡ false
    → acting_from layout earlier list given ≡ list
acting-from-unforked layout earlier [] given before none = refl
acting-from-unforked layout earlier (c ∷ cs) [] before none =
    let apart : (is_fork c ≡ false) × (list_any is_fork cs ≡ false) = both-false (is_fork c) (list_any is_fork cs) none in
    ap (λ (d : Command). d ∷ acting_from layout earlier cs []) (acting-unforked layout earlier c before) ∙ ap (λ (l : List Command). c ∷ l) (acting-from-unforked layout earlier cs [] before apart.1)
acting-from-unforked layout earlier (c ∷ cs) (a ∷ given) before none =
    let apart : (is_fork c ≡ false) × (list_any is_fork cs ≡ false) = both-false (is_fork c) (list_any is_fork cs) none in
    let longer : has_forked (earlier ++ (c, a) ∷ []) ≡ false
    = list_any-append (λ (p : Command × Answer). is_fork p.0) earlier ((c, a) ∷ []) ∙ ap (λ (b : Bool). b || (is_fork c || false)) before ∙ ap (λ (b : Bool). b || false) apart.0 in
    ap (λ (d : Command). d ∷ acting_from layout (earlier ++ (c, a) ∷ []) cs given) (acting-unforked layout earlier c before)
    ∙ ap (λ (l : List Command). c ∷ l) (acting-from-unforked layout (earlier ++ (c, a) ∷ []) cs given longer apart.1)

-- of all lists
acting-lists-unforked : (layout : Layout) (cpus : List (List CpuLine)) (cpu : ℕ) (lists : List (List Command)) → list_any (list_any is_fork) lists ≡ false → acting_lists layout cpus cpu lists ≡ lists
acting-lists-unforked layout cpus cpu [] none = refl
acting-lists-unforked layout cpus cpu (list ∷ lists) none =
    let apart : (list_any is_fork list ≡ false) × (list_any (list_any is_fork) lists ≡ false) = both-false (list_any is_fork list) (list_any (list_any is_fork) lists) none in
    ap (λ (l : List Command). l ∷ acting_lists layout cpus (cpu + 1) lists) (acting-from-unforked layout [] list (answers_to list (unwrap_or (slice_get cpus cpu) [])) refl apart.0)
    ∙ ap (λ (l : List (List Command)). list ∷ l) (acting-lists-unforked layout cpus (cpu + 1) lists apart.1)

-- the script is its own acting script
pub acting-script-unforked : (script : Script) (report : Report) → has_fork script ≡ false → acting_script script report ≡ script
acting-script-unforked script report none = ap (λ (lists : List (List Command)). record script { lists = lists }) (acting-lists-unforked script.layout report.cpus 0 script.lists none)

-- no list of it forks
list-unforked : (lists : List (List Command)) (cpu : ℕ) → list_any (list_any is_fork) lists ≡ false → list_any is_fork (unwrap_or (slice_get lists cpu) []) ≡ false
list-unforked [] cpu none = refl
list-unforked (list ∷ lists) zero none = (both-false (list_any is_fork list) (list_any (list_any is_fork) lists) none).0
list-unforked (list ∷ lists) (suc cpu) none = list-unforked lists cpu (both-false (list_any is_fork list) (list_any (list_any is_fork) lists) none).1

before-unforked : (script : Script) (report : Report) (who : Who) → has_fork script ≡ false → has_forked (answered_before script report who) ≡ false
before-unforked script report who none =
    take-unforked who.seq (answered_on script report who.cpu)
    (zip-unforked (unwrap_or (slice_get script.lists who.cpu.0) []) (answers_to (unwrap_or (slice_get script.lists who.cpu.0) []) (unwrap_or (slice_get report.cpus who.cpu.0) [])) (list-unforked script.lists who.cpu.0 none))

-- and none of its stores copies
pub copied-at-unforked : (script : Script) (report : Report) (who : Who) → has_fork script ≡ false → copied_at script report who ≡ None
copied-at-unforked script report who none = which (command_at script who)
  where
    which : (o : Option Command) → option_and_then (copied_from script.layout (answered_before script report who)) o ≡ None
    which None = refl
    which (Some command) = copied-unforked script.layout (answered_before script report who) command (before-unforked script report who none)

-- without a fork no load is asked for a private word
freeze-unforked : (layout : Layout) (slot : VSlot) (n : ℕ) (earlier : List (Command × Answer)) → has_forked earlier ≡ false → freeze_from layout slot n earlier ≡ None
freeze-unforked layout slot n [] none = refl
freeze-unforked layout slot n (p ∷ rest) none =
    let apart : (is_fork p.0 ≡ false) × (has_forked rest ≡ false) = both-false (is_fork p.0) (has_forked rest) none in
    ap (λ (c : Cow). if c.frozen then Some n else freeze_from layout slot (n + 1) rest) (stays-own layout slot p.0 p.1 apart.0) ∙ freeze-unforked layout slot (n + 1) rest apart.1

pub private-unforked : (script : Script) (report : Report) → has_fork script ≡ false → ArePrivate script report
private-unforked script report none = λ who command slot line fork word at there loads frozen answered.
    absurd (none-some fork (sym (freeze-unforked script.layout slot 0 (answered_before script report who) (before-unforked script report who none)) ∙ frozen))

-- an access that copies nothing ends through its own translation
pub slot-uncopied : (script : Script) (copies : Who → Option VSlot) (report : Report) (who : Who) → copies who ≡ None → slot_ended script copies report who ≡ option_and_then slot_of (command_at script who)
slot-uncopied script copies report who none =
    ap (λ (o : Option VSlot). option_map (λ (slot : VSlot). option_map_or (λ (from : VSlot). ended_through script.layout report who from slot) o slot) (option_and_then slot_of (command_at script who))) none
    ∙ same (option_and_then slot_of (command_at script who))
  where
    same : (o : Option VSlot) → option_map (λ (slot : VSlot). slot) o ≡ o
    same None = refl
    same (Some slot) = refl
