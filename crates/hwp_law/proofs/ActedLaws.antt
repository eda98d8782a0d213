-- What a processor acts on, command by command: each of the script's, behind those before it with their answers. So the policies that its
-- commands set are those of the script's.
use Rattle.std.proofs.Common.{◌≡◌, ℕ, zero, suc, ◌+◌, List, [], ◌∷◌, ◌++◌, Option, Some, None, length, option_and_then, option_map, slice_get, take, unwrap_or, refl, sym, ap, ◌∙◌, arith}
use Rattle.std.specs.List.{cons_option, zip}
use Rattle.std.proofs.Math.Path.{fun_ext}
use Rattle.std.proofs.lemmas.List.{append-nil, append_assoc}
use Rattle.hwp_script_words.specs.hwp_geom.declared.Layout.{Layout}
use Rattle.hwp_script_words.specs.hwp_geom.declared.Thread.{Thread}
use Rattle.hwp_script_words.specs.hwp_geom.declared.Who.{Who}
use Rattle.hwp_report_text.specs.hwp_kill.declared.Policy.{Policy}
use Rattle.hwp_report_text.specs.declared.Answer.{Answer}
use Rattle.hwp_report_text.specs.declared.CpuLine.{CpuLine}
use Rattle.hwp_report_text.specs.declared.Report.{Report}
use Rattle.hwp_script_words.specs.declared.Command.{Command}
use Rattle.hwp_script_words.specs.declared.Script.{Script}
use Rattle.hwp_law.specs.Commands.{command_at}
use Rattle.hwp_law.specs.Cows.{acting}
use Rattle.hwp_law.specs.Settings.{set_after, set_behind, settings, unset}
use Rattle.hwp_law.proofs.CowLaws.{acting-sets}
use Rattle.hwp_law.specs.Acting.{acting_from, acting_lists, acting_script}
use Rattle.hwp_law.specs.Lines.{answer_among, answered, answers_from, answers_to}
use Rattle.hwp_law.specs.Policies.{answered_before, answered_on}

-- ---- one command

abbrev unanswered : List Answer
unanswered = []

zip-none : (l : List Command) → zip l unanswered ≡ []
zip-none [] = refl
zip-none (x ∷ xs) = refl

take-none : (n : ℕ) → ◌≡◌ {A = List (Command × Answer)} (take n []) []
take-none zero = refl
take-none (suc n) = refl

pub acted-at : (layout : Layout) (earlier : List (Command × Answer)) (list : List Command) (given : List Answer) (i : ℕ)
    → slice_get (acting_from layout earlier list given) i ≡ option_map (acting layout (earlier ++ take i (zip list given))) (slice_get list i)
acted-at layout earlier [] given i = refl
acted-at layout earlier (c ∷ cs) [] zero = ap (λ (l : List (Command × Answer)). Some (acting layout l c)) (sym (append-nil earlier))
acted-at layout earlier (c ∷ cs) [] (suc i) =
    acted-at layout earlier cs [] i
    ∙ ap (λ (l : List (Command × Answer)). option_map (acting layout (earlier ++ l)) (slice_get cs i)) (ap (take i) (zip-none cs) ∙ take-none i)
acted-at layout earlier (c ∷ cs) (a ∷ given) zero = ap (λ (l : List (Command × Answer)). Some (acting layout l c)) (sym (append-nil earlier))
acted-at layout earlier (c ∷ cs) (a ∷ given) (suc i) =
    acted-at layout (earlier ++ (c, a) ∷ []) cs given i
    ∙ ap (λ (l : List (Command × Answer)). option_map (acting layout l) (slice_get cs i)) (append_assoc earlier ((c, a) ∷ []) (take i (zip cs given)))

abbrev acted : Layout → List (List CpuLine) → ℕ → List Command → List Command
acted layout cpus cpu list = acting_from layout [] list (answers_to list (unwrap_or (slice_get cpus cpu) []))

lists-at : (layout : Layout) (cpus : List (List CpuLine)) (n : ℕ) (lists : List (List Command)) (k : ℕ) → slice_get (acting_lists layout cpus n lists) k ≡ option_map (acted layout cpus (n + k)) (slice_get lists k)
lists-at layout cpus n [] k = refl
lists-at layout cpus n (list ∷ lists) zero = let same : n ≡ n + 0 = omega arith in ap (λ (i : ℕ). Some (acted layout cpus i list)) same
lists-at layout cpus n (list ∷ lists) (suc k) =
    let same : (n + 1) + k ≡ n + suc k = omega arith in
    lists-at layout cpus (n + 1) lists k ∙ ap (λ (i : ℕ). option_map (acted layout cpus i) (slice_get lists k)) same

pub list-at : (script : Script) (report : Report) (k : ℕ) → slice_get (acting_script script report).lists k ≡ option_map (acted script.layout report.cpus k) (slice_get script.lists k)
list-at script report k =
    let same : 0 + k ≡ k = omega arith in
    lists-at script.layout report.cpus 0 script.lists k ∙ ap (λ (i : ℕ). option_map (acted script.layout report.cpus i) (slice_get script.lists k)) same

-- the command that is acted on is the script's, behind those before it
pub command-acted : (script : Script) (report : Report) (who : Who) → command_at (acting_script script report) who ≡ option_map (acting script.layout (answered_before script report who)) (command_at script who)
command-acted script report who =
    ap (option_and_then (λ (l : List Command). slice_get l who.seq)) (list-at script report who.cpu.0) ∙ of_list (slice_get script.lists who.cpu.0)
  where
    of_list : (o : Option (List Command)) → option_and_then (λ (l : List Command). slice_get l who.seq) (option_map (acted script.layout report.cpus who.cpu.0) o)
        ≡ option_map (acting script.layout (take who.seq (answered (unwrap_or o []) (unwrap_or (slice_get report.cpus who.cpu.0) [])))) (option_and_then (λ (l : List Command). slice_get l who.seq) o)
    of_list None = refl
    of_list (Some list) = acted-at script.layout [] list (answers_to list (unwrap_or (slice_get report.cpus who.cpu.0) [])) who.seq

-- as many commands as there were, so each has the answer that the script's command has
pub acting-length : (layout : Layout) (earlier : List (Command × Answer)) (list : List Command) (given : List Answer) → length (acting_from layout earlier list given) ≡ length list
acting-length layout earlier [] given = refl
acting-length layout earlier (c ∷ cs) [] = ap suc (acting-length layout earlier cs [])
acting-length layout earlier (c ∷ cs) (a ∷ given) = ap suc (acting-length layout (earlier ++ (c, a) ∷ []) cs given)

pub answered-acted : (layout : Layout) (list : List Command) (rows : List CpuLine)
    → answered (acting_from layout [] list (answers_to list rows)) rows ≡ zip (acting_from layout [] list (answers_to list rows)) (answers_to list rows)
answered-acted layout list rows =
    ap (λ (n : ℕ). zip (acting_from layout [] list (answers_to list rows)) (answers_from (answer_among rows) 0 n)) (acting-length layout [] list (answers_to list rows))

-- ---- policies

-- a command that is acted on sets what the script's sets, whatever was set before
sets-alike : (layout : Layout) (earlier : List (Command × Answer)) (set : ℕ → List Policy) (c : Command) (a : Answer) → set_after layout set (acting layout earlier c, a) ≡ set_after layout set (c, a)
sets-alike layout earlier set c a = fun_ext (λ (thread : ℕ). ap (λ (o : Option Policy). set thread ++ cons_option o []) (acting-sets layout earlier set thread c a))

pub set-acted : (layout : Layout) (earlier : List (Command × Answer)) (set : ℕ → List Policy) (list : List Command) (given : List Answer) → set_behind layout set (zip (acting_from layout earlier list given) given) ≡ set_behind layout set (zip list given)
set-acted layout earlier set [] given = refl
set-acted layout earlier set (c ∷ cs) [] = refl
set-acted layout earlier set (c ∷ cs) (a ∷ given) =
    ap (λ (s : ℕ → List Policy). set_behind layout s (zip (acting_from layout (earlier ++ (c, a) ∷ []) cs given) given)) (sets-alike layout earlier set c a)
    ∙ set-acted layout (earlier ++ (c, a) ∷ []) (set_after layout set (c, a)) cs given

pub set-acted-first : (layout : Layout) (earlier : List (Command × Answer)) (set : ℕ → List Policy) (list : List Command) (given : List Answer) (n : ℕ)
    → set_behind layout set (take n (zip (acting_from layout earlier list given) given)) ≡ set_behind layout set (take n (zip list given))
set-acted-first layout earlier set list given zero = refl
set-acted-first layout earlier set [] given (suc n) = refl
set-acted-first layout earlier set (c ∷ cs) [] (suc n) = refl
set-acted-first layout earlier set (c ∷ cs) (a ∷ given) (suc n) =
    ap (λ (s : ℕ → List Policy). set_behind layout s (take n (zip (acting_from layout (earlier ++ (c, a) ∷ []) cs given) given))) (sets-alike layout earlier set c a)
    ∙ set-acted-first layout (earlier ++ (c, a) ∷ []) (set_after layout set (c, a)) cs given n

-- the policies that a thread's processor set, all and those before a command, are those of the script
pub settings-acted : (script : Script) (report : Report) (who : Who) (thread : Thread)
    → (settings script.layout thread (answered_on (acting_script script report) report who.cpu) ≡ settings script.layout thread (answered_on script report who.cpu))
    × (settings script.layout thread (answered_before (acting_script script report) report who) ≡ settings script.layout thread (answered_before script report who))
settings-acted script report who thread = (
  ap (λ (o : Option (List Command)). settings script.layout thread (answered (unwrap_or o []) lines)) (list-at script report who.cpu.0) ∙ all (slice_get script.lists who.cpu.0),
  ap (λ (o : Option (List Command)). settings script.layout thread (take who.seq (answered (unwrap_or o []) lines))) (list-at script report who.cpu.0) ∙ first (slice_get script.lists who.cpu.0),
)
  where
    lines : List CpuLine
    lines = unwrap_or (slice_get report.cpus who.cpu.0) []

    all : (o : Option (List Command)) → settings script.layout thread (answered (unwrap_or (option_map (acted script.layout report.cpus who.cpu.0) o) []) lines) ≡ settings script.layout thread (answered (unwrap_or o []) lines)
    all None = refl
    all (Some list) =
        ap (settings script.layout thread) (answered-acted script.layout list lines) ∙ ap (λ (s : ℕ → List Policy). s thread.0) (set-acted script.layout [] unset list (answers_to list lines))

    first : (o : Option (List Command)) → settings script.layout thread (take who.seq (answered (unwrap_or (option_map (acted script.layout report.cpus who.cpu.0) o) []) lines)) ≡ settings script.layout thread (take who.seq (answered (unwrap_or o []) lines))
    first None = refl
    first (Some list) =
        ap (λ (l : List (Command × Answer)). settings script.layout thread (take who.seq l)) (answered-acted script.layout list lines)
        ∙ ap (λ (s : ℕ → List Policy). s thread.0) (set-acted-first script.layout [] unset list (answers_to list lines) who.seq)
