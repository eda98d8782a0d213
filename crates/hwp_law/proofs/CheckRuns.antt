-- The machine checks of a command are the runs of rising banks among its event lines: what stands in a run is what one machine check
-- told, or the one line of a weak line that a scrub met.
use Rattle.std.proofs.Common.{◌≡◌, ℕ, zero, suc, ◌+◌, ◌-◌, ◌<◌, ◌≤◌, ◌||◌, Bool, true, false, List, [], ◌∷◌, ◌++◌, Option, None, Some, MatchBool, length, nat_lt, option_and_then, slice_get, refl, sym, ap, ◌∙◌, subst, arith}
use Rattle.std.proofs.lemmas.Bool.{le-ltb, lt-ltb}
use Rattle.std.proofs.lemmas.List.{append_assoc, length-set}
use Rattle.std.proofs.lemmas.Option.{none-some, same_Some}
use Rattle.hwp_script_words.specs.hwp_geom.declared.Cpu.{Cpu}
use Rattle.hwp_script_words.specs.hwp_geom.declared.Frame.{Frame}
use Rattle.hwp_script_words.specs.hwp_geom.declared.VSlot.{VSlot}
use Rattle.hwp_script_words.specs.hwp_geom.declared.Who.{Who}
use Rattle.hwp_report_text.specs.hwp_banks.declared.Event.{Event}
use Rattle.hwp_report_text.specs.hwp_banks.declared.Origin.{Origin}
use Rattle.hwp_report_text.specs.hwp_banks.declared.Origin.TheVariants as origins
use Rattle.hwp_report_text.specs.hwp_banks.Banks.{Banks, empty_banks, held_from, log_in, raw_event}
use Rattle.hwp_report_text.specs.hwp_banks.Events.{bank_of, own_event}
use Rattle.hwp_report_text.specs.hwp_severity.Handling.{has_stop}
use Rattle.hwp_report_text.specs.hwp_severity.declared.Arrival.{Arrival}
use Rattle.hwp_script_words.specs.declared.Command.{Command}
use Rattle.hwp_script_words.specs.declared.Command.TheVariants as commands
use Rattle.hwp_script_words.specs.declared.Script.{Script}
use Rattle.hwp_report_text.specs.Acts.{is_panic}
use Rattle.hwp_report_text.specs.declared.Answer.{Answer}
use Rattle.hwp_report_text.specs.declared.Answer.TheVariants as answers
use Rattle.hwp_report_text.specs.declared.EventLine.{EventLine}
use Rattle.hwp_report_text.specs.declared.Report.{Report}
use Rattle.hwp_law.specs.Commands.{arrival_of, command_at}
use Rattle.hwp_law.specs.Notes.{AreApart, IsRising, checks}
use Rattle.hwp_law.proofs.NoteLaws.{checks-append, checks-rising}
use Rattle.hwp_law.specs.Checks.{AreLinesOf, IsCheck}
use Rattle.hwp_law.specs.Events.{AreAccessChecks, AreEvents, AreEventsFrom, AreEventsOf, AreScrubbed, IsBadFound, IsDamaged, IsRaise, IsWeakFound, access_lines, is_raised, logged_if_done, store_lines}
use Rattle.hwp_law.specs.Lines.{answer_of, events_of}

-- ---- runs

-- the machine checks of accesses to these bad lines, a run each
abbrev pub AreAccessRuns : Script → Report → Who → Arrival → Origin → List ℕ → Banks → List (List EventLine) → Banks → Type 0
AreAccessRuns script report who how origin [] banks runs after = (runs ≡ []) × (after ≡ banks)
AreAccessRuns script report who how origin (line ∷ more) banks [] after = ⊥
AreAccessRuns script report who how origin (line ∷ more) banks (now ∷ later) after =
    (frame : Frame) × IsDamaged report origin frame.0 line × IsCheck script report who how (log_in (bank_of origin) (own_event origin frame line) banks) now
    × AreAccessRuns script report who how origin more empty_banks later after

-- the lines of what a scrub met at a frame, where it met something
abbrev pub run_of : Option ℕ → List EventLine → List (List EventLine)
run_of None lines = []
run_of (Some line) lines = lines ∷ []

-- of a frame: a run for its bad line and one for its weak line, where it met them
pub record AreFrameRuns (script : Script) (report : Report) (who : Who) (how : Arrival) (frame : Frame) (banks : Banks) (runs : List (List EventLine)) (after : Banks) : Type 0 where
  pub bad : Option ℕ
  pub weak : Option ℕ
  pub bad_lines : List EventLine
  pub weak_lines : List EventLine
  pub between : Banks
  pub all : runs ≡ run_of bad bad_lines ++ run_of weak weak_lines
  pub bad_found : IsBadFound script report who how frame bad banks bad_lines between
  pub weak_found : IsWeakFound script report who how frame weak between weak_lines after

abbrev pub AreScrubRuns : Script → Report → Who → Arrival → ℕ → ℕ → Banks → List (List EventLine) → Banks → Type 0
AreScrubRuns script report who how frame zero banks runs after = (runs ≡ []) × (after ≡ banks)
AreScrubRuns script report who how frame (suc more) banks runs after =
    (now : List (List EventLine)) × (later : List (List EventLine)) × (between : Banks) × (runs ≡ now ++ later) × AreFrameRuns script report who how (record { 0 = frame }) banks now between
    × AreScrubRuns script report who how (frame + 1) more between later after

-- one run of all lines, where there are some
abbrev pub one_run : List EventLine → List (List EventLine)
one_run [] = []
one_run (line ∷ lines) = (line ∷ lines) ∷ []

-- the runs of a command's lines: each machine check is one
abbrev pub AreRunsOf : Script → (Who → Option VSlot) → Report → Who → Arrival → Command → Banks → List EventLine → List (List EventLine) → Banks → Type 0
AreRunsOf script copies report who how (commands.Load thread slot line) banks lines runs after = AreAccessRuns script report who how origins.Access (access_lines report who line) banks runs after
AreRunsOf script copies report who how (commands.Fetch thread slot line) banks lines runs after = AreAccessRuns script report who how origins.Fetch (access_lines report who line) banks runs after
AreRunsOf script copies report who how (commands.KLoad thread slot line) banks lines runs after = AreAccessRuns script report who how origins.Access (access_lines report who line) banks runs after
AreRunsOf script copies report who how (commands.Store thread slot line word) banks lines runs after =
    AreAccessRuns script report who how origins.Access (store_lines script.layout report who (copies who) slot line) banks runs after
AreRunsOf script copies report who how (commands.Scrub first last) banks lines runs after = AreScrubRuns script report who how first.0 (last.0 + 1 - first.0) banks runs after
AreRunsOf script copies report who how command banks lines runs after = runs ≡ one_run lines

-- ---- banks

-- lines of rising banks from this one on
abbrev RisesFrom : ℕ → List EventLine → Type 0
RisesFrom n [] = Unit {0}
RisesFrom n (line ∷ rest) = (n ≤ line.bank) × RisesFrom (line.bank + 1) rest

-- there are lines, and the last one's bank is this or above
abbrev Reaches : ℕ → List EventLine → Type 0
Reaches k [] = ⊥
Reaches k (line ∷ []) = k ≤ line.bank
Reaches k (line ∷ next ∷ rest) = Reaches k (next ∷ rest)

-- the first one's bank, if there is one, is this or below
abbrev StartsBy : ℕ → List EventLine → Type 0
StartsBy k [] = Unit {0}
StartsBy k (line ∷ rest) = line.bank ≤ k

rises-sooner : (n m : ℕ) (lines : List EventLine) → n ≤ m → RisesFrom m lines → RisesFrom n lines
rises-sooner n m [] less rises = tt
rises-sooner n m (line ∷ rest) less (first, rises) = (omega (arith, less, first), rises)

rising : (n : ℕ) (line : EventLine) (rest : List EventLine) → RisesFrom n (line ∷ rest) → IsRising (line ∷ rest)
rising n line [] rises = tt
rising n line (next ∷ rest) (first, rises) = (above line.bank next.bank (omega (arith, rises.0)), rising (line.bank + 1) next rest rises)
  where
    above : (a b : ℕ) → a < b → nat_lt a b ≡ true
    above a b less = lt-ltb a b less

reaches-on : (k : ℕ) (line : EventLine) (rest : List EventLine) → Reaches k rest → Reaches k (line ∷ rest)
reaches-on k line [] reaches = absurd reaches
reaches-on k line (next ∷ rest) reaches = reaches

reaches-above : (k : ℕ) (line : EventLine) (rest : List EventLine) → k ≤ line.bank → RisesFrom (line.bank + 1) rest → Reaches k (line ∷ rest)
reaches-above k line [] high rises = high
reaches-above k line (next ∷ rest) high (first, rises) = reaches-above k next rest (omega (arith, high, first)) rises

apart : (k : ℕ) (run later : List EventLine) → Reaches k run → StartsBy k later → AreApart run later
apart k [] later reaches starts = absurd reaches
apart k (line ∷ []) [] reaches starts = tt
apart k (line ∷ []) (other ∷ others) reaches starts = le-ltb line.bank other.bank (omega (arith, reaches, starts))
apart k (line ∷ next ∷ rest) later reaches starts = apart k (next ∷ rest) later reaches starts

-- a run and what begins another
one-more : (k : ℕ) (run later : List EventLine) → RisesFrom 0 run → Reaches k run → StartsBy k later → checks (run ++ later) ≡ run ∷ checks later
one-more k [] later rises reaches starts = absurd reaches
one-more k (line ∷ rest) later rises reaches starts =
    checks-append (line ∷ rest) later (apart k (line ∷ rest) later reaches starts) ∙ ap (λ (l : List (List EventLine)). l ++ checks later) (checks-rising line rest (rising 0 line rest rises))

alone : (lines : List EventLine) → RisesFrom 0 lines → checks lines ≡ one_run lines
alone [] rises = refl
alone (line ∷ rest) rises = checks-rising line rest (rising 0 line rest rises)

-- three banks, one after the other
three : (banks : Banks) → length banks ≡ 3 → (a : Option Event) × (b : Option Event) × (c : Option Event) × (banks ≡ a ∷ b ∷ c ∷ [])
three [] is = absurd (let no : 0 ≡ 3 = is in omega (arith, no))
three (a ∷ []) is = absurd (let no : 1 ≡ 3 = is in omega (arith, no))
three (a ∷ b ∷ []) is = absurd (let no : 2 ≡ 3 = is in omega (arith, no))
three (a ∷ b ∷ c ∷ []) is = (a, b, c, refl)
three (a ∷ b ∷ c ∷ d ∷ rest) is = absurd (let no : suc (suc (suc (suc (length rest)))) ≡ 3 = is in omega (arith, no))

-- the machine's own event stands in its bank
own-there : (origin : Origin) (frame : Frame) (line : ℕ) (banks : Banks) → length banks ≡ 3 → (e : Event) × (slice_get (log_in (bank_of origin) (own_event origin frame line) banks) (bank_of origin) ≡ Some (Some e))
own-there origin frame line banks is = let of = three banks is in subst (λ (l : Banks). (e : Event) × (slice_get (log_in (bank_of origin) (own_event origin frame line) l) (bank_of origin) ≡ Some (Some e))) (sym of.3) (which origin of.0 of.1 of.2)
  where
    which : (o : Origin) (a b c : Option Event) → (e : Event) × (slice_get (log_in (bank_of o) (own_event o frame line) (a ∷ b ∷ c ∷ [])) (bank_of o) ≡ Some (Some e))
    which origins.Access a b c = (_, refl)
    which origins.Fetch a b c = (_, refl)
    which origins.BadLine a b c = (_, refl)
    which origins.WeakLine a b c = (_, refl)

log-three : (k : ℕ) (e : Event) (banks : Banks) → length banks ≡ 3 → length (log_in k e banks) ≡ 3
log-three k e banks is = length-set banks k _ ∙ is

module _ (script : Script) (report : Report) (who : Who) (how : Arrival) where
  -- the lines of what banks hold rise
  rises : (n : ℕ) (banks : Banks) (held : Bool) (lines : List EventLine) → AreLinesOf script report who how held (held_from n banks) lines → RisesFrom n lines
  rises n [] held [] are = tt
  rises n [] held (l ∷ ls) are = absurd are
  rises n (None ∷ banks) held lines are = rises-sooner n (n + 1) lines (omega arith) (rises (n + 1) banks held lines are)
  rises n (Some e ∷ banks) held [] are = absurd are
  rises n (Some e ∷ banks) held (l ∷ ls) (is, rest) =
      let bank : l.bank ≡ n = is.bank_is in
      (omega (arith, bank), subst (λ (k : ℕ). RisesFrom (k + 1) ls) (sym bank) (rises (n + 1) banks (held || is_panic l.acted) ls rest))

  -- they come to each bank that holds something
  reaches : (n : ℕ) (banks : Banks) (held : Bool) (lines : List EventLine) (j k : ℕ) (e : Event) → slice_get banks j ≡ Some (Some e) → k ≡ n + j → AreLinesOf script report who how held (held_from n banks) lines → Reaches k lines
  reaches n [] held lines j k e there at are = absurd (none-some (Some e) there)
  reaches n (None ∷ banks) held lines zero k e there at are = absurd (none-some e (same_Some None (Some e) there))
  reaches n (None ∷ banks) held lines (suc j) k e there at are = reaches (n + 1) banks held lines j k e there (omega (arith, at)) are
  reaches n (Some x ∷ banks) held [] j k e there at are = absurd are
  reaches n (Some x ∷ banks) held (l ∷ ls) zero k e there at (is, rest) =
      let bank : l.bank ≡ n = is.bank_is in
      reaches-above k l ls (omega (arith, bank, at)) (subst (λ (i : ℕ). RisesFrom (i + 1) ls) (sym bank) (rises (n + 1) banks (held || is_panic l.acted) ls rest))
  reaches n (Some x ∷ banks) held (l ∷ ls) (suc j) k e there at (is, rest) = reaches-on k l ls (reaches (n + 1) banks (held || is_panic l.acted) ls j k e there (omega (arith, at)) rest)

  -- and start below their end
  starts : (n : ℕ) (banks : Banks) (held : Bool) (lines more : List EventLine) (k : ℕ) → n + length banks ≡ k + 1 → AreLinesOf script report who how held (held_from n banks) lines → StartsBy k more → StartsBy k (lines ++ more)
  starts n [] held [] more k fit are behind = behind
  starts n [] held (l ∷ ls) more k fit are behind = absurd are
  starts n (None ∷ banks) held lines more k fit are behind = starts (n + 1) banks held lines more k (let all : n + suc (length banks) ≡ k + 1 = fit in omega (arith, all)) are behind
  starts n (Some e ∷ banks) held [] more k fit are behind = absurd are
  starts n (Some e ∷ banks) held (l ∷ ls) more k fit (is, rest) behind =
      let bank : l.bank ≡ n = is.bank_is in
      let all : n + suc (length banks) ≡ k + 1 = fit in
      omega (arith, bank, all)

  -- ---- accesses

  -- behind a machine check the banks are empty, so that the next one has one event
  starts-own : (origin : Origin) (frame : Frame) (line : ℕ) (held : Bool) (lines more : List EventLine) → AreLinesOf script report who how held (held_from 0 (log_in (bank_of origin) (own_event origin frame line) empty_banks)) lines → StartsBy (bank_of origin) (lines ++ more)
  starts-own origins.Access frame line held [] more are = absurd are
  starts-own origins.Access frame line held (l ∷ ls) more (is, rest) = let bank : l.bank ≡ 0 = is.bank_is in omega (arith, bank)
  starts-own origins.Fetch frame line held [] more are = absurd are
  starts-own origins.Fetch frame line held (l ∷ ls) more (is, rest) = let bank : l.bank ≡ 1 = is.bank_is in omega (arith, bank)
  starts-own origins.BadLine frame line held [] more are = absurd are
  starts-own origins.BadLine frame line held (l ∷ ls) more (is, rest) = let bank : l.bank ≡ 2 = is.bank_is in omega (arith, bank)
  starts-own origins.WeakLine frame line held [] more are = absurd are
  starts-own origins.WeakLine frame line held (l ∷ ls) more (is, rest) = let bank : l.bank ≡ 2 = is.bank_is in omega (arith, bank)

  starts-more : (origin : Origin) (more : List ℕ) (lines : List EventLine) (after : Banks) → AreAccessChecks script report who how origin more empty_banks lines after → StartsBy (bank_of origin) lines
  starts-more origin [] lines after are = subst (StartsBy (bank_of origin)) (sym are.0) tt
  starts-more origin (line ∷ more) lines after (frame, now, later, all, damaged, check, rest) = subst (StartsBy (bank_of origin)) (sym all) (starts-own origin frame line _ now later check)

  pub access-runs : (origin : Origin) (more : List ℕ) (banks : Banks) (lines : List EventLine) (after : Banks) → length banks ≡ 3 → AreAccessChecks script report who how origin more banks lines after → AreAccessRuns script report who how origin more banks (checks lines) after
  access-runs origin [] banks lines after fit (none, left) = (ap checks none, left)
  access-runs origin (line ∷ more) banks lines after fit (frame, now, later, all, damaged, check, rest) =
      let own = own-there origin frame line banks fit in
      let logged_ : Banks = log_in (bank_of origin) (own_event origin frame line) banks in
      let up : RisesFrom 0 now = rises 0 logged_ (has_stop how logged_) now check in
      let to : Reaches (bank_of origin) now = reaches 0 logged_ (has_stop how logged_) now (bank_of origin) (bank_of origin) own.0 own.1 (omega arith) check in
      let runs : checks lines ≡ now ∷ checks later = ap checks all ∙ one-more (bank_of origin) now later up to (starts-more origin more later after rest) in
      subst (λ (l : List (List EventLine)). AreAccessRuns script report who how origin (line ∷ more) banks l after) (sym runs) (frame, damaged, check, access-runs origin more empty_banks later after refl rest)

  -- ---- a scrub

  bad-left : (frame : Frame) (bad : Option ℕ) (banks : Banks) (lines : List EventLine) (after : Banks) → length banks ≡ 3 → IsBadFound script report who how frame bad banks lines after → length after ≡ 3
  bad-left frame None banks lines after fit found = ap length found.1 ∙ fit
  bad-left frame (Some line) banks lines after fit found = ap length found.1

  weak-left : (frame : Frame) (weak : Option ℕ) (banks : Banks) (lines : List EventLine) (after : Banks) → length banks ≡ 3 → IsWeakFound script report who how frame weak banks lines after → length after ≡ 3
  weak-left frame None banks lines after fit found = ap length found.1 ∙ fit
  weak-left frame (Some line) banks lines after fit (event, damaged, there, are, left) = ap length left ∙ length-set banks (bank_of origins.WeakLine) None ∙ fit

  bad-starts : (frame : Frame) (bad : Option ℕ) (banks : Banks) (lines more : List EventLine) (after : Banks) → length banks ≡ 3 → IsBadFound script report who how frame bad banks lines after → StartsBy 2 more → StartsBy 2 (lines ++ more)
  bad-starts frame None banks lines more after fit found behind = subst (λ (l : List EventLine). StartsBy 2 (l ++ more)) (sym found.0) behind
  bad-starts frame (Some line) banks lines more after fit (damaged, left, check) behind =
      let logged_ : Banks = log_in (bank_of origins.BadLine) (own_event origins.BadLine frame line) banks in
      let long : length logged_ ≡ 3 = log-three (bank_of origins.BadLine) (own_event origins.BadLine frame line) banks fit in
      starts 0 logged_ (has_stop how logged_) lines more 2 (omega (arith, long)) check behind

  weak-starts : (frame : Frame) (weak : Option ℕ) (banks : Banks) (lines more : List EventLine) (after : Banks) → IsWeakFound script report who how frame weak banks lines after → StartsBy 2 more → StartsBy 2 (lines ++ more)
  weak-starts frame None banks lines more after found behind = subst (λ (l : List EventLine). StartsBy 2 (l ++ more)) (sym found.0) behind
  weak-starts frame (Some line) banks [] more after (event, damaged, there, are, left) behind = absurd are
  weak-starts frame (Some line) banks (l ∷ ls) more after (event, damaged, there, are, left) behind = let bank : l.bank ≡ 2 = are.0.bank_is in omega (arith, bank)

  bad-run : (frame : Frame) (bad : Option ℕ) (banks : Banks) (lines later : List EventLine) (after : Banks) → length banks ≡ 3 → IsBadFound script report who how frame bad banks lines after → StartsBy 2 later → checks (lines ++ later) ≡ run_of bad lines ++ checks later
  bad-run frame None banks lines later after fit found behind = ap (λ (l : List EventLine). checks (l ++ later)) found.0
  bad-run frame (Some line) banks lines later after fit (damaged, left, check) behind =
      let logged_ : Banks = log_in (bank_of origins.BadLine) (own_event origins.BadLine frame line) banks in
      let own = own-there origins.BadLine frame line banks fit in
      one-more 2 lines later (rises 0 logged_ (has_stop how logged_) lines check) (reaches 0 logged_ (has_stop how logged_) lines 2 2 own.0 own.1 (omega arith) check) behind

  weak-run : (frame : Frame) (weak : Option ℕ) (banks : Banks) (lines later : List EventLine) (after : Banks) → IsWeakFound script report who how frame weak banks lines after → StartsBy 2 later → checks (lines ++ later) ≡ run_of weak lines ++ checks later
  weak-run frame None banks lines later after found behind = ap (λ (l : List EventLine). checks (l ++ later)) found.0
  weak-run frame (Some line) banks [] later after (event, damaged, there, are, left) behind = absurd are
  weak-run frame (Some line) banks (l ∷ []) later after (event, damaged, there, are, left) behind = let bank : l.bank ≡ 2 = are.0.bank_is in one-more 2 (l ∷ []) later (omega arith, tt) (omega (arith, bank)) behind
  weak-run frame (Some line) banks (l ∷ m ∷ ls) later after (event, damaged, there, are, left) behind = absurd are.1

  scrub-starts : (frame more : ℕ) (banks : Banks) (lines : List EventLine) (after : Banks) → length banks ≡ 3 → AreScrubbed script report who how frame more banks lines after → StartsBy 2 lines
  scrub-starts frame zero banks lines after fit are = subst (StartsBy 2) (sym are.0) tt
  scrub-starts frame (suc more) banks lines after fit (now, later, between, all, s, rest) =
      let first = bad-left (record { 0 = frame }) s.bad banks s.bad_lines s.between fit s.bad_found in
      let second = weak-left (record { 0 = frame }) s.weak s.between s.weak_lines between first s.weak_found in
      let whole : lines ≡ s.bad_lines ++ (s.weak_lines ++ later) = all ∙ ap (λ (l : List EventLine). l ++ later) s.all ∙ append_assoc s.bad_lines s.weak_lines later in
      subst (StartsBy 2) (sym whole)
      (bad-starts (record { 0 = frame }) s.bad banks s.bad_lines (s.weak_lines ++ later) s.between fit s.bad_found
      (weak-starts (record { 0 = frame }) s.weak s.between s.weak_lines later between s.weak_found (scrub-starts (frame + 1) more between later after second rest)))

  pub scrub-runs : (frame more : ℕ) (banks : Banks) (lines : List EventLine) (after : Banks) → length banks ≡ 3 → AreScrubbed script report who how frame more banks lines after → AreScrubRuns script report who how frame more banks (checks lines) after
  scrub-runs frame zero banks lines after fit (none, left) = (ap checks none, left)
  scrub-runs frame (suc more) banks lines after fit (now, later, between, all, s, rest) =
      let first = bad-left (record { 0 = frame }) s.bad banks s.bad_lines s.between fit s.bad_found in
      let second = weak-left (record { 0 = frame }) s.weak s.between s.weak_lines between first s.weak_found in
      let whole : lines ≡ s.bad_lines ++ (s.weak_lines ++ later) = all ∙ ap (λ (l : List EventLine). l ++ later) s.all ∙ append_assoc s.bad_lines s.weak_lines later in
      let begins = scrub-starts (frame + 1) more between later after second rest in
      let runs : checks lines ≡ (run_of s.bad s.bad_lines ++ run_of s.weak s.weak_lines) ++ checks later
      = ap checks whole
      ∙ bad-run (record { 0 = frame }) s.bad banks s.bad_lines (s.weak_lines ++ later) s.between fit s.bad_found (weak-starts (record { 0 = frame }) s.weak s.between s.weak_lines later between s.weak_found begins)
      ∙ ap (λ (l : List (List EventLine)). run_of s.bad s.bad_lines ++ l) (weak-run (record { 0 = frame }) s.weak s.between s.weak_lines later between s.weak_found begins)
      ∙ sym (append_assoc (run_of s.bad s.bad_lines) (run_of s.weak s.weak_lines) (checks later)) in (
        run_of s.bad s.bad_lines ++ run_of s.weak s.weak_lines,
        checks later,
        between,
        runs,
        record { bad = s.bad; weak = s.weak; bad_lines = s.bad_lines; weak_lines = s.weak_lines; between = s.between; all = refl; bad_found = s.bad_found; weak_found = s.weak_found },
        scrub-runs (frame + 1) more between later after second rest,
      )

  scrub-three : (frame more : ℕ) (banks : Banks) (lines : List EventLine) (after : Banks) → length banks ≡ 3 → AreScrubbed script report who how frame more banks lines after → length after ≡ 3
  scrub-three frame zero banks lines after fit are = ap length are.1 ∙ fit
  scrub-three frame (suc more) banks lines after fit (now, later, between, all, s, rest) =
      let first = bad-left (record { 0 = frame }) s.bad banks s.bad_lines s.between fit s.bad_found in
      let second = weak-left (record { 0 = frame }) s.weak s.between s.weak_lines between first s.weak_found in
      scrub-three (frame + 1) more between later after second rest

  access-three : (origin : Origin) (more : List ℕ) (banks : Banks) (lines : List EventLine) (after : Banks) → length banks ≡ 3 → AreAccessChecks script report who how origin more banks lines after → length after ≡ 3
  access-three origin [] banks lines after fit are = ap length are.1 ∙ fit
  access-three origin (line ∷ more) banks lines after fit (frame, now, later, all, damaged, check, rest) = access-three origin more empty_banks later after refl rest

  -- ---- a `raise`

  raise-runs : (banks : Banks) (lines : List EventLine) (after : Banks) → IsRaise script report who how banks lines after → checks lines ≡ one_run lines
  raise-runs banks lines after raise = which (is_raised (answer_of report who) lines) raise
    where
      which : (b : Bool) → MatchBool b (IsCheck script report who how banks lines × (after ≡ empty_banks)) ((lines ≡ []) × (after ≡ banks)) → checks lines ≡ one_run lines
      which true (check, left) = alone lines (rises 0 banks (has_stop how banks) lines check)
      which false (none, left) = ap checks none ∙ sym (ap one_run none)

  raise-three : (banks : Banks) (lines : List EventLine) (after : Banks) → length banks ≡ 3 → IsRaise script report who how banks lines after → length after ≡ 3
  raise-three banks lines after fit raise = which (is_raised (answer_of report who) lines) raise
    where
      which : (b : Bool) → MatchBool b (IsCheck script report who how banks lines × (after ≡ empty_banks)) ((lines ≡ []) × (after ≡ banks)) → length after ≡ 3
      which true (check, left) = ap length left
      which false (none, left) = ap length left ∙ fit

  logged-three : (answer : Option Answer) (e : Event) (banks : Banks) → length banks ≡ 3 → length (logged_if_done answer e banks) ≡ 3
  logged-three None e banks fit = fit
  logged-three (Some answers.Done) e banks fit = length-set banks 1 _ ∙ fit
  logged-three (Some answer) e banks fit = fit

  -- ---- a command

  -- what a command leaves is three banks again; at first they are empty
  pub three-after : (copies : Who → Option VSlot) (command : Command) (banks : Banks) (lines : List EventLine) (after : Banks) → length banks ≡ 3 → AreEventsOf script copies report who how command banks lines after → length after ≡ 3
  three-after copies (commands.Load thread slot line) banks lines after fit are = access-three origins.Access (access_lines report who line) banks lines after fit are
  three-after copies (commands.Fetch thread slot line) banks lines after fit are = access-three origins.Fetch (access_lines report who line) banks lines after fit are
  three-after copies (commands.KLoad thread slot line) banks lines after fit are = access-three origins.Access (access_lines report who line) banks lines after fit are
  three-after copies (commands.Store thread slot line word) banks lines after fit are = access-three origins.Access (store_lines script.layout report who (copies who) slot line) banks lines after fit are
  three-after copies (commands.Scrub first last) banks lines after fit are = scrub-three first.0 (last.0 + 1 - first.0) banks lines after fit are
  three-after copies (commands.RaiseUser thread ripv eipv) banks lines after fit are = raise-three banks lines after fit are
  three-after copies (commands.RaiseKernel ripv eipv) banks lines after fit are = raise-three banks lines after fit are
  three-after copies (commands.Log status addr misc) banks lines after fit are = ap length are.1 ∙ logged-three (answer_of report who) (raw_event status addr misc) banks fit
  three-after copies command banks lines after fit are = ap length are.1 ∙ fit

  -- the runs of its lines are its machine checks
  pub checks-are : (copies : Who → Option VSlot) (command : Command) (banks : Banks) (lines : List EventLine) (after : Banks) → length banks ≡ 3 → AreEventsOf script copies report who how command banks lines after → AreRunsOf script copies report who how command banks lines (checks lines) after
  checks-are copies (commands.Load thread slot line) banks lines after fit are = access-runs origins.Access (access_lines report who line) banks lines after fit are
  checks-are copies (commands.Fetch thread slot line) banks lines after fit are = access-runs origins.Fetch (access_lines report who line) banks lines after fit are
  checks-are copies (commands.KLoad thread slot line) banks lines after fit are = access-runs origins.Access (access_lines report who line) banks lines after fit are
  checks-are copies (commands.Store thread slot line word) banks lines after fit are = access-runs origins.Access (store_lines script.layout report who (copies who) slot line) banks lines after fit are
  checks-are copies (commands.Scrub first last) banks lines after fit are = scrub-runs first.0 (last.0 + 1 - first.0) banks lines after fit are
  checks-are copies (commands.RaiseUser thread ripv eipv) banks lines after fit are = raise-runs banks lines after are
  checks-are copies (commands.RaiseKernel ripv eipv) banks lines after fit are = raise-runs banks lines after are
  checks-are copies (commands.Log status addr misc) banks lines after fit are = ap checks are.0 ∙ sym (ap one_run are.0)
  checks-are copies command banks lines after fit are = ap checks are.0 ∙ sym (ap one_run are.0)

-- ---- a report

-- the runs of a command's event lines, with what its banks held before it and hold after it
pub record HasRuns (script : Script) (copies : Who → Option VSlot) (report : Report) (who : Who) (command : Command) : Type 0 where
  pub before : Banks
  pub after : Banks
  pub runs : AreRunsOf script copies report who (arrival_of command) command before (events_of report who) (checks (events_of report who)) after

runs-from : (script : Script) (copies : Who → Option VSlot) (report : Report) (cpu : Cpu) (n : ℕ) (list : List Command) (banks : Banks) → length banks ≡ 3 → AreEventsFrom script copies report cpu n list banks → (k m : ℕ) (command : Command) → slice_get list k ≡ Some command → n + k ≡ m
    → HasRuns script copies report (record { cpu = cpu; seq = m }) command
runs-from script copies report cpu n [] banks fit are k m command there at = absurd (none-some command there)
runs-from script copies report cpu n (c ∷ cs) banks fit (after, now, rest) zero m command there at =
    let who : Who = record { cpu = cpu; seq = n } in
    let here : HasRuns script copies report who c = record { before = banks; after = after; runs = checks-are script report who (arrival_of c) copies c banks (events_of report who) after fit now } in
    let same : n ≡ m = omega (arith, at) in
    subst (HasRuns script copies report (record { cpu = cpu; seq = m })) (same_Some c command there) (subst (λ (i : ℕ). HasRuns script copies report (record { cpu = cpu; seq = i }) c) same here)
runs-from script copies report cpu n (c ∷ cs) banks fit (after, now, rest) (suc k) m command there at =
    let who : Who = record { cpu = cpu; seq = n } in
    runs-from script copies report cpu (n + 1) cs after (three-after script report who (arrival_of c) copies c banks (events_of report who) after fit now) rest k m command there (omega (arith, at))

-- in a report whose event lines are those of its machine checks, the runs of each command's lines are its machine checks
pub runs-of : (script : Script) (copies : Who → Option VSlot) (report : Report) → AreEvents script copies report → (who : Who) (command : Command) → command_at script who ≡ Some command → HasRuns script copies report who command
runs-of script copies report are who command = which (slice_get script.lists who.cpu.0) refl
  where
    which : (o : Option (List Command)) → slice_get script.lists who.cpu.0 ≡ o → option_and_then (λ (list : List Command). slice_get list who.seq) o ≡ Some command → HasRuns script copies report who command
    which None none is = absurd (none-some command is)
    which (Some list) some is = runs-from script copies report who.cpu 0 list empty_banks refl (are who.cpu list some) who.seq who.seq command is (omega arith)
