-- The last of some words, one after another; and where a translation was frozen.
use Rattle.std.proofs.Common.{◌≡◌, ℕ, zero, suc, ◌+◌, ◌-◌, ◌<◌, ◌≤◌, Bool, true, false, List, [], ◌∷◌, Option, Some, None, drop, filter_map, get_or, if◌then◌else◌, length, slice_get, take, unwrap_or, option_and_then, option_map, refl, sym, ap, ◌∙◌, arith}
use Rattle.std.specs.Option.{option_map_or}
use Rattle.std.proofs.lemmas.List.{drop_all, drop_more, length-drop, take_all}
use Rattle.hwp_check_rules.specs.hwp_geom.declared.Cpu.{Cpu}
use Rattle.hwp_check_rules.specs.hwp_geom.declared.Layout.{Layout}
use Rattle.hwp_check_rules.specs.hwp_geom.declared.Thread.{Thread}
use Rattle.hwp_check_rules.specs.hwp_geom.declared.TransDecl.{TransDecl}
use Rattle.hwp_check_rules.specs.hwp_geom.declared.VSlot.{VSlot}
use Rattle.hwp_check_rules.specs.hwp_law.Private.{freeze_from, last_word, loaded, private_word, word_at_fork, word_before, word_stored}
use Rattle.hwp_check_rules.specs.hwp_law.Cows.{cow_after, own_page}
use Rattle.hwp_check_rules.specs.hwp_report_text.declared.Answer.{Answer}
use Rattle.hwp_check_rules.specs.hwp_report_text.declared.Answer.TheVariants as answers
use Rattle.hwp_check_rules.specs.hwp_report_text.declared.Report.{Report}
use Rattle.hwp_check_rules.specs.hwp_script_words.declared.Command.{Command}
use Rattle.hwp_check_rules.specs.hwp_script_words.declared.Command.TheVariants as commands
use Rattle.hwp_check_processes.specs.Loads.{expected, word_expected}
use Rattle.hwp_check_rules.specs.hwp_check_event_line.Reading.{entries_through}
use Rattle.hwp_check_processes.specs.Words.{last_before, last_stored, pair_in, word_if}
use Rattle.hwp_check_processes.specs.declared.words.Spot.{Spot}
use Rattle.std.specs.List.{cons_option}

pub stored_if : (slot other : VSlot) (line at_line word : ℕ) (thread : Thread) (answer : Answer) → word_stored slot line (commands.Store thread other at_line word, answer) ≡ word_if slot line other at_line word answer
stored_if slot other line at_line word thread (answers.Stored at) = refl
stored_if slot other line at_line word thread answer = refl

pub at_fork : (layout : Layout) (report : Report) (cpu : Cpu) (fork : ℕ) (slot : VSlot) (line : ℕ) → word_at_fork layout report cpu fork slot line ≡ last_before cpu fork line (entries_through layout report slot)
at_fork layout report cpu fork slot line = by (slice_get layout.trans slot.0)
  where
    by : (o : Option TransDecl) → last_word 0 (option_map_or (λ (v : TransDecl). filter_map (word_before cpu fork line) (unwrap_or (slice_get report.pages v.page.0) [])) o [])
        ≡ last_word 0 (filter_map (word_before cpu fork line) (option_map_or (λ (v : TransDecl). unwrap_or (slice_get report.pages v.page.0) []) o []))
    by None = refl
    by (Some v) = refl

-- one word more
word-first : {X : Type 0} (f : X → Option ℕ) (x : X) (rest : List X) (last : ℕ) → last_word last (filter_map f (x ∷ rest)) ≡ last_word (unwrap_or (f x) last) (filter_map f rest)
word-first f x rest last = by (f x)
  where
    by : (o : Option ℕ) → last_word last (cons_option o (filter_map f rest)) ≡ last_word (unwrap_or o last) (filter_map f rest)
    by None = refl
    by (Some word) = refl

pub word_more : {X : Type 0} (f : X → Option ℕ) (xs : List X) (i : ℕ) (d : X) (first last next : ℕ) → i < length xs → next ≡ unwrap_or (f (get_or xs i d)) last
    → last_word last (filter_map f (drop i xs)) ≡ last_word first (filter_map f xs) → last_word next (filter_map f (drop (i + 1) xs)) ≡ last_word first (filter_map f xs)
word_more f xs i d first last next within is so_far =
    ap (λ (n : ℕ). last_word n (filter_map f (drop (i + 1) xs))) is ∙ sym (word-first f (get_or xs i d) (drop (i + 1) xs) last) ∙ ap (λ (l : List _). last_word last (filter_map f l)) (sym (drop_more xs i d within)) ∙ so_far

pub word-all : {X : Type 0} (f : X → Option ℕ) (xs : List X) (i first last : ℕ) → length xs ≤ i → last_word last (filter_map f (drop i xs)) ≡ last_word first (filter_map f xs) → last ≡ last_word first (filter_map f xs)
word-all f xs i first last past so_far = sym (ap (λ (l : List _). last_word last (filter_map f l)) (drop_all i xs past)) ∙ so_far

-- one command more, of which none before froze the translation
freeze-next : (layout : Layout) (slot : VSlot) (pairs : List (Command × Answer)) (n : ℕ) (d : Command × Answer) (b : Bool) → n < length pairs → b ≡ (cow_after layout slot (get_or pairs n d).0 (get_or pairs n d).1 own_page).frozen
    → freeze_from layout slot n (drop n pairs) ≡ (if b then Some n else freeze_from layout slot (n + 1) (drop (n + 1) pairs))
freeze-next layout slot pairs n d b within is =
    ap (freeze_from layout slot n) (drop_more pairs n d within) ∙ ap (λ (c : Bool). if c then Some n else freeze_from layout slot (n + 1) (drop (n + 1) pairs)) (sym is)

abbrev froze : Layout → VSlot → Command × Answer → Bool
froze layout slot p = (cow_after layout slot p.0 p.1 own_page).frozen

pub freeze-here : (layout : Layout) (slot : VSlot) (pairs : List (Command × Answer)) (n : ℕ) (d x : Command × Answer) → n < length pairs → x ≡ get_or pairs n d → true ≡ (cow_after layout slot x.0 x.1 own_page).frozen
    → freeze_from layout slot n (drop n pairs) ≡ freeze_from layout slot 0 pairs → Some n ≡ freeze_from layout slot 0 pairs
freeze-here layout slot pairs n d x within same is so_far = sym (freeze-next layout slot pairs n d true within (is ∙ ap (froze layout slot) same)) ∙ so_far

pub freeze-later : (layout : Layout) (slot : VSlot) (pairs : List (Command × Answer)) (n : ℕ) (d x : Command × Answer) → n < length pairs → x ≡ get_or pairs n d → false ≡ (cow_after layout slot x.0 x.1 own_page).frozen
    → freeze_from layout slot n (drop n pairs) ≡ freeze_from layout slot 0 pairs → freeze_from layout slot (n + 1) (drop (n + 1) pairs) ≡ freeze_from layout slot 0 pairs
freeze-later layout slot pairs n d x within same is so_far = sym (freeze-next layout slot pairs n d false within (is ∙ ap (froze layout slot) same)) ∙ so_far

pub freeze-never : (layout : Layout) (slot : VSlot) (pairs : List (Command × Answer)) (n : ℕ) → length pairs ≤ n → freeze_from layout slot n (drop n pairs) ≡ freeze_from layout slot 0 pairs → None ≡ freeze_from layout slot 0 pairs
freeze-never layout slot pairs n past so_far = ap (freeze_from layout slot n) (sym (drop-past pairs n past)) ∙ so_far
  where
    drop-past : {X : Type 0} (xs : List X) (k : ℕ) → length xs ≤ k → drop k xs ≡ []
    drop-past [] zero less = refl
    drop-past [] (suc k) less = refl
    drop-past (x ∷ xs) zero less = absurd (omega (arith, less))
    drop-past (x ∷ xs) (suc k) less = drop-past xs k (omega (arith, less))

pub rest_is : {X : Type 0} (xs : List X) (n : ℕ) → take (length xs - n) (drop n xs) ≡ drop n xs
rest_is xs n = take_all (length xs - n) (drop n xs) (let l : length (drop n xs) ≡ length xs - n = length-drop n xs in omega (arith, l))

-- what a full copy would hold, by the words stored since
pub private-is : (layout : Layout) (report : Report) (cpu : Cpu) (fork : ℕ) (slot : VSlot) (line first : ℕ) (earlier behind : List (Command × Answer)) → first ≡ word_at_fork layout report cpu fork slot line
    → behind ≡ drop (fork + 1) earlier → last_stored slot line first behind ≡ private_word layout report cpu fork slot line earlier
private-is layout report cpu fork slot line first earlier behind first_is behind_is =
    ap (λ (n : ℕ). last_stored slot line n behind) first_is ∙ ap (last_stored slot line (word_at_fork layout report cpu fork slot line)) behind_is

-- ---- the word that is expected

module _ (layout : Layout) (report : Report) (cpu : Cpu) (earlier : List (Command × Answer)) (command : Command) where
  pub expected_no_load : option_map pair_in None ≡ loaded command → None ≡ expected layout report cpu earlier command
  expected_no_load is = ap (option_and_then (word_expected layout report cpu earlier)) is

  pub expected_unfrozen : (spot : Spot) → option_map pair_in (Some spot) ≡ loaded command → None ≡ freeze_from layout spot.slot 0 earlier → None ≡ expected layout report cpu earlier command
  expected_unfrozen spot is none =
      ap (option_map (λ (fork : ℕ). private_word layout report cpu fork spot.slot spot.line earlier)) none ∙ ap (option_and_then (word_expected layout report cpu earlier)) is

  pub expected_frozen : (spot : Spot) (fork word : ℕ) → option_map pair_in (Some spot) ≡ loaded command → Some fork ≡ freeze_from layout spot.slot 0 earlier → word ≡ private_word layout report cpu fork spot.slot spot.line earlier
      → Some word ≡ expected layout report cpu earlier command
  expected_frozen spot fork word is at word_is =
      ap Some word_is ∙ ap (option_map (λ (k : ℕ). private_word layout report cpu k spot.slot spot.line earlier)) at ∙ ap (option_and_then (word_expected layout report cpu earlier)) is
