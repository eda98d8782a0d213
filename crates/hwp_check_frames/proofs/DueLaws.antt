-- The frames that are due of each command of a processor, from the first on.
use Rattle.std.proofs.Common.{◌≡◌, ◌⊎◌, inl, inr, ℕ, zero, suc, ◌+◌, ◌<◌, ◌≤◌, ◌&&◌, ◌||◌, Bool, true, false, true≢false, not, nat_lt, All, List, [], ◌∷◌, ◌++◌, Option, Some, None, flat_map, if◌then◌else◌, length, slice_get, take, unwrap_or, refl, sym, ap, ◌∙◌, subst, arith}
use Rattle.std.specs.List.{filter_map, list_any, zip}
use Rattle.std.specs.Option.{option_to_list}
use Rattle.std.proofs.lemmas.Bool.{and_parts, ltb-true}
use Rattle.std.proofs.lemmas.List.{take_more}
use Rattle.std.proofs.lemmas.List.Elements.{All-append, All-cons, All-nil, filter_map-append}
use Rattle.std.proofs.lemmas.Option.{get_or_from_slice_get, none-some, same_Some, slice_get_within}
use Rattle.hwp_check_rules.specs.hwp_geom.declared.Cpu.{Cpu}
use Rattle.hwp_check_rules.specs.hwp_geom.declared.Frame.{Frame}
use Rattle.hwp_check_rules.specs.hwp_geom.declared.Layout.{Layout}
use Rattle.hwp_check_rules.specs.hwp_script_words.declared.Command.{Command}
use Rattle.hwp_check_rules.specs.hwp_script_words.declared.Command.TheVariants as commands
use Rattle.hwp_check_rules.specs.hwp_script_words.declared.Script.{Script}
use Rattle.hwp_check_rules.specs.hwp_check_event_line.Scripts.{IsDeclared}
use Rattle.hwp_check_rules.specs.hwp_script_words.Valid.{IsCommandOf}
use Rattle.hwp_check_rules.specs.hwp_report_text.declared.Answer.{Answer}
use Rattle.hwp_check_rules.specs.hwp_report_text.declared.Answer.TheVariants as answers
use Rattle.hwp_check_rules.specs.hwp_report_text.declared.CpuLine.{CpuLine}
use Rattle.hwp_check_rules.specs.hwp_report_text.declared.EventLine.{EventLine}
use Rattle.hwp_check_rules.specs.hwp_report_text.declared.Report.{Report}
use Rattle.hwp_check_rules.specs.hwp_check_event_line.OfCommands.{AreShown}
use Rattle.hwp_check_rules.specs.hwp_check_event_line.Firsts.{shown_lines}
use Rattle.hwp_check_rules.specs.hwp_check_event_line.declared.Shown.{Shown}
use Rattle.hwp_check_rules.specs.hwp_law.Commands.{is_kernels, is_watch}
use Rattle.hwp_check_rules.specs.hwp_law.Notes.{checks, ends_machine, frame_of, is_corrected, is_for_pages, noted_frame, notes, notes_of_check}
use Rattle.hwp_check_rules.specs.hwp_law.Watched.{Watched, due, watched_after}
use Rattle.hwp_check_rules.specs.hwp_law.Lines.{answered, answers_to, events_among}
use Rattle.hwp_check_rules.specs.hwp_law.Offlined.{due_of, watched_from}
use Rattle.hwp_check_rules.proofs.of_hwp_law.OfflinedLaws.{watched-more}
use Rattle.hwp_check_rules.proofs.of_hwp_check_event_line.OfCommandLaws.{told-is}
use Rattle.hwp_check_rules.proofs.of_hwp_check_event_line.ScriptLaws.{command-of}
use Rattle.hwp_cec.specs.Counters.{Counters}
use Rattle.hwp_check_frames.specs.Collecting.{AreDue, IsGoneOn, IsLimited, IsWatching}
use Rattle.hwp_check_frames.specs.Dues.{AreDues, due_at, watched_at, who_at}
use Rattle.hwp_check_frames.proofs.CollectLaws.{due-and-after}

abbrev pair : {X Y : Type 0} → X → Y → Option (X × Y)
pair x y = Some (x, y)

zip-at : {X Y : Type 0} (xs : List X) (ys : List Y) (i : ℕ) (x : X) (y : Y) → slice_get xs i ≡ Some x → slice_get ys i ≡ Some y → slice_get (zip xs ys) i ≡ Some (x, y)
zip-at [] ys i x y one other = absurd (none-some _ one)
zip-at (a ∷ xs) [] i x y one other = absurd (none-some _ other)
zip-at {X = X} {Y = Y} (a ∷ xs) (b ∷ ys) zero x y one other = ap (λ (z : X). pair z b) (same_Some _ _ one) ∙ ap (λ (z : Y). pair x z) (same_Some _ _ other)
zip-at (a ∷ xs) (b ∷ ys) (suc i) x y one other = zip-at xs ys i x y one other

take-next : {A : Type 0} (xs : List A) (n : ℕ) (x : A) → slice_get xs n ≡ Some x → take (n + 1) xs ≡ take n xs ++ x ∷ []
take-next xs n x there = take_more xs n x (slice_get_within xs n x there) ∙ ap (λ y. take n xs ++ y ∷ []) (get_or_from_slice_get xs n x x there)

take-many : {A : Type 0} (xs : List A) (n : ℕ) → n ≤ length xs → length (take n xs) ≡ n
take-many [] zero low = refl
take-many [] (suc n) low = absurd (let l : suc n ≤ 0 = low in omega (arith, l))
take-many (x ∷ xs) zero low = refl
take-many (x ∷ xs) (suc n) low = let l : suc n ≤ suc (length xs) = low in ap suc (take-many xs n (omega (arith, l)))

-- the collector after one command more
watched-next : (layout : Layout) (list : List Command) (rows : List CpuLine) (n : ℕ) (command : Command) (given : Answer) → slice_get list n ≡ Some command → slice_get (answers_to list rows) n ≡ Some given
    → watched_at layout list rows (n + 1) ≡ watched_after command given (notes layout (events_among rows n)) (watched_at layout list rows n)
watched-next layout list rows n command given made told =
    let there : slice_get (answered list rows) n ≡ Some (command, given) =
    zip-at list (answers_to list rows) n command given made told in
    let within : n < length (answered list rows) = slice_get_within (answered list rows) n (command, given) there in
    let many : 0 + length (take n (answered list rows)) ≡ n = (let m : length (take n (answered list rows)) ≡ n = take-many (answered list rows) n (omega (arith, within)) in omega (arith, m)) in
    ap (λ (l : List (Command × Answer)). watched_from layout rows 0 l None) (take-next (answered list rows) n (command, given) there)
    ∙ (watched-more layout rows 0 (take n (answered list rows)) (command, given) None
    ∙ ap (λ (m : ℕ). watched_after command given (notes layout (events_among rows m)) (watched_at layout list rows n)) many)

-- the frames of a command more
push-at : {X : Type 0} (xs : List X) (y : X) (i : ℕ) (x : X) → slice_get (xs ++ y ∷ []) i ≡ Some x → (slice_get xs i ≡ Some x) ⊎ ((i ≡ length xs) × (y ≡ x))
push-at [] y zero x is = inr (refl, same_Some _ _ is)
push-at [] y (suc i) x is = absurd (none-some x is)
push-at (z ∷ xs) y zero x is = inl is
push-at (z ∷ xs) y (suc i) x is = elim (push-at xs y i x is) [
  | inl old ↦ inl old
  | inr new ↦ inr (ap suc new.0, new.1)
]

-- so many commands were gone over: the frames that are due of each, and the collector before the next
pub record AreDueSoFar (layout : Layout) (list : List Command) (rows : List CpuLine) (n : ℕ) (dues : List (List Frame)) (on : Bool) (c : Counters) : Type 0 where
  pub dues_are : AreDues layout list rows n dues
  pub watching : IsWatching layout.frames (watched_at layout list rows n) on c

module _ (layout : Layout) (list : List Command) (rows : List CpuLine) (n : ℕ) (command : Command) (given : Answer) (made : slice_get list n ≡ Some command) (told : slice_get (answers_to list rows) n ≡ Some given) where
  pub one-more : (dues more : List (List Frame)) (on after : Bool) (old now new : Counters) (noted frames : List Frame) → noted ≡ notes layout (events_among rows n) → AreDueSoFar layout list rows n dues on old
      → AreDue on old now noted frames → more ≡ dues ++ frames ∷ [] → IsGoneOn command given on after now new → AreDueSoFar layout list rows (n + 1) more after new
  one-more dues more on after old now new noted frames noted_is so taken more_is gone =
      let w : Option Watched = watched_at layout list rows n in
      let both : (frames ≡ due w noted) × IsWatching layout.frames (watched_after command given noted w) after new =
      due-and-after layout.frames command given on after old now new noted frames w so.watching taken gone in
      let here : frames ≡ due_at layout list rows n = both.0 ∙ ap (due w) noted_is in
      record {
        dues_are = record {
          many = ap length more_is ∙ (length-push dues frames ∙ ap (λ (m : ℕ). m + 1) so.dues_are.many);
          each = λ seq l is. each-of here seq l (sym (ap (λ (m : List (List Frame)). slice_get m seq) more_is) ∙ is);
        };
        watching = subst (λ (x : Option Watched). IsWatching layout.frames x after new) (ap (λ (m : List Frame). watched_after command given m w) noted_is ∙ sym (watched-next layout list rows n command given made told)) both.1;
      }
    where
      length-push : {X : Type 0} (xs : List X) (x : X) → length (xs ++ x ∷ []) ≡ length xs + 1
      length-push [] x = refl
      length-push (y ∷ xs) x = let m : length (xs ++ x ∷ []) ≡ length xs + 1 = length-push xs x in omega (arith, m)

      each-of : frames ≡ due_at layout list rows n → (seq : ℕ) (l : List Frame) → slice_get (dues ++ frames ∷ []) seq ≡ Some l → l ≡ due_at layout list rows seq
      each-of here seq l is = elim (push-at dues frames seq l is) [
        | inl old ↦ so.dues_are.each seq l old
        | inr next ↦ sym next.1 ∙ (here ∙ ap (due_at layout list rows) (sym (next.0 ∙ so.dues_are.many)))
      ]

-- what the lines note are frames of the layout
module _ (layout : Layout) where
  abbrev IsWithin : Frame → Type 0
  IsWithin frame = frame.0 < layout.frames

  single : (f : EventLine → Option Frame) (line : EventLine) → filter_map f (line ∷ []) ≡ option_to_list (f line)
  single f line = by (f line)
    where
      by : (o : Option Frame) → filter_map (λ (l : EventLine). o) (line ∷ []) ≡ option_to_list o
      by None = refl
      by (Some frame) = refl

  optional : (frame : Frame) (b : Bool) → (b ≡ true → IsWithin frame) → All IsWithin (option_to_list (if b then Some frame else None))
  optional frame true within = All-cons IsWithin frame [] (within refl) (All-nil IsWithin)
  optional frame false within = All-nil IsWithin

  noted-within : (lines : List EventLine) → All IsWithin (filter_map (noted_frame layout) lines)
  noted-within [] = All-nil IsWithin
  noted-within (line ∷ rest) =
      subst (All IsWithin) (sym (filter_map-append (noted_frame layout) (line ∷ []) rest ∙ ap (λ (l : List Frame). l ++ filter_map (noted_frame layout) rest) (single (noted_frame layout) line)))
      (All-append IsWithin (option_to_list (noted_frame layout line)) (filter_map (noted_frame layout) rest)
      (optional (frame_of line) (is_corrected line && is_for_pages layout (frame_of line)) (λ is. below is)) (noted-within rest))
    where
      below : (is_corrected line && is_for_pages layout (frame_of line)) ≡ true → IsWithin (frame_of line)
      below is =
          let pages = and_parts (is_corrected line) (is_for_pages layout (frame_of line)) is in
          let low = and_parts (nat_lt (frame_of line).0 layout.frames) (not (is_kernels layout (frame_of line))) pages.1 in
          ltb-true (frame_of line).0 layout.frames low.0

  check-within : (lines : List EventLine) → All IsWithin (notes_of_check layout lines)
  check-within lines = by (list_any ends_machine lines)
    where
      by : (b : Bool) → All IsWithin (if b then [] else filter_map (noted_frame layout) lines)
      by true = All-nil IsWithin
      by false = noted-within lines

  all-within : (cs : List (List EventLine)) → All IsWithin (flat_map (notes_of_check layout) cs)
  all-within [] = All-nil IsWithin
  all-within (c ∷ cs) = All-append IsWithin (notes_of_check layout c) (flat_map (notes_of_check layout) cs) (check-within c) (all-within cs)

  pub notes-within : (lines : List EventLine) → All IsWithin (notes layout lines)
  notes-within lines = all-within (checks lines)

-- the numbers of a valid script's `watch` are within their limits
pub limited : (script : Script) (cpu n : ℕ) (list : List Command) (command : Command) → IsDeclared script → slice_get script.lists cpu ≡ Some list → slice_get list n ≡ Some command → IsLimited command
limited script cpu n list command valid of there = by command (command-of script cpu n list command valid of there)
  where
    by : (command : Command) → IsCommandOf script.layout (0 + cpu) command → IsLimited command
    by (commands.Watch threshold window) is = is
    by _ is = record {}

-- the list of a command's event lines that are shown
pub shown-at : (rows : List CpuLine) (count n : ℕ) (lists : List (List Shown)) (list : List Shown) → AreShown rows count lists → slice_get lists n ≡ Some list → shown_lines list ≡ events_among rows n
shown-at rows count n lists list shown is = ap shown_lines (shown.each n list is) ∙ told-is n rows

-- without a `watch` a processor has no collector
never : (command : Command) (given : Answer) (frames : List Frame) → is_watch command ≡ false → watched_after command given frames None ≡ None
never (commands.Watch threshold window) given frames plain = absurd (true≢false plain)
never (commands.Scrub first last) (answers.Scrubbed n) frames plain = refl
never (commands.Scrub first last) given frames plain = refl
never _ given frames plain = refl

none-watched : (layout : Layout) (rows : List CpuLine) (list : List Command) (given : List Answer) (n seq : ℕ) → list_any is_watch list ≡ false → watched_from layout rows n (take seq (zip list given)) None ≡ None
none-watched layout rows [] given n zero plain = refl
none-watched layout rows [] given n (suc seq) plain = refl
none-watched layout rows (c ∷ list) [] n zero plain = refl
none-watched layout rows (c ∷ list) [] n (suc seq) plain = refl
none-watched layout rows (c ∷ list) (a ∷ given) n zero plain = refl
none-watched layout rows (c ∷ list) (a ∷ given) n (suc seq) plain =
    let parts : (is_watch c ≡ false) × (list_any is_watch list ≡ false) = neither (is_watch c) (list_any is_watch list) plain in
    ap (λ (w : Option Watched). watched_from layout rows (n + 1) (take seq (zip list given)) w) (never c a (notes layout (events_among rows n)) parts.0) ∙ none-watched layout rows list given (n + 1) seq parts.1
  where
    neither : (a b : Bool) → a || b ≡ false → (a ≡ false) × (b ≡ false)
    neither true b is = absurd (true≢false is)
    neither false b is = (refl, is)

pub none-due : (layout : Layout) (rows : List CpuLine) (list : List Command) (seq : ℕ) → list_any is_watch list ≡ false → [] ≡ due_at layout list rows seq
none-due layout rows list seq plain =
    sym (ap (λ (w : Option Watched). due w (notes layout (events_among rows seq))) (none-watched layout rows list (answers_to list rows) 0 seq plain))

-- the frames that are due of a command of a processor with this list and these lines
pub due-is : (script : Script) (report : Report) (cpu : Cpu) (list : List Command) (rows : List CpuLine) (seq : ℕ) → slice_get script.lists cpu.0 ≡ Some list → slice_get report.cpus cpu.0 ≡ Some rows
    → due_at script.layout list rows seq ≡ due_of script report (who_at cpu seq)
due-is script report cpu list rows seq of_script of_report =
    sym (ap (λ (o : Option (List Command)). due_at script.layout (unwrap_or o []) (unwrap_or (slice_get report.cpus cpu.0) []) seq) of_script
    ∙ ap (λ (o : Option (List CpuLine)). due_at script.layout list (unwrap_or o []) seq) of_report)
