-- The lines that the machine checks of an access meet: one so often, or those of a copy; and how those of a copy are gathered.
use Rattle.std.proofs.Common.{◌≡◌, ℕ, zero, suc, ◌+◌, ◌-◌, ◌<◌, ◌≤◌, ◌==◌, Bool, true, false, List, [], ◌∷◌, ◌++◌, Option, Some, None, cond, drop, filter, get_or, is_some, length, map, replicate, slice_get, unwrap_or, inl, inr, refl, sym, ap, ◌∙◌, arith}
use Rattle.std.specs.Option.{option_map_or}
use Rattle.std.proofs.lemmas.Bool.{cases_lt}
use Rattle.std.proofs.lemmas.List.{append-nil, drop_all, drop_more, get_or_append_left, get_or_push, append_assoc}
use Rattle.std.proofs.lemmas.Option.{same_Some}
use Rattle.hwp_banks.specs.hwp_geom.declared.Cpu.{Cpu}
use Rattle.hwp_banks.specs.hwp_geom.declared.VSlot.{VSlot}
use Rattle.hwp_banks.specs.hwp_geom.declared.Who.{Who}
use Rattle.hwp_law.specs.hwp_geom.declared.Layout.{Layout}
use Rattle.hwp_law.specs.hwp_geom.declared.TransDecl.{TransDecl}
use Rattle.hwp_law.specs.hwp_page.declared.Entry.{Entry}
use Rattle.hwp_law.specs.hwp_page.declared.What.{What}
use Rattle.hwp_law.specs.hwp_page.declared.What.TheVariants as entries
use Rattle.hwp_law.specs.hwp_report_text.declared.Report.{Report}
use Rattle.hwp_law.specs.hwp_script_words.declared.Command.{Command}
use Rattle.hwp_law.specs.hwp_script_words.declared.Command.TheVariants as commands
use Rattle.hwp_law.specs.Copies.{copy_checks, own_in, checks_by, is_load, is_store, lines_at}
use Rattle.hwp_law.specs.Events.{access_lines, store_lines}
use Rattle.hwp_law.specs.Lines.{is_same_command}
use Rattle.hwp_check_event_line.specs.Reading.{copies_in, entries_through}
use Rattle.hwp_check_events.specs.Met.{lines_met}
use Rattle.hwp_check_events.specs.Copied.{AreCopied, checks_in, copied_by, copied_from, is_counted, own_whats, pair_of}
use Rattle.hwp_check_events.specs.declared.copied.CopyCheck.{CopyCheck}
use Rattle.hwp_check_events.specs.declared.known.Checks.{Checks}
use Rattle.std.specs.List.{flat_map, range_with_len}
use Rattle.std.proofs.lemmas.Grind.{flat_map-append}
use Rattle.std.specs.Int.{from_bool}

-- ---- the lines that are met

pub met-plain : (checks : Checks) (n at : ℕ) → checks.at ≡ at → checks.count ≡ n → lines_met checks [] ≡ replicate n at
met-plain checks n at at_is count_is =
    let same : checks.count - 0 ≡ n = omega (arith, count_is) in
    λ i. replicate (same i) (at_is i)

pub met-copied : (checks : Checks) (copied : List ℕ) → checks.count ≡ length copied → lines_met checks copied ≡ copied
met-copied checks copied count_is =
    let none : checks.count - length copied ≡ 0 = omega (arith, count_is) in
    ap (λ (n : ℕ). copied ++ replicate n checks.at) none ∙ append-nil copied

-- ---- a store's lines

pub store-copied : (layout : Layout) (report : Report) (who : Who) (from : Option VSlot) (slot : VSlot) (at : ℕ) (copied : List ℕ) → copied ≡ copied_from layout report who from slot
    → cond (is_some from) copied (access_lines report who at) ≡ store_lines layout report who from slot at
store-copied layout report who None slot at copied are = refl
store-copied layout report who (Some v) slot at copied are = are

-- ---- the lists of a processor

pub copied-more : (layout : Layout) (copies : Who → Option VSlot) (report : Report) (cpu : Cpu) (list : List Command) (n : ℕ) (lists : List (List ℕ)) (c : Command) (new : List ℕ) → length lists ≡ n → AreCopied layout copies report cpu list n lists
    → slice_get list n ≡ Some c → new ≡ copied_by layout copies report (record { cpu = cpu; seq = n }) c → AreCopied layout copies report cpu list (n + 1) (lists ++ new ∷ [])
copied-more layout copies report cpu list n lists c new many are there is = λ seq d within other. elim (cases_lt seq n) [
  | inl low ↦ get_or_append_left lists (new ∷ []) [] seq (omega (arith, many, low)) ∙ are seq d low other
  | inr high ↦
      let same : seq ≡ n = omega (arith, within, high) in
      get_or_push lists new [] seq (many ∙ sym same) ∙ is ∙ ap (λ (k : ℕ). copied_by layout copies report (record { cpu = cpu; seq = k }) c) (sym same)
      ∙ ap (copied_by layout copies report (record { cpu = cpu; seq = seq })) (same_Some c d (sym there ∙ ap (slice_get list) (sym same) ∙ other))
]

pub none_yet : (layout : Layout) (copies : Who → Option VSlot) (report : Report) (cpu : Cpu) (list : List Command) (lists : List (List ℕ)) → lists ≡ [] → (length lists ≡ 0) × AreCopied layout copies report cpu list 0 lists
none_yet layout copies report cpu list lists none = (ap (λ (l : List (List ℕ)). length l) none, λ seq d within other. absurd (omega (arith, within)))

-- where no processor copied, no command did
pub none_copied : (layout : Layout) (report : Report) (cpu : Cpu) (list : List Command) (n : ℕ) (copies : List (List (Option VSlot))) (lists : List (List ℕ)) → copies ≡ [] → lists ≡ [] → AreCopied layout (copies_in copies) report cpu list n lists
none_copied layout report cpu list n copies lists empty none = λ seq d within other.
    ap (λ (l : List (List ℕ)). get_or l seq []) none
    ∙ sym (ap (λ (l : List (List (Option VSlot))). copied_by layout (copies_in l) report (record { cpu = cpu; seq = seq }) d) empty ∙ no-copy (record { cpu = cpu; seq = seq }) d)
  where
    no-copy : (who : Who) (d : Command) → copied_by layout (copies_in []) report who d ≡ []
    no-copy who (commands.Store thread slot at word) = refl
    no-copy who d = refl

-- ---- a command's own entries in the page of a translation

pub own-through : (layout : Layout) (report : Report) (who : Who) (slot : VSlot) → own_in layout report who slot ≡ own_whats who (entries_through layout report slot)
own-through layout report who slot = by (slice_get layout.trans slot.0)
  where
    by : (o : Option TransDecl) → option_map_or (λ (v : TransDecl). own_whats who (unwrap_or (slice_get report.pages v.page.0) [])) o []
        ≡ own_whats who (option_map_or (λ (v : TransDecl). unwrap_or (slice_get report.pages v.page.0) []) o [])
    by None = refl
    by (Some v) = refl

-- ---- the lines of a copy's machine checks

range-more : (a n : ℕ) → range_with_len a (n + 1) ≡ range_with_len a n ++ (a + n) ∷ []
range-more a zero = let same : a ≡ a + 0 = omega arith in ap (λ (k : ℕ). k ∷ []) same
range-more a (suc n) =
    let next : suc n + 1 ≡ suc (n + 1) = omega arith in
    let same : a + 1 + n ≡ a + suc n = omega arith in
    ap (range_with_len a) next ∙ ap (λ (l : List ℕ). a ∷ l) (range-more (a + 1) n) ∙ ap (λ (k : ℕ). a ∷ range_with_len (a + 1) n ++ k ∷ []) same

module _ (f g : ℕ → List ℕ) where
  abbrev both : ℕ → List ℕ
  both n = f n ++ g n

  pub lines-more : (n : ℕ) (old first next : List ℕ) → old ≡ flat_map both (range_with_len 0 n) → first ≡ old ++ f n → next ≡ first ++ g n → next ≡ flat_map both (range_with_len 0 (n + 1))
  lines-more n old first next old_is first_is next_is =
      let place : n ≡ 0 + n = omega arith in
      next_is ∙ ap (λ (l : List ℕ). l ++ g n) (first_is ∙ ap (λ (l : List ℕ). l ++ f n) old_is) ∙ append_assoc (flat_map both (range_with_len 0 n)) (f n) (g n)
      ∙ ap (λ (l : List ℕ). flat_map both (range_with_len 0 n) ++ l) (sym (append-nil (both n)) ∙ ap (λ (k : ℕ). both k ++ []) place)
      ∙ sym (flat_map-append both (range_with_len 0 n) ((0 + n) ∷ [])) ∙ ap (flat_map both) (sym (range-more 0 n))

-- of two lists of checks and two numbers of entries that were gathered so
pub copy-is : (layout : Layout) (report : Report) (who : Who) (from to : VSlot) (loads stores : List (ℕ × ℕ)) (a b bound : ℕ) (lines : List ℕ)
    → loads ≡ checks_by is_load 0 (own_whats who (entries_through layout report from)) → stores ≡ checks_by is_store 0 (own_whats who (entries_through layout report to))
    → a ≡ length (own_whats who (entries_through layout report from)) → b ≡ length (own_whats who (entries_through layout report to)) → bound ≡ a + b + 1
    → lines ≡ flat_map (λ n. lines_at n loads ++ lines_at n stores) (range_with_len 0 bound) → lines ≡ copy_checks layout report who from to
copy-is layout report who from to loads stores a b bound lines loads_are stores_are a_is b_is bound_is is =
    is ∙ ap (λ (l : List (ℕ × ℕ)). flat_map (λ n. lines_at n l ++ lines_at n stores) (range_with_len 0 bound)) (loads_are ∙ ap (checks_by is_load 0) (sym (own-through layout report who from)))
    ∙ ap (λ (l : List (ℕ × ℕ)). flat_map (λ n. lines_at n (checks_by is_load 0 (own_in layout report who from)) ++ lines_at n l) (range_with_len 0 bound)) (stores_are ∙ ap (checks_by is_store 0) (sym (own-through layout report who to)))
    ∙ ap (λ (k : ℕ). flat_map (λ n. lines_at n (checks_by is_load 0 (own_in layout report who from)) ++ lines_at n (checks_by is_store 0 (own_in layout report who to))) (range_with_len 0 k)) same
  where
    same : bound ≡ length (own_in layout report who from) + length (own_in layout report who to) + 1
    same =
        let f : length (own_in layout report who from) ≡ length (own_whats who (entries_through layout report from)) = ap (λ (l : List What). length l) (own-through layout report who from) in
        let t : length (own_in layout report who to) ≡ length (own_whats who (entries_through layout report to)) = ap (λ (l : List What). length l) (own-through layout report who to) in
        omega (arith, f, t, a_is, b_is, bound_is)

-- ---- one entry more

pub bool_few : (b : Bool) → from_bool b ≤ 1
bool_few true = omega arith
bool_few false = omega arith

checks-split : (test : What → Bool) (n : ℕ) (what : What) (rest : List What) → checks_by test n (what ∷ rest) ≡ checks_in n what ++ checks_by test (n + from_bool (is_counted test what)) rest
checks-split test n (entries.Mce slot line mask) rest = let same : n ≡ n + 0 = omega arith in ap (λ (k : ℕ). (n, line) ∷ checks_by test k rest) same
checks-split test n (entries.Load slot line met) rest = refl
checks-split test n (entries.Store slot line met) rest = refl
checks-split test n entries.FaultIn rest = refl
checks-split test n (entries.Map slot) rest = refl
checks-split test n (entries.Free slot) rest = refl
checks-split test n entries.Drop rest = refl
checks-split test n entries.Sync rest = refl
checks-split test n entries.Out rest = refl
checks-split test n (entries.Fail situation required seen signals) rest = refl
checks-split test n entries.Soft rest = refl

pub one_more : (old : List CopyCheck) (n line : ℕ) → map pair_of (old ++ record { before = n; line = line } ∷ []) ≡ map pair_of old ++ (n, line) ∷ []
one_more [] n line = refl
one_more (c ∷ cs) n line = ap (λ (l : List (ℕ × ℕ)). pair_of c ∷ l) (one_more cs n line)

next-by : (test : What → Bool) (n : ℕ) (what : What) (rest : List What) (b : Bool) (old : List (ℕ × ℕ))
    → (old ++ cond b (checks_in n what) []) ++ checks_by test (n + from_bool (cond b (is_counted test what) false)) rest ≡ old ++ checks_by test n (cond b (what ∷ rest) rest)
next-by test n what rest true old = append_assoc old (checks_in n what) (checks_by test (n + from_bool (is_counted test what)) rest) ∙ ap (λ (l : List (ℕ × ℕ)). old ++ l) (sym (checks-split test n what rest))
next-by test n what rest false old = let same : n + 0 ≡ n = omega arith in ap (λ (l : List (ℕ × ℕ)). l ++ checks_by test (n + 0) rest) (append-nil old) ∙ ap (λ (k : ℕ). old ++ checks_by test k rest) same

own-split : (who : Who) (e : Entry) (rest : List Entry) → own_whats who (e ∷ rest) ≡ cond (is_same_command who e.who) (e.what ∷ own_whats who rest) (own_whats who rest)
own-split who e rest = by (is_same_command who e.who)
  where
    by : (b : Bool) → map (λ (x : Entry). x.what) (cond b (e ∷ filter (λ (x : Entry). is_same_command who x.who) rest) (filter (λ (x : Entry). is_same_command who x.who) rest)) ≡ cond b (e.what ∷ own_whats who rest) (own_whats who rest)
    by true = refl
    by false = refl

module _ (who : Who) (entries : List Entry) where
  -- a machine check is gathered, or an entry counted
  pub gathered-next : (test : What → Bool) (i n : ℕ) (e : Entry) (old new : List (ℕ × ℕ)) (more : Bool) (all : List (ℕ × ℕ)) → i < length entries → old ++ checks_by test n (own_whats who (drop i entries)) ≡ all
      → new ≡ old ++ cond (is_same_command who (get_or entries i e).who) (checks_in n (get_or entries i e).what) [] → more ≡ cond (is_same_command who (get_or entries i e).who) (is_counted test (get_or entries i e).what) false
      → new ++ checks_by test (n + from_bool more) (own_whats who (drop (i + 1) entries)) ≡ all
  gathered-next test i n e old new more all within was new_is more_is =
      let x = get_or entries i e in
      let rest = own_whats who (drop (i + 1) entries) in
      ap (λ (l : List (ℕ × ℕ)). l ++ checks_by test (n + from_bool more) rest) new_is
      ∙ ap (λ (b : Bool). (old ++ cond (is_same_command who x.who) (checks_in n x.what) []) ++ checks_by test (n + from_bool b) rest) more_is
      ∙ next-by test n x.what rest (is_same_command who x.who) old
      ∙ ap (λ (l : List What). old ++ checks_by test n l) (sym (own-split who x (drop (i + 1) entries)))
      ∙ ap (λ (l : List Entry). old ++ checks_by test n (own_whats who l)) (sym (drop_more entries i e within)) ∙ was

  pub gathered-all : (test : What → Bool) (i n : ℕ) (old all : List (ℕ × ℕ)) → length entries ≤ i → old ++ checks_by test n (own_whats who (drop i entries)) ≡ all → old ≡ all
  gathered-all test i n old all past was =
      sym (append-nil old) ∙ sym (ap (λ (l : List Entry). old ++ checks_by test n (own_whats who l)) (drop_all i entries past)) ∙ was

  pub count-next : (i own : ℕ) (e : Entry) → i < length entries → own + length (own_whats who (drop i entries)) ≡ length (own_whats who entries)
      → own + from_bool (is_same_command who (get_or entries i e).who) + length (own_whats who (drop (i + 1) entries)) ≡ length (own_whats who entries)
  count-next i own e within was =
      let x = get_or entries i e in
      let next : length (own_whats who (drop i entries)) ≡ length (cond (is_same_command who x.who) (x.what ∷ own_whats who (drop (i + 1) entries)) (own_whats who (drop (i + 1) entries))) =
      ap (λ (l : List Entry). length (own_whats who l)) (drop_more entries i e within) ∙ ap (λ (l : List What). length l) (own-split who x (drop (i + 1) entries)) in
      let one : length (cond (is_same_command who x.who) (x.what ∷ own_whats who (drop (i + 1) entries)) (own_whats who (drop (i + 1) entries))) ≡ from_bool (is_same_command who x.who) + length (own_whats who (drop (i + 1) entries)) =
      by (is_same_command who x.who) x.what (own_whats who (drop (i + 1) entries)) in
      omega (arith, next, one, was)
    where
      by : (b : Bool) (w : What) (l : List What) → length (cond b (w ∷ l) l) ≡ from_bool b + length l
      by true w l = omega arith
      by false w l = omega arith

  pub count-all : (i own : ℕ) → length entries ≤ i → own + length (own_whats who (drop i entries)) ≡ length (own_whats who entries) → own ≡ length (own_whats who entries)
  count-all i own past was =
      let none : length (own_whats who (drop i entries)) ≡ 0 = ap (λ (l : List Entry). length (own_whats who l)) (drop_all i entries past) in
      omega (arith, none, was)

-- ---- the lines with so many before

lines-split : (n : ℕ) (c : ℕ × ℕ) (rest : List (ℕ × ℕ)) → lines_at n (c ∷ rest) ≡ lines_at n (c ∷ []) ++ lines_at n rest
lines-split n c rest = by (c.0 == n)
  where
    by : (b : Bool) → map (λ (x : ℕ × ℕ). x.1) (cond b (c ∷ filter (λ (x : ℕ × ℕ). x.0 == n) rest) (filter (λ (x : ℕ × ℕ). x.0 == n) rest)) ≡ map (λ (x : ℕ × ℕ). x.1) (cond b (c ∷ []) []) ++ lines_at n rest
    by true = refl
    by false = refl

module _ (n : ℕ) (checks : List CopyCheck) where
  pub at-next : (i : ℕ) (c : CopyCheck) (old new all : List ℕ) → i < length checks → old ++ lines_at n (map pair_of (drop i checks)) ≡ all → new ≡ old ++ lines_at n (pair_of (get_or checks i c) ∷ [])
      → new ++ lines_at n (map pair_of (drop (i + 1) checks)) ≡ all
  at-next i c old new all within was is =
      let x = get_or checks i c in
      let rest = map pair_of (drop (i + 1) checks) in
      ap (λ (l : List ℕ). l ++ lines_at n rest) is ∙ append_assoc old (lines_at n (pair_of x ∷ [])) (lines_at n rest) ∙ ap (λ (l : List ℕ). old ++ l) (sym (lines-split n (pair_of x) rest))
      ∙ ap (λ (l : List CopyCheck). old ++ lines_at n (map pair_of l)) (sym (drop_more checks i c within)) ∙ was

  pub at-all : (i : ℕ) (old all : List ℕ) → length checks ≤ i → old ++ lines_at n (map pair_of (drop i checks)) ≡ all → old ≡ all
  at-all i old all past was = sym (append-nil old) ∙ sym (ap (λ (l : List CopyCheck). old ++ lines_at n (map pair_of l)) (drop_all i checks past)) ∙ was
