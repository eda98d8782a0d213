-- What a load behind a fork reads is what it would read of a full copy: through a translation that isn't switched, what its page held at the
-- fork, and else what the page of its twin holds.
use Rattle.std.proofs.Common.{◌≡◌, ◌⊎◌, inl, inr, ℕ, suc, ◌+◌, ◌-◌, ◌<◌, ◌≤◌, Bool, true, false, List, Option, Some, drop, filter_map, fold, length, option_map, slice_get, take, unwrap_or, if◌then◌else◌, length-drop, length-take-le, refl, sym, ap, ◌∙◌, subst, true≢false, arith}
use Rattle.std.specs.Prelude.{IsSomeAnd}
use Rattle.std.proofs.lemmas.Bool.{cases_order}
use Rattle.std.proofs.lemmas.List.{take-append-drop}
use Rattle.std.proofs.lemmas.List.Sums.{fold-append}
use Rattle.std.proofs.lemmas.Option.{none-some, same_Some, slice_get_within, some_pair_parts}
use Rattle.hwp_law_served.specs.hwp_geom.Limits.{line_limit}
use Rattle.hwp_law_served.specs.hwp_geom.declared.Cpu.{Cpu}
use Rattle.hwp_law_served.specs.hwp_geom.declared.Mask.{Mask}
use Rattle.hwp_law_served.specs.hwp_geom.declared.Page.{Page}
use Rattle.hwp_law_served.specs.hwp_geom.declared.Thread.{Thread}
use Rattle.hwp_law_served.specs.hwp_geom.declared.TransDecl.{TransDecl}
use Rattle.hwp_law_served.specs.hwp_geom.declared.VSlot.{VSlot}
use Rattle.hwp_law_served.specs.hwp_geom.declared.Who.{Who}
use Rattle.hwp_law_served.specs.hwp_page.Step.{IsOf}
use Rattle.hwp_law_served.specs.hwp_page.declared.At.{At}
use Rattle.hwp_law_served.specs.hwp_page.declared.Entry.{Entry}
use Rattle.hwp_law_served.specs.hwp_page.declared.Met.{Met}
use Rattle.hwp_law_served.specs.hwp_page.declared.Met.TheVariants.{Word}
use Rattle.hwp_law_served.specs.hwp_page.declared.What.{What}
use Rattle.hwp_law_served.specs.hwp_page.declared.What.TheVariants as entries
use Rattle.hwp_law_served.specs.hwp_report_text.declared.Answer.{Answer}
use Rattle.hwp_law_served.specs.hwp_report_text.declared.Answer.TheVariants as answers
use Rattle.hwp_law_served.specs.hwp_report_text.declared.Report.{Report}
use Rattle.hwp_law_served.specs.hwp_script_words.Valid.{IsCommandOf, IsValid}
use Rattle.hwp_law_served.specs.hwp_script_words.declared.Command.{Command}
use Rattle.hwp_law_served.specs.hwp_script_words.declared.Command.TheVariants as commands
use Rattle.hwp_law_served.specs.hwp_script_words.declared.Script.{Script}
use Rattle.hwp_law_served.specs.hwp_law.Commands.{command_at, has_watch}
use Rattle.hwp_law_served.specs.hwp_law.Cows.{Cow, acting, cow_of, own_page, through, twin_or}
use Rattle.hwp_law_served.specs.hwp_law.Acting.{acting_script, copied_at}
use Rattle.hwp_law_served.specs.hwp_law.Answers.{StandsAt}
use Rattle.hwp_law_served.specs.hwp_law.Causes.{IsCaused}
use Rattle.hwp_law_served.specs.hwp_law.Copies.{MakesCopy}
use Rattle.hwp_law_served.specs.hwp_law.Entries.{CanStandIn, Makes}
use Rattle.hwp_law_served.specs.hwp_law.Law.{AnswersFit, HistoriesFit}
use Rattle.hwp_law_served.specs.hwp_law.Policies.{answered_before, answered_on}
use Rattle.hwp_law_served.specs.hwp_law.Private.{ArePrivate, last_word, loaded, private_word, word_at_fork, word_before, word_in, word_stored}
use Rattle.hwp_top_report.specs.CopiedWords.{CopiesKeepWords}
use Rattle.hwp_law_served.proofs.of_hwp_law.ActedLaws.{command-acted}
use Rattle.hwp_top_report.proofs.forks.AnswerLines.{get-drop, get-take}
use Rattle.hwp_top_report.proofs.forks.Contents.{word-read}
use Rattle.hwp_top_report.proofs.forks.Forked.{IsForked, forked, frozen-next, take-first, valid-command}
use Rattle.hwp_top_report.proofs.forks.Freezes.{next, unswitched-none}
use Rattle.hwp_top_report.proofs.forks.GivenAnswers.{answered-at, found-pairs, then-there}
use Rattle.hwp_top_report.proofs.forks.Keeps.{keep-all}
use Rattle.hwp_top_report.proofs.forks.OwnPage.{frozen-word, same-cpu}
use Rattle.hwp_top_report.proofs.forks.PageWords.{page-ordered, page-words, place, stands}
use Rattle.hwp_top_report.proofs.forks.Shares.{some-and}
use Rattle.hwp_top_report.proofs.forks.TwinPage.{twin-store}

-- ---- a load

abbrev is_load : Command → Bool
is_load (commands.Load thread slot line) = true
is_load (commands.Fetch thread slot line) = true
is_load (commands.KLoad thread slot line) = true
is_load c = false

-- what is known of a load that gave a word
record IsLoadOf (script : Script) (report : Report) (who : Who) (c : Command) (slot : VSlot) (line word : ℕ) (at : At) : Type 0 where
  mask : Mask
  there : StandsAt report.pages who at (entries.Load (through script.layout (answered_before script report who) slot) line (Word mask word))
  page_is : IsOf script.layout at.page (through script.layout (answered_before script report who) slot)
  within : line < line_limit
  loads : is_load c ≡ true

module _ (script : Script) (report : Report) (who : Who) (slot : VSlot) (line word : ℕ) (at : At) where
  abbrev earlier : List (Command × Answer)
  earlier = answered_before script report who

  abbrev through_to : VSlot → VSlot
  through_to v = through script.layout earlier v

  -- its entry, as the cause of its answer and as what its command makes say it
  abbrev Stands : VSlot → ℕ → Type 0
  Stands v l = (mask : Mask) × StandsAt report.pages who at (entries.Load (through_to v) l (Word mask word))

  abbrev Made : Command → What → Type 0
  Made c what = (Makes (has_watch (acting_script script report)) c what × CanStandIn script.layout c at.page what) ⊎ IsSomeAnd (copied_at script report who) (λ (from : VSlot). MakesCopy script.layout from c at.page what)

  put : (c : Command) (v : VSlot) (l : ℕ) → ◌≡◌ {A = Option (VSlot × ℕ)} (Some (v, l)) (Some (slot, line)) → Stands v l → ((mask : Mask) → StandsAt report.pages who at (entries.Load (through_to v) l (Word mask word)) → IsOf script.layout at.page (through_to v)) → l < line_limit → is_load c ≡ true
      → IsLoadOf script report who c slot line word at
  put c v l is stood made within loads =
      let parts = some_pair_parts v slot l line is in
      let put_in : Stands slot line = subst (Stands slot) parts.1 (subst (λ (u : VSlot). Stands u l) parts.0 stood) in
      record {
        mask = put_in.0;
        there = put_in.1;
        page_is = subst (λ (u : VSlot). IsOf script.layout at.page (through_to u)) parts.0 (made stood.0 stood.1);
        within = subst (λ (n : ℕ). n < line_limit) parts.1 within;
        loads = loads;
      }

  no-copy : (c : Command) → is_load c ≡ true → (what : What) → IsSomeAnd (copied_at script report who) (λ (from : VSlot). MakesCopy script.layout from (acting script.layout earlier c) at.page what) → ⊥
  no-copy (commands.Load thread v l) is what copy = (some-and (copied_at script report who) (λ (from : VSlot). MakesCopy script.layout from (commands.Load thread (through_to v) l) at.page what) copy).2
  no-copy (commands.Fetch thread v l) is what copy = (some-and (copied_at script report who) (λ (from : VSlot). MakesCopy script.layout from (commands.Fetch thread (through_to v) l) at.page what) copy).2
  no-copy (commands.KLoad thread v l) is what copy = (some-and (copied_at script report who) (λ (from : VSlot). MakesCopy script.layout from (commands.KLoad thread (through_to v) l) at.page what) copy).2
  no-copy c is what copy = true≢false (sym is)

  names : (c : Command) → is_load c ≡ true → (v : VSlot) (l : ℕ) (met : Met) → loaded c ≡ Some (v, l) → Made (acting script.layout earlier c) (entries.Load (through_to v) l met) → IsOf script.layout at.page (through_to v)
  names c loads v l met is (inr copy) = absurd (no-copy c loads (entries.Load (through_to v) l met) copy)
  names (commands.Load thread v2 l2) loads v l met is (inl made) = subst (λ (u : VSlot). IsOf script.layout at.page (through_to u)) (some_pair_parts v2 v l2 l is).0 made.1
  names (commands.Fetch thread v2 l2) loads v l met is (inl made) = subst (λ (u : VSlot). IsOf script.layout at.page (through_to u)) (some_pair_parts v2 v l2 l is).0 made.1
  names (commands.KLoad thread v2 l2) loads v l met is (inl made) = subst (λ (u : VSlot). IsOf script.layout at.page (through_to u)) (some_pair_parts v2 v l2 l is).0 made.1
  names c loads v l met is (inl made) = absurd (true≢false (sym loads))

  load-of : (c : Command) → command_at script who ≡ Some c → loaded c ≡ Some (slot, line) → IsCommandOf script.layout who.cpu.0 c → IsCaused (acting_script script report) report who (acting script.layout earlier c) (answers.Value word at)
      → ((v : VSlot) (l : ℕ) (mask : Mask) → StandsAt report.pages who at (entries.Load (through_to v) l (Word mask word)) → Made (acting script.layout earlier c) (entries.Load (through_to v) l (Word mask word))) → IsLoadOf script report who c slot line word at
  load-of (commands.Load thread v l) there is of caused made =
      put (commands.Load thread v l) v l is caused (λ (mask : Mask) stood. names (commands.Load thread v l) refl v l (Word mask word) refl (made v l mask stood)) of.1 refl
  load-of (commands.Fetch thread v l) there is of caused made =
      put (commands.Fetch thread v l) v l is caused (λ (mask : Mask) stood. names (commands.Fetch thread v l) refl v l (Word mask word) refl (made v l mask stood)) of.1 refl
  load-of (commands.KLoad thread v l) there is of caused made =
      put (commands.KLoad thread v l) v l is caused (λ (mask : Mask) stood. names (commands.KLoad thread v l) refl v l (Word mask word) refl (made v l mask stood)) of.1 refl
  load-of c there is of caused made = absurd (none-some (slot, line) is)

-- ---- what it read

module _ (script : Script) (report : Report) (valid : IsValid script) (histories : HistoriesFit (acting_script script report) (copied_at script report) report) (fit : AnswersFit (acting_script script report) (copied_at script report) report) where
  -- the entry of a load is one that its command makes
  made-there : (who : Who) (c : Command) (at : At) (what : What) → command_at script who ≡ Some c → StandsAt report.pages who at what
      → Made script report who (record { 0 = 0 }) 0 0 at (acting script.layout (answered_before script report who) c) what
  made-there who c at what is there =
      subst (λ (o : Option Command). IsSomeAnd o (λ (d : Command). Made script report who (record { 0 = 0 }) 0 0 at d what)) (command-acted script report who ∙ ap (option_map (acting script.layout (answered_before script report who))) is)
      (histories.made at (record { who = who; what = what }) there)

  load-there : (who : Who) (command : Command) (slot : VSlot) (line word : ℕ) (at : At) → command_at script who ≡ Some command → loaded command ≡ Some (slot, line) → slice_get (answered_on script report who.cpu) who.seq ≡ Some (command, answers.Value word at)
      → IsLoadOf script report who command slot line word at
  load-there who command slot line word at is loads pair =
      load-of script report who slot line word at command is loads (valid-command script valid who command is).0 (answered-at script report fit who (command, answers.Value word at) pair refl).caused
      (λ (v : VSlot) (l : ℕ) (mask : Mask) stood. made-there who command at (entries.Load (through script.layout (answered_before script report who) v) l (Word mask word)) is stood)

page-of : (script : Script) (at : At) (u : VSlot) (d : TransDecl) → slice_get script.layout.trans u.0 ≡ Some d → IsOf script.layout at.page u → at.page.0 ≡ d.page.0
page-of script at u d there of =
    let t = some-and (slice_get script.layout.trans u.0) (λ (x : TransDecl). x.page ≡ at.page) of in
    sym (ap (λ (x : TransDecl). x.page.0) (same_Some d t.0 (sym there ∙ t.1)) ∙ ap (λ (p : Page). p.0) t.2)

module _ (script : Script) (report : Report) (valid : IsValid script) (histories : HistoriesFit (acting_script script report) (copied_at script report) report) (fit : AnswersFit (acting_script script report) (copied_at script report) report)
    (who : Who) (command : Command) (slot : VSlot) (line fork word : ℕ) (at : At) (command_is : command_at script who ≡ Some command) (load : IsLoadOf script report who command slot line word at)
    (pair : slice_get (answered_on script report who.cpu) who.seq ≡ Some (command, answers.Value word at)) (f : IsForked script report who.cpu slot fork) (behind : fork < who.seq) where
  abbrev all : List (Command × Answer)
  all = answered_on script report who.cpu

  abbrev used : VSlot
  used = through script.layout (take who.seq all) slot

  abbrev base : ℕ
  base = word_at_fork script.layout report who.cpu fork slot line

  -- the commands since the fork
  abbrev rest : List (Command × Answer)
  rest = drop (suc fork) (take who.seq all)

  abbrev start : Cow
  start = record { frozen = true; switched = false }

  cow-rest : fold (next script.layout slot) start rest ≡ cow_of script.layout (take who.seq all) slot
  cow-rest =
      sym (ap (λ (l : List (Command × Answer)). fold (next script.layout slot) own_page l) (sym (take-append-drop (suc fork) (take who.seq all)))
      ∙ fold-append (next script.layout slot) own_page (take (suc fork) (take who.seq all)) rest
      ∙ ap (λ (c : Cow). fold (next script.layout slot) c rest) (ap (λ (l : List (Command × Answer)). fold (next script.layout slot) own_page l) (take-first (suc fork) who.seq all (omega (arith, behind))) ∙ frozen-next script report who.cpu slot fork f))

  rest-there : (j : ℕ) (p : Command × Answer) → slice_get rest j ≡ Some p → slice_get all (suc fork + j) ≡ Some p
  rest-there j p there = get-take who.seq all (suc fork + j) p (sym (get-drop (suc fork) (take who.seq all) j) ∙ there)

  rest-long : suc fork + length rest ≡ who.seq
  rest-long =
      let within : who.seq < length all = slice_get_within all who.seq (command, answers.Value word at) pair in
      let some : length (take who.seq all) ≡ who.seq = length-take-le who.seq all (omega (arith, within)) in
      let left : length rest ≡ length (take who.seq all) - suc fork = length-drop (suc fork) (take who.seq all) in
      omega (arith, some, left, behind)

  private-is : last_word base (filter_map (word_stored slot line) rest) ≡ private_word script.layout report who.cpu fork slot line (take who.seq all)
  private-is = let same : suc fork ≡ fork + 1 = omega arith in ap (λ (n : ℕ). last_word base (filter_map (word_stored slot line) (drop n (take who.seq all)))) same

  -- through a translation that isn't switched
  read-own : (cow_of script.layout (take who.seq all) slot).switched ≡ false → word ≡ last_word base (filter_map (word_stored slot line) rest)
  read-own off =
      let own : used ≡ slot = ap (λ (b : Bool). if b then twin_or script.layout slot else slot) off in
      let page : at.page.0 ≡ f.v.page.0 = page-of script at slot f.v f.v_is (subst (IsOf script.layout at.page) own load.page_is) in
      let e : Entry = record { who = who; what = entries.Load used line (Word load.mask word) } in
      frozen-word script report valid histories fit who.cpu slot fork f at e used line word load.mask load.there page refl behind load.within refl
      ∙ ap (last_word base) (sym (unswitched-none script.layout slot line start rest refl (ap (λ (c : Cow). c.switched) cow-rest ∙ off)))

  -- through a twin
  twin-stores : (list : List Entry) → slice_get report.pages f.w.page.0 ≡ Some list → (e : Entry) → slice_get list at.entry ≡ Some e → e.who ≡ who → (j : ℕ) (x : Entry) (y : ℕ) → slice_get list j ≡ Some x → j < at.entry → word_in line x.what ≡ Some y
      → (x.who.cpu.0 ≡ who.cpu.0) × (x.who.seq < who.seq)
  twin-stores list listed e here own j x y there less stored =
      let t = twin-store script report valid histories who.cpu slot fork f (place f.w.page.0 j) x line y (stands report.pages f.w.page.0 j list x listed there) refl stored in
      let le : x.who.seq ≤ e.who.seq = page-ordered report.pages f.w.page.0 list who.cpu histories.ordered listed j at.entry x e there here less t.mine (ap (λ (w : Who). w.cpu.0) own) in
      let no_later : x.who.seq ≤ who.seq = subst (λ (w : Who). x.who.seq ≤ w.seq) own le in
      (t.mine, which (cases_order x.who.seq who.seq) no_later t.mine t.thread t.own t.own_word t.command_is)
    where
      which : (x.who.seq ≡ who.seq) ⊎ ((x.who.seq < who.seq) ⊎ (who.seq < x.who.seq)) → x.who.seq ≤ who.seq → x.who.cpu.0 ≡ who.cpu.0 → (thread : Thread) (l z : ℕ) → command_at script x.who ≡ Some (commands.Store thread slot l z) → x.who.seq < who.seq
      which (inl same) le mine thread l z is =
          let one : command_at script x.who ≡ command_at script who =
          ap (λ (k : Cpu). command_at script (record { cpu = k; seq = x.who.seq })) (same-cpu x.who.cpu who.cpu mine) ∙ ap (λ (n : ℕ). command_at script (record { cpu = who.cpu; seq = n })) same in
          let clash : command ≡ commands.Store thread slot l z = same_Some command (commands.Store thread slot l z) (sym command_is ∙ sym one ∙ is) in
          absurd (true≢false (sym load.loads ∙ ap is_load clash))
      which (inr (inl less)) le mine thread l z is = less
      which (inr (inr past)) le mine thread l z is = absurd (omega (arith, past, le))

  read-twin : (list : List Entry) → slice_get report.pages f.w.page.0 ≡ Some list → at.page.0 ≡ f.w.page.0 → word ≡ last_word 0 (filter_map (word_before who.cpu who.seq line) list)
  read-twin list listed page =
      let e : Entry = record { who = who; what = entries.Load used line (Word load.mask word) } in
      let found = then-there (λ (es : List Entry). slice_get es at.entry) (slice_get report.pages at.page.0) e load.there in
      let one : found.0 ≡ list = same_Some found.0 list (sym found.1 ∙ ap (slice_get report.pages) page ∙ listed) in
      let here : slice_get list at.entry ≡ Some e = ap (λ (es : List Entry). slice_get es at.entry) (sym one) ∙ found.2 in
      let history = histories.legal f.w.page list listed in
      word-read script.layout f.w.page list history.state history.replay f.w_anon line load.within at.entry e used load.mask word here refl
      ∙ ap (last_word 0) (page-words list who.cpu line who.seq at.entry e (page-ordered report.pages f.w.page.0 list who.cpu histories.ordered listed) here refl (omega arith) (twin-stores list listed e here refl))

  read-switched : CopiesKeepWords (acting_script script report) (copied_at script report) report → (cow_of script.layout (take who.seq all) slot).switched ≡ true → word ≡ last_word base (filter_map (word_stored slot line) rest)
  read-switched copies on =
      let twin : used ≡ f.twin = ap (λ (b : Bool). if b then twin_or script.layout slot else slot) on ∙ ap (λ (o : Option VSlot). unwrap_or o slot) f.twin_is in
      let page : at.page.0 ≡ f.w.page.0 = page-of script at f.twin f.w f.w_is (subst (IsOf script.layout at.page) twin load.page_is) in
      let e : Entry = record { who = who; what = entries.Load used line (Word load.mask word) } in
      let found = then-there (λ (es : List Entry). slice_get es at.entry) (slice_get report.pages at.page.0) e load.there in
      let listed : slice_get report.pages f.w.page.0 ≡ Some found.0 = ap (slice_get report.pages) (sym page) ∙ found.1 in
      let kept = keep-all script report valid histories fit copies who.cpu slot fork f found.0 listed line load.within rest (suc fork) start base
      (record { cow_is = frozen-next script report who.cpu slot fork f; frozen = refl; switched = λ is. absurd (true≢false (sym is)); own = λ is. refl; behind = omega arith }) rest-there in
      read-twin found.0 listed page
      ∙ ap (λ (n : ℕ). last_word 0 (filter_map (word_before who.cpu n line) found.0)) (sym rest-long)
      ∙ kept.switched (ap (λ (c : Cow). c.switched) cow-rest ∙ on)

  read-private : CopiesKeepWords (acting_script script report) (copied_at script report) report → word ≡ private_word script.layout report who.cpu fork slot line (take who.seq all)
  read-private copies = which (cow_of script.layout (take who.seq all) slot).switched refl ∙ private-is
    where
      which : (b : Bool) → (cow_of script.layout (take who.seq all) slot).switched ≡ b → word ≡ last_word base (filter_map (word_stored slot line) rest)
      which true on = read-switched copies on
      which false off = read-own off

-- behind a fork each process reads what it would read of a full copy
pub private-holds : (script : Script) (report : Report) → IsValid script → HistoriesFit (acting_script script report) (copied_at script report) report
    → AnswersFit (acting_script script report) (copied_at script report) report → CopiesKeepWords (acting_script script report) (copied_at script report) report → ArePrivate script report
private-holds script report valid histories fit copies = λ who command slot line fork word at command_is loads froze answered.
    let pair = found-pairs script report fit who command (answers.Value word at) command_is answered in
    let f = forked script report valid who.cpu slot who.seq fork froze in
    let load = load-there script report valid histories fit who command slot line word at command_is loads pair in
    read-private script report valid histories fit who command slot line fork word at command_is load pair f.0 f.1 copies
