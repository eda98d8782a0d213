-- Command after command behind the fork: once the translation is switched, the page of its twin holds on each line what a full copy would.
use Rattle.std.proofs.Common.{◌≡◌, ◌≢◌, ℕ, zero, suc, ◌+◌, ◌<◌, ◌==◌, ◌&&◌, Bool, true, false, cond, List, [], ◌∷◌, Option, None, Some, filter, filter_map, fold, length, map, option_map, slice_get, take, unwrap_or, if◌then◌else◌, refl, sym, ap, ◌∙◌, subst, true≢false, arith}
use Rattle.std.specs.Prelude.{Any}
use Rattle.std.specs.Option.{option_map_or}
use Rattle.std.proofs.lemmas.Bool.{and_from, eq-eqb, eqb-true}
use Rattle.std.proofs.lemmas.Option.{none-some, same_Some, slice_get-get_or}
use Rattle.hwp_law_served.specs.hwp_geom.Limits.{line_limit}
use Rattle.hwp_law_served.specs.hwp_geom.declared.Cpu.{Cpu}
use Rattle.hwp_law_served.specs.hwp_geom.declared.Mask.{Mask}
use Rattle.hwp_law_served.specs.hwp_geom.declared.Page.{Page}
use Rattle.hwp_law_served.specs.hwp_geom.declared.Thread.{Thread}
use Rattle.hwp_law_served.specs.hwp_geom.declared.TransDecl.{TransDecl}
use Rattle.hwp_law_served.specs.hwp_geom.declared.VSlot.{VSlot}
use Rattle.hwp_law_served.specs.hwp_geom.declared.Who.{Who}
use Rattle.hwp_law_served.specs.hwp_page.declared.At.{At}
use Rattle.hwp_law_served.specs.hwp_page.declared.Entry.{Entry}
use Rattle.hwp_law_served.specs.hwp_page.declared.Met.TheVariants.{Sigbus, Word}
use Rattle.hwp_law_served.specs.hwp_page.declared.What.{What}
use Rattle.hwp_law_served.specs.hwp_page.declared.What.TheVariants as entries
use Rattle.hwp_law_served.specs.hwp_report_text.declared.Answer.{Answer}
use Rattle.hwp_law_served.specs.hwp_report_text.declared.Answer.TheVariants as answers
use Rattle.hwp_law_served.specs.hwp_report_text.declared.Report.{Report}
use Rattle.hwp_law_served.specs.hwp_script_words.Valid.{IsValid}
use Rattle.hwp_law_served.specs.hwp_script_words.declared.Command.{Command}
use Rattle.hwp_law_served.specs.hwp_script_words.declared.Command.TheVariants as commands
use Rattle.hwp_law_served.specs.hwp_script_words.declared.Script.{Script}
use Rattle.hwp_law_served.specs.hwp_law.Cows.{Cow, acting, cow_of, own_page, twin_or, written_through}
use Rattle.hwp_law_served.specs.hwp_law.Acting.{acting_script, copied_at}
use Rattle.hwp_law_served.specs.hwp_law.Answers.{StandsAt}
use Rattle.hwp_law_served.specs.hwp_law.Copies.{own_in}
use Rattle.hwp_law_served.specs.hwp_law.Law.{AnswersFit, HistoriesFit}
use Rattle.hwp_law_served.specs.hwp_law.Lines.{is_same_command}
use Rattle.hwp_law_served.specs.hwp_law.Policies.{answered_on}
use Rattle.hwp_law_served.specs.hwp_law.Private.{last_word, word_at_fork, word_before, word_in, word_stored}
use Rattle.hwp_top_report.specs.CopiedWords.{CopiesKeepWords, KeepsWord, word_loaded}
use Rattle.hwp_law_served.proofs.of_hwp_law.ActedLaws.{command-acted}
use Rattle.hwp_top_report.proofs.forks.Forked.{IsForked}
use Rattle.hwp_top_report.proofs.forks.Freezes.{fold-next, frozen-stays, is_stored, next, not-stored, stored-is, stored-switches}
use Rattle.hwp_top_report.proofs.forks.GivenAnswers.{IsAnswered, answered-at, then-there}
use Rattle.hwp_top_report.proofs.forks.MadeStores.{made-store}
use Rattle.hwp_top_report.proofs.forks.OwnPage.{frozen-word}
use Rattle.hwp_top_report.proofs.forks.PageWords.{own_words, page-ordered, place, stands, words-split}
use Rattle.hwp_top_report.proofs.forks.Shares.{some-and}
use Rattle.hwp_top_report.proofs.forks.TwinPage.{copies-some, fused, own-pair, same-command, same-slot, who_at, word_of}
use Rattle.hwp_top_report.proofs.forks.Words.{last-append, last-cons, last-mapped, none-mapped}

-- ---- commands and entries

-- the line and the word of a store
abbrev line_of : Command → ℕ
line_of (commands.Store thread slot line word) = line
line_of c = 0

abbrev number_of : Command → ℕ
number_of (commands.Store thread slot line word) = word
number_of c = 0

pub record HasLoadedWord (line word : ℕ) (what : What) : Type 0 where
  pub slot : VSlot
  pub mask : Mask
  pub is : what ≡ entries.Load slot line (Word mask word)

loaded-word : (line word : ℕ) (what : What) → word_loaded line what ≡ Some word → HasLoadedWord line word what
loaded-word line word (entries.Load slot at (Word mask loaded)) is = which (at == line) refl
  where
    which : (b : Bool) → (at == line) ≡ b → HasLoadedWord line word (entries.Load slot at (Word mask loaded))
    which true e =
        let same : loaded ≡ word = same_Some loaded word (sym (ap (λ (b : Bool). if b then Some loaded else None) e) ∙ is) in
        record { slot = slot; mask = mask; is = ap (λ (n : ℕ). entries.Load slot n (Word mask loaded)) (eqb-true at line e) ∙ ap (λ (n : ℕ). entries.Load slot line (Word mask n)) same }
    which false e = absurd (none-some word (sym (ap (λ (b : Bool). if b then Some loaded else None) e) ∙ is))
loaded-word line word (entries.Load slot at (Sigbus thread)) is = absurd (none-some word is)
loaded-word line word what is = absurd (none-some word is)

-- an entry of a command among those of its page
record IsOwnEntry (cpu : Cpu) (m : ℕ) (list : List Entry) (what : What) : Type 0 where
  i : ℕ
  e : Entry
  there : slice_get list i ≡ Some e
  who_is : e.who ≡ who_at cpu m
  what_is : e.what ≡ what

abbrev own_whats : Cpu → ℕ → List Entry → List What
own_whats cpu m list = map (λ (e : Entry). e.what) (filter (λ (e : Entry). is_same_command (who_at cpu m) e.who) list)

later-entry : (cpu : Cpu) (m : ℕ) (x : Entry) (list : List Entry) (what : What) → IsOwnEntry cpu m list what → IsOwnEntry cpu m (x ∷ list) what
later-entry cpu m x list what o = record { i = suc o.i; e = o.e; there = o.there; who_is = o.who_is; what_is = o.what_is }

own-entry : (cpu : Cpu) (m : ℕ) (list : List Entry) (j : ℕ) (what : What) → slice_get (own_whats cpu m list) j ≡ Some what → IsOwnEntry cpu m list what
own-entry cpu m [] j what there = absurd (none-some what there)
own-entry cpu m (x ∷ list) j what there = which (is_same_command (who_at cpu m) x.who) refl j there (own-entry cpu m list)
  where
    which : (b : Bool) → is_same_command (who_at cpu m) x.who ≡ b → (k : ℕ)
        → slice_get (map (λ (e : Entry). e.what) (cond b (x ∷ filter (λ (e : Entry). is_same_command (who_at cpu m) e.who) list) (filter (λ (e : Entry). is_same_command (who_at cpu m) e.who) list))) k ≡ Some what
        → ((i : ℕ) (w : What) → slice_get (own_whats cpu m list) i ≡ Some w → IsOwnEntry cpu m list w) → IsOwnEntry cpu m (x ∷ list) what
    which true e zero at rest = record { i = 0; e = x; there = refl; who_is = same-command cpu m x.who e; what_is = same_Some x.what what at }
    which true e (suc k) at rest = later-entry cpu m x list what (rest k what at)
    which false e k at rest = later-entry cpu m x list what (rest k what at)

-- ---- the step

module _ (script : Script) (report : Report) (valid : IsValid script) (histories : HistoriesFit (acting_script script report) (copied_at script report) report) (fit : AnswersFit (acting_script script report) (copied_at script report) report)
    (copies : CopiesKeepWords (acting_script script report) (copied_at script report) report) (cpu : Cpu) (slot : VSlot) (fork : ℕ) (f : IsForked script report cpu slot fork)
    (list : List Entry) (listed : slice_get report.pages f.w.page.0 ≡ Some list) (line : ℕ) (within : line < line_limit) where
  abbrev all : List (Command × Answer)
  all = answered_on script report cpu

  abbrev base : ℕ
  base = word_at_fork script.layout report cpu fork slot line

  -- what the commands before number m stored last on the line of the twin's page
  abbrev pub stored_to : ℕ → ℕ
  stored_to m = last_word 0 (filter_map (word_before cpu m line) list)

  -- before command m: the state of the translation, and the word that a full copy holds
  pub record IsKept (m : ℕ) (c : Cow) (word : ℕ) : Type 0 where
    pub cow_is : cow_of script.layout (take m all) slot ≡ c
    pub frozen : c.frozen ≡ true
    pub switched : c.switched ≡ true → stored_to m ≡ word
    pub own : c.switched ≡ false → word ≡ base
    pub behind : fork < m

  stored-next : (m : ℕ) → stored_to (suc m) ≡ last_word (stored_to m) (own_words cpu m line list)
  stored-next m =
      ap (last_word 0) (words-split cpu m line list (page-ordered report.pages f.w.page.0 list cpu histories.ordered listed))
      ∙ last-append 0 (filter_map (word_before cpu m line) list) (own_words cpu m line list)

  cow-next : (m : ℕ) (c : Cow) (p : Command × Answer) → cow_of script.layout (take m all) slot ≡ c → slice_get all m ≡ Some p → cow_of script.layout (take (suc m) all) slot ≡ next script.layout slot c p
  cow-next m c p is there = fold-next (next script.layout slot) own_page all m p there ∙ ap (λ (d : Cow). next script.layout slot d p) is

  -- no other command stores in the page
  keep-other : (m : ℕ) (c : Cow) (word : ℕ) (p : Command × Answer) → IsKept m c word → slice_get all m ≡ Some p → is_stored slot p.0 p.1 ≡ false → IsKept (suc m) (next script.layout slot c p) (unwrap_or (word_stored slot line p) word)
  keep-other m c word p k there other =
      let n = not-stored script.layout slot line c p.0 p.1 other in
      let same : unwrap_or (word_stored slot line p) word ≡ word = ap (λ (o : Option ℕ). unwrap_or o word) n.0 in
      record {
        cow_is = cow-next m c p k.cow_is there;
        frozen = frozen-stays script.layout slot p.0 p.1 c k.frozen;
        switched = λ on.
            let before : c.switched ≡ true = sym n.1 ∙ on in
            stored-next m ∙ ap (last_word (stored_to m)) (fused cpu m line list ∙ none-mapped (word_of cpu m line) list (none before)) ∙ k.switched before ∙ sym same;
        own = λ off. same ∙ k.own (sym n.1 ∙ off);
        behind = let b : fork < m = k.behind in omega (arith, b);
      }
    where
      none : c.switched ≡ true → (i : ℕ) (e : Entry) → slice_get list i ≡ Some e → word_of cpu m line e ≡ None
      none on i e at = which (word_of cpu m line e) refl
        where
          which : (o : Option ℕ) → word_of cpu m line e ≡ o → word_of cpu m line e ≡ None
          which None is = is
          which (Some y) is =
              let o = own-pair script report valid histories fit cpu slot fork f list m i line y e listed at is (ap (λ (d : Cow). d.switched) k.cow_is ∙ on) in
              let pair : p ≡ (commands.Store o.0 slot line y, answers.Stored (place f.w.page.0 i)) = same_Some p (commands.Store o.0 slot line y, answers.Stored (place f.w.page.0 i)) (sym there ∙ o.1) in
              absurd (true≢false (sym (ap (λ (q : Command × Answer). is_stored slot q.0 q.1) pair ∙ eq-eqb slot.0 slot.0 refl) ∙ other))

  -- ---- a store through the translation that was answered `stored`

  cow-at : (m : ℕ) (c : Cow) (word : ℕ) → IsKept m c word → (cow_of script.layout (take m all) slot).frozen ≡ true
  cow-at m c word k = ap (λ (d : Cow). d.frozen) k.cow_is ∙ k.frozen

  through-twin : (m : ℕ) (c : Cow) (word : ℕ) → IsKept m c word → written_through script.layout (take m all) slot ≡ f.twin
  through-twin m c word k = ap (λ (b : Bool). if b then twin_or script.layout slot else slot) (cow-at m c word k) ∙ ap (λ (o : Option VSlot). unwrap_or o slot) f.twin_is

  keep-store : (m : ℕ) (c : Cow) (word : ℕ) (thread : Thread) (l x : ℕ) (at : At) → IsKept m c word → slice_get all m ≡ Some (commands.Store thread slot l x, answers.Stored at) → stored_to (suc m) ≡ unwrap_or (if l == line then Some x else None) word
      → IsKept (suc m) (next script.layout slot c (commands.Store thread slot l x, answers.Stored at)) (unwrap_or (word_stored slot line (commands.Store thread slot l x, answers.Stored at)) word)
  keep-store m c word thread l x at k there now =
      let mine : (slot.0 == slot.0) ≡ true = eq-eqb slot.0 slot.0 refl in
      record {
        cow_is = cow-next m c (commands.Store thread slot l x, answers.Stored at) k.cow_is there;
        frozen = k.frozen;
        switched = λ on. now ∙ ap (λ (b : Bool). unwrap_or (if b && (l == line) then Some x else None) word) (sym mine);
        own = λ off. absurd (true≢false (sym (stored-switches script.layout slot c (commands.Store thread slot l x) (answers.Stored at) mine k.frozen) ∙ off));
        behind = let b : fork < m = k.behind in omega (arith, b);
      }

  -- where the translation was switched before, no copy is made
  stored-again : (m : ℕ) (c : Cow) (word : ℕ) (thread : Thread) (l x : ℕ) (at : At) → IsKept m c word → c.switched ≡ true → slice_get all m ≡ Some (commands.Store thread slot l x, answers.Stored at) → stored_to (suc m) ≡ unwrap_or (if l == line then Some x else None) word
  stored-again m c word thread l x at k on there = stored-next m ∙ ap (last_word (stored_to m)) (fused cpu m line list) ∙ which (l == line) refl
    where
      paired : (i : ℕ) (e : Entry) (y : ℕ) → slice_get list i ≡ Some e → word_of cpu m line e ≡ Some y → (line ≡ l) × (y ≡ x)
      paired i e y here is =
          let o = own-pair script report valid histories fit cpu slot fork f list m i line y e listed here is (ap (λ (d : Cow). d.switched) k.cow_is ∙ on) in
          let pair : (commands.Store o.0 slot line y, answers.Stored (place f.w.page.0 i)) ≡ (commands.Store thread slot l x, answers.Stored at) =
          same_Some (commands.Store o.0 slot line y, answers.Stored (place f.w.page.0 i)) (commands.Store thread slot l x, answers.Stored at) (sym o.1 ∙ there) in
          (ap (λ (q : Command × Answer). line_of q.0) pair, ap (λ (q : Command × Answer). number_of q.0) pair)

      -- the entry that the answer names
      made : l ≡ line → (mask : Mask) × StandsAt report.pages (who_at cpu m) at (entries.Store (written_through script.layout (take m all) slot) l (Word mask x)) → last_word (stored_to m) (filter_map (word_of cpu m line) list) ≡ x
      made same stands_at =
          let through = written_through script.layout (take m all) slot in
          let e : Entry = record { who = who_at cpu m; what = entries.Store through l (Word stands_at.0 x) } in
          let b = (made-store script report histories.made at e through l x stands_at.0 stands_at.1 refl).2 in
          let t = some-and (slice_get script.layout.trans through.0) (λ (d : TransDecl). d.page ≡ at.page) b.page_is in
          let decl : f.w ≡ t.0 = same_Some f.w t.0 (sym f.w_is ∙ ap (λ (v : VSlot). slice_get script.layout.trans v.0) (sym (through-twin m c word k)) ∙ t.1) in
          let page : at.page.0 ≡ f.w.page.0 = sym (ap (λ (d : TransDecl). d.page.0) decl ∙ ap (λ (p : Page). p.0) t.2) in
          let found = then-there (λ (es : List Entry). slice_get es at.entry) (slice_get report.pages at.page.0) e stands_at.1 in
          let one : found.0 ≡ list = same_Some found.0 list (sym found.1 ∙ ap (slice_get report.pages) page ∙ listed) in
          let word_is : word_of cpu m line e ≡ Some x =
          ap (λ (d : Bool). if d then word_in line e.what else None) (and_from (cpu.0 == cpu.0) (m == m) (eq-eqb cpu.0 cpu.0 refl) (eq-eqb m m refl))
          ∙ ap (λ (d : Bool). if d then Some x else None) (eq-eqb l line same) in
          last-mapped (word_of cpu m line) x (stored_to m) list (λ (i : ℕ) (z : Entry) (y : ℕ) here is. (paired i z y here is).1) at.entry e x (ap (λ (es : List Entry). slice_get es at.entry) (sym one) ∙ found.2) word_is

      none : l ≢ line → (i : ℕ) (e : Entry) → slice_get list i ≡ Some e → word_of cpu m line e ≡ None
      none other i e here = by (word_of cpu m line e) refl
        where
          by : (o : Option ℕ) → word_of cpu m line e ≡ o → word_of cpu m line e ≡ None
          by None is = is
          by (Some y) is = absurd (other (sym (paired i e y here is).0))

      which : (b : Bool) → (l == line) ≡ b → last_word (stored_to m) (filter_map (word_of cpu m line) list) ≡ unwrap_or (if l == line then Some x else None) word
      which true e =
          made (eqb-true l line e) (answered-at script report fit (who_at cpu m) (commands.Store thread slot l x, answers.Stored at) there refl).caused
          ∙ ap (λ (b : Bool). unwrap_or (if b then Some x else None) word) (sym e)
      which false e =
          ap (last_word (stored_to m)) (none-mapped (word_of cpu m line) list (none (λ same. true≢false (sym (eq-eqb l line same) ∙ e)))) ∙ k.switched on
          ∙ ap (λ (b : Bool). unwrap_or (if b then Some x else None) word) (sym e)

  -- ---- the copy

  loaded-base : (m word : ℕ) → fork < m → Any (λ (what : What). word_loaded line what ≡ Some word) (own_in script.layout report (who_at cpu m) slot) → word ≡ base
  loaded-base m word behind loaded =
      by-list (slice_get report.pages f.v.page.0) refl
      (ap (λ (o : Option TransDecl). slice_get (option_map_or (λ (v : TransDecl). own_whats cpu m (unwrap_or (slice_get report.pages v.page.0) [])) o []) loaded.0) (sym f.v_is)
      ∙ slice_get-get_or (own_in script.layout report (who_at cpu m) slot) loaded.0 loaded.1 loaded.2 ∙ ap Some loaded.3)
    where
      by-list : (o : Option (List Entry)) → slice_get report.pages f.v.page.0 ≡ o → slice_get (own_whats cpu m (unwrap_or o [])) loaded.0 ≡ Some loaded.1 → word ≡ base
      by-list None none there = absurd (none-some loaded.1 there)
      by-list (Some own) some there =
          let o = own-entry cpu m own loaded.0 loaded.1 there in
          let w = loaded-word line word loaded.1 loaded.4 in
          frozen-word script report valid histories fit cpu slot fork f (place f.v.page.0 o.i) o.e w.slot line word w.mask (stands report.pages f.v.page.0 o.i own o.e some o.there) refl
          (ap (λ (k : Who). k.cpu.0) o.who_is) (subst (λ (k : Who). fork < k.seq) (sym o.who_is) behind) within (o.what_is ∙ w.is)

  stored-copy : (m : ℕ) (c : Cow) (word : ℕ) (thread : Thread) (l x : ℕ) (at : At) → IsKept m c word → c.switched ≡ false → slice_get all m ≡ Some (commands.Store thread slot l x, answers.Stored at) → stored_to (suc m) ≡ unwrap_or (if l == line then Some x else None) word
  stored-copy m c word thread l x at k off there = now ∙ which (l == line) refl
    where
      known : IsAnswered script report (who_at cpu m) (commands.Store thread slot l x) (answers.Stored at)
      known = answered-at script report fit (who_at cpu m) (commands.Store thread slot l x, answers.Stored at) there refl

      keeps : KeepsWord script.layout report (who_at cpu m) slot f.twin l x line
      keeps =
          copies (who_at cpu m) thread slot f.twin l x line at
          (command-acted script report (who_at cpu m) ∙ ap (option_map (acting script.layout (take m all))) known.command_is ∙ ap (λ (v : VSlot). Some (commands.Store thread v l x)) (through-twin m c word k))
          (copies-some script report (who_at cpu m) thread slot l x known.command_is (cow-at m c word k) (ap (λ (d : Cow). d.switched) k.cow_is ∙ off)) known.found within

      now : stored_to (suc m) ≡ keeps.stored
      now =
          stored-next m
          ∙ ap (last_word (stored_to m)) (sym (ap (λ (o : Option TransDecl). filter_map (word_in line) (option_map_or (λ (v : TransDecl). own_whats cpu m (unwrap_or (slice_get report.pages v.page.0) [])) o [])) f.w_is
          ∙ ap (λ (o : Option (List Entry)). own_words cpu m line (unwrap_or o [])) listed))
          ∙ keeps.last (stored_to m)

      which : (b : Bool) → (l == line) ≡ b → keeps.stored ≡ unwrap_or (if l == line then Some x else None) word
      which true e = keeps.same (eqb-true l line e) ∙ ap (λ (b : Bool). unwrap_or (if b then Some x else None) word) (sym e)
      which false e =
          loaded-base m keeps.stored k.behind (keeps.other (λ same. true≢false (sym (eq-eqb l line same) ∙ e))) ∙ sym (k.own off)
          ∙ ap (λ (b : Bool). unwrap_or (if b then Some x else None) word) (sym e)

  -- ---- all commands

  keep-next : (m : ℕ) (c : Cow) (word : ℕ) (p : Command × Answer) → IsKept m c word → slice_get all m ≡ Some p → IsKept (suc m) (next script.layout slot c p) (unwrap_or (word_stored slot line p) word)
  keep-next m c word p k there = which (is_stored slot p.0 p.1) refl
    where
      store : (thread : Thread) (l x : ℕ) (at : At) → slice_get all m ≡ Some (commands.Store thread slot l x, answers.Stored at) → (b : Bool) → c.switched ≡ b → IsKept (suc m) (next script.layout slot c (commands.Store thread slot l x, answers.Stored at)) (unwrap_or (word_stored slot line (commands.Store thread slot l x, answers.Stored at)) word)
      store thread l x at here true on = keep-store m c word thread l x at k here (stored-again m c word thread l x at k on here)
      store thread l x at here false off = keep-store m c word thread l x at k here (stored-copy m c word thread l x at k off here)

      which : (b : Bool) → is_stored slot p.0 p.1 ≡ b → IsKept (suc m) (next script.layout slot c p) (unwrap_or (word_stored slot line p) word)
      which false other = keep-other m c word p k there other
      which true is =
          let s = stored-is slot p.0 p.1 is in
          let pair : p ≡ (commands.Store s.thread slot s.line s.word, answers.Stored s.at) =
          ap (λ (q : Command). (q, p.1)) s.command_is ∙ ap (λ (v : VSlot). (commands.Store s.thread v s.line s.word, p.1)) (same-slot s.other slot (eqb-true s.other.0 slot.0 s.same))
          ∙ ap (λ (a : Answer). (commands.Store s.thread slot s.line s.word, a)) s.answer_is in
          subst (λ (q : Command × Answer). IsKept (suc m) (next script.layout slot c q) (unwrap_or (word_stored slot line q) word)) (sym pair) (store s.thread s.line s.word s.at (there ∙ ap Some pair) c.switched refl)

  pub keep-all : (todo : List (Command × Answer)) (m : ℕ) (c : Cow) (word : ℕ) → IsKept m c word → ((j : ℕ) (p : Command × Answer) → slice_get todo j ≡ Some p → slice_get all (m + j) ≡ Some p)
      → IsKept (m + length todo) (fold (next script.layout slot) c todo) (last_word word (filter_map (word_stored slot line) todo))
  keep-all [] m c word k there = let same : m ≡ m + 0 = omega arith in subst (λ (n : ℕ). IsKept n c word) same k
  keep-all (p ∷ todo) m c word k there =
      let here : m + 0 ≡ m = omega arith in
      let now = keep-next m c word p k (ap (slice_get all) (sym here) ∙ there 0 p refl) in
      let rest = keep-all todo (suc m) (next script.layout slot c p) (unwrap_or (word_stored slot line p) word) now
      (λ (j : ℕ) (q : Command × Answer) is. let same : suc m + j ≡ m + suc j = omega arith in ap (slice_get all) same ∙ there (suc j) q is) in
      let far : suc m + length todo ≡ m + suc (length todo) = omega arith in
      subst (λ (w : ℕ). IsKept (m + suc (length todo)) (fold (next script.layout slot) (next script.layout slot c p) todo) w) (sym (last-cons word (word_stored slot line p) (filter_map (word_stored slot line) todo)))
      (subst (λ (n : ℕ). IsKept n (fold (next script.layout slot) (next script.layout slot c p) todo) (last_word (unwrap_or (word_stored slot line p) word) (filter_map (word_stored slot line) todo))) far rest)
