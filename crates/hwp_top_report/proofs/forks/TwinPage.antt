-- The page of a twin: commands of its processor alone store there, each through the translation whose twin it is, once that is frozen; and
-- where no copy is made, each is answered `stored` and stores its own word on its own line.
use Rattle.std.proofs.Common.{◌≡◌, ◌⊎◌, inl, inr, ℕ, zero, suc, ◌==◌, ◌&&◌, not, Bool, true, false, cond, List, [], ◌∷◌, Option, None, Some, filter, filter_map, get_or, map, option_and_then, slice_get, take, if◌then◌else◌, refl, sym, ap, ◌∙◌, subst, true≢false}
use Rattle.std.specs.List.{cons_option, list_any}
use Rattle.std.proofs.lemmas.Bool.{and_parts, and_right, eq-eqb, eqb-true, or_left, or_right}
use Rattle.std.proofs.lemmas.Option.{none-some}
use Rattle.hwp_law_served.specs.hwp_geom.Layout.{is_slot, is_twin, twin_of}
use Rattle.hwp_law_served.specs.hwp_geom.declared.Cpu.{Cpu}
use Rattle.hwp_law_served.specs.hwp_geom.declared.Page.{Page}
use Rattle.hwp_law_served.specs.hwp_geom.declared.Thread.{Thread}
use Rattle.hwp_law_served.specs.hwp_geom.declared.TransDecl.{TransDecl}
use Rattle.hwp_law_served.specs.hwp_geom.declared.VSlot.{VSlot}
use Rattle.hwp_law_served.specs.hwp_geom.declared.Who.{Who}
use Rattle.hwp_law_served.specs.hwp_page.declared.At.{At}
use Rattle.hwp_law_served.specs.hwp_page.declared.Entry.{Entry}
use Rattle.hwp_law_served.specs.hwp_report_text.declared.Answer.TheVariants as answers
use Rattle.hwp_law_served.specs.hwp_report_text.declared.Report.{Report}
use Rattle.hwp_law_served.specs.hwp_script_words.Forks.{names_twin}
use Rattle.hwp_law_served.specs.hwp_script_words.Valid.{IsCommandOf, IsValid}
use Rattle.hwp_law_served.specs.hwp_script_words.declared.Command.{Command}
use Rattle.hwp_law_served.specs.hwp_script_words.declared.Command.TheVariants as commands
use Rattle.hwp_law_served.specs.hwp_script_words.declared.Script.{Script}
use Rattle.hwp_law_served.specs.hwp_law.Commands.{command_at}
use Rattle.hwp_law_served.specs.hwp_law.Cows.{copied_from, cow_of}
use Rattle.hwp_law_served.specs.hwp_law.Acting.{acting_script, copied_at}
use Rattle.hwp_law_served.specs.hwp_law.Law.{AnswersFit, HistoriesFit}
use Rattle.hwp_law_served.specs.hwp_law.Lines.{is_same_command}
use Rattle.hwp_law_served.specs.hwp_law.Places.{entry_at}
use Rattle.hwp_law_served.specs.hwp_law.Policies.{answered_before, answered_on}
use Rattle.hwp_law_served.specs.hwp_law.Private.{word_in}
use Rattle.hwp_top_report.proofs.forks.Forked.{IsForked, valid-command}
use Rattle.hwp_top_report.proofs.forks.GivenAnswers.{named-stored}
use Rattle.hwp_top_report.proofs.forks.MadeStores.{made-store, stored-word}
use Rattle.hwp_top_report.proofs.forks.OwnPage.{same-cpu, through-which}
use Rattle.hwp_top_report.proofs.forks.PageWords.{own_words, place, stands}
use Rattle.hwp_top_report.proofs.forks.Shares.{alone, some-and}

-- ---- names

twin-listed : (ts : List (Option VSlot)) (i : ℕ) (x : VSlot) → get_or ts i None ≡ Some x → list_any (is_slot x) ts ≡ true
twin-listed [] i x is = absurd (none-some x is)
twin-listed (t ∷ ts) zero x is = or_left (is_slot x t) (list_any (is_slot x) ts) (ap (is_slot x) is ∙ eq-eqb x.0 x.0 refl)
twin-listed (t ∷ ts) (suc i) x is = or_right (is_slot x t) (list_any (is_slot x) ts) (twin-listed ts i x is)

pub same-slot : (a b : VSlot) → a.0 ≡ b.0 → a ≡ b
same-slot a b same = ap slot_of same
  where
    slot_of : ℕ → VSlot
    slot_of n = record { 0 = n }

-- ---- whether a store copies

pub copies-none : (script : Script) (report : Report) (who : Who) (thread : Thread) (slot : VSlot) (own x : ℕ) → command_at script who ≡ Some (commands.Store thread slot own x) → (cow_of script.layout (answered_before script report who) slot).switched ≡ true
    → copied_at script report who ≡ None
copies-none script report who thread slot own x is on =
    let c = cow_of script.layout (answered_before script report who) slot in
    ap (option_and_then (copied_from script.layout (answered_before script report who))) is
    ∙ ap (λ (b : Bool). if c.frozen && not b then Some slot else None) on
    ∙ ap (λ (b : Bool). if b then Some slot else None) (and_right c.frozen false refl)

pub copies-some : (script : Script) (report : Report) (who : Who) (thread : Thread) (slot : VSlot) (own x : ℕ) → command_at script who ≡ Some (commands.Store thread slot own x) → (cow_of script.layout (answered_before script report who) slot).frozen ≡ true
    → (cow_of script.layout (answered_before script report who) slot).switched ≡ false → copied_at script report who ≡ Some slot
copies-some script report who thread slot own x is frozen off =
    let c = cow_of script.layout (answered_before script report who) slot in
    ap (option_and_then (copied_from script.layout (answered_before script report who))) is
    ∙ ap (λ (b : Bool). if b && not c.switched then Some slot else None) frozen
    ∙ ap (λ (b : Bool). if not b then Some slot else None) off

-- ---- stores in the page

pub record IsTwinStore (script : Script) (report : Report) (cpu : Cpu) (slot : VSlot) (line word : ℕ) (who : Who) : Type 0 where
  pub mine : who.cpu.0 ≡ cpu.0
  pub thread : Thread
  pub own : ℕ
  pub own_word : ℕ
  pub command_is : command_at script who ≡ Some (commands.Store thread slot own own_word)
  pub kept : copied_at script report who ≡ None → (line ≡ own) × (word ≡ own_word)

module _ (script : Script) (report : Report) (valid : IsValid script) (histories : HistoriesFit (acting_script script report) (copied_at script report) report) (cpu : Cpu) (slot : VSlot) (fork : ℕ) (f : IsForked script report cpu slot fork) where
  pub twin-store : (at : At) (e : Entry) (line y : ℕ) → entry_at report.pages at ≡ Some e → at.page.0 ≡ f.w.page.0 → word_in line e.what ≡ Some y → IsTwinStore script report cpu slot line y e.who
  twin-store at e line y there page stores =
      let s = stored-word line y e.what stores in
      let m = made-store script report histories.made at e s.slot line y s.mask there s.is in
      let u = some-and (slice_get script.layout.trans s.slot.0) (λ (t : TransDecl). t.page ≡ at.page) m.2.page_is in
      let here : u.0.page.0 ≡ f.w.page.0 = ap (λ (p : Page). p.0) u.2 ∙ page in
      let through : s.slot ≡ f.twin = same-slot s.slot f.twin (alone script.layout f.twin s.slot f.w u.0 (valid.twins.each slot f.twin f.twin_is).alone f.w_is u.1 here) in
      let twin : is_twin script.layout s.slot ≡ true = ap (is_twin script.layout) through ∙ twin-listed script.layout.twins slot.0 f.twin f.twin_is in
      let v = valid-command script valid e.who m.0 m.1 in
      let named : is_twin script.layout m.2.slot ≡ false = sym (ap (names_twin script.layout) m.2.command_is) ∙ v.1 in
      which s.slot m.2.slot through twin named (through-which script.layout (answered_before script report e.who) s.slot m.2.slot m.2.through_is) m.0 m.2.thread m.2.own m.2.own_word m.1 m.2.command_is v.0 m.2.kept
    where
      done : (c : Command) (thread : Thread) (own x : ℕ) → command_at script e.who ≡ Some c → c ≡ commands.Store thread slot own x → IsCommandOf script.layout e.who.cpu.0 c → (copied_at script report e.who ≡ None → (line ≡ own) × (y ≡ x)) → IsTwinStore script report cpu slot line y e.who
      done c thread own x is command of kept = record {
        mine = f.shared.here slot f.v e.who.cpu.0 thread f.v_is refl (subst (IsCommandOf script.layout e.who.cpu.0) command of).0;
        thread = thread;
        own = own;
        own_word = x;
        command_is = is ∙ ap Some command;
        kept = kept;
      }

      which : (through other : VSlot) → through ≡ f.twin → is_twin script.layout through ≡ true → is_twin script.layout other ≡ false
          → (((cow_of script.layout (answered_before script report e.who) other).frozen ≡ false) × (through ≡ other))
          ⊎ (((cow_of script.layout (answered_before script report e.who) other).frozen ≡ true) × ((twin_of script.layout other ≡ Some through) ⊎ ((twin_of script.layout other ≡ None) × (through ≡ other))))
          → (c : Command) (thread : Thread) (own x : ℕ) → command_at script e.who ≡ Some c → c ≡ commands.Store thread other own x → IsCommandOf script.layout e.who.cpu.0 c → (copied_at script report e.who ≡ None → (line ≡ own) × (y ≡ x)) → IsTwinStore script report cpu slot line y e.who
      which through other is twin named (inl (unfrozen, same)) c thread own x at_c command of kept = absurd (true≢false (sym twin ∙ ap (is_twin script.layout) same ∙ named))
      which through other is twin named (inr (frozen, inr (none, same))) c thread own x at_c command of kept = absurd (true≢false (sym twin ∙ ap (is_twin script.layout) same ∙ named))
      which through other is twin named (inr (frozen, inl of_other)) c thread own x at_c command of kept =
          let one : slot ≡ other = valid.twins.one slot other f.twin f.twin_is (of_other ∙ ap Some is) in
          done c thread own x at_c (command ∙ ap (λ (t : VSlot). commands.Store thread t own x) (sym one)) of kept

-- ---- those of one command

abbrev pub who_at : Cpu → ℕ → Who
who_at cpu m = record { cpu = cpu; seq = m }

-- the word that an entry of the command stored on the line
abbrev pub word_of : Cpu → ℕ → ℕ → Entry → Option ℕ
word_of cpu m line e = if is_same_command (who_at cpu m) e.who then word_in line e.what else None

fused-next : (cpu : Cpu) (m line : ℕ) (e : Entry) (rest : List Entry) (b : Bool) → own_words cpu m line rest ≡ filter_map (word_of cpu m line) rest
    → filter_map (word_in line) (map (λ (x : Entry). x.what) (cond b (e ∷ filter (λ (x : Entry). is_same_command (who_at cpu m) x.who) rest) (filter (λ (x : Entry). is_same_command (who_at cpu m) x.who) rest)))
    ≡ cons_option (if b then word_in line e.what else None) (filter_map (word_of cpu m line) rest)
fused-next cpu m line e rest true same = ap (cons_option (word_in line e.what)) same
fused-next cpu m line e rest false same = same

pub fused : (cpu : Cpu) (m line : ℕ) (list : List Entry) → own_words cpu m line list ≡ filter_map (word_of cpu m line) list
fused cpu m line [] = refl
fused cpu m line (e ∷ rest) = fused-next cpu m line e rest (is_same_command (who_at cpu m) e.who) (fused cpu m line rest)

pub record IsWordOf (cpu : Cpu) (m line word : ℕ) (e : Entry) : Type 0 where
  pub who_is : e.who ≡ who_at cpu m
  pub stores : word_in line e.what ≡ Some word

pub same-command : (cpu : Cpu) (m : ℕ) (who : Who) → is_same_command (who_at cpu m) who ≡ true → who ≡ who_at cpu m
same-command cpu m who is =
    let both : ((cpu.0 == who.cpu.0) ≡ true) × ((m == who.seq) ≡ true) = and_parts (cpu.0 == who.cpu.0) (m == who.seq) is in
    ap (λ (k : Cpu). who_at k who.seq) (same-cpu who.cpu cpu (sym (eqb-true cpu.0 who.cpu.0 both.0))) ∙ ap (who_at cpu) (sym (eqb-true m who.seq both.1))

pub word-of-there : (cpu : Cpu) (m line word : ℕ) (e : Entry) → word_of cpu m line e ≡ Some word → IsWordOf cpu m line word e
word-of-there cpu m line word e is = which (is_same_command (who_at cpu m) e.who) refl is
  where
    which : (b : Bool) → is_same_command (who_at cpu m) e.who ≡ b → (if b then word_in line e.what else None) ≡ Some word → IsWordOf cpu m line word e
    which false e_is none = absurd (none-some word none)
    which true e_is stores = record { who_is = same-command cpu m e.who e_is; stores = stores }

-- the pair of a command with its answer, said of its number
moved : (script : Script) (report : Report) (cpu : Cpu) (slot : VSlot) (m line y : ℕ) (at : At) (who : Who) (thread : Thread) (own own_word : ℕ) → who ≡ who_at cpu m → (line ≡ own) × (y ≡ own_word)
    → slice_get (answered_on script report who.cpu) who.seq ≡ Some (commands.Store thread slot own own_word, answers.Stored at) → slice_get (answered_on script report cpu) m ≡ Some (commands.Store thread slot line y, answers.Stored at)
moved script report cpu slot m line y at who thread own own_word is kept pair =
    ap (λ (w : Who). slice_get (answered_on script report w.cpu) w.seq) (sym is) ∙ pair
    ∙ ap (λ (n : ℕ). Some (commands.Store thread slot n own_word, answers.Stored at)) (sym kept.0)
    ∙ ap (λ (n : ℕ). Some (commands.Store thread slot line n, answers.Stored at)) (sym kept.1)

module _ (script : Script) (report : Report) (valid : IsValid script) (histories : HistoriesFit (acting_script script report) (copied_at script report) report) (fit : AnswersFit (acting_script script report) (copied_at script report) report)
    (cpu : Cpu) (slot : VSlot) (fork : ℕ) (f : IsForked script report cpu slot fork) where
  -- a word that a command stored in the page, once the translation is switched, is that of a store through it on this line, which was
  -- answered `stored`
  pub own-pair : (list : List Entry) (m i line y : ℕ) (e : Entry) → slice_get report.pages f.w.page.0 ≡ Some list → slice_get list i ≡ Some e → word_of cpu m line e ≡ Some y → (cow_of script.layout (take m (answered_on script report cpu)) slot).switched ≡ true
      → (thread : Thread) × (slice_get (answered_on script report cpu) m ≡ Some (commands.Store thread slot line y, answers.Stored (place f.w.page.0 i)))
  own-pair list m i line y e listed there is on =
      let o = word-of-there cpu m line y e is in
      let at = stands report.pages f.w.page.0 i list e listed there in
      let t = twin-store script report valid histories cpu slot fork f (place f.w.page.0 i) e line y at refl o.stores in
      let s = stored-word line y e.what o.stores in
      let switched : (cow_of script.layout (answered_before script report e.who) slot).switched ≡ true = ap (λ (w : Who). (cow_of script.layout (answered_before script report w) slot).switched) o.who_is ∙ on in
      let none : copied_at script report e.who ≡ None = copies-none script report e.who t.thread slot t.own t.own_word t.command_is switched in (
        t.thread,
        moved script report cpu slot m line y (place f.w.page.0 i) e.who t.thread t.own t.own_word o.who_is (t.kept none)
            (named-stored script report fit (place f.w.page.0 i) e s.slot line y s.mask t.thread slot t.own t.own_word at s.is t.command_is none),
      )
