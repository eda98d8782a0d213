-- Which command made an entry that stored a word: a store of the script, through the translation itself, or through its twin where that is
-- frozen; and it named this line and this word, but for the lines of a copy.
use Rattle.std.proofs.Common.{◌≡◌, ◌⊎◌, inl, inr, ℕ, ◌==◌, Bool, true, false, List, Option, None, Some, option_map, if◌then◌else◌, refl, sym, ap, ◌∙◌, subst}
use Rattle.std.specs.Prelude.{IsSomeAnd}
use Rattle.std.proofs.lemmas.Bool.{eqb-true}
use Rattle.std.proofs.lemmas.Option.{none-some, same_Some}
use Rattle.hwp_law_served.specs.hwp_geom.declared.Layout.{Layout}
use Rattle.hwp_law_served.specs.hwp_geom.declared.Mask.{Mask}
use Rattle.hwp_law_served.specs.hwp_geom.declared.Page.{Page}
use Rattle.hwp_law_served.specs.hwp_geom.declared.Thread.{Thread}
use Rattle.hwp_law_served.specs.hwp_geom.declared.VSlot.{VSlot}
use Rattle.hwp_law_served.specs.hwp_page.Step.{IsOf}
use Rattle.hwp_law_served.specs.hwp_page.declared.At.{At}
use Rattle.hwp_law_served.specs.hwp_page.declared.Entry.{Entry}
use Rattle.hwp_law_served.specs.hwp_page.declared.Met.TheVariants.{Sigbus, Word}
use Rattle.hwp_law_served.specs.hwp_page.declared.What.{What}
use Rattle.hwp_law_served.specs.hwp_page.declared.What.TheVariants as entries
use Rattle.hwp_law_served.specs.hwp_report_text.declared.Answer.{Answer}
use Rattle.hwp_law_served.specs.hwp_report_text.declared.Report.{Report}
use Rattle.hwp_law_served.specs.hwp_script_words.declared.Command.{Command}
use Rattle.hwp_law_served.specs.hwp_script_words.declared.Command.TheVariants as commands
use Rattle.hwp_law_served.specs.hwp_script_words.declared.Script.{Script}
use Rattle.hwp_law_served.specs.hwp_law.Commands.{command_at, has_watch}
use Rattle.hwp_law_served.specs.hwp_law.Cows.{acting, written_through}
use Rattle.hwp_law_served.specs.hwp_law.Acting.{acting_script, copied_at}
use Rattle.hwp_law_served.specs.hwp_law.Copies.{MakesCopy}
use Rattle.hwp_law_served.specs.hwp_law.Entries.{AreMadeBy, CanStandIn, Makes}
use Rattle.hwp_law_served.specs.hwp_law.Places.{entry_at}
use Rattle.hwp_law_served.specs.hwp_law.Policies.{answered_before}
use Rattle.hwp_law_served.specs.hwp_law.Private.{word_in}
use Rattle.hwp_law_served.proofs.of_hwp_law.ActedLaws.{command-acted}
use Rattle.hwp_top_report.proofs.forks.Shares.{some-and}

-- ---- what an entry stored

pub record HasStoredWord (line word : ℕ) (what : What) : Type 0 where
  pub slot : VSlot
  pub mask : Mask
  pub is : what ≡ entries.Store slot line (Word mask word)

pub stored-word : (line word : ℕ) (what : What) → word_in line what ≡ Some word → HasStoredWord line word what
stored-word line word (entries.Store slot at (Word mask stored)) is = which (at == line) refl
  where
    which : (b : Bool) → (at == line) ≡ b → HasStoredWord line word (entries.Store slot at (Word mask stored))
    which true e =
        let same : stored ≡ word = same_Some stored word (sym (ap (λ (b : Bool). if b then Some stored else None) e) ∙ is) in
        record { slot = slot; mask = mask; is = ap (λ (n : ℕ). entries.Store slot n (Word mask stored)) (eqb-true at line e) ∙ ap (λ (n : ℕ). entries.Store slot line (Word mask n)) same }
    which false e = absurd (none-some word (sym (ap (λ (b : Bool). if b then Some stored else None) e) ∙ is))
stored-word line word (entries.Store slot at (Sigbus thread)) is = absurd (none-some word is)
stored-word line word what is = absurd (none-some word is)

-- ---- the command

-- of a command behind others of its processor: it is a store, and stored this word so
pub record IsStoreBy (layout : Layout) (earlier : List (Command × Answer)) (copies : Option VSlot) (page : Page) (through : VSlot) (line word : ℕ) (command : Command) : Type 0 where
  pub thread : Thread
  pub slot : VSlot
  pub own : ℕ
  pub own_word : ℕ
  pub command_is : command ≡ commands.Store thread slot own own_word
  pub through_is : through ≡ written_through layout earlier slot
  pub page_is : IsOf layout page through
  pub kept : copies ≡ None → (line ≡ own) × (word ≡ own_word)

module _ (layout : Layout) (earlier : List (Command × Answer)) (watches : Bool) (copies : Option VSlot) (page : Page) (through : VSlot) (line word : ℕ) (mask : Mask) where
  abbrev Made : Command → Type 0
  Made c = (Makes watches c (entries.Store through line (Word mask word)) × CanStandIn layout c page (entries.Store through line (Word mask word)))
      ⊎ IsSomeAnd copies (λ (from : VSlot). MakesCopy layout from c page (entries.Store through line (Word mask word)))

  copied : (c : Command) → IsSomeAnd copies (λ (from : VSlot). MakesCopy layout from c page (entries.Store through line (Word mask word))) → (from : VSlot) × (copies ≡ Some from) × MakesCopy layout from c page (entries.Store through line (Word mask word))
  copied c copy = some-and copies (λ (from : VSlot). MakesCopy layout from c page (entries.Store through line (Word mask word))) copy

  by-command : (c : Command) → Made (acting layout earlier c) → IsStoreBy layout earlier copies page through line word c
  by-command (commands.Store thread slot own own_word) (inl made) =
      record { thread = thread; slot = slot; own = own; own_word = own_word; command_is = refl; through_is = made.0.0; page_is = subst (IsOf layout page) (sym made.0.0) made.1; kept = λ none. (made.0.1, made.0.3) }
  by-command (commands.Store thread slot own own_word) (inr copy) =
      let c = copied (commands.Store thread (written_through layout earlier slot) own own_word) copy in
      record {
        thread = thread;
        slot = slot;
        own = own;
        own_word = own_word;
        command_is = refl;
        through_is = c.2.0.0;
        page_is = c.2.1;
        kept = λ none. absurd (none-some c.0 (sym none ∙ c.1));
      }
  by-command c (inl made) = absurd made.0
  by-command c (inr copy) = absurd (copied (acting layout earlier c) copy).2

  by-some : (o : Option Command) → IsSomeAnd (option_map (acting layout earlier) o) Made → (c : Command) × (o ≡ Some c) × IsStoreBy layout earlier copies page through line word c
  by-some None made = absurd made
  by-some (Some c) made = (c, refl, by-command c made)

-- of an entry of a report that stored a word
pub made-store : (script : Script) (report : Report) → AreMadeBy (acting_script script report) (copied_at script report) report.pages → (at : At) (e : Entry) (through : VSlot) (line word : ℕ) (mask : Mask) → entry_at report.pages at ≡ Some e
    → e.what ≡ entries.Store through line (Word mask word)
    → (c : Command) × (command_at script e.who ≡ Some c) × IsStoreBy script.layout (answered_before script report e.who) (copied_at script report e.who) at.page through line word c
made-store script report made at e through line word mask there is =
    by-some script.layout (answered_before script report e.who) (has_watch (acting_script script report)) (copied_at script report e.who) at.page through line word mask (command_at script e.who)
    (subst (λ (o : Option Command). IsSomeAnd o (Made script.layout (answered_before script report e.who) (has_watch (acting_script script report)) (copied_at script report e.who) at.page through line word mask)) (command-acted script report e.who)
    (subst (λ (w : What). IsSomeAnd (command_at (acting_script script report) e.who) (λ (c : Command). (Makes (has_watch (acting_script script report)) c w × CanStandIn script.layout c at.page w)
    ⊎ IsSomeAnd (copied_at script report e.who) (λ (from : VSlot). MakesCopy script.layout from c at.page w))) is (made at e there)))
