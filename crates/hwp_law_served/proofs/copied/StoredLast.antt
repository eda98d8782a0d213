-- The store that a finished copy ends with: its entry is the one that the answer names, and behind it stands the freeing alone.
use Rattle.std.proofs.Common.{◌≡◌, ◌⊎◌, inl, inr, ℕ, ◌+◌, Bool, true, false, if◌then◌else◌, nat_lt, List, [], ◌∷◌, ◌++◌, append-nil, append_assoc, refl, sym, ap, ◌∙◌, subst, true≢false}
use Rattle.std.proofs.lemmas.List.Concat.{flat_map-append}
use Rattle.std.proofs.lemmas.Option.{none-some}
use Rattle.hwp_law.specs.hwp_geom.declared.Layout.{Layout}
use Rattle.hwp_law.specs.hwp_geom.declared.Page.{Page}
use Rattle.hwp_law.specs.hwp_geom.declared.VSlot.{VSlot}
use Rattle.hwp_law.specs.hwp_geom.Limits.{line_limit}
use Rattle.hwp_law.specs.hwp_banks.Banks.{Banks}
use Rattle.hwp_law.specs.hwp_page.declared.At.{At}
use Rattle.hwp_law.specs.hwp_page.declared.Met.TheVariants.{Word}
use Rattle.hwp_law.specs.hwp_page.declared.What.TheVariants as entries
use Rattle.hwp_plain.specs.hwp_core_rule.declared.Made.{Made}
use Rattle.hwp_plain.specs.hwp_core_rule.declared.View.{View}
use Rattle.hwp_plain.specs.hwp_core_rule.Lists.{EachMember}
use Rattle.hwp_plain.specs.hwp_core_rule.Known.{IsAt, deeds}
use Rattle.hwp_cpu_row.specs.hwp_claim.declared.EventOutcome.{EventOutcome}
use Rattle.hwp_cpu_row.specs.hwp_claim.Checks.{left_by}
use Rattle.hwp_cpu_access.specs.hwp_fault.declared.Request.{Request}
use Rattle.hwp_cpu_access.specs.hwp_fork.declared.cow.Cow.{Cow}
use Rattle.hwp_cpu_access.specs.hwp_fork.declared.cow.CowAt.{CowAt}
use Rattle.hwp_cpu_access.specs.hwp_fork.declared.cow.CowAt.TheVariants as at
use Rattle.hwp_cpu_access.specs.hwp_fork.declared.cow.Sub.{Sub}
use Rattle.hwp_cpu_access.specs.hwp_fork.declared.cow.Sub.TheVariants as subs
use Rattle.hwp_cpu_access.specs.hwp_fork.Cows as cows
use Rattle.hwp_cpu_access.specs.Copyings.{store_of}
use Rattle.hwp_cpu_access.specs.Runs.{AreRuns, IsAccessRun, IsFreeRun, IsRun, Run, made_by, words_of}
use Rattle.hwp_law_served.specs.Copied.{HasCopied, HasSwitched, sub_next}

abbrev is_switched : Sub → Bool
is_switched subs.Switched = true
is_switched _ = false

apart : {A : Type 0} (sub : Sub) → is_switched sub ≡ false → sub ≡ subs.Switched → A
apart sub other is = absurd (true≢false (sym (ap is_switched is) ∙ other))

-- the last two of its runs: the store itself, and the freeing
pub record AreLastTwo (layout : Layout) (view : View) (store : Request) (page : Page) (c : Cow) (last freed : Run) : Type 0 where
  pub banks : Banks
  pub stored : IsAccessRun layout view (store_of store c.w c.line c.x) banks last
  pub freeing : IsFreeRun layout view store.who page c.v freed

module _ (layout : Layout) (view : View) (store : Request) (page : Page) where
  two-at : (c : Cow) (x : CowAt) (banks : Banks) (last freed : Run) → IsRun layout view store page banks last (cows.sub_at c x) → IsRun layout view store page (left_by banks last.checks) freed (cows.sub_at c (cows.told_at x last.word))
      → cows.sub_at c (cows.told_at (cows.told_at x last.word) freed.word) ≡ subs.Switched → AreLastTwo layout view store page c last freed
  two-at c (at.Load line) banks last freed run next end = which (nat_lt (line + 1) line_limit) end
    where
      which : (b : Bool) → cows.sub_at c (if b then at.Load (line + 1) else at.Last) ≡ subs.Switched → AreLastTwo layout view store page c last freed
      which true end = apart (subs.Load c.v (line + 1)) refl end
      which false end = apart (subs.Store c.w c.line c.x) refl end
  two-at c (at.Store line word) banks last freed run next end = which (nat_lt (line + 1) line_limit) end
    where
      which : (b : Bool) → cows.sub_at c (cows.told_at (if b then at.Load (line + 1) else at.Last) freed.word) ≡ subs.Switched → AreLastTwo layout view store page c last freed
      which true end = apart (subs.Store c.w (line + 1) freed.word) refl end
      which false end = apart (subs.Free c.v) refl end
  two-at c at.Last banks last freed run next end = record { banks = banks; stored = run; freeing = next }
  two-at c at.Free banks last freed run next end = absurd next
  two-at c at.Switched banks last freed run next end = absurd run

  pub last-two : (c : Cow) (banks : Banks) (front : List Run) (last freed : Run) → AreRuns layout view store page c banks (front ++ last ∷ freed ∷ []) → cows.sub_of (cows.told_all c (words_of (front ++ last ∷ freed ∷ []))) ≡ subs.Switched
      → AreLastTwo layout view store page c last freed
  last-two c banks [] last freed are end = two-at c c.at banks last freed are.0 are.1.0 end
  last-two c banks (r ∷ rs) last freed are end =
      let rest = last-two (cows.told_by c r.word) (left_by banks r.checks) rs last freed are.1 end in
      record { banks = rest.banks; stored = rest.stored; freeing = rest.freeing }

-- the entry that the answer names, among those of the command
pub record IsStoredLast (view : View) (store : Request) (page : Page) (from : VSlot) (word : ℕ) (place : At) : Type 0 where
  pub front : List Made
  pub last : Made
  pub behind : List Made
  pub mask : ℕ
  pub all : deeds store.who view ≡ front ++ last ∷ behind
  pub page_is : place.page ≡ store.page
  pub stands : IsAt store.page place.entry (entries.Store store.slot store.line (Word (record { 0 = mask }) word)) last
  pub freed : (behind ≡ []) ⊎ ((m : Made) × (behind ≡ m ∷ []) × (m.page ≡ page) × (m.entry.what ≡ entries.Free from))

pub stored-last : (layout : Layout) (view : View) (store : Request) (from : VSlot) (word : ℕ) (before : Banks) (has : HasCopied layout view store from word before) {told : List EventOutcome} (place : At) → HasSwitched has.page (sub_next store from word has.runs) has.runs has.rest told place → IsStoredLast view store has.page from word place
stored-last layout view store from word before has {told} place is =
    let front : List Run = is.last.0 in
    let last : Run = is.last.1 in
    let runs_are : has.runs ≡ front ++ last ∷ is.freed ∷ [] = is.runs_are ∙ ap (λ (l : List Run). l ++ is.freed ∷ []) is.last.2 ∙ append_assoc front (last ∷ []) (is.freed ∷ []) in
    let two = last-two layout view store has.page (cows.begin from store.slot store.line word) before front last is.freed
    (subst (AreRuns layout view store has.page (cows.begin from store.slot store.line word) before) runs_are has.are)
    (ap (λ (l : List Run). sub_next store from word l) (sym runs_are) ∙ is.sub_is) in
    let run = two.stored in
    record {
      front = made_by front ++ run.before;
      last = run.last;
      behind = is.freed.made;
      mask = run.mask;
      all =
          has.all
          ∙ ap (λ (l : List Made). made_by has.runs ++ l) is.rest_is
          ∙ append-nil (made_by has.runs)
          ∙ ap made_by runs_are
          ∙ flat_map-append (λ (r : Run). r.made) front (last ∷ is.freed ∷ [])
          ∙ ap (λ (l : List Made). made_by front ++ (last.made ++ l)) (append-nil is.freed.made)
          ∙ ap (λ (l : List Made). made_by front ++ (l ++ is.freed.made)) run.made_is
          ∙ ap (λ (l : List Made). made_by front ++ l) (append_assoc run.before (run.last ∷ []) is.freed.made)
          ∙ sym (append_assoc (made_by front) run.before (run.last ∷ is.freed.made));
      page_is = ap (λ (p : At). p.page) (sym is.last.3) ∙ run.page_is;
      stands = subst (λ (p : At). IsAt store.page p.entry (entries.Store store.slot store.line (Word (record { 0 = run.mask }) word)) run.last) is.last.3 run.answers;
      freed = two.freeing.made_is;
    }
